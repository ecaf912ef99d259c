-- Where bytes stand, as code has it, and how long the word is that a text begins with.
use Rattle.std.specs.Prelude.{◌≡◌, ℕ, ◌+◌, ◌≤◌, ◌&&◌, List, [], ◌∷◌, Option, Some, None, if◌then◌else◌}
use Rattle.model_value.specs.Number.{most}
use Rattle.model_text.specs.Letters.{is_space}
use Rattle.model_wire.specs.declared.entry.EntryToken.TheVariants as token
use Rattle.model_wire.specs.JournalText as plain
use Rattle.model_wire.specs.JournalText.{EntryToken, is_outside, standing_after}
use Rattle.aio_journal.specs.declared.words.QuoteState.{QuoteState}
use Rattle.aio_journal.specs.declared.words.QuoteState.TheVariants.{Outside, Inside, Escaped}

abbrev pub plain_place : QuoteState → plain.QuoteState
plain_place Outside = plain.Outside
plain_place Inside = plain.Inside
plain_place Escaped = plain.Escaped

-- the bytes up to the first space that stands outside literals
abbrev pub word_len : plain.QuoteState → List ℕ → ℕ
word_len standing [] = 0
word_len standing (byte ∷ bytes) = if is_outside standing && is_space byte then 0 else word_len (standing_after standing byte) bytes + 1

-- the next token is taken, or none is left
abbrev pub NextIs : List EntryToken → List EntryToken → Option EntryToken → Type 0
NextIs old new None = (old ≡ []) × (new ≡ [])
NextIs old new (Some token) = old ≡ token ∷ new

-- a number fits 64 bits with a sign
abbrev pub Fits64 : EntryToken → Type 0
Fits64 (token.Number number) = number ≤ most
Fits64 (token.Minus number) = number ≤ most + 1
Fits64 _ = Unit {0}

abbrev pub IsBounded : Option EntryToken → Type 0
IsBounded None = Unit {0}
IsBounded (Some token) = Fits64 token
