-- Items and answers of tokens, one step at a time.
use Rattle.std.proofs.Common.{◌≡◌, ◌≤◌, List, [], ◌∷◌, ◌++◌, Option, Some, None, option_map, length, refl, sym, ap, ◌∙◌, append-nil, append_assoc, arith}
use Rattle.model_wire.specs.declared.entry.EntryWord.TheVariants as word
use Rattle.model_wire.specs.declared.entry.IdLetter.TheVariants as letter
use Rattle.model_wire.specs.declared.entry.EntryToken.TheVariants as token
use Rattle.model_wire.specs.Call.{Item}
use Rattle.model_wire.specs.JournalText.{EntryToken, then_item, items_of, answer_of}
use Rattle.aio_journal.specs.Steps.{word_at, tokens_after, ItemStep, item_step, answer_at}

-- the items after a step
abbrev pub goes_on : ItemStep → Option (List Item)
goes_on None = None
goes_on (Some (came, tokens)) = then_item came (items_of tokens)

pub items-step : (first : EntryToken) (tokens : List EntryToken) → items_of (first ∷ tokens) ≡ goes_on (item_step first tokens)
items-step (token.Id letter.Server server) (token.Word word.Read ∷ others) = refl
items-step (token.Id letter.Conn conn) (token.Word word.Read ∷ others) = refl
items-step (token.Id letter.Conn conn) (token.Word word.Write ∷ others) = refl
items-step (token.Id letter.Conn conn) (token.Word word.Both ∷ others) = refl
items-step (token.Id letter.Conn conn) (token.Word word.Up ∷ others) = refl
items-step (token.Id letter.Conn conn) (token.Word word.Down ∷ others) = refl
items-step (token.Id letter.Child child) (token.Word word.Write ∷ others) = refl
items-step (token.Id letter.Child child) (token.Word word.Broken ∷ others) = refl
items-step (token.Id letter.Child child) (token.Word word.Out ∷ token.Bytes bytes ∷ others) = refl
items-step (token.Id letter.Child child) (token.Word word.OutEnd ∷ others) = refl
items-step (token.Id letter.Child child) (token.Word word.Errs ∷ token.Bytes bytes ∷ others) = refl
items-step (token.Id letter.Child child) (token.Word word.ErrsEnd ∷ others) = refl
items-step (token.Id letter.Child child) (token.Word word.Exit ∷ token.Number code ∷ others) = refl
items-step (token.Id letter.Child child) (token.Word word.Exit ∷ token.Minus code ∷ others) = refl
items-step (token.Word word.News) (token.Number code ∷ token.Bytes bytes ∷ others) = refl
items-step (token.Word word.News) (token.Minus code ∷ token.Bytes bytes ∷ others) = refl
items-step _ _ = refl

pub answers-step : (tokens : List EntryToken) → answer_of tokens ≡ answer_at (word_at tokens) (tokens_after tokens)
answers-step (token.Word word.Turn ∷ token.Number now ∷ others) = refl
answers-step (token.Word word.Done ∷ []) = refl
answers-step (token.Word word.Refused ∷ []) = refl
answers-step (token.Word word.Conn ∷ []) = refl
answers-step (token.Word word.Again ∷ []) = refl
answers-step (token.Word word.Broken ∷ []) = refl
answers-step (token.Word word.Data ∷ token.Bytes bytes ∷ []) = refl
answers-step (token.Word word.Eof ∷ []) = refl
answers-step (token.Word word.Took ∷ token.Number count ∷ []) = refl
answers-step (token.Word word.Child ∷ []) = refl
answers-step (token.Word word.Extra ∷ token.Bytes bytes ∷ []) = refl
answers-step _ = refl

pub shorter-after : (tokens : List EntryToken) → length (tokens_after tokens) ≤ length tokens
shorter-after [] = omega arith
shorter-after (first ∷ others) = omega arith

-- items that were read, with one more
pub read-more : (read : List Item) (came : Item) (others : Option (List Item))
    → option_map (λ rest. read ++ rest) (then_item came others) ≡ option_map (λ rest. (read ++ came ∷ []) ++ rest) others
read-more read came None = refl
read-more read came (Some others) = ap Some (sym (append_assoc read (came ∷ []) others))

-- a step on from tokens of which some were read
pub stepped : (before : Option (List Item)) (read : List Item) (came : Item) (first : EntryToken) (tokens rest old : List EntryToken)
    → before ≡ option_map (λ others. read ++ others) (items_of old) → old ≡ first ∷ tokens → item_step first tokens ≡ Some (came, rest)
    → before ≡ option_map (λ others. (read ++ came ∷ []) ++ others) (items_of rest)
stepped before read came first tokens rest old is next step =
    is ∙ ap (λ ts. option_map (λ others. read ++ others) (items_of ts)) next
    ∙ ap (option_map (λ others. read ++ others)) (items-step first tokens ∙ ap goes_on step) ∙ read-more read came (items_of rest)

pub stopped : (before : Option (List Item)) (read : List Item) (first : EntryToken) (tokens old : List EntryToken)
    → before ≡ option_map (λ others. read ++ others) (items_of old) → old ≡ first ∷ tokens → item_step first tokens ≡ None → before ≡ None
stopped before read first tokens old is next step =
    is ∙ ap (λ ts. option_map (λ others. read ++ others) (items_of ts)) next
    ∙ ap (option_map (λ others. read ++ others)) (items-step first tokens ∙ ap goes_on step)

pub ended : (before : Option (List Item)) (read : List Item) (old : List EntryToken)
    → before ≡ option_map (λ others. read ++ others) (items_of old) → old ≡ [] → before ≡ Some read
ended before read old is none =
    is ∙ ap (λ ts. option_map (λ others. read ++ others) (items_of ts)) none ∙ ap Some (append-nil read)
