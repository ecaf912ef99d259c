-- What one item takes of the tokens that are left, and what an answer's first word asks of those after it.
use Rattle.std.specs.Prelude.{◌≡◌, ℕ, ℤ, pos, List, [], ◌∷◌, Option, Some, None, option_map}
use Rattle.model_value.specs.declared.action.ChildItem.TheVariants as news
use Rattle.model_wire.specs.declared.item.Item.TheVariants as item
use Rattle.model_wire.specs.declared.item.Readiness.TheVariants as ready
use Rattle.model_wire.specs.declared.answer.Answer.TheVariants as answer
use Rattle.model_wire.specs.declared.entry.EntryWord.{EntryWord}
use Rattle.model_wire.specs.declared.entry.EntryWord.TheVariants as word
use Rattle.model_wire.specs.declared.entry.IdLetter.{IdLetter}
use Rattle.model_wire.specs.declared.entry.IdLetter.TheVariants as letter
use Rattle.model_wire.specs.declared.entry.EntryToken.TheVariants as token
use Rattle.model_wire.specs.Call.{Answer, Item}
use Rattle.model_wire.specs.JournalText.{EntryToken, minus, items_of}

-- ---- the next token, by what it should be
abbrev pub word_at : List EntryToken → Option EntryWord
word_at (token.Word known ∷ tokens) = Some known
word_at _ = None

abbrev pub bytes_at : List EntryToken → Option (List ℕ)
bytes_at (token.Bytes bytes ∷ tokens) = Some bytes
bytes_at _ = None

abbrev pub code_at : List EntryToken → Option ℤ
code_at (token.Number code ∷ tokens) = Some (pos code)
code_at (token.Minus code ∷ tokens) = Some (minus code)
code_at _ = None

abbrev pub number_at : List EntryToken → Option ℕ
number_at (token.Number number ∷ tokens) = Some number
number_at _ = None

abbrev pub tokens_after : List EntryToken → List EntryToken
tokens_after [] = []
tokens_after (token ∷ tokens) = tokens

-- Something was taken of the tokens, which are then those after it; or it wasn't there.
abbrev pub Takes : {A : Type 0} → (List EntryToken → Option A) → List EntryToken → List EntryToken → Option A → Type 0
Takes at old new None = at old ≡ None
Takes at old new (Some found) = (at old ≡ Some found) × (new ≡ tokens_after old)

-- ---- items
abbrev pub server_item : ℕ → EntryWord → Option Item
server_item server word.Read = Some (item.ReadableServer server)
server_item server _ = None

abbrev pub conn_item : ℕ → EntryWord → Option Item
conn_item conn word.Read = Some (item.Ready conn ready.Read)
conn_item conn word.Write = Some (item.Ready conn ready.Write)
conn_item conn word.Both = Some (item.Ready conn ready.Both)
conn_item conn word.Up = Some (item.Up conn)
conn_item conn word.Down = Some (item.Down conn)
conn_item conn _ = None

-- of a child, those items that bring nothing
abbrev pub child_item : ℕ → EntryWord → Option Item
child_item child word.Write = Some (item.WritableChild child)
child_item child word.Broken = Some (item.Child child news.Broken)
child_item child word.OutEnd = Some (item.Child child news.OutEnd)
child_item child word.ErrsEnd = Some (item.Child child news.ErrsEnd)
child_item child _ = None

-- an item and the tokens after it
abbrev pub ItemStep : Type 0
ItemStep = Option (Item × List EntryToken)

abbrev pub with_rest : Option Item → List EntryToken → ItemStep
with_rest None tokens = None
with_rest (Some came) tokens = Some (came, tokens)

abbrev pub with_bytes : (List ℕ → Item) → List EntryToken → ItemStep
with_bytes made tokens = with_rest (option_map made (bytes_at tokens)) (tokens_after tokens)

abbrev pub with_code : (ℤ → Item) → List EntryToken → ItemStep
with_code made tokens = with_rest (option_map made (code_at tokens)) (tokens_after tokens)

abbrev pub child_step : ℕ → EntryWord → List EntryToken → ItemStep
child_step child word.Out tokens = with_bytes (λ bytes. item.Child child (news.Out bytes)) tokens
child_step child word.Errs tokens = with_bytes (λ bytes. item.Child child (news.Errs bytes)) tokens
child_step child word.Exit tokens = with_code (λ code. item.Child child (news.Exit code)) tokens
child_step child known tokens = with_rest (child_item child known) tokens

abbrev pub about : IdLetter → ℕ → EntryWord → List EntryToken → ItemStep
about letter.Server server known tokens = with_rest (server_item server known) tokens
about letter.Conn conn known tokens = with_rest (conn_item conn known) tokens
about letter.Child child known tokens = child_step child known tokens

abbrev pub about_next : IdLetter → ℕ → Option EntryWord → List EntryToken → ItemStep
about_next names number None tokens = None
about_next names number (Some known) tokens = about names number known tokens

abbrev pub news_step : Option ℤ → List EntryToken → ItemStep
news_step None tokens = None
news_step (Some code) tokens = with_bytes (λ bytes. item.Extra code bytes) tokens

abbrev pub word_step : EntryWord → List EntryToken → ItemStep
word_step word.News tokens = news_step (code_at tokens) (tokens_after tokens)
word_step _ tokens = None

-- the item that begins with this token
abbrev pub item_step : EntryToken → List EntryToken → ItemStep
item_step (token.Id names number) tokens = about_next names number (word_at tokens) (tokens_after tokens)
item_step (token.Word known) tokens = word_step known tokens
item_step _ tokens = None

-- an item was read, and these tokens are left; or there is none
abbrev pub StepIs : ItemStep → List EntryToken → Option Item → Type 0
StepIs step new None = step ≡ None
StepIs step new (Some came) = step ≡ Some (came, new)

-- ---- answers
-- answers of one word
abbrev pub bare_answer : EntryWord → Option Answer
bare_answer word.Done = Some answer.Done
bare_answer word.Refused = Some answer.Refused
bare_answer word.Conn = Some answer.Conn
bare_answer word.Again = Some answer.Again
bare_answer word.Broken = Some answer.Broken
bare_answer word.Eof = Some answer.Eof
bare_answer word.Child = Some answer.Child
bare_answer _ = None

-- an answer where no token is left
abbrev pub at_end : Option Answer → List EntryToken → Option Answer
at_end None tokens = None
at_end (Some said) [] = Some said
at_end (Some said) (token ∷ tokens) = None

abbrev pub turn_at : Option ℕ → List EntryToken → Option Answer
turn_at None tokens = None
turn_at (Some now) tokens = option_map (answer.Turn now) (items_of tokens)

abbrev pub answer_after : EntryWord → List EntryToken → Option Answer
answer_after word.Turn tokens = turn_at (number_at tokens) (tokens_after tokens)
answer_after word.Data tokens = at_end (option_map answer.Data (bytes_at tokens)) (tokens_after tokens)
answer_after word.Took tokens = at_end (option_map answer.Took (number_at tokens)) (tokens_after tokens)
answer_after word.Extra tokens = at_end (option_map answer.Extra (bytes_at tokens)) (tokens_after tokens)
answer_after known tokens = at_end (bare_answer known) tokens

abbrev pub answer_at : Option EntryWord → List EntryToken → Option Answer
answer_at None tokens = None
answer_at (Some known) tokens = answer_after known tokens
