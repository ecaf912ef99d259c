-- A journal's text: an answer a line, as it is written, with one space or more between its words. Numbers may have
-- leading zeros, and literals any of the escapes of a script's.
use Rattle.std.specs.Prelude.{ℕ, zero, suc, ◌+◌, ℤ, pos, negsuc, Bool, true, false, ◌&&◌, ◌==◌, List, [], ◌∷◌, Option, Some, None, Result, Ok, Err, option_map}
use Rattle.std.specs.Prelude.{length, map, filter, find, drop, slice_index, nat_le, nat_lt, if◌then◌else◌, codes}
use Rattle.std.specs.List.{list_all, list_any}
use Rattle.std.specs.Str.{bytes_eq}
use Rattle.model_value.specs.declared.action.ChildItem.{ChildItem}
use Rattle.model_value.specs.declared.action.ChildItem.TheVariants as news
use Rattle.model_value.specs.Lines.{lines_of, fronted}
use Rattle.model_value.specs.Number.{is_digit, digits_value, most}
use Rattle.model_text.specs.declared.literal.Literal.TheVariants.{OfBytes}
use Rattle.model_text.specs.Faults.{TokenFault}
use Rattle.model_text.specs.Letters.{is_space, is_quote, is_backslash}
use Rattle.model_text.specs.Literals.{inside_of, parts_of, literal_bytes}
use Rattle.model_wire.specs.declared.item.Item.TheVariants as item
use Rattle.model_wire.specs.declared.item.Readiness.TheVariants as ready
use Rattle.model_wire.specs.declared.answer.Answer.TheVariants as answer
use Rattle.model_wire.specs.declared.entry.EntryWord.{EntryWord}
use Rattle.model_wire.specs.declared.entry.EntryWord.TheVariants as word
use Rattle.model_wire.specs.declared.entry.IdLetter.{IdLetter}
use Rattle.model_wire.specs.declared.entry.IdLetter.TheVariants as letter
use Rattle.model_wire.specs.declared.entry.EntryToken as any_token
use Rattle.model_wire.specs.declared.entry.EntryToken.TheVariants as token
use Rattle.model_wire.specs.Call.{Answer, Item}
use Rattle.model_wire.specs.Journal.{Entry, Answered, Refused}

abbrev pub EntryToken : Type 0
EntryToken = any_token.EntryToken (List ℕ)

-- ---- the words of a line
-- where a byte of a line stands; a backslash inside a literal takes the byte after it along
pub data QuoteState : Type 0 where
  Outside : QuoteState
  Inside : QuoteState
  Escaped : QuoteState

abbrev pub is_outside : QuoteState → Bool
is_outside Outside = true
is_outside Inside = false
is_outside Escaped = false

-- where the byte after this one stands
abbrev pub standing_after : QuoteState → ℕ → QuoteState
standing_after Outside byte = if is_quote byte then Inside else Outside
standing_after Inside byte = if is_quote byte then Outside else (if is_backslash byte then Escaped else Inside)
standing_after Escaped byte = Inside

-- pieces with a byte before them: the space between two, or the first byte of the first
abbrev pub put : Bool → ℕ → List (List ℕ) → List (List ℕ)
put true space pieces = [] ∷ pieces
put false byte pieces = fronted byte pieces

-- what stands between the spaces that are outside literals
abbrev pub pieces_of : QuoteState → List ℕ → List (List ℕ)
pieces_of standing [] = [] ∷ []
pieces_of standing (byte ∷ bytes) =
    put (is_outside standing && is_space byte) byte (pieces_of (standing_after standing byte) bytes)

abbrev pub is_some : List ℕ → Bool
is_some [] = false
is_some (byte ∷ bytes) = true

-- the words of a line: what its spaces part, of which those inside a literal part nothing
abbrev pub words_of : List ℕ → List (List ℕ)
words_of line = filter is_some (pieces_of Outside line)

-- ---- what a word is
abbrev pub entry_word_text : EntryWord → List ℕ
entry_word_text word.Turn = codes "turn"
entry_word_text word.Done = codes "ok"
entry_word_text word.Refused = codes "refused"
entry_word_text word.Conn = codes "conn"
entry_word_text word.Again = codes "again"
entry_word_text word.Broken = codes "broken"
entry_word_text word.Data = codes "data"
entry_word_text word.Eof = codes "eof"
entry_word_text word.Took = codes "took"
entry_word_text word.Child = codes "child"
entry_word_text word.Extra = codes "extra"
entry_word_text word.Read = codes "r"
entry_word_text word.Write = codes "w"
entry_word_text word.Both = codes "rw"
entry_word_text word.Up = codes "up"
entry_word_text word.Down = codes "down"
entry_word_text word.Out = codes "out"
entry_word_text word.OutEnd = codes "outend"
entry_word_text word.Errs = codes "err"
entry_word_text word.ErrsEnd = codes "errend"
entry_word_text word.Exit = codes "exit"
entry_word_text word.News = codes "X"

abbrev pub entry_words : List EntryWord
entry_words =
    word.Turn ∷ word.Done ∷ word.Refused ∷ word.Conn ∷ word.Again ∷ word.Broken ∷ word.Data ∷ word.Eof ∷ word.Took ∷ word.Child ∷ word.Extra
    ∷ word.Read ∷ word.Write ∷ word.Both ∷ word.Up ∷ word.Down ∷ word.Out ∷ word.OutEnd ∷ word.Errs ∷ word.ErrsEnd ∷ word.Exit ∷ word.News ∷ []

abbrev pub word_or_other : Option EntryWord → EntryToken
word_or_other None = token.Other
word_or_other (Some known) = token.Word known

abbrev pub word_token : List ℕ → EntryToken
word_token text = word_or_other (find (λ known. bytes_eq (entry_word_text known) text) entry_words)

abbrev pub are_digits : List ℕ → Bool
are_digits digits = is_some digits && list_all is_digit digits

-- the greatest id
abbrev pub most_id : ℕ
most_id = 0xFFFF_FFFF

-- a number of 64 bits with a sign
abbrev pub number_token : List ℕ → EntryToken
number_token digits =
    if are_digits digits then (if nat_le (digits_value digits) most then token.Number (digits_value digits) else token.TooWide)
    else token.Other

-- the same with a minus sign before these digits
abbrev pub minus_token : List ℕ → EntryToken
minus_token digits =
    if are_digits digits then (if nat_le (digits_value digits) (most + 1) then token.Minus (digits_value digits) else token.TooWide)
    else token.Other

abbrev pub id_token : IdLetter → List ℕ → EntryToken
id_token names digits =
    if are_digits digits && nat_le (digits_value digits) most_id then token.Id names (digits_value digits) else token.Other

abbrev pub bytes_or_other : Result (List ℕ) TokenFault → EntryToken
bytes_or_other (Ok bytes) = token.Bytes bytes
bytes_or_other (Err fault) = token.Other

-- the literal of which these bytes follow the opening quote, and which ends with the last of them
abbrev pub literal_token : List ℕ → Option (List ℕ) → EntryToken
literal_token bytes None = token.Other
literal_token bytes (Some inside) =
    if length inside + 1 == length bytes then bytes_or_other (literal_bytes OfBytes 0 (parts_of inside)) else token.Other

-- what a word is, by its first byte
abbrev pub token_of : List ℕ → EntryToken
token_of [] = token.Other
token_of (byte ∷ bytes) =
    if is_digit byte then number_token (byte ∷ bytes)
    else (if byte == 45 then minus_token bytes
    else (if byte == 76 then id_token letter.Server bytes
    else (if byte == 67 then id_token letter.Conn bytes
    else (if byte == 80 then id_token letter.Child bytes
    else (if byte == 98 && is_quote (slice_index bytes 0) then literal_token (drop 1 bytes) (inside_of false (drop 1 bytes))
    else word_token (byte ∷ bytes))))))

abbrev pub tokens_of : List ℕ → List EntryToken
tokens_of line = map token_of (words_of line)

-- ---- what tokens say
-- a number with a minus sign before it
abbrev pub minus : ℕ → ℤ
minus zero = pos 0
minus (suc number) = negsuc number

abbrev pub then_item : Item → Option (List Item) → Option (List Item)
then_item came others = option_map (λ items. came ∷ items) others

-- the items that tokens say
abbrev pub items_of : List EntryToken → Option (List Item)
items_of [] = Some []
items_of (token.Id letter.Server server ∷ token.Word word.Read ∷ others) = then_item (item.ReadableServer server) (items_of others)
items_of (token.Id letter.Conn conn ∷ token.Word word.Read ∷ others) = then_item (item.Ready conn ready.Read) (items_of others)
items_of (token.Id letter.Conn conn ∷ token.Word word.Write ∷ others) = then_item (item.Ready conn ready.Write) (items_of others)
items_of (token.Id letter.Conn conn ∷ token.Word word.Both ∷ others) = then_item (item.Ready conn ready.Both) (items_of others)
items_of (token.Id letter.Conn conn ∷ token.Word word.Up ∷ others) = then_item (item.Up conn) (items_of others)
items_of (token.Id letter.Conn conn ∷ token.Word word.Down ∷ others) = then_item (item.Down conn) (items_of others)
items_of (token.Id letter.Child child ∷ token.Word word.Write ∷ others) = then_item (item.WritableChild child) (items_of others)
items_of (token.Id letter.Child child ∷ token.Word word.Broken ∷ others) = then_item (item.Child child news.Broken) (items_of others)
items_of (token.Id letter.Child child ∷ token.Word word.Out ∷ token.Bytes bytes ∷ others) =
    then_item (item.Child child (news.Out bytes)) (items_of others)
items_of (token.Id letter.Child child ∷ token.Word word.OutEnd ∷ others) = then_item (item.Child child news.OutEnd) (items_of others)
items_of (token.Id letter.Child child ∷ token.Word word.Errs ∷ token.Bytes bytes ∷ others) =
    then_item (item.Child child (news.Errs bytes)) (items_of others)
items_of (token.Id letter.Child child ∷ token.Word word.ErrsEnd ∷ others) = then_item (item.Child child news.ErrsEnd) (items_of others)
items_of (token.Id letter.Child child ∷ token.Word word.Exit ∷ token.Number code ∷ others) =
    then_item (item.Child child (news.Exit (pos code))) (items_of others)
items_of (token.Id letter.Child child ∷ token.Word word.Exit ∷ token.Minus code ∷ others) =
    then_item (item.Child child (news.Exit (minus code))) (items_of others)
items_of (token.Word word.News ∷ token.Number code ∷ token.Bytes bytes ∷ others) = then_item (item.Extra (pos code) bytes) (items_of others)
items_of (token.Word word.News ∷ token.Minus code ∷ token.Bytes bytes ∷ others) = then_item (item.Extra (minus code) bytes) (items_of others)
items_of _ = None

-- the answer that tokens say
abbrev pub answer_of : List EntryToken → Option Answer
answer_of (token.Word word.Turn ∷ token.Number now ∷ others) = option_map (answer.Turn now) (items_of others)
answer_of (token.Word word.Done ∷ []) = Some answer.Done
answer_of (token.Word word.Refused ∷ []) = Some answer.Refused
answer_of (token.Word word.Conn ∷ []) = Some answer.Conn
answer_of (token.Word word.Again ∷ []) = Some answer.Again
answer_of (token.Word word.Broken ∷ []) = Some answer.Broken
answer_of (token.Word word.Data ∷ token.Bytes bytes ∷ []) = Some (answer.Data bytes)
answer_of (token.Word word.Eof ∷ []) = Some answer.Eof
answer_of (token.Word word.Took ∷ token.Number count ∷ []) = Some (answer.Took count)
answer_of (token.Word word.Child ∷ []) = Some answer.Child
answer_of (token.Word word.Extra ∷ token.Bytes bytes ∷ []) = Some (answer.Extra bytes)
answer_of _ = None

-- ---- exit codes
-- an exit code is -128 to 255
abbrev pub is_exit_code : ℤ → Bool
is_exit_code (pos code) = nat_le code 255
is_exit_code (negsuc code) = nat_lt code 128

abbrev pub exit_fits : ChildItem (List ℕ) → Bool
exit_fits news.Broken = true
exit_fits (news.Out bytes) = true
exit_fits news.OutEnd = true
exit_fits (news.Errs bytes) = true
exit_fits news.ErrsEnd = true
exit_fits (news.Exit code) = is_exit_code code

abbrev pub item_exit_fits : Item → Bool
item_exit_fits (item.ReadableServer server) = true
item_exit_fits (item.Ready conn letters) = true
item_exit_fits (item.Up conn) = true
item_exit_fits (item.Down conn) = true
item_exit_fits (item.WritableChild child) = true
item_exit_fits (item.Child child told) = exit_fits told
item_exit_fits (item.Extra code bytes) = true

abbrev pub exits_fit : Answer → Bool
exits_fit (answer.Turn now items) = list_all item_exit_fits items
exits_fit _ = true

-- ---- entries
-- why a line is no entry
abbrev pub no_form : ℕ
no_form = 1

abbrev pub bad_number : ℕ
bad_number = 2

abbrev pub too_long : ℕ
too_long = 3

-- the most bytes of a line
abbrev pub most_line : ℕ
most_line = 2097152

abbrev pub is_too_wide : EntryToken → Bool
is_too_wide token.TooWide = true
is_too_wide _ = false

abbrev pub entry_with : ℕ → Option Answer → Entry
entry_with number None = Refused number no_form
entry_with number (Some said) = if exits_fit said then Answered said else Refused number bad_number

-- what a line with this number says
abbrev pub entry_of : ℕ → List ℕ → Entry
entry_of number line =
    if nat_lt most_line (length line) then Refused number too_long
    else (if list_any is_too_wide (tokens_of line) then Refused number bad_number
    else entry_with number (answer_of (tokens_of line)))

-- what lines say, the first of which has this number
abbrev pub entries_from : ℕ → List (List ℕ) → List Entry
entries_from number [] = []
entries_from number (line ∷ lines) = entry_of number line ∷ entries_from (number + 1) lines

-- what a journal says
abbrev pub entries_of : List ℕ → List Entry
entries_of text = entries_from 1 (lines_of text)
