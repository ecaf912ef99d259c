-- The entry of a written answer is that answer.
use Rattle.std.proofs.Common.{◌≡◌, ℕ, ◌≤◌, true, false, ◌&&◌, List, [], ◌∷◌, ◌++◌, length, map, sum, nat_lt, nat_le, Some, refl, sym, ap, subst, ◌∙◌}
use Rattle.std.proofs.Common.{append-nil, arith}
use Rattle.std.specs.Prelude.{codes, option_map}
use Rattle.std.specs.List.{list_any, list_all, flat_map, AllByRecursion}
use Rattle.std.specs.Fmt.{decimal}
use Rattle.std.proofs.lemmas.List.{length-append}
use Rattle.std.proofs.lemmas.Bool.{and_parts, and_from}
use Rattle.std.proofs.lemmas.Bool.Decides.{nat_tests}
use Rattle.model_value.specs.declared.action.ChildItem.{ChildItem}
use Rattle.model_value.specs.declared.action.ChildItem.TheVariants as news
use Rattle.model_value.specs.Escapes.{bytes_literal}
use Rattle.model_value.specs.Number.{most}
use Rattle.model_wire.specs.declared.watch.Watch.{Watch}
use Rattle.model_wire.specs.declared.item.Item.TheVariants as item
use Rattle.model_wire.specs.declared.answer.Answer.TheVariants as answer
use Rattle.model_wire.specs.declared.call.Call.TheVariants as call
use Rattle.model_wire.specs.declared.entry.EntryWord.{EntryWord}
use Rattle.model_wire.specs.declared.entry.EntryWord.TheVariants as word
use Rattle.model_wire.specs.declared.entry.EntryToken.TheVariants as token
use Rattle.model_wire.specs.Call.{Call, Answer, Item, spaced_item, written}
use Rattle.model_wire.specs.Fits.{fits, turn_fits, are_few, are_awaited, bytes_in, most_bytes, most_items}
use Rattle.model_wire.specs.Journal.{Answered}
use Rattle.model_wire.specs.JournalText.{EntryToken, tokens_of, entry_word_text, answer_of, exit_fits, item_exit_fits, exits_fit, is_too_wide, most_line}
use Rattle.model_wire.specs.JournalText.{entry_of}
use Rattle.law_journal.specs.InRange.{InRange, ItemInRange, NewsInRange, AreBytes}
use Rattle.law_journal.proofs.Items.{items_tokens, items-follow, read-items, narrow-items}
use Rattle.law_journal.proofs.Lengths.{decimal-short, literal-short, items-short}
use Rattle.law_journal.proofs.Tokens.{key-word, number-word, bytes-word}
use Rattle.law_journal.proofs.Words.{IsWord, nothing-follows, word-follows}

-- a line by its tokens
entry-is : (number : ℕ) (line : List ℕ) (said : Answer) (tokens : List EntryToken) → length line ≤ most_line → tokens_of line ≡ tokens
    → list_any is_too_wide tokens ≡ false → answer_of tokens ≡ Some said → exits_fit said ≡ true → entry_of number line ≡ Answered said
entry-is number line said tokens short e narrow read exits =
    let fits_line : nat_lt most_line (length line) ≡ false = grind (arith, nat_tests) in
    rw (fits_line, e, narrow, read, exits) refl

two-words : (first second : List ℕ) (one two : EntryToken) → IsWord first one → IsWord second two → tokens_of (first ++ 32 ∷ second) ≡ one ∷ two ∷ []
two-words first second one two a b =
    subst (λ text. tokens_of (first ++ 32 ∷ text) ≡ one ∷ two ∷ []) (append-nil second) (word-follows second [] two [] b nothing-follows first one a)

-- exit codes in range
news-exits : (told : ChildItem (List ℕ)) → NewsInRange told → exit_fits told ≡ true
news-exits news.Broken h = refl
news-exits (news.Out bytes) h = refl
news-exits news.OutEnd h = refl
news-exits (news.Errs bytes) h = refl
news-exits news.ErrsEnd h = refl
news-exits (news.Exit code) h = h

item-exits : (came : Item) → ItemInRange came → item_exit_fits came ≡ true
item-exits (item.ReadableServer server) h = refl
item-exits (item.Ready conn letters) h = refl
item-exits (item.Up conn) h = refl
item-exits (item.Down conn) h = refl
item-exits (item.WritableChild child) h = refl
item-exits (item.Child child told) h = news-exits told h.1
item-exits (item.Extra code bytes) h = refl

items-exit : (items : List Item) → AllByRecursion ItemInRange items → list_all item_exit_fits items ≡ true
items-exit [] a = refl
items-exit (came ∷ items) a = and_from (item_exit_fits came) (list_all item_exit_fits items) (item-exits came a.0) (items-exit items a.1)

le-of : (m n : ℕ) → nat_le m n ≡ true → m ≤ n
le-of m n h = grind (arith, nat_tests)

turn-read : (number : ℕ) (watched : List Watch) (now : ℕ) (items : List Item) → turn_fits watched now items ≡ true → InRange (answer.Turn now items)
    → entry_of number (written (answer.Turn now items)) ≡ Answered (answer.Turn now items)
turn-read number watched now items fit h =
    let few = and_parts (nat_le (length items) most_items) (nat_le (sum (map bytes_in items)) most_bytes)
    (and_parts (are_few items) (are_awaited watched items) (and_parts (nat_le now most) (are_few items && are_awaited watched items) fit).1).0 in
    let text = flat_map spaced_item items in
    let count = le-of (length items) most_items few.0 in
    let bytes = le-of (sum (map bytes_in items)) most_bytes few.1 in
    entry-is number (written (answer.Turn now items)) (answer.Turn now items) (token.Word word.Turn ∷ token.Number now ∷ items_tokens items)
    (omega (arith, length-append (decimal now) text, decimal-short now (omega (arith, h.0)), items-short items h.1))
    (word-follows (decimal now) text (token.Number now) (items_tokens items)
    (number-word now h.0) (items-follow items h.1) (codes "turn") (token.Word word.Turn) (key-word word.Turn))
    (narrow-items items) (ap (option_map (answer.Turn now)) (read-items items)) (items-exit items h.1)

bytes-read : (number : ℕ) (bytes : List ℕ) → length bytes ≤ most_bytes → AreBytes bytes
    → (entry_of number (written (answer.Data bytes)) ≡ Answered (answer.Data bytes))
    × (entry_of number (written (answer.Extra bytes)) ≡ Answered (answer.Extra bytes))
bytes-read number bytes few h = (
  entry-is number (written (answer.Data bytes)) (answer.Data bytes) (token.Word word.Data ∷ token.Bytes bytes ∷ []) (omega (arith, literal-short bytes))
      (two-words (codes "data") (bytes_literal bytes) _ _ (key-word word.Data) (bytes-word bytes h)) refl refl refl,
  entry-is number (written (answer.Extra bytes)) (answer.Extra bytes) (token.Word word.Extra ∷ token.Bytes bytes ∷ []) (omega (arith, literal-short bytes))
      (two-words (codes "extra") (bytes_literal bytes) _ _ (key-word word.Extra) (bytes-word bytes h)) refl refl refl,
)

took-read : (number count : ℕ) → count ≤ most → entry_of number (written (answer.Took count)) ≡ Answered (answer.Took count)
took-read number count h =
    entry-is number (written (answer.Took count)) (answer.Took count) (token.Word word.Took ∷ token.Number count ∷ [])
    (omega (arith, decimal-short count (omega arith)))
    (two-words (codes "took") (decimal count) _ _ (key-word word.Took) (number-word count h)) refl refl refl

-- an answer of one word
word-read : (number : ℕ) (known : EntryWord) (said : Answer) → length (entry_word_text known) ≤ 10 → answer_of (token.Word known ∷ []) ≡ Some said
    → exits_fit said ≡ true → entry_of number (entry_word_text known) ≡ Answered said
word-read number known said short read exits =
    entry-is number (entry_word_text known) said (token.Word known ∷ []) (omega arith)
    (ap tokens_of (sym (append-nil (entry_word_text known))) ∙ nothing-follows (entry_word_text known) (token.Word known) (key-word known)) refl read exits

-- how many bytes may come with a call
data-few : (asked : Call) (bytes : List ℕ) → fits asked (answer.Data bytes) ≡ true → length bytes ≤ most_bytes
data-few (call.Recv conn) bytes fit = le-of (length bytes) most_bytes (and_parts (nat_lt 0 (length bytes)) (nat_le (length bytes) most_bytes) fit).1
data-few _ bytes fit = cc

extra-few : (asked : Call) (bytes : List ℕ) → fits asked (answer.Extra bytes) ≡ true → length bytes ≤ most_bytes
extra-few (call.Extra code question) bytes fit = le-of (length bytes) most_bytes fit
extra-few _ bytes fit = cc

turn-asked : (number : ℕ) (asked : Call) (now : ℕ) (items : List Item) → fits asked (answer.Turn now items) ≡ true → InRange (answer.Turn now items)
    → entry_of number (written (answer.Turn now items)) ≡ Answered (answer.Turn now items)
turn-asked number (call.Select wait watched) now items fit h = turn-read number watched now items fit h
turn-asked number _ now items fit h = cc

pub answer-read : (number : ℕ) (asked : Call) (said : Answer) → fits asked said ≡ true → InRange said → entry_of number (written said) ≡ Answered said
answer-read number asked (answer.Turn now items) fit h = turn-asked number asked now items fit h
answer-read number asked answer.Done fit h = word-read number word.Done answer.Done (omega arith) refl refl
answer-read number asked answer.Refused fit h = word-read number word.Refused answer.Refused (omega arith) refl refl
answer-read number asked answer.Conn fit h = word-read number word.Conn answer.Conn (omega arith) refl refl
answer-read number asked answer.Again fit h = word-read number word.Again answer.Again (omega arith) refl refl
answer-read number asked answer.Broken fit h = word-read number word.Broken answer.Broken (omega arith) refl refl
answer-read number asked (answer.Data bytes) fit h = (bytes-read number bytes (data-few asked bytes fit) h).0
answer-read number asked answer.Eof fit h = word-read number word.Eof answer.Eof (omega arith) refl refl
answer-read number asked (answer.Took count) fit h = took-read number count h
answer-read number asked answer.Child fit h = word-read number word.Child answer.Child (omega arith) refl refl
answer-read number asked (answer.Extra bytes) fit h = (bytes-read number bytes (extra-few asked bytes fit) h).1
