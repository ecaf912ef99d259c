-- Each word that is written, with the token that it is read as.
use Rattle.std.proofs.Common.{◌≡◌, ℕ, ◌+◌, ◌<◌, ◌≤◌, Bool, true, false, not, ◌&&◌, List, [], ◌∷◌, ◌++◌, length, refl, sym, ap, subst, ◌∙◌}
use Rattle.std.proofs.Common.{append_assoc, arith, nat_eq, nat_le}
use Rattle.std.specs.List.{list_all, AllByRecursion}
use Rattle.std.specs.Fmt.{decimal}
use Rattle.std.proofs.lemmas.List.{length-append}
use Rattle.std.proofs.lemmas.Bool.{and_parts}
use Rattle.std.proofs.lemmas.Bool.Decides.{nat_tests}
use Rattle.model_value.specs.declared.place.Place.TheVariants.{InBytes}
use Rattle.model_value.specs.Escapes.{escaped_byte, escaped, bytes_literal}
use Rattle.model_value.specs.Number.{is_digit, digits_value, most}
use Rattle.model_text.specs.declared.literal.Literal.TheVariants.{OfBytes}
use Rattle.model_text.specs.Letters.{is_space, is_quote}
use Rattle.model_text.specs.Lines.{Says}
use Rattle.model_text.specs.Literals.{inside_of}
use Rattle.model_wire.specs.declared.entry.EntryWord.{EntryWord}
use Rattle.model_wire.specs.declared.entry.EntryWord.TheVariants as word
use Rattle.model_wire.specs.declared.entry.IdLetter.{IdLetter}
use Rattle.model_wire.specs.declared.entry.IdLetter.TheVariants as letter
use Rattle.model_wire.specs.declared.entry.EntryToken.TheVariants as token
use Rattle.model_wire.specs.JournalText.{EntryToken, QuoteState, Outside, Inside, Escaped, standing_after, is_outside, is_some, are_digits, most_id}
use Rattle.model_wire.specs.JournalText.{entry_word_text, token_of, number_token, minus_token, id_token, literal_token}
use Rattle.law_tokens.proofs.PartLemmas.{literal_bytes-Says, inside_of-Says}
use Rattle.law_lines.proofs.Spelling.{all_below, below, bytes-literal}
use Rattle.law_journal.proofs.Numbers.{decimal-of}
use Rattle.law_journal.proofs.Words.{parts_nothing, standing_over, Leads, leads, IsWord}

-- a word that nothing parts
word-of : (text : List ℕ) (read : EntryToken) → is_some text ≡ true → parts_nothing Outside text ≡ true → standing_over Outside text ≡ Outside
    → token_of text ≡ read → IsWord text read
word-of text read some whole stays is =
    record { some = some; whole = subst (Leads Outside text) stays (leads Outside text whole); reads = is }

pub key-word : (known : EntryWord) → IsWord (entry_word_text known) (token.Word known)
key-word word.Turn = word-of _ _ refl refl refl refl
key-word word.Done = word-of _ _ refl refl refl refl
key-word word.Refused = word-of _ _ refl refl refl refl
key-word word.Conn = word-of _ _ refl refl refl refl
key-word word.Again = word-of _ _ refl refl refl refl
key-word word.Broken = word-of _ _ refl refl refl refl
key-word word.Data = word-of _ _ refl refl refl refl
key-word word.Eof = word-of _ _ refl refl refl refl
key-word word.Took = word-of _ _ refl refl refl refl
key-word word.Child = word-of _ _ refl refl refl refl
key-word word.Extra = word-of _ _ refl refl refl refl
key-word word.Read = word-of _ _ refl refl refl refl
key-word word.Write = word-of _ _ refl refl refl refl
key-word word.Both = word-of _ _ refl refl refl refl
key-word word.Up = word-of _ _ refl refl refl refl
key-word word.Down = word-of _ _ refl refl refl refl
key-word word.Out = word-of _ _ refl refl refl refl
key-word word.OutEnd = word-of _ _ refl refl refl refl
key-word word.Errs = word-of _ _ refl refl refl refl
key-word word.ErrsEnd = word-of _ _ refl refl refl refl
key-word word.Exit = word-of _ _ refl refl refl refl
key-word word.News = word-of _ _ refl refl refl refl

-- ---- digits
digit-no-space : (byte : ℕ) → is_digit byte ≡ true → is_space byte ≡ false
digit-no-space byte h = grind (arith, nat_tests)

digit-no-quote : (byte : ℕ) → is_digit byte ≡ true → is_quote byte ≡ false
digit-no-quote byte h = grind (arith, nat_tests)

digits-stay : (digits : List ℕ) → list_all is_digit digits ≡ true → (parts_nothing Outside digits ≡ true) × (standing_over Outside digits ≡ Outside)
digits-stay [] a = (refl, refl)
digits-stay (digit ∷ digits) a =
    let p = and_parts (is_digit digit) (list_all is_digit digits) a in
    let others = digits-stay digits p.1 in
    let space = digit-no-space digit p.0 in
    let quote = digit-no-quote digit p.0 in
    (rw (space, quote) others.0, rw quote others.1)

all-digits : (digits : List ℕ) → are_digits digits ≡ true → list_all is_digit digits ≡ true
all-digits digits a = (and_parts (is_some digits) (list_all is_digit digits) a).1

-- what digits alone are
digits-token : (digits : List ℕ) → are_digits digits ≡ true → token_of digits ≡ number_token digits
digits-token [] a = cc
digits-token (digit ∷ digits) a =
    let first : is_digit digit ≡ true = (and_parts (is_digit digit) (list_all is_digit digits) (all-digits (digit ∷ digits) a)).0 in
    rw first refl

le-test : (m n : ℕ) → m ≤ n → nat_le m n ≡ true
le-test m n h = grind (arith, nat_tests)

number-read : (n : ℕ) (digits : List ℕ) → n ≤ most → are_digits digits ≡ true → digits_value digits ≡ n → number_token digits ≡ token.Number n
number-read n digits h a v = let b : nat_le n most ≡ true = le-test n most h in rw (a, v, b) refl

pub number-word : (n : ℕ) → n ≤ most → IsWord (decimal n) (token.Number n)
number-word n h =
    let d = decimal-of n (omega arith) in
    let s = digits-stay (decimal n) (all-digits (decimal n) d.0) in
    word-of (decimal n) (token.Number n) (and_parts (is_some (decimal n)) (list_all is_digit (decimal n)) d.0).0 s.0 s.1
    (digits-token (decimal n) d.0 ∙ number-read n (decimal n) h d.0 d.1)

minus-read : (n : ℕ) (digits : List ℕ) → n ≤ most + 1 → are_digits digits ≡ true → digits_value digits ≡ n → minus_token digits ≡ token.Minus n
minus-read n digits h a v = let b : nat_le n (most + 1) ≡ true = le-test n (most + 1) h in rw (a, v, b) refl

pub minus-word : (n : ℕ) → n ≤ most + 1 → IsWord (45 ∷ decimal n) (token.Minus n)
minus-word n h =
    let d = decimal-of n (omega arith) in
    let s = digits-stay (decimal n) (all-digits (decimal n) d.0) in
    word-of (45 ∷ decimal n) (token.Minus n) refl s.0 s.1 (minus-read n (decimal n) h d.0 d.1)

-- ---- ids
id-read : (names : IdLetter) (n : ℕ) (digits : List ℕ) → n ≤ most_id → are_digits digits ≡ true → digits_value digits ≡ n
    → id_token names digits ≡ token.Id names n
id-read names n digits h a v = let b : nat_le n most_id ≡ true = le-test n most_id h in rw (a, v, b) refl

pub server-word : (n : ℕ) → n ≤ most_id → IsWord (76 ∷ decimal n) (token.Id letter.Server n)
server-word n h =
    let d = decimal-of n (omega arith) in
    let s = digits-stay (decimal n) (all-digits (decimal n) d.0) in
    word-of (76 ∷ decimal n) (token.Id letter.Server n) refl s.0 s.1 (id-read letter.Server n (decimal n) h d.0 d.1)

pub conn-word : (n : ℕ) → n ≤ most_id → IsWord (67 ∷ decimal n) (token.Id letter.Conn n)
conn-word n h =
    let d = decimal-of n (omega arith) in
    let s = digits-stay (decimal n) (all-digits (decimal n) d.0) in
    word-of (67 ∷ decimal n) (token.Id letter.Conn n) refl s.0 s.1 (id-read letter.Conn n (decimal n) h d.0 d.1)

pub child-word : (n : ℕ) → n ≤ most_id → IsWord (80 ∷ decimal n) (token.Id letter.Child n)
child-word n h =
    let d = decimal-of n (omega arith) in
    let s = digits-stay (decimal n) (all-digits (decimal n) d.0) in
    word-of (80 ∷ decimal n) (token.Id letter.Child n) refl s.0 s.1 (id-read letter.Child n (decimal n) h d.0 d.1)

-- ---- literals
abbrev is_inside : QuoteState → Bool
is_inside Outside = false
is_inside Inside = true
is_inside Escaped = false

inside-is : (standing : QuoteState) → is_inside standing ≡ true → standing ≡ Inside
inside-is Outside h = cc
inside-is Inside h = refl
inside-is Escaped h = cc

-- no escape ends its literal
abbrev stays_inside : ℕ → Bool
stays_inside byte = parts_nothing Inside (escaped_byte InBytes byte) && is_inside (standing_over Inside (escaped_byte InBytes byte))

stays_computed : all_below 256 stays_inside ≡ true
stays_computed = refl

-- what stands after bytes that part nothing
parts-append : (standing : QuoteState) (bytes rest : List ℕ) → parts_nothing standing bytes ≡ true
    → parts_nothing standing (bytes ++ rest) ≡ parts_nothing (standing_over standing bytes) rest
parts-append standing [] rest h = refl
parts-append standing (byte ∷ bytes) rest h =
    let p = and_parts (not (is_outside standing && is_space byte)) (parts_nothing (standing_after standing byte) bytes) h in
    ap (λ b. b && parts_nothing (standing_after standing byte) (bytes ++ rest)) p.0 ∙ parts-append (standing_after standing byte) bytes rest p.1

over-append : (standing : QuoteState) (bytes rest : List ℕ) → standing_over standing (bytes ++ rest) ≡ standing_over (standing_over standing bytes) rest
over-append standing [] rest = refl
over-append standing (byte ∷ bytes) rest = over-append (standing_after standing byte) bytes rest

-- the inside of a literal, in front of what follows it
inside-stays : (bytes rest : List ℕ) → AllByRecursion (λ byte. byte < 256) bytes
    → (parts_nothing Inside (escaped InBytes bytes ++ rest) ≡ parts_nothing Inside rest)
    × (standing_over Inside (escaped InBytes bytes ++ rest) ≡ standing_over Inside rest)
inside-stays [] rest a = (refl, refl)
inside-stays (byte ∷ bytes) rest a =
    let text = escaped_byte InBytes byte in
    let others = inside-stays bytes rest a.1 in
    let b = and_parts (parts_nothing Inside text) (is_inside (standing_over Inside text)) (below 256 stays_inside byte stays_computed a.0) in
    let stays : standing_over Inside text ≡ Inside = inside-is (standing_over Inside text) b.1 in (
      rw append_assoc (parts-append Inside text (escaped InBytes bytes ++ rest) b.0
          ∙ ap (λ s. parts_nothing s (escaped InBytes bytes ++ rest)) stays ∙ others.0),
      rw append_assoc (over-append Inside text (escaped InBytes bytes ++ rest) ∙ ap (λ s. standing_over s (escaped InBytes bytes ++ rest)) stays ∙ others.1),
    )

closed-length : (inside : List ℕ) → (nat_eq (length inside + 1) (length (inside ++ 34 ∷ []))) ≡ true
closed-length inside = let e : length (inside ++ 34 ∷ []) ≡ length inside + 1 = length-append inside (34 ∷ []) in grind (arith, nat_tests)

literal-read : (bytes inside : List ℕ) → Says OfBytes bytes inside
    → literal_token (inside ++ 34 ∷ []) (inside_of false (inside ++ 34 ∷ [])) ≡ token.Bytes bytes
literal-read bytes inside s =
    let found = inside_of-Says OfBytes bytes inside s in
    let closed = closed-length inside in
    let said = literal_bytes-Says OfBytes 0 bytes inside s in
    rw (found, closed, said) refl

pub bytes-word : (bytes : List ℕ) → AllByRecursion (λ byte. byte < 256) bytes → IsWord (bytes_literal bytes) (token.Bytes bytes)
bytes-word bytes a =
    let s = inside-stays bytes (34 ∷ []) a in
    let l = bytes-literal bytes a in
    let closed : escaped InBytes bytes ++ 34 ∷ [] ≡ l.0 ++ 34 ∷ [] = cc (l.1) in
    word-of (bytes_literal bytes) (token.Bytes bytes) refl s.0 s.1
    (subst (λ text. literal_token text (inside_of false text) ≡ token.Bytes bytes) (sym closed) (literal-read bytes l.0 l.2))
