-- Each byte of a line that has tokens is allowed, so none ends a line.
use Rattle.std.proofs.Common.{◌≡◌, ℕ, zero, suc, ◌==◌, Bool, true, false, cond, ◌&&◌, not, List, [], ◌∷◌, ◌++◌, replicate, Option, Some, None, Ok, refl, sym}
use Rattle.std.proofs.Common.{subst, arith}
use Rattle.std.specs.List.{list_all, AllByRecursion}
use Rattle.std.specs.Char.{is_ascii_digit, is_ascii_hexdigit}
use Rattle.std.proofs.lemmas.Bool.{and_parts}
use Rattle.std.proofs.lemmas.Bool.Decides.{nat_tests}
use Rattle.model_text.specs.declared.symbol.Symbol.{Symbol as AnySymbol}
use Rattle.model_text.specs.declared.symbol.Symbol.TheVariants.{Equals, NotEquals, LessOrEqual, GreaterOrEqual, DoubleSlash}
use Rattle.model_text.specs.declared.literal.Literal.{Literal}
use Rattle.model_text.specs.declared.literal.Literal.TheVariants.{OfText, OfBytes}
use Rattle.model_text.specs.Letters.{is_allowed, is_word, is_hash, is_quote, is_backslash}
use Rattle.model_text.specs.Symbols.{symbol_text}
use Rattle.model_text.specs.Literals.{limit, escape_value, hexadecimal_value, value_below, part_value}
use Rattle.model_text.specs.Tokens.{TokenClass, Name, Int, Text, Bytes, Symbol, Token, tokens_of}
use Rattle.model_text.specs.Cuts.{IsName}
use Rattle.model_text.specs.Lines.{Says, SpellsToken, IsComment, Reads}
use Rattle.model_text.specs.SecondPass.{Line}
use Rattle.law_tokens.proofs.LineLemmas.{Reads-tokens_of}
use Rattle.law_tokens.proofs.PartLemmas.{chosen}
use Rattle.law_lines.specs.LineTexts.{line_text}
use Rattle.law_lines.specs.WellWritten.{WellWritten}
use Rattle.law_lines.proofs.LineReads.{line-tokens}

abbrev Allowed : ℕ → Type 0
Allowed byte = is_allowed byte ≡ true

abbrev AllAllowed : List ℕ → Type 0
AllAllowed bytes = AllByRecursion Allowed bytes

allowed-append : (first others : List ℕ) → AllAllowed first → AllAllowed others → AllAllowed (first ++ others)
allowed-append [] others f o = o
allowed-append (byte ∷ first) others f o = (f.0, allowed-append first others f.1 o)

by-test : (test : ℕ → Bool) → ((byte : ℕ) → test byte ≡ true → Allowed byte) → (bytes : List ℕ) → list_all test bytes ≡ true → AllAllowed bytes
by-test test h [] e = tt
by-test test h (byte ∷ bytes) e =
    let p = and_parts (test byte) (list_all test bytes) e in (h byte p.0, by-test test h bytes p.1)

word-allowed : (byte : ℕ) → is_word byte ≡ true → Allowed byte
word-allowed byte h = grind (arith, nat_tests)

digit-allowed : (byte : ℕ) → is_ascii_digit byte ≡ true → Allowed byte
digit-allowed byte h = grind (arith, nat_tests)

hex-allowed : (byte : ℕ) → is_ascii_hexdigit byte ≡ true → Allowed byte
hex-allowed byte h = grind (arith, nat_tests)

hash-allowed : (byte : ℕ) → is_hash byte ≡ true → Allowed byte
hash-allowed byte h = grind (arith, nat_tests)

backslash-allowed : (byte : ℕ) → is_backslash byte ≡ true → Allowed byte
backslash-allowed byte h = grind (arith, nat_tests)

same-allowed : (byte value : ℕ) → (byte == value) ≡ true → Allowed value → Allowed byte
same-allowed byte value e h = grind (arith, nat_tests)

-- ---- literals
either-allowed : (test : Bool) (value : Option ℕ) (others : Option ℕ) (byte found : ℕ) → (test ≡ true → Allowed byte) → cond test value others ≡ Some found
    → (others ≡ Some found → Allowed byte) → Allowed byte
either-allowed true value others byte found h e other = h refl
either-allowed false value others byte found h e other = other e

letter-allowed : (letter found : ℕ) → escape_value letter ≡ Some found → Allowed letter
letter-allowed letter found e =
    either-allowed (letter == 110) (Some 10) _ letter found (λ s. same-allowed letter 110 s refl) e
    (λ e. either-allowed (letter == 114) (Some 13) _ letter found (λ s. same-allowed letter 114 s refl) e
    (λ e. either-allowed (letter == 116) (Some 9) _ letter found (λ s. same-allowed letter 116 s refl) e
    (λ e. either-allowed (is_backslash letter) (Some 92) _ letter found (λ s. same-allowed letter 92 s refl) e
    (λ e. either-allowed (is_quote letter) (Some 34) None letter found (λ s. same-allowed letter 34 s refl) e (λ e. cc)))))

below-some : (bound : ℕ) (value : Option ℕ) (found : ℕ) → value_below bound value ≡ Some found → (inner : ℕ) × (value ≡ Some inner)
below-some bound None found e = cc
below-some bound (Some value) found e = (value, refl)

part-allowed : (literal : Literal) (part : List ℕ) (found : ℕ) → part_value literal part ≡ Some found → AllAllowed part
part-allowed literal [] found e = tt
part-allowed literal (byte ∷ []) found e =
    let c = chosen (is_allowed byte && not (is_quote byte) && not (is_backslash byte)) (Some byte) found e in
    let p = and_parts (is_allowed byte && not (is_quote byte)) (not (is_backslash byte)) c.0 in
    ((and_parts (is_allowed byte) (not (is_quote byte)) p.0).0, tt)
part-allowed literal (byte ∷ letter ∷ []) found e =
    let c = chosen (is_backslash byte) (escape_value letter) found e in
    (backslash-allowed byte c.0, (letter-allowed letter found c.1, tt))
part-allowed literal (byte ∷ letter ∷ high ∷ []) found e = cc
part-allowed literal (byte ∷ letter ∷ high ∷ low ∷ []) found e =
    let c = chosen (is_backslash byte && (letter == 120)) (value_below (limit literal) (hexadecimal_value high low)) found e in
    let p = and_parts (is_backslash byte) (letter == 120) c.0 in
    let v = below-some (limit literal) (hexadecimal_value high low) found c.1 in
    let d = chosen (is_ascii_hexdigit high && is_ascii_hexdigit low) _ v.0 v.1 in
    let q = and_parts (is_ascii_hexdigit high) (is_ascii_hexdigit low) d.0 in
    (backslash-allowed byte p.0, (same-allowed letter 120 p.1 refl, (hex-allowed high q.0, (hex-allowed low q.1, tt))))
part-allowed literal (byte ∷ letter ∷ high ∷ low ∷ next ∷ others) found e = cc

says-allowed : (literal : Literal) (bytes inside : List ℕ) → Says literal bytes inside → AllAllowed inside
says-allowed literal [] inside s = subst AllAllowed (sym s) tt
says-allowed literal (byte ∷ bytes) inside s =
    subst AllAllowed (sym s.2) (allowed-append s.0 s.1 (part-allowed literal s.0 byte s.3) (says-allowed literal bytes s.1 s.4))

-- ---- tokens
name-allowed : (name : List ℕ) → IsName name → AllAllowed name
name-allowed [] n = tt
name-allowed (first ∷ others) n = by-test is_word word-allowed (first ∷ others) n.1

symbol-allowed : (symbol : AnySymbol) → AllAllowed (symbol_text symbol)
symbol-allowed Equals = (refl, (refl, tt))
symbol-allowed NotEquals = (refl, (refl, tt))
symbol-allowed LessOrEqual = (refl, (refl, tt))
symbol-allowed GreaterOrEqual = (refl, (refl, tt))
symbol-allowed DoubleSlash = (refl, (refl, tt))
symbol-allowed _ = (refl, tt)

token-allowed : (class : TokenClass) (text : List ℕ) → SpellsToken class text → AllAllowed text
token-allowed (Name name) text s = subst AllAllowed (sym s.1) (name-allowed name s.0)
token-allowed (Int number) text s = by-test is_ascii_digit digit-allowed text s.0.1
token-allowed (Text bytes) text s =
    subst AllAllowed (sym s.1) (refl, allowed-append s.0 (34 ∷ []) (says-allowed OfText bytes s.0 s.2) (refl, tt))
token-allowed (Bytes bytes) text s =
    subst AllAllowed (sym s.1) (refl, (refl, allowed-append s.0 (34 ∷ []) (says-allowed OfBytes bytes s.0 s.2) (refl, tt)))
token-allowed (Symbol symbol) text s = subst AllAllowed (sym s) (symbol-allowed symbol)

spaces-allowed : (spaces : ℕ) (bytes : List ℕ) → AllAllowed bytes → AllAllowed (replicate spaces 32 ++ bytes)
spaces-allowed zero bytes a = a
spaces-allowed (suc spaces) bytes a = (refl, spaces-allowed spaces bytes a)

comment-allowed : (comment : List ℕ) → IsComment comment → AllAllowed comment
comment-allowed [] c = tt
comment-allowed (first ∷ others) c = (hash-allowed first c.0, by-test is_allowed (λ byte h. h) others c.1)

reads-allowed : (column : ℕ) (bytes : List ℕ) (tokens : List Token) → Reads column bytes tokens → AllAllowed bytes
reads-allowed column bytes [] r = subst AllAllowed (sym r.2) (spaces-allowed r.0 r.1 (comment-allowed r.1 r.3))
reads-allowed column bytes (token ∷ tokens) r =
    subst AllAllowed (sym r.1.whole)
    (spaces-allowed r.1.spaces (r.1.text ++ r.0)
    (allowed-append r.1.text r.0 (token-allowed token.class r.1.text r.1.spelled) (reads-allowed token.end r.0 tokens r.2)))

pub tokens-allowed : (line : List ℕ) (tokens : List Token) → tokens_of line ≡ Ok tokens → AllByRecursion (λ byte. is_allowed byte ≡ true) line
tokens-allowed line tokens e = reads-allowed 1 line tokens (Reads-tokens_of line tokens e)

-- ---- lines
abbrev EndsNoLine : ℕ → Type 0
EndsNoLine byte = (byte == 10 ≡ false) × (byte == 13 ≡ false)

ends-none : (byte : ℕ) → Allowed byte → EndsNoLine byte
ends-none byte h = (grind (arith, nat_tests), grind (arith, nat_tests))

all-end-none : (bytes : List ℕ) → AllAllowed bytes → AllByRecursion EndsNoLine bytes
all-end-none [] a = tt
all-end-none (byte ∷ bytes) a = (ends-none byte a.0, all-end-none bytes a.1)

pub line-allowed : (line : Line) → WellWritten line → AllByRecursion (λ byte. (byte == 10 ≡ false) × (byte == 13 ≡ false)) (line_text line)
line-allowed line w =
    let t = line-tokens 0 line w in all-end-none (line_text line) (tokens-allowed (line_text line) t.0 t.1)
