-- Which values tokens have.
use Rattle.std.proofs.Common.{◌≡◌, ℕ, ◌<◌, ◌≤◌, ◌==◌, Bool, true, false, cond, ◌&&◌, not, List, [], ◌∷◌, arith, Option, Some, None, nat_lt}
use Rattle.std.specs.List.{AllByRecursion}
use Rattle.std.proofs.lemmas.Bool.{and_parts, ltb-true}
use Rattle.std.proofs.lemmas.Bool.Decides.{nat_tests}
use Rattle.model_text.specs.Letters.{is_allowed, is_quote, is_backslash}
use Rattle.model_text.specs.declared.literal.Literal.{Literal}
use Rattle.model_text.specs.declared.literal.Literal.TheVariants.{OfText, OfBytes}
use Rattle.model_text.specs.Literals.{limit, escape_value, hexadecimal_value, value_below, part_value}
use Rattle.model_text.specs.Tokens.{TokenClass, Name, Int, Text, Bytes, Symbol, Token, number_of}
use Rattle.model_text.specs.Lines.{Says, SpellsToken, IsTokenValue, Reads}
use Rattle.law_tokens.proofs.PartLemmas.{chosen}

limit_ascii : (literal : Literal) → 128 ≤ limit literal
limit_ascii OfText = omega arith
limit_ascii OfBytes = omega arith

either_value : (bound : ℕ) (b : Bool) (value : ℕ) (others : Option ℕ) (byte : ℕ) → value < bound → cond b (Some value) others ≡ Some byte
    → (others ≡ Some byte → byte < bound) → byte < bound
either_value bound true value others byte small e other = let same : value ≡ byte = cc in omega arith
either_value bound false value others byte small e other = other e

escape_value_small : (letter byte : ℕ) → escape_value letter ≡ Some byte → byte < 128
escape_value_small letter byte e =
    either_value 128 (letter == 110) 10 _ byte (omega arith) e
    (λ e. either_value 128 (letter == 114) 13 _ byte (omega arith) e
    (λ e. either_value 128 (letter == 116) 9 _ byte (omega arith) e
    (λ e. either_value 128 (is_backslash letter) 92 _ byte (omega arith) e
    (λ e. either_value 128 (is_quote letter) 34 None byte (omega arith) e (λ e. cc)))))

value_below_small : (bound : ℕ) (value : Option ℕ) (byte : ℕ) → value_below bound value ≡ Some byte → byte < bound
value_below_small bound None byte e = cc
value_below_small bound (Some value) byte e =
    let c = chosen (nat_lt value bound) (Some value) byte e in
    let same : value ≡ byte = cc in
    omega (arith, ltb-true value bound c.0)

allowed_ascii : (byte : ℕ) → is_allowed byte ≡ true → byte < 128
allowed_ascii byte h = grind (arith, nat_tests)

-- a byte that a part says is below the literal's limit
pub part_value_small : (literal : Literal) (part : List ℕ) (byte : ℕ) → part_value literal part ≡ Some byte → byte < limit literal
part_value_small literal [] byte e = cc
part_value_small literal (first ∷ []) byte e =
    let c = chosen (is_allowed first && not (is_quote first) && not (is_backslash first)) (Some first) byte e in
    let p = and_parts (is_allowed first && not (is_quote first)) (not (is_backslash first)) c.0 in
    let allowed = (and_parts (is_allowed first) (not (is_quote first)) p.0).0 in
    let same : first ≡ byte = cc in
    omega (arith, allowed_ascii first allowed, limit_ascii literal)
part_value_small literal (first ∷ letter ∷ []) byte e =
    let c = chosen (is_backslash first) (escape_value letter) byte e in
    omega (arith, escape_value_small letter byte c.1, limit_ascii literal)
part_value_small literal (first ∷ letter ∷ high ∷ []) byte e = cc
part_value_small literal (first ∷ letter ∷ high ∷ low ∷ []) byte e =
    let c = chosen (is_backslash first && (letter == 120)) (value_below (limit literal) (hexadecimal_value high low)) byte e in
    value_below_small (limit literal) (hexadecimal_value high low) byte c.1
part_value_small literal (first ∷ letter ∷ high ∷ low ∷ next ∷ others) byte e = cc

pub says_small : (literal : Literal) (bytes inside : List ℕ) → Says literal bytes inside → AllByRecursion (λ byte. byte < limit literal) bytes
says_small literal [] inside s = tt
says_small literal (byte ∷ bytes) inside s =
    (part_value_small literal s.0 byte s.3, says_small literal bytes s.1 s.4)

pub IsTokenValue-SpellsToken : (class : TokenClass) (text : List ℕ) → SpellsToken class text → IsTokenValue class
IsTokenValue-SpellsToken (Name name) text s = s.0
IsTokenValue-SpellsToken (Int number) text s = (number_of text, s.2, s.1)
IsTokenValue-SpellsToken (Text bytes) text s = says_small OfText bytes s.0 s.2
IsTokenValue-SpellsToken (Bytes bytes) text s = says_small OfBytes bytes s.0 s.2
IsTokenValue-SpellsToken (Symbol symbol) text s = tt

pub each_in_range : (column : ℕ) (bytes : List ℕ) (tokens : List Token) → Reads column bytes tokens → AllByRecursion (λ token. IsTokenValue token.class) tokens
each_in_range column bytes [] r = tt
each_in_range column bytes (token ∷ tokens) r =
    (IsTokenValue-SpellsToken token.class r.1.text r.1.spelled, each_in_range token.end r.0 tokens r.2)
