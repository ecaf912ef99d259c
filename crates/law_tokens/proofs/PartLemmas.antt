-- What the inside of a literal says.
use Rattle.std.proofs.Common.{◌≡◌, ℕ, zero, suc, ◌<◌, ◌+◌, ◌-◌, ◌*◌, ◌≤◌, Bool, true, false, cond, ◌&&◌, not, List, [], ◌∷◌, ◌++◌, length, take, drop, refl}
use Rattle.std.proofs.Common.{sym, ap, ◌∙◌, arith, Option, Some, None, Result, Ok, Err, eqb, slice_index, append_assoc}
use Rattle.std.specs.Option.{option_map}
use Rattle.std.specs.Char.{is_ascii_hexdigit, digit_value}
use Rattle.std.proofs.lemmas.List.{length-append, take-append-drop}
use Rattle.std.proofs.Math.Seq.{drop-append_seam}
use Rattle.std.proofs.lemmas.Bool.{and_parts, and_right, eqb-true, not-true}
use Rattle.std.proofs.lemmas.Bool.Decides.{nat_tests}
use Rattle.model_text.specs.Letters.{is_allowed, is_quote, is_backslash}
use Rattle.model_text.specs.Faults.{TokenFault, both_or_fault}
use Rattle.model_text.specs.declared.literal.Literal.{Literal}
use Rattle.model_text.specs.Literals.{limit, inside_of, part_at, parts_after, parts_of, escape_value, hexadecimal_value, value_below, part_value, part_bytes}
use Rattle.model_text.specs.Literals.{literal_bytes}
use Rattle.model_text.specs.Lines.{Says}
use Rattle.law_tokens.proofs.InsideLemmas.{inside_of-other}

-- two lists joined, where both are there
pub both_ok : {A : Type 0} (first second : Result (List A) TokenFault) (all : List A) → both_or_fault first second ≡ Ok all
    → (xs ys : List A) × (first ≡ Ok xs) × (second ≡ Ok ys) × (all ≡ xs ++ ys)
both_ok (Ok xs) (Ok ys) all e = (xs, ys, refl, refl, cc)
both_ok (Ok xs) (Err fault) all e = cc
both_ok (Err fault) second all e = cc

pub nothing_and : {A : Type 0} (second : Result (List A) TokenFault) → both_or_fault (Ok []) second ≡ second
nothing_and (Ok ys) = refl
nothing_and (Err fault) = refl

-- the parts behind a first one
pub parts_after-drop : (taken : ℕ) (bytes : List ℕ) → parts_after taken bytes ≡ parts_of (drop taken bytes)
parts_after-drop zero [] = refl
parts_after-drop (suc taken) [] = refl
parts_after-drop zero (byte ∷ bytes) = refl
parts_after-drop (suc taken) (byte ∷ bytes) = parts_after-drop taken bytes

-- a part that is found at the front is the first, and the others are those of the rest
pub parts_of-front : (byte : ℕ) (bytes more rest : List ℕ) → part_at byte bytes ≡ byte ∷ more → bytes ≡ more ++ rest → parts_of (byte ∷ bytes) ≡ (byte ∷ more)
    ∷ parts_of rest
parts_of-front byte bytes more rest e whole =
    let n : length (byte ∷ more) - 1 ≡ length more = omega arith in
    rw e (ap (λ others. (byte ∷ more) ∷ others) (parts_after-drop (length (byte ∷ more) - 1) bytes ∙ ap parts_of (rw (n, whole) (drop-append_seam more rest))))

-- a part is its first byte and what belongs to it
part_at-splits : (byte : ℕ) (bytes : List ℕ) → (more rest : List ℕ) × (part_at byte bytes ≡ byte ∷ more) × (bytes ≡ more ++ rest)
part_at-splits byte bytes = by_test (is_backslash byte) refl
  where
    by_test : (b : Bool) → is_backslash byte ≡ b → (more rest : List ℕ) × (part_at byte bytes ≡ byte ∷ more) × (bytes ≡ more ++ rest)
    by_test true e =
        let k = cond (eqb (slice_index bytes 0) 120) 3 1 in
        (take k bytes, drop k bytes, rw e refl, sym (take-append-drop k bytes))
    by_test false e = ([], bytes, rw e refl, refl)

-- the first part, and the parts of what stands behind it
pub parts_of-cons : (byte : ℕ) (bytes : List ℕ) → parts_of (byte ∷ bytes) ≡ part_at byte bytes ∷ parts_of (drop (length (part_at byte bytes)) (byte ∷ bytes))
parts_of-cons byte bytes =
    let s = part_at-splits byte bytes in
    let size : length (byte ∷ s.0) - 1 ≡ length s.0 = omega arith in
    rw s.2 (ap (λ others. (byte ∷ s.0) ∷ others) (parts_after-drop (length (byte ∷ s.0) - 1) bytes ∙ ap (λ k. parts_of (drop k bytes)) size))

pub length-part_at : (byte : ℕ) (bytes : List ℕ) → (0 < length (part_at byte bytes)) × (length (part_at byte bytes) ≤ length (byte ∷ bytes))
length-part_at byte bytes =
    let s = part_at-splits byte bytes in
    rw s.2 (omega arith, omega (arith, ap length s.3, length-append s.0 s.1))

part_bytes_ok : (column : ℕ) (value : Option ℕ) (bytes : List ℕ) → part_bytes column value ≡ Ok bytes → (byte : ℕ) × (value ≡ Some byte) × (bytes ≡ byte ∷ [])
part_bytes_ok column (Some byte) bytes e = (byte, refl, cc)
part_bytes_ok column None bytes e = cc

says_within : (n : ℕ) (literal : Literal) (column : ℕ) (inside bytes : List ℕ) → length inside ≤ n → literal_bytes literal column (parts_of inside) ≡ Ok bytes
    → Says literal bytes inside
says_within n literal column [] bytes small e =
    let none : bytes ≡ [] = cc in rw none refl
says_within zero literal column (byte ∷ inside) bytes small e = absurd (omega arith)
says_within (suc n) literal column (byte ∷ inside) bytes small e =
    let s = part_at-splits byte inside in
    let parts = parts_of-front byte inside s.0 s.1 s.2 s.3 in
    let both =
    both_ok (part_bytes column (part_value literal (byte ∷ s.0)))
    (literal_bytes literal (column + length (byte ∷ s.0)) (parts_of s.1)) bytes
    (ap (literal_bytes literal column) (sym parts) ∙ e) in
    let one = part_bytes_ok column (part_value literal (byte ∷ s.0)) both.0 both.2 in
    let shorter : length s.1 ≤ n = omega (arith, ap length s.3, length-append s.0 s.1) in
    let all : bytes ≡ one.0 ∷ both.1 = both.4 ∙ ap (λ xs. xs ++ both.1) one.2 in
    rw all (byte ∷ s.0, s.1, ap (λ more. byte ∷ more) s.3, one.1, says_within n literal (column + length (byte ∷ s.0)) s.1 both.1 shorter both.3)

-- what is said is spelled so
pub Says-literal_bytes : (literal : Literal) (column : ℕ) (inside bytes : List ℕ) → literal_bytes literal column (parts_of inside) ≡ Ok bytes
    → Says literal bytes inside
Says-literal_bytes literal column inside bytes e =
    says_within (length inside) literal column inside bytes (omega arith) e

-- the forms of a part that says a byte: a byte for itself, a backslash and a byte that is no x, or \x and two digits
abbrev IsPart : List ℕ → Type 0
IsPart [] = ⊥
IsPart (byte ∷ []) = (is_quote byte ≡ false) × (is_backslash byte ≡ false)
IsPart (byte ∷ letter ∷ []) = (byte ≡ 92) × (eqb letter 120 ≡ false)
IsPart (byte ∷ letter ∷ high ∷ []) = ⊥
IsPart (byte ∷ letter ∷ high ∷ low ∷ []) =
    (byte ≡ 92) × (letter ≡ 120) × (is_ascii_hexdigit high ≡ true) × (is_ascii_hexdigit low ≡ true)
IsPart (byte ∷ letter ∷ high ∷ low ∷ next ∷ others) = ⊥

pub chosen : {A : Type 0} (b : Bool) (x : Option A) (y : A) → cond b x None ≡ Some y → (b ≡ true) × (x ≡ Some y)
chosen true x y e = (refl, e)
chosen false x y e = cc

value_below_some : (bound : ℕ) (value : Option ℕ) (byte : ℕ) → value_below bound value ≡ Some byte → (number : ℕ) × (value ≡ Some number)
value_below_some bound None byte e = cc
value_below_some bound (Some number) byte e = (number, refl)

no_x : (letter byte : ℕ) → escape_value letter ≡ Some byte → eqb letter 120 ≡ false
no_x letter byte e = by_test (eqb letter 120) refl
  where
    by_test : (b : Bool) → eqb letter 120 ≡ b → b ≡ false
    by_test false h = refl
    by_test true h =
        let at_x = ap escape_value (sym (eqb-true letter 120 h)) ∙ e in cc

is_part : (literal : Literal) (part : List ℕ) (byte : ℕ) → part_value literal part ≡ Some byte → IsPart part
is_part literal [] byte e = cc
is_part literal (first ∷ []) byte e =
    let c = chosen (is_allowed first && not (is_quote first) && not (is_backslash first)) (Some first) byte e in
    let p = and_parts (is_allowed first && not (is_quote first)) (not (is_backslash first)) c.0 in
    (not-true (is_quote first) (and_parts (is_allowed first) (not (is_quote first)) p.0).1, not-true (is_backslash first) p.1)
is_part literal (first ∷ letter ∷ []) byte e =
    let c = chosen (is_backslash first) (escape_value letter) byte e in
    (eqb-true first 92 c.0, no_x letter byte c.1)
is_part literal (first ∷ letter ∷ high ∷ []) byte e = cc
is_part literal (first ∷ letter ∷ high ∷ low ∷ []) byte e =
    let c = chosen (is_backslash first && eqb letter 120) (value_below (limit literal) (hexadecimal_value high low)) byte e in
    let p = and_parts (is_backslash first) (eqb letter 120) c.0 in
    let b = value_below_some (limit literal) (hexadecimal_value high low) byte c.1 in
    let h = chosen (is_ascii_hexdigit high && is_ascii_hexdigit low) (Some (16 * digit_value high + digit_value low)) b.0 b.1 in
    let d = and_parts (is_ascii_hexdigit high) (is_ascii_hexdigit low) h.0 in
    (eqb-true first 92 p.0, eqb-true letter 120 p.1, d.0, d.1)
is_part literal (first ∷ letter ∷ high ∷ low ∷ next ∷ others) byte e = cc

-- a part that says a byte stands at the front of what begins with it
parts_of-part : (part others : List ℕ) → IsPart part → parts_of (part ++ others) ≡ part ∷ parts_of others
parts_of-part [] others p = absurd p
parts_of-part (byte ∷ []) others p = parts_of-front byte others [] others (rw p.1 refl) refl
parts_of-part (byte ∷ letter ∷ []) others p =
    parts_of-front byte (letter ∷ others) (letter ∷ []) others (rw (p.0, p.1) refl) refl
parts_of-part (byte ∷ letter ∷ high ∷ []) others p = absurd p
parts_of-part (byte ∷ letter ∷ high ∷ low ∷ []) others p =
    parts_of-front byte (letter ∷ high ∷ low ∷ others) (letter ∷ high ∷ low ∷ []) others (rw (p.0, p.1) refl) refl
parts_of-part (byte ∷ letter ∷ high ∷ low ∷ next ∷ more) others p = absurd p

-- what is spelled so is said
pub literal_bytes-Says : (literal : Literal) (column : ℕ) (bytes inside : List ℕ) → Says literal bytes inside → literal_bytes literal column (parts_of inside)
    ≡ Ok bytes
literal_bytes-Says literal column [] inside s = rw s refl
literal_bytes-Says literal column (byte ∷ bytes) inside s =
    let p = is_part literal s.0 byte s.3 in
    let parts = ap parts_of s.2 ∙ parts_of-part s.0 s.1 p in
    rw (parts, s.3, literal_bytes-Says literal (column + length s.0) bytes s.1 s.4) refl

-- one byte further in an inside
inside_of-plain : (unpaired : Bool) (byte : ℕ) (bytes inside : List ℕ) → (is_quote byte && not unpaired) ≡ false
    → inside_of (is_backslash byte && not unpaired) bytes ≡ Some inside → inside_of unpaired (byte ∷ bytes) ≡ Some (byte ∷ inside)
inside_of-plain unpaired byte bytes inside h e =
    inside_of-other unpaired byte bytes h ∙ ap (option_map (λ more. byte ∷ more)) e

inside_of-paired : (byte : ℕ) (bytes inside : List ℕ) → inside_of false bytes ≡ Some inside → inside_of true (byte ∷ bytes) ≡ Some (byte ∷ inside)
inside_of-paired byte bytes inside e =
    inside_of-plain true byte bytes inside (and_right (is_quote byte) false refl) (rw (and_right (is_backslash byte) false refl) e)

hexdigit-no_quote : (byte : ℕ) → is_ascii_hexdigit byte ≡ true → (is_quote byte && true) ≡ false
hexdigit-no_quote byte h = grind (arith, nat_tests)

hexdigit-no_backslash : (byte : ℕ) → is_ascii_hexdigit byte ≡ true → (is_backslash byte && true) ≡ false
hexdigit-no_backslash byte h = grind (arith, nat_tests)

-- no part closes a literal
inside_of-part : (part bytes inside : List ℕ) → IsPart part → inside_of false bytes ≡ Some inside → inside_of false (part ++ bytes) ≡ Some (part ++ inside)
inside_of-part [] bytes inside p e = absurd p
inside_of-part (byte ∷ []) bytes inside p e =
    inside_of-plain false byte bytes inside (rw p.0 refl) (rw p.1 e)
inside_of-part (byte ∷ letter ∷ []) bytes inside p e =
    rw p.0 (inside_of-plain false 92 (letter ∷ bytes) (letter ∷ inside) refl (inside_of-paired letter bytes inside e))
inside_of-part (byte ∷ letter ∷ high ∷ []) bytes inside p e = absurd p
inside_of-part (byte ∷ letter ∷ high ∷ low ∷ []) bytes inside p e =
    let last = inside_of-plain false low bytes inside (hexdigit-no_quote low p.3) (rw (hexdigit-no_backslash low p.3) e) in
    let third = inside_of-plain false high (low ∷ bytes) (low ∷ inside) (hexdigit-no_quote high p.2) (rw (hexdigit-no_backslash high p.2) last) in
    rw p.0 (inside_of-plain false 92 (letter ∷ high ∷ low ∷ bytes) (letter ∷ high ∷ low ∷ inside) refl
    (inside_of-paired letter (high ∷ low ∷ bytes) (high ∷ low ∷ inside) third))
inside_of-part (byte ∷ letter ∷ high ∷ low ∷ next ∷ more) bytes inside p e = absurd p

-- what says bytes is an inside
pub inside_of-Says : (literal : Literal) (bytes inside : List ℕ) → Says literal bytes inside → inside_of false (inside ++ 34 ∷ []) ≡ Some inside
inside_of-Says literal [] inside s = rw s refl
inside_of-Says literal (byte ∷ bytes) inside s =
    let p = is_part literal s.0 byte s.3 in
    rw (s.2, append_assoc s.0 s.1 (34 ∷ [])) (inside_of-part s.0 (s.1 ++ 34 ∷ []) s.1 p (inside_of-Says literal bytes s.1 s.4))
