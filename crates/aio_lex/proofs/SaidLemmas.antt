-- One more part of an inside.
use Rattle.std.proofs.Common.{◌≡◌, ℕ, ◌+◌, ◌-◌, ◌<◌, ◌≤◌, List, [], ◌∷◌, ◌++◌, length, take, drop, refl, sym, ap, ◌∙◌, arith, Some, Result, Ok, Err}
use Rattle.std.proofs.Common.{append_assoc}
use Rattle.std.proofs.lemmas.List.{length-drop, drop-drop}
use Rattle.std.proofs.Math.Seq.{take-length}
use Rattle.model_text.specs.declared.literal.Literal.{Literal}
use Rattle.model_text.specs.Faults.{TokenFault, both_or_fault}
use Rattle.model_text.specs.Literals.{parts_of, part_value, literal_bytes}
use Rattle.law_tokens.proofs.PartLemmas.{parts_of-cons, length-part_at}
use Rattle.aio_lex.specs.Fronts.{first_part}

-- the rest of a slice from a place on
pub slice_rest : (at : ℕ) (xs : List ℕ) → take (length xs - at) (drop at xs) ≡ drop at xs
slice_rest at xs = rw (← length-drop at xs) (take-length (drop at xs))

-- lists joined in another order
pub both_both : {A : Type 0} (xs ys : List A) (others : Result (List A) TokenFault) → both_or_fault (Ok xs) (both_or_fault (Ok ys) others)
    ≡ both_or_fault (Ok (xs ++ ys)) others
both_both xs ys (Ok zs) = ap (λ all. Ok all) (sym (append_assoc xs ys zs))
both_both xs ys (Err fault) = refl

-- what the first part says, and what the others say
first_said : (literal : Literal) (column : ℕ) (rest : List ℕ) (value : ℕ) → 0 < length rest → part_value literal (first_part rest) ≡ Some value
    → literal_bytes literal column (parts_of rest)
    ≡ both_or_fault (Ok (value ∷ [])) (literal_bytes literal (column + length (first_part rest)) (parts_of (drop (length (first_part rest)) rest)))
first_said literal column [] value some e = absurd (omega arith)
first_said literal column (byte ∷ bytes) value some e =
    ap (literal_bytes literal column) (parts_of-cons byte bytes) ∙ (rw e refl)

pub record SaidMore (literal : Literal) (column at len : ℕ) (inside before after : List ℕ) : Type 0 where
  pub within : at + len ≤ length inside
  pub some : 0 < len
  pub parts : both_or_fault (Ok before) (literal_bytes literal (column + at) (parts_of (drop at inside)))
      ≡ both_or_fault (Ok after) (literal_bytes literal (column + (at + len)) (parts_of (drop (at + len) inside)))

first_fits : (rest : List ℕ) → 0 < length rest → (0 < length (first_part rest)) × (length (first_part rest) ≤ length rest)
first_fits [] some = absurd (omega arith)
first_fits (byte ∷ bytes) some = length-part_at byte bytes

-- what the parts say behind some bytes of a rest
abbrev behind : Literal → ℕ → ℕ → List ℕ → Result (List ℕ) TokenFault
behind literal column len rest = literal_bytes literal (column + len) (parts_of (drop len rest))

moved : (literal : Literal) (column at len : ℕ) (inside : List ℕ) (size : ℕ) → size ≡ len → behind literal (column + at) size (drop at inside)
    ≡ literal_bytes literal (column + (at + len)) (parts_of (drop (at + len) inside))
moved literal column at len inside size e =
    let place : (column + at) + size ≡ column + (at + len) = omega arith in
    let rest : drop size (drop at inside) ≡ drop (at + len) inside = drop-drop size at inside ∙ ap (λ k. drop k inside) (omega arith) in
    rw (place, rest) refl

pub said_more : (literal : Literal) (column at len value : ℕ) (inside before : List ℕ) → at < length inside
    → part_value literal (first_part (take (length inside - at) (drop at inside))) ≡ Some value
    → length (first_part (take (length inside - at) (drop at inside))) ≡ len → SaidMore literal column at len inside before (before ++ value ∷ [])
said_more literal column at len value inside before below says size =
    let rest : List ℕ = drop at inside in
    let same = slice_rest at inside in
    let says' = rw same at says in
    let size' = rw same at size in
    let some : 0 < length rest = omega (arith, length-drop at inside) in
    let fits = first_fits rest some in
    record {
      within = omega (arith, fits, length-drop at inside);
      some = omega (arith, fits);
      parts =
          ap (both_or_fault (Ok before)) (first_said literal (column + at) rest value some says')
          ∙ (both_both before (value ∷ []) (behind literal (column + at) (length (first_part rest)) rest)
          ∙ ap (both_or_fault (Ok (before ++ value ∷ []))) (moved literal column at len inside (length (first_part rest)) size'));
    }
