-- Where a search finds a newline.
use Rattle.std.proofs.Common.{◌≡◌, ℕ, suc, ◌+◌, ◌-◌, ◌<◌, ◌≤◌, Bool, true, false, ◌||◌, ◌==◌, List, ◌∷◌, ◌++◌, Option, Some, None, length, take, drop, get_or, slice_index, refl, ap, sym, subst, ◌∙◌, arith, append_assoc, drop-cons}
use Rattle.std.proofs.Math.Seq.{take-add}
use Rattle.std.proofs.lemmas.Bool.{eqb-true}
use Rattle.std.proofs.lemmas.List.{drop-drop, get_or-take, length-drop, length-take, take-append-drop, take_all}
use Rattle.std.proofs.lemmas.List.Elements.{All-from_get_or}
use Rattle.std.proofs.lemmas.List.Folds.{list_any-append, list_any_none}
use Rattle.memchr.specs.Find.{IsFirstByte, is_byte}
use Rattle.law_entries.specs.Begins.{has_newline, is_newline}

other_byte : (byte : ℕ) → ((byte == 10) ≡ true → ⊥) → (byte == 10) ≡ false
other_byte byte never = by (byte == 10) never
  where
    by : (b : Bool) → (b ≡ true → ⊥) → b ≡ false
    by true never = absurd (never refl)
    by false never = refl

nowhere : (bytes : List ℕ) → ((k : ℕ) → k < length bytes → (slice_index bytes k == 10) ≡ true → ⊥) → has_newline bytes ≡ false
nowhere bytes never =
    list_any_none is_newline bytes
    (All-from_get_or (λ byte. is_newline byte ≡ false) bytes 0 (λ k within. other_byte (get_or bytes k 0) (never k within)))

-- a search that found none
pub none_found : (bytes : List ℕ) → IsFirstByte (is_byte 10) bytes None → has_newline bytes ≡ false
none_found bytes none = nowhere bytes (λ k within. none k (omega arith) within)

-- where a newline is the first one
pub record FirstNewline (bytes : List ℕ) (at : ℕ) : Type 0 where
  pub within : at < length bytes
  pub before : has_newline (take at bytes) ≡ false
  pub is : bytes ≡ take at bytes ++ 10 ∷ drop (at + 1) bytes

pub first_found : (bytes : List ℕ) (at : ℕ) → IsFirstByte (is_byte 10) bytes (Some at) → FirstNewline bytes at
first_found bytes at first =
    let size = length-take at bytes in
    let next : suc at ≡ at + 1 = omega arith in
    record {
      within = first.0.high;
      before =
          nowhere (take at bytes) (λ k within is.
          first.0.before k (omega arith) (omega (arith, within, size))
          (subst (λ (byte : ℕ). (byte == 10) ≡ true) (get_or-take at bytes k 0 (omega (arith, within, size))) is));
      is =
          sym (take-append-drop at bytes)
          ∙ ap (λ (rest : List ℕ). take at bytes ++ rest)
          (drop-cons bytes at 0 first.0.high ∙ ap (λ (byte : ℕ). byte ∷ drop (suc at) bytes) (eqb-true (slice_index bytes at) 10 first.1)
          ∙ ap (λ (n : ℕ). 10 ∷ drop n bytes) next);
    }

-- the same behind a front that has none
pub none_after : (text : List ℕ) (from : ℕ) → has_newline (take from text) ≡ false → has_newline (drop from text) ≡ false
    → has_newline text ≡ false
none_after text from before none =
    ap has_newline (sym (take-append-drop from text)) ∙ list_any-append is_newline (take from text) (drop from text)
    ∙ ap (λ (b : Bool). b || has_newline (drop from text)) before ∙ none

pub first_after : (text : List ℕ) (from at : ℕ) → from ≤ length text → has_newline (take from text) ≡ false → FirstNewline (drop from text) at
    → FirstNewline text (from + at)
first_after text from at within before first =
    let rest : List ℕ = drop from text in
    let place : from + (at + 1) ≡ from + at + 1 = omega arith in
    let front : take (from + at) text ≡ take from text ++ take at rest = take-add from at text in
    record {
      within = omega (arith, first.within, length-drop from text, within);
      before =
          ap has_newline front ∙ list_any-append is_newline (take from text) (take at rest)
          ∙ ap (λ (b : Bool). b || has_newline (take at rest)) before ∙ first.before;
      is =
          sym (take-append-drop from text)
          ∙ ap (λ (r : List ℕ). take from text ++ r) first.is
          ∙ sym (append_assoc (take from text) (take at rest) (10 ∷ drop (at + 1) rest))
          ∙ ap (λ (f : List ℕ). f ++ 10 ∷ drop (at + 1) rest) (sym front)
          ∙ ap (λ (r : List ℕ). take (from + at) text ++ 10 ∷ r) (drop-drop (at + 1) from text ∙ ap (λ (n : ℕ). drop n text) place);
    }

-- what is searched: the text from a place on
pub searched_rest : (text : List ℕ) (from : ℕ) (r : Option ℕ) → IsFirstByte (is_byte 10) (take (length text - from) (drop from text)) r
    → IsFirstByte (is_byte 10) (drop from text) r
searched_rest text from r =
    let size = length-drop from text in
    subst (λ (rest : List ℕ). IsFirstByte (is_byte 10) rest r) (take_all (length text - from) (drop from text) (omega (arith, size)))
