-- A needle that is found stands where the definition first finds it.
use Rattle.std.proofs.Common.{◌≡◌, ℕ, zero, suc, ◌+◌, ◌<◌, ◌≤◌, Bool, true, false, eqb, List, [], ◌∷◌, ◌++◌, Option, Some, None, length, take, drop, refl, ap}
use Rattle.std.proofs.Common.{sym, ◌∙◌, arith, inl, inr, ◌⊎◌}
use Rattle.std.specs.List.{starts_with}
use lib.Seq.{take-append_seam}
use Rattle.std.proofs.lemmas.List.Prefix.{front_fits}
use Rattle.std.proofs.lemmas.Bool.{cases_lt}
use Rattle.std.proofs.lemmas.Bool.Decides.{Decides-eqb}
use Rattle.std.proofs.lemmas.Slice.Eq.{starts_is}
use Rattle.memchr.specs.Find.{FindsNeedle, OccursAt, Nowhere}
use Rattle.memchr.proofs.lemmas.MatchLemmas.{OccursAt-part, OccursAt-from_part, OccursAt-split}
use Rattle.model_stream.specs.Reading.{first_at}
use Rattle.aio_chunks.specs.Shifted.{shifted}
use Rattle.aio_chunks.proofs.Searches.{shifted_some}

-- what begins with a separator has it at its start, and the other way round
occurs_here : (separator bytes : List ℕ) → starts_with eqb bytes separator ≡ true → OccursAt bytes separator 0
occurs_here separator bytes begins =
    let split : bytes ≡ separator ++ drop (length separator) bytes =
    (starts_is Decides-eqb bytes separator (starts_with eqb bytes separator) refl).0 begins in
    OccursAt-from_part bytes separator 0
    (omega (arith, front_fits bytes separator (drop (length separator) bytes) split))
    (ap (take (length separator)) split ∙ take-append_seam separator (drop (length separator) bytes))

begins_here : (separator bytes : List ℕ) → OccursAt bytes separator 0 → starts_with eqb bytes separator ≡ true
begins_here separator bytes occurs =
    (starts_is Decides-eqb bytes separator (starts_with eqb bytes separator) refl).1
    (drop (0 + length separator) bytes) (OccursAt-split bytes separator 0 occurs)

occurs_behind : (separator : List ℕ) (byte : ℕ) (bytes : List ℕ) (at : ℕ) → OccursAt bytes separator at → OccursAt (byte ∷ bytes) separator (suc at)
occurs_behind separator byte bytes at occurs =
    OccursAt-from_part (byte ∷ bytes) separator (suc at) (omega (arith, occurs.fits)) (OccursAt-part bytes separator at occurs)

occurs_before : (separator : List ℕ) (byte : ℕ) (bytes : List ℕ) (at : ℕ) → OccursAt (byte ∷ bytes) separator (suc at) → OccursAt bytes separator at
occurs_before separator byte bytes at occurs =
    OccursAt-from_part bytes separator at (omega (arith, occurs.fits)) (OccursAt-part (byte ∷ bytes) separator (suc at) occurs)

occurs_by :
    (separator : List ℕ) (byte : ℕ) (bytes : List ℕ) (at : ℕ) (begins : Bool) → starts_with eqb (byte ∷ bytes) separator ≡ begins
    → first_at separator (byte ∷ bytes) ≡ Some at
    → ((before : ℕ) → first_at separator bytes ≡ Some before → OccursAt bytes separator before)
    → OccursAt (byte ∷ bytes) separator at
occurs_by separator byte bytes at true is found behind =
    let first : Some 0 ≡ Some at = rw is at found in
    let here : at ≡ 0 = cc in
    rw here (occurs_here separator (byte ∷ bytes) is)
occurs_by separator byte bytes at false is found behind =
    let on : shifted 1 (first_at separator bytes) ≡ Some at = rw is at found in
    let place = shifted_some (first_at separator bytes) at on in
    let there : at ≡ suc place.0 = omega (arith, place.2) in
    rw there (occurs_behind separator byte bytes place.0 (behind place.0 place.1))

-- where it is first found it occurs
occurs_first : (separator bytes : List ℕ) (at : ℕ) → first_at separator bytes ≡ Some at → OccursAt bytes separator at
occurs_first separator [] at found = absurd (let bad : ⊥ = cc in bad)
occurs_first separator (byte ∷ bytes) at found =
    occurs_by separator byte bytes at (starts_with eqb (byte ∷ bytes) separator) refl found
    (λ before is. occurs_first separator bytes before is)

-- a place at which it is found, no further on than this one
abbrev Found : (separator bytes : List ℕ) (at : ℕ) → Type 0
Found separator bytes at = (before : ℕ) × (first_at separator bytes ≡ Some before) × (before ≤ at)

found_by :
    (separator : List ℕ) (byte : ℕ) (bytes : List ℕ) (at : ℕ) (begins : Bool) → starts_with eqb (byte ∷ bytes) separator ≡ begins
    → OccursAt (byte ∷ bytes) separator at
    → ((before : ℕ) → OccursAt bytes separator before → Found separator bytes before)
    → Found separator (byte ∷ bytes) at
found_by separator byte bytes at true is occurs behind = (0, rw is refl, omega arith)
found_by separator byte bytes zero false is occurs behind =
    absurd (let no : true ≡ false = sym (begins_here separator (byte ∷ bytes) occurs) ∙ is in let bad : ⊥ = cc in bad)
found_by separator byte bytes (suc at) false is occurs behind =
    let place = behind at (occurs_before separator byte bytes at occurs) in
    (place.0 + 1, rw is (ap (shifted 1) place.1), omega (arith, place.2))

first_occurs : (separator bytes : List ℕ) (at : ℕ) → 0 < length separator → OccursAt bytes separator at → Found separator bytes at
first_occurs separator [] at some occurs = absurd (omega (arith, occurs.fits))
first_occurs separator (byte ∷ bytes) at some occurs =
    found_by separator byte bytes at (starts_with eqb (byte ∷ bytes) separator) refl occurs
    (λ before it. first_occurs separator bytes before some it)

none_by :
    (separator bytes : List ℕ) (place : Option ℕ) → first_at separator bytes ≡ place
    → Nowhere (OccursAt bytes separator) 0 (length bytes + 1) → None ≡ place
none_by separator bytes None is nowhere = refl
none_by separator bytes (Some at) is nowhere =
    let occurs : OccursAt bytes separator at = occurs_first separator bytes at is in
    absurd (nowhere at (omega arith) (omega (arith, occurs.fits)) occurs)

same_by :
    (separator bytes : List ℕ) (at before : ℕ) → Nowhere (OccursAt bytes separator) 0 at → first_at separator bytes ≡ Some before
    → before ≤ at → (before < at) ⊎ (at ≤ before) → Some at ≡ first_at separator bytes
same_by separator bytes at before nowhere found low (inl less) =
    absurd (nowhere before (omega arith) less (occurs_first separator bytes before found))
same_by separator bytes at before nowhere found low (inr more) =
    let same : at ≡ before = omega arith in
    ap Some same ∙ sym found

-- A search for a needle gives where it first begins.
pub found_is_first :
    (separator bytes : List ℕ) (found : Option ℕ) → 0 < length separator → FindsNeedle bytes separator 0 found
    → found ≡ first_at separator bytes
found_is_first separator bytes None some nowhere = none_by separator bytes (first_at separator bytes) refl nowhere
found_is_first separator bytes (Some at) some finds =
    let place = first_occurs separator bytes at some finds.1 in
    same_by separator bytes at place.0 finds.0.before place.1 place.2 (cases_lt place.0 at)
