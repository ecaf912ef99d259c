-- Futures that a request is done with: it would answer again, and change nothing.
use Rattle.std.specs.Prelude.{◌≡◌, ℕ, Bool, true, false, ◌||◌, ◌⊎◌, List, [], ◌∷◌, Option, Some, None, slice_get}
use Rattle.model_value.specs.Value.{Outcome}
use Rattle.model_loop.specs.Parts.{FutureKind, Plain, OfTask, Many, Future, Parts}
use Rattle.model_loop.specs.Futures.{made_before}
use Rattle.model_loop.specs.Cancel.{has_seen}

abbrev pub stage_of : Option Outcome → FutureKind → Option FutureKind
stage_of (Some outcome) kind = None
stage_of None kind = Some kind

abbrev pub stage : Option Future → Option FutureKind
stage None = None
stage (Some future) = stage_of future.outcome future.kind

-- the kind of a pending future
abbrev pub stage_at : Parts → ℕ → Option FutureKind
stage_at p id = stage (slice_get p.futures id)

abbrev pub asked_of : Option FutureKind → Option Bool
asked_of None = None
asked_of (Some Plain) = None
asked_of (Some (OfTask task)) = None
asked_of (Some (Many members asked)) = Some asked

mutual
  pub data Quiet (s : List ℕ) (p : Parts) : ℕ → Bool → Type 0 where
    over : {id : ℕ} → stage_at p id ≡ None → Quiet s p id false
    visited : {id : ℕ} (task : ℕ) → stage_at p id ≡ Some (OfTask task) → has_seen s task ≡ true → Quiet s p id true
    finished : {id : ℕ} {again : Bool} (members : List ℕ) (asked : Bool) → stage_at p id ≡ Some (Many members asked)
        → QuietAll s p (made_before id members) again → (again ≡ true → asked ≡ true) → Quiet s p id again

  pub data QuietAll (s : List ℕ) (p : Parts) : List ℕ → Bool → Type 0 where
    none : QuietAll s p [] false
    more : {id : ℕ} {again : Bool} {ids : List ℕ} {others : Bool} → Quiet s p id again → QuietAll s p ids others → QuietAll s p (id ∷ ids) (again || others)

-- what is noted of futures is right
abbrev pub Sound : List ℕ → Parts → (ℕ → Option Bool) → Type 0
Sound s p noted = (id : ℕ) (again : Bool) → noted id ≡ Some again → Quiet s p id again

-- what is noted after one note more
abbrev pub OnlyAdds : (ℕ → Option Bool) → ℕ → Bool → (ℕ → Option Bool) → Type 0
OnlyAdds noted id again after =
    (other : ℕ) (answer : Bool) → after other ≡ Some answer → ((other ≡ id) × (answer ≡ again)) ⊎ (noted other ≡ Some answer)

-- ---- what may become of a future in a request
abbrev pub Grows : Option FutureKind → Option FutureKind → Type 0
Grows None after = after ≡ None
Grows (Some Plain) after = Unit {0}
Grows (Some (OfTask task)) after = after ≡ Some (OfTask task)
Grows (Some (Many members true)) after = after ≡ Some (Many members true)
Grows (Some (Many members false)) after = (asked : Bool) × (after ≡ Some (Many members asked))

-- the parts and the visited tasks later in the same request
pub record Later (s : List ℕ) (p : Parts) (t : List ℕ) (q : Parts) : Type 0 where
  pub seen : (x : ℕ) → has_seen s x ≡ true → has_seen t x ≡ true
  pub stages : (id : ℕ) → Grows (stage_at p id) (stage_at q id)
