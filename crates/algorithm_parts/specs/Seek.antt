-- The search for a cycle, with what is left to look at on a stack. Each future is gone through once.
use Rattle.std.specs.Prelude.{◌≡◌, ℕ, ◌⊎◌, Bool, true, false, ◌==◌, List, Option, Some}
use Rattle.std.specs.List.{list_any}
use Rattle.model_loop.specs.Parts.{Parts}
use Rattle.model_loop.specs.Cancel.{has_seen}
use Rattle.model_loop.specs.Cycles.{PassesTo, Leads}
use Rattle.algorithm_parts.specs.Walk.{rest_of}
use Rattle.algorithm_parts.specs.Open.{passing_at}
use Rattle.algorithm_parts.specs.declared.walk.WalkFrame.{WalkFrame}
use Rattle.algorithm_parts.specs.declared.walk.WalkFrame.TheVariants.{Waits, Members}
use Rattle.algorithm_parts.specs.declared.walk.Go.{Go}
use Rattle.algorithm_parts.specs.declared.walk.Go.TheVariants.{Visit, Next, Answer}
use Rattle.algorithm_parts.specs.declared.walk.FutureState.TheVariants as stands

-- whether a future is among the members from a place on
abbrev pub in_rest : Parts → (id place x : ℕ) → Bool
in_rest p id place x = list_any (λ y. y == x) (rest_of id place p)

abbrev pub in_go : Parts → ℕ → Go → Bool
in_go p x (Visit id) = id == x
in_go p x (Next id place any) = in_rest p id place x
in_go p x (Answer answer) = false

abbrev pub in_frame : Parts → ℕ → WalkFrame → Bool
in_frame p x (Waits id task) = false
in_frame p x (Members id place any) = in_rest p id place x

abbrev pub in_frames : Parts → ℕ → List WalkFrame → Bool
in_frames p x = list_any (in_frame p x)

-- a future that is still to be looked at
abbrev pub Pending : Parts → Go → List WalkFrame → ℕ → Type 0
Pending p go frames x = (in_go p x go ≡ true) ⊎ (in_frames p x frames ≡ true)

-- A search that looked at these futures, marked these tasks, and noted these futures that stand for several.
pub record Seeks (p : Parts) (from to : ℕ) (visited : List ℕ) (seen : List ℕ) (noted : ℕ → Option Bool) (go : Go) (frames : List WalkFrame) : Type 0 where
  pub led : (x : ℕ) → Pending p go frames x → (x ≡ from) ⊎ Leads p from x
  pub covers : (has_seen visited from ≡ true) ⊎ Pending p go frames from
  pub other : has_seen visited to ≡ false
  pub closed : (x next : ℕ) → has_seen visited x ≡ true → PassesTo p x next
      → (has_seen visited next ≡ true) ⊎ Pending p go frames next
  pub tasks : (task : ℕ) → has_seen seen task ≡ true
      → (x : ℕ) × (has_seen visited x ≡ true) × (passing_at p x ≡ stands.OfTask task)
  pub notes : (id : ℕ) (again : Bool) → noted id ≡ Some again → has_seen visited id ≡ true

abbrev pub CanSeek : Parts → (from to : ℕ) (seen : List ℕ) (noted : ℕ → Option Bool) → Go → List WalkFrame → Type 0
CanSeek p from to seen noted go frames = (visited : List ℕ) × Seeks p from to visited seen noted go frames
