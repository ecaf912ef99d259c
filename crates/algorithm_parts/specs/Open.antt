-- The futures that are open in a request: those of tasks that wait for its answer, and those whose members it goes through.
use Rattle.std.specs.Prelude.{◌≡◌, ℕ, zero, suc, ◌+◌, ◌≤◌, Bool, true, false, cond, List, [], ◌∷◌, Option, None, Some, length, map, reverse, slice_get}
use Rattle.model_value.specs.Value.{Outcome}
use Rattle.model_loop.specs.Parts.{FutureKind, Plain, OfTask, Many, Future, Parts}
use Rattle.model_loop.specs.Cancel.{has_seen}
use Rattle.model_loop.specs.Cycles.{Leads}
use Rattle.model_loop.specs.Sound.{HasNoCycle}
use Rattle.law_cancel.proofs.Trace.{Goes}
use Rattle.algorithm_parts.specs.Shape.{stands_at}
use Rattle.algorithm_parts.specs.declared.walk.WalkFrame.{WalkFrame}
use Rattle.algorithm_parts.specs.declared.walk.WalkFrame.TheVariants.{Waits, Members}
use Rattle.algorithm_parts.specs.declared.walk.Go.{Go}
use Rattle.algorithm_parts.specs.declared.walk.Go.TheVariants.{Visit, Next, Answer}
use Rattle.algorithm_parts.specs.declared.walk.FutureState.{FutureState}
use Rattle.algorithm_parts.specs.declared.walk.FutureState.TheVariants as stands

abbrev pub is_inner_kind : FutureKind → Bool
is_inner_kind Plain = false
is_inner_kind (OfTask task) = true
is_inner_kind (Many members asked) = true

abbrev pub is_inner_until : Option Outcome → FutureKind → Bool
is_inner_until (Some done) kind = false
is_inner_until None kind = is_inner_kind kind

abbrev pub is_inner_at : Option Future → Bool
is_inner_at None = false
is_inner_at (Some future) = is_inner_until future.outcome future.kind

-- whether a future is pending, and is a task's own or stands for several
abbrev pub is_inner : Parts → ℕ → Bool
is_inner p id = is_inner_at (slice_get p.futures id)

-- how many futures below a number are so, those of a list not among them
abbrev pub others : (ℕ → Bool) → ℕ → List ℕ → ℕ
others inner zero ids = 0
others inner (suc count) ids = cond (has_seen ids count) 0 (cond (inner count) 1 0) + others inner count ids

-- the room that a stack of a request needs
abbrev pub room_of : Parts → ℕ
room_of p = others (is_inner p) (length p.futures) []

-- how a future stands that may pass to others; one that passes nowhere as a done one
abbrev pub passing : FutureState → FutureState
passing stands.Done = stands.Done
passing stands.Plain = stands.Done
passing (stands.OfTask task) = stands.OfTask task
passing stands.Many = stands.Many

abbrev pub passing_at : Parts → ℕ → FutureState
passing_at p id = passing (stands_at (slice_get p.futures id))

-- each of these leads to a future
abbrev pub AllLead : Parts → List ℕ → ℕ → Type 0
AllLead p ids to = (id : ℕ) → has_seen ids id ≡ true → Leads p id to

abbrev pub id_of : WalkFrame → ℕ
id_of (Waits id task) = id
id_of (Members id place any) = id

abbrev pub frame_stands : WalkFrame → FutureState
frame_stands (Waits id task) = stands.OfTask task
frame_stands (Members id place any) = stands.Many

-- the frames from the top down: the future of each is pending, and those below lead to it
abbrev pub OpenDown : Parts → List WalkFrame → Type 0
OpenDown p [] = Unit {0}
OpenDown p (frame ∷ frames) =
    OpenDown p frames × AllLead p (map id_of frames) (id_of frame) × (passing_at p (id_of frame) ≡ frame_stands frame)

abbrev pub Open : Parts → List WalkFrame → Type 0
Open p frames = OpenDown p (reverse frames)

-- what is open leads to what comes next
abbrev pub LeadTo : Parts → List WalkFrame → Go → Type 0
LeadTo p frames (Visit id) = AllLead p (map id_of (reverse frames)) id
LeadTo p frames (Next id place any) = AllLead p (map id_of (reverse frames)) id × (passing_at p id ≡ stands.Many)
LeadTo p frames (Answer answer) = Unit {0}

-- a request that began at these parts, with a stack of so much room and marks for so many tasks
pub record Walks (before : Parts) (room marks : ℕ) (go : Go) (frames : List WalkFrame) (seen : List ℕ) (p : Parts) : Type 0 where
  pub no_cycle : HasNoCycle before
  pub row : Goes [] before seen p
  pub chain : Open before frames
  pub leads : LeadTo before frames go
  pub fits : room_of before ≤ room
  pub marked : length before.tasks ≤ marks

abbrev pub CanWalk : (room marks : ℕ) → Go → List WalkFrame → List ℕ → Parts → Type 0
CanWalk room marks go frames seen p = (before : Parts) × Walks before room marks go frames seen p
