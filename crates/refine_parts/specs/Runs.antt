-- How handles run: in code a call takes the first that lives, in the machine each is taken out by a step of its own.
use Rattle.std.specs.Prelude.{◌≡◌, ℕ, ◌<◌, ◌≤◌, true, false, List, [], ◌∷◌, ◌++◌, Option, None, Some, drop}
use Rattle.std.specs.List.{AllByRecursion as Each}
use Rattle.model_value.specs.Action.{Action}
use Rattle.model_loop.specs.Parts.{Handle, Parts}
use Rattle.aio_ready.specs.Queue.{Queue}
use Rattle.aio_task.specs.View.{View}
use Rattle.aio_task.specs.Keeps.{NameMap, Keeps}

-- the first handle before the bar is taken out
abbrev pub skipped : Queue → Queue
skipped q = record q { below = drop 1 q.below }

-- the first handle doesn't stand before the bar
abbrev pub IsPastBar : ℕ → List Handle → Type 0
IsPastBar bar [] = Unit {0}
IsPastBar bar (handle ∷ handles) = bar ≤ handle.stamp

-- what is left runs this next, and the view stands for what is left then
abbrev pub Runs : NameMap → View → Parts → Option Action → List Handle → Type 0
Runs t w p None left = IsPastBar t.bar left × Keeps t w (record p { pending = left })
Runs t w p (Some action) [] = ⊥
Runs t w p (Some action) (handle ∷ handles) =
    (handle.stamp < t.bar) × (handle.dead ≡ false) × (handle.action ≡ action) × Keeps t w (record p { pending = handles })

-- some dead handles before the bar are passed over, and then this one runs, or none before the bar is left
pub record Skips (t : NameMap) (w : View) (p : Parts) (next : Option Action) : Type 0 where
  pub dead : List Handle
  pub left : List Handle
  pub pending : p.pending ≡ dead ++ left
  pub are_dead : Each (λ (handle : Handle). (handle.dead ≡ true) × (handle.stamp < t.bar)) dead
  pub runs : Runs t w p next left
