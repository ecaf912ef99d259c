-- Which lanes the end of a hub gives Stop.
use Rattle.std.specs.Prelude.{◌≡◌, ℕ, ◌^◌, ◌≤◌, Bool, true, false, not, ◌==◌, List, [], ◌++◌, Some, length, slice_get, if◌then◌else◌}
use Rattle.model_pump.specs.Commands.{Command}
use Rattle.model_pump.specs.declared.command.Command.TheVariants as command
use Rattle.model_hub.specs.declared.child.Child.{Child}
use Rattle.model_hub.specs.declared.giving.Giving.{Giving}
use Rattle.model_hub.specs.declared.giving.Giving.TheVariants.{Given, Full, Spent}
use Rattle.model_hub.specs.declared.pump.Pump.{Pump}
use Rattle.model_hub.specs.declared.pump.Pump.TheVariants as pump
use Rattle.model_hub.specs.Children.{was_given}
use Rattle.model_hub.specs.Lanes.{if_given}
use Rattle.aio_serving.specs.Heads.{HeadsSeen, at_lane, Grows}
use Rattle.aio_roster.specs.Rosters.{RosterSeen}
use Rattle.aio_roster.specs.Changes.{IsKth}

abbrev pub nothing : ℕ → Pump → List Command
nothing n at = []

abbrev pub is_full : Giving → Bool
is_full Given = false
is_full Full = true
is_full Spent = false

-- A Stop was given to a lane, or that carries no more.
pub record Stops (n : ℕ) (at : Pump) (old new : HeadsSeen) : Type 0 where
  pub giving : Giving
  pub told : is_full giving ≡ false
  pub grows : Grows (at_lane n at (if_given true giving command.Stop)) old new
  pub spent : giving ≡ Spent → 2 ^ 61 ≤ length (new.given n at)

-- all lanes of a child but that to which a Close was given
abbrev pub is_stopped : Child → Pump → Bool
is_stopped child pump.Stdin = not (was_given child.closing)
is_stopped child pump.Out = true
is_stopped child pump.Errs = true
is_stopped child pump.Exit = false

-- a Stop was given to this lane of a child, where it is to stop, and nothing to other lanes
pub record StopsLane (child : Child) (at : Pump) (old new : HeadsSeen) : Type 0 where
  pub giving : Giving
  pub told : is_full giving ≡ false
  pub grows : Grows (at_lane child.number at (if is_stopped child at then if_given true giving command.Stop else [])) old new
  pub spent : is_stopped child at ≡ true → giving ≡ Spent → 2 ^ 61 ≤ length (new.given child.number at)

-- the lane of this pump of a child was given a Stop, where it is to stop
pub record IsStopped (child : Child) (at : Pump) (old new : HeadsSeen) : Type 0 where
  pub giving : Giving
  pub told : is_full giving ≡ false
  pub given : new.given child.number at
      ≡ old.given child.number at ++ (if is_stopped child at then if_given true giving command.Stop else [])
  pub spent : is_stopped child at ≡ true → giving ≡ Spent → 2 ^ 61 ≤ length (new.given child.number at)

-- the lanes of one child were given Stop, and those of no other anything
pub record StopsChild (child : Child) (old new : HeadsSeen) : Type 0 where
  pub has : (n : ℕ) → new.has n ≡ old.has n
  pub stopped : (at : Pump) → IsStopped child at old new
  pub others : (n : ℕ) (at : Pump) → (n == child.number) ≡ false → new.given n at ≡ old.given n at

-- the lanes of each of these children were given Stop
abbrev pub AreStopped : List Child → (old new : HeadsSeen) → Type 0
AreStopped running old new = (k : ℕ) (child : Child) → slice_get running k ≡ Some child → (at : Pump) → IsStopped child at old new

-- the lanes of the child with the k-th of the numbers of those that run were given Stop, and no others anything
pub record StopsKth (k : ℕ) (roster : RosterSeen) (old new : HeadsSeen) : Type 0 where
  pub child : Child
  pub is : IsKth k roster child
  pub stops : StopsChild child old new
