-- What is seen of the lanes of all children, and what gives make of it.
use Rattle.std.specs.Prelude.{◌≡◌, ℕ, ◌^◌, ◌≤◌, ◌<◌, Bool, true, false, ◌&&◌, ◌==◌, List, [], ◌++◌, length, if◌then◌else◌}
use Rattle.model_pump.specs.Commands.{Command}
use Rattle.model_hub.specs.declared.giving.Giving.{Giving}
use Rattle.model_hub.specs.declared.giving.Giving.TheVariants.{Full, Spent}
use Rattle.model_hub.specs.declared.pump.Pump.{Pump}
use Rattle.model_hub.specs.declared.pump.Pump.TheVariants as pump
use Rattle.model_hub.specs.Lanes.{if_given}

-- which children have lanes; for the lane of each pump of a child, what was given to it, and how many gives met a full lane
pub record HeadsSeen : Type 0 where
  pub has : ℕ → Bool
  pub given : ℕ → Pump → List Command
  pub fulls : ℕ → Pump → ℕ

-- whose pump is given commands; that of the exit is given none
abbrev pub has_lane : Pump → Bool
has_lane pump.Stdin = true
has_lane pump.Out = true
has_lane pump.Errs = true
has_lane pump.Exit = false

abbrev pub is_same_pump : Pump → Pump → Bool
is_same_pump pump.Stdin pump.Stdin = true
is_same_pump pump.Out pump.Out = true
is_same_pump pump.Errs pump.Errs = true
is_same_pump pump.Exit pump.Exit = true
is_same_pump _ _ = false

-- these commands for one lane, and none for the others
abbrev pub at_lane : ℕ → Pump → List Command → ℕ → Pump → List Command
at_lane child pump commands other at = if other == child && is_same_pump at pump then commands else []

-- Commands were given, in order, and gives may have met full lanes. No lane was given more than it carries.
pub record Grows (more : ℕ → Pump → List Command) (old new : HeadsSeen) : Type 0 where
  pub has : (child : ℕ) → new.has child ≡ old.has child
  pub given : (child : ℕ) (at : Pump) → new.given child at ≡ old.given child at ++ more child at
  pub fulls : (child : ℕ) (at : Pump) → old.fulls child at ≤ new.fulls child at
  pub few : (child : ℕ) (at : Pump) → length (old.given child at) ≤ 2 ^ 61 → length (new.given child at) ≤ 2 ^ 61

-- what a lane answers is so: it met a full lane, or had given all that a lane carries
pub record Answers (child : ℕ) (at : Pump) (giving : Giving) (old new : HeadsSeen) : Type 0 where
  pub full : giving ≡ Full → old.fulls child at < new.fulls child at
  pub spent : giving ≡ Spent → 2 ^ 61 ≤ length (new.given child at)

-- a command was offered to a lane
pub record Gives (child : ℕ) (at : Pump) (command : Command) (giving : Giving) (old new : HeadsSeen) : Type 0 where
  pub grows : Grows (at_lane child at (if_given true giving command)) old new
  pub answers : Answers child at giving old new
