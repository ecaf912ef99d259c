-- What is seen of the lanes of children by number.
use Rattle.std.specs.Prelude.{◌≡◌, ℕ, ◌^◌, ◌≤◌, ◌<◌, true, List, [], ◌++◌, Option, Some, None, is_some, length, slice_get, if◌then◌else◌}
use Rattle.model_pump.specs.Commands.{Command}
use Rattle.model_hub.specs.declared.giving.Giving.{Giving}
use Rattle.model_hub.specs.declared.giving.Giving.TheVariants as giving
use Rattle.model_hub.specs.declared.pump.Pump.{Pump}
use Rattle.model_hub.specs.declared.pump.Pump.TheVariants as pump
use Rattle.model_hub.specs.Lanes.{if_given}
use Rattle.aio_lane.specs.declared.command.Giving.{Giving as Answer}
use Rattle.aio_lane.specs.declared.command.Giving.TheVariants as answer
use Rattle.aio_serving.specs.Heads.{HeadsSeen, is_same_pump}
use Rattle.aio_lanes.specs.declared.child_lanes.ChildLanes.{ChildLanes}

-- what a head answered, without the command that came back
abbrev pub said_by : Answer → Giving
said_by answer.Given = giving.Given
said_by (answer.Full back) = giving.Full
said_by (answer.Spent back) = giving.Spent

-- what was given to the lane of a pump; that of the exit has none
abbrev pub given_to : {Run : Type 0} → Pump → ChildLanes Run → List Command
given_to pump.Stdin lanes = lanes.stdin.given
given_to pump.Out lanes = lanes.out.given
given_to pump.Errs lanes = lanes.errs.given
given_to pump.Exit lanes = []

-- how many gives met a full lane
abbrev pub fulls_of : {Run : Type 0} → Pump → ChildLanes Run → ℕ
fulls_of pump.Stdin lanes = lanes.stdin.fulls
fulls_of pump.Out lanes = lanes.out.fulls
fulls_of pump.Errs lanes = lanes.errs.fulls
fulls_of pump.Exit lanes = 0

-- a command was offered to the lane of a pump of one child
pub record GivesTo {Run : Type 0} (at : Pump) (command : Command) (said : Giving) (old new : ChildLanes Run) : Type 0 where
  pub given : (other : Pump)
      → given_to other new ≡ given_to other old ++ (if is_same_pump other at then if_given true said command else [])
  pub fulls : (other : Pump) → fulls_of other old ≤ fulls_of other new
  pub few : (other : Pump) → length (given_to other old) ≤ 2 ^ 61 → length (given_to other new) ≤ 2 ^ 61
  pub full : said ≡ giving.Full → fulls_of at old < fulls_of at new
  pub spent : said ≡ giving.Spent → 2 ^ 61 ≤ length (given_to at new)
  pub run : new.run ≡ old.run
  pub named : (new.stdin.lane ≡ old.stdin.lane) × (new.out.lane ≡ old.out.lane) × (new.errs.lane ≡ old.errs.lane)

-- the lanes of the child with a number, as long as it runs
abbrev pub lanes_at : {Run : Type 0} → List (Option (ChildLanes Run)) → ℕ → Option (ChildLanes Run)
lanes_at children number = elim (slice_get children number) [ None ↦ None | Some lanes ↦ lanes ]

-- nobody has other lanes
abbrev pub HaveSameLanes : {Run : Type 0} → (children children_now : List (Option (ChildLanes Run))) → Type 0
HaveSameLanes children children_now = (n : ℕ) → lanes_at children_now n ≡ lanes_at children n

abbrev pub given_at : {Run : Type 0} → Option (ChildLanes Run) → Pump → List Command
given_at None at = []
given_at (Some lanes) at = given_to at lanes

abbrev pub fulls_at : {Run : Type 0} → Option (ChildLanes Run) → Pump → ℕ
fulls_at None at = 0
fulls_at (Some lanes) at = fulls_of at lanes

abbrev pub seen_of : {Run : Type 0} → List (Option (ChildLanes Run)) → HeadsSeen
seen_of children =
    record {
      has = λ n. is_some (lanes_at children n);
      given = λ n at. given_at (lanes_at children n) at;
      fulls = λ n at. fulls_at (lanes_at children n) at;
    }
