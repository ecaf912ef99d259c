-- What a hub keeps, as contracts see it, and what its simplest calls make of it.
use Rattle.std.specs.Prelude.{◌≡◌, ℕ, ◌^◌, ◌≤◌, List, Option, length}
use Rattle.std.specs.List.{AllByRecursion as Each}
use Rattle.model_wire.specs.Call.{Answer}
use Rattle.model_wire.specs.declared.watch.Watch.{Watch}
use Rattle.model_hub.specs.declared.child.Child.{Child}
use Rattle.model_hub.specs.declared.child.Seats.{Seats}
use Rattle.model_hub.specs.declared.pump.Pump.{Pump}
use Rattle.model_hub.specs.Hub.{Hub}
use Rattle.aio_serving.specs.Heads.{HeadsSeen}
use Rattle.aio_lanes.specs.declared.child_lanes.ChildLanes.{ChildLanes}
use Rattle.aio_lanes.specs.Given.{seen_of}
use Rattle.aio_roster.specs.Rosters.{Numbered, running_of}
use Rattle.aio_roster.specs.Changes.{MayBeLent}
use Rattle.aio_intake.specs.Homes.{Apart}
use Rattle.aio_commands.specs.Served.{HaveLanes, ServesAll}
use Rattle.aio_commands.specs.Commands.{FeedCall, EndCall}

-- the hub, how many of its takes found no post, and the lanes of the children by number, as long as they run
pub record StateSeen (Run : Type 0) : Type 0 where
  pub hub : Hub
  pub nones : ℕ
  pub lanes : List (Option (ChildLanes Run))

abbrev pub heads_of : {Run : Type 0} → StateSeen Run → HeadsSeen
heads_of state = seen_of state.lanes

-- Each child that runs has lanes, no lane was given more than it carries, and the seats in hand are nobody's.
pub record IsState (children : List Child) (free : List Seats) (heads : HeadsSeen) : Type 0 where
  pub lanes : HaveLanes children heads
  pub few : (n : ℕ) (at : Pump) → length (heads.given n at) ≤ 2 ^ 61
  pub lent : Each (MayBeLent children) free
  pub apart : Apart free

abbrev pub with_children : List Child → Hub → Hub
with_children children hub = record hub { children = children }

-- nothing but the children and their lanes changed, and those that run are the same
pub record Rests {Run : Type 0} (old new : StateSeen Run) : Type 0 where
  pub hub : new.hub ≡ with_children new.hub.children old.hub
  pub nones : new.nones ≡ old.nones
  pub numbered : Numbered old.hub.children
  pub numbered_now : Numbered new.hub.children
  pub running : running_of new.hub.children ≡ running_of old.hub.children
  pub few : (n : ℕ) (at : Pump) → length ((heads_of new).given n at) ≤ 2 ^ 61

pub record Plainly {Run : Type 0} (watched : List Watch) (old new : StateSeen Run) : Type 0 where
  pub rests : Rests old new
  pub served : ServesAll watched old.hub.children new.hub.children (heads_of old) (heads_of new)

pub record Feeding {Run : Type 0} (number : ℕ) (bytes : List ℕ) (said : Answer) (old new : StateSeen Run) : Type 0 where
  pub rests : Rests old new
  pub fed : FeedCall number bytes old.hub.children new.hub.children said (heads_of old) (heads_of new)

pub record Ending {Run : Type 0} (number : ℕ) (old new : StateSeen Run) : Type 0 where
  pub rests : Rests old new
  pub ended : EndCall number old.hub.children new.hub.children (heads_of old) (heads_of new)
