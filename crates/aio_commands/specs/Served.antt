-- What serving all children gives to their lanes.
use Rattle.std.specs.Prelude.{◌≡◌, ℕ, true, List, Some, map, slice_get, slice_set}
use Rattle.std.specs.List.{flat_map}
use Rattle.model_wire.specs.declared.watch.Watch.{Watch}
use Rattle.model_pump.specs.Commands.{Command}
use Rattle.model_hub.specs.declared.child.Child.{Child}
use Rattle.model_hub.specs.declared.pump.Pump.{Pump}
use Rattle.model_hub.specs.Children.{runs}
use Rattle.model_hub.specs.Others.{Offer, Lanes}
use Rattle.model_hub.specs.Lanes.{serve_child}
use Rattle.model_hub.specs.Asked.{lane_of}
use Rattle.aio_serving.specs.Heads.{HeadsSeen, Grows, Answers}
use Rattle.aio_serving.specs.Served.{Serves, served_alone}
use Rattle.aio_roster.specs.Rosters.{running_of}

-- each child that runs has lanes
abbrev pub HaveLanes : List Child → HeadsSeen → Type 0
HaveLanes children heads = (k n : ℕ) → slice_get (running_of children) k ≡ Some n → heads.has n ≡ true

-- the child with the k-th of the numbers of those that run was served
pub record ServesOne (watched : List Watch) (k : ℕ) (children children_now : List Child) (old new : HeadsSeen) : Type 0 where
  pub number : ℕ
  pub child : Child
  pub result : Child
  pub named : slice_get (running_of children) k ≡ Some number
  pub at : slice_get children number ≡ Some child
  pub now : children_now ≡ slice_set children number result
  pub serves : Serves watched child result old new

-- what all of them are given
abbrev pub served_each : Lanes → List Watch → List Child → ℕ → Pump → List Command
served_each lanes watched children n at = flat_map (λ (child : Child). served_alone lanes watched child n at) children

-- Each child was served: there is what the lanes answered.
pub record ServesAll (watched : List Watch) (children children_now : List Child) (old new : HeadsSeen) : Type 0 where
  pub lanes : Lanes
  pub is : children_now ≡ map (serve_child lanes watched) children
  pub grows : Grows (served_each lanes watched children) old new
  pub each : (n : ℕ) (child : Child) → slice_get children n ≡ Some child → runs child.stay ≡ true → (offer : Offer)
      → Answers n (lane_of offer) (lanes n offer) old new
