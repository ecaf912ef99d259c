-- What one call gives to the lanes of the children, as the definitions have it.
use Rattle.std.specs.Prelude.{◌≡◌, ℕ, ◌^◌, ◌≤◌, true, List, ◌++◌, Some, length, slice_get}
use Rattle.model_wire.specs.Call.{Call, Answer}
use Rattle.model_wire.specs.declared.call.Call.TheVariants as call
use Rattle.model_hub.specs.declared.child.Child.{Child}
use Rattle.model_hub.specs.declared.pump.Pump.{Pump}
use Rattle.model_hub.specs.Children.{runs}
use Rattle.model_hub.specs.Hub.{Hub}
use Rattle.model_hub.specs.Others.{Offer, Lanes, Got}
use Rattle.model_hub.specs.Asked.{lane_of}
use Rattle.model_hub.specs.Calls.{commands_to, feed, end}
use Rattle.aio_serving.specs.Heads.{HeadsSeen, Answers}

-- Each lane was given what this call gives to it where the lanes answer so; and that they answer so, shows.
pub record Commands (asks : Call) (lanes : Lanes) (children : List Child) (old new : HeadsSeen) : Type 0 where
  pub has : (n : ℕ) → new.has n ≡ old.has n
  pub given : (n : ℕ) (child : Child) → slice_get children n ≡ Some child → (at : Pump)
      → new.given n at ≡ old.given n at ++ commands_to asks lanes child at
  pub each : (n : ℕ) (child : Child) → slice_get children n ≡ Some child → runs child.stay ≡ true → (offer : Offer)
      → Answers n (lane_of offer) (lanes n offer) old new
  pub few : (n : ℕ) (at : Pump) → length (old.given n at) ≤ 2 ^ 61 → length (new.given n at) ≤ 2 ^ 61

-- a feed was made, with all that goes before it
pub record FeedCall (number : ℕ) (bytes : List ℕ) (children children_now : List Child) (said : Answer) (old new : HeadsSeen)
    : Type 0 where
  pub lanes : Lanes
  pub is : (hub : Hub)
      → feed lanes number bytes (record hub { children = children }) ≡ (record hub { children = children_now }, Got said)
  pub commands : Commands (call.Feed number bytes) lanes children old new

-- a standard input was closed, with all that goes before it
pub record EndCall (number : ℕ) (children children_now : List Child) (old new : HeadsSeen) : Type 0 where
  pub lanes : Lanes
  pub is : (hub : Hub) → (end lanes number (record hub { children = children })).0 ≡ record hub { children = children_now }
  pub commands : Commands (call.End number) lanes children old new
