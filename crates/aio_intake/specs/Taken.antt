-- What taking in leaves of the children, their lanes and the seats in hand.
use Rattle.std.specs.Prelude.{◌≡◌, ◌⊎◌, ℕ, Bool, true, false, List, [], ◌∷◌, ◌++◌, Option, Some, None, slice_get, slice_set, if◌then◌else◌}
use Rattle.std.specs.List.{AllByRecursion as Each}
use Rattle.model_pump.specs.Posts.{Post}
use Rattle.model_hub.specs.declared.child.Child.{Child}
use Rattle.model_hub.specs.declared.child.Seats.{Seats}
use Rattle.model_hub.specs.declared.child.Stay.TheVariants.{Holding, Gone}
use Rattle.model_hub.specs.Children.{runs, is_over}
use Rattle.model_hub.specs.Hub.{Hub}
use Rattle.model_hub.specs.Others.{Back}
use Rattle.model_hub.specs.Select.{are_home, take_in}
use Rattle.aio_lanes.specs.declared.child_lanes.ChildLanes.{ChildLanes}
use Rattle.aio_lanes.specs.Given.{lanes_at}
use Rattle.aio_roster.specs.Rosters.{running_of}
use Rattle.aio_roster.specs.Changes.{MayBeLent}
use Rattle.aio_intake.specs.Homes.{Apart}

-- a hub that took these posts
abbrev pub hub_at : List Post → Hub
hub_at taken = record { children = []; kept = []; free = []; taken = taken; starved = false }

-- the seats in hand are nobody's, and no two fours share one
pub record AreInHand (children : List Child) (free : List Seats) : Type 0 where
  pub lent : Each (MayBeLent children) free
  pub apart : Apart free

-- The child with the k-th of the numbers of those that run is over, and was taken in: there is what its pumps reported.
pub record TakesOne {Run : Type 0} (taken : List Post) (k : ℕ) (children children_now : List Child) (free free_now : List Seats)
    (lanes lanes_now : List (Option (ChildLanes Run))) : Type 0 where
  pub child : Child
  pub backs : List Back
  pub named : slice_get (running_of children) k ≡ Some child.number
  pub at : slice_get children child.number ≡ Some child
  pub goes : runs child.stay ≡ true
  pub over : is_over child ≡ true
  pub now : children_now
      ≡ slice_set children child.number (record child { stay = if are_home (hub_at taken) backs child.seats then Gone else Holding })
  pub back : free_now ≡ free ++ (if are_home (hub_at taken) backs child.seats then child.seats ∷ [] else [])
  pub gives_up : lanes_now ≡ slice_set lanes child.number None

abbrev pub TakesNothing : {Run : Type 0} → (children children_now : List Child) → (free free_now : List Seats)
    → (lanes lanes_now : List (Option (ChildLanes Run))) → Type 0
TakesNothing children children_now free free_now lanes lanes_now =
    (children_now ≡ children) × (free_now ≡ free) × (lanes_now ≡ lanes)

-- It isn't over, and all stays.
pub record TakesNone {Run : Type 0} (k : ℕ) (children children_now : List Child) (free free_now : List Seats)
    (lanes lanes_now : List (Option (ChildLanes Run))) : Type 0 where
  pub child : Child
  pub named : slice_get (running_of children) k ≡ Some child.number
  pub at : slice_get children child.number ≡ Some child
  pub over : is_over child ≡ false
  pub same : TakesNothing children children_now free free_now lanes lanes_now

abbrev pub TakesKth : {Run : Type 0} → Bool → List Post → ℕ → (children children_now : List Child) → (free free_now : List Seats)
    → (lanes lanes_now : List (Option (ChildLanes Run))) → Type 0
TakesKth true taken k children children_now free free_now lanes lanes_now =
    TakesOne taken k children children_now free free_now lanes lanes_now
TakesKth false taken k children children_now free free_now lanes lanes_now =
    TakesNone k children children_now free free_now lanes lanes_now

-- the lanes of those that run are the same, and those of others are, or are given up
pub record KeepsLanes {Run : Type 0} (children_now : List Child) (lanes lanes_now : List (Option (ChildLanes Run))) : Type 0 where
  pub running : (j n : ℕ) → slice_get (running_of children_now) j ≡ Some n → lanes_at lanes_now n ≡ lanes_at lanes n
  pub others : (n : ℕ) → (lanes_at lanes_now n ≡ lanes_at lanes n) ⊎ (lanes_at lanes_now n ≡ None)

-- Each child that is over was taken in: there is what their pumps reported.
pub record TakesIn (taken : List Post) (children children_now : List Child) (free free_now : List Seats) : Type 0 where
  pub reports : ℕ → List Back
  pub is : (hub : Hub)
      → take_in reports (record hub { children = children; free = free; taken = taken })
      ≡ record hub { children = children_now; free = free_now; taken = taken }
