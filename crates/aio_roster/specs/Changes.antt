-- How the children of a roster change.
use Rattle.std.specs.Prelude.{◌≡◌, ℕ, ◌<◌, true, List, Option, Some, None, is_some, slice_get, slice_set}
use Rattle.std.specs.List.{remove}
use Rattle.model_hub.specs.declared.child.Child.{Child}
use Rattle.model_hub.specs.declared.child.Seats.{Seats}
use Rattle.model_hub.specs.declared.child.Stay.{Stay}
use Rattle.model_hub.specs.declared.child.Stay.TheVariants.{Gone}
use Rattle.model_hub.specs.Children.{pump_at, runs}
use Rattle.aio_serving.specs.Served.{IsModest}
use Rattle.aio_roster.specs.Rosters.{RosterSeen, IsShort, IsSameChild, IsFree, running_of}

-- it is the child with its number
pub record IsChildOf (roster : RosterSeen) (child : Child) : Type 0 where
  pub at : slice_get roster.children child.number ≡ Some child
  pub short : IsShort roster.noted child
  pub modest : IsModest child

-- it is the child with the k-th of the numbers of those that run
pub record IsKth (k : ℕ) (roster : RosterSeen) (child : Child) : Type 0 where
  pub named : slice_get (running_of roster.children) k ≡ Some child.number
  pub is : IsChildOf roster child
  pub goes : runs child.stay ≡ true

abbrev pub IsFound : ℕ → RosterSeen → Option Child → Type 0
IsFound number roster None = slice_get roster.children number ≡ None
IsFound number roster (Some child) = (child.number ≡ number) × IsChildOf roster child

-- it may stand in place of the child with its number
pub record Replaces (new : Child) (roster : RosterSeen) : Type 0 where
  pub old : Child
  pub at : slice_get roster.children new.number ≡ Some old
  pub same : IsSameChild old new
  pub short : IsShort roster.noted new
  pub modest : IsModest new

-- the four are below this number
abbrev pub AreSeats : ℕ → Seats → Type 0
AreSeats most seats = (seats.stdin < most) × (seats.out < most) × (seats.errs < most) × (seats.exit < most)

-- the four are seats of the inbox, and nobody has one of them
pub record MayBeLent (children : List Child) (seats : Seats) : Type 0 where
  pub within : AreSeats 1024 seats
  pub stdin : IsFree seats.stdin children
  pub out : IsFree seats.out children
  pub errs : IsFree seats.errs children
  pub exit : IsFree seats.exit children

-- what could be lent before can be lent still
abbrev pub LeavesFree : (children children_now : List Child) → Type 0
LeavesFree children children_now = (seats : Seats) → MayBeLent children seats → MayBeLent children_now seats

-- no seat of the first four is one of the others
abbrev pub AreApart : (seats others : Seats) → Type 0
AreApart seats others = (seat : ℕ) → is_some (pump_at seat seats) ≡ true → pump_at seat others ≡ None

-- who is named for each seat, once the four are lent to the child with this number
abbrev pub lend_to : ℕ → Seats → List (Option ℕ) → List (Option ℕ)
lend_to number seats holders =
    slice_set
    (slice_set (slice_set (slice_set holders seats.stdin (Some number)) seats.out (Some number)) seats.errs (Some number))
    seats.exit (Some number)

-- the child with the k-th of the numbers of those that run does so no longer
pub record RosterLeaves (k : ℕ) (stay : Stay) (children children_now : List Child) : Type 0 where
  pub child : Child
  pub named : slice_get (running_of children) k ≡ Some child.number
  pub at : slice_get children child.number ≡ Some child
  pub now : children_now ≡ slice_set children child.number (record child { stay = stay })
  pub running : running_of children_now ≡ remove (running_of children) k

-- Where the child with the k-th of the numbers of those that run is gone, its seats can be lent, and they are no others that
-- could be lent before.
pub record GivesBack (k : ℕ) (stay : Stay) (children children_now : List Child) : Type 0 where
  pub child : Child
  pub named : slice_get (running_of children) k ≡ Some child.number
  pub at : slice_get children child.number ≡ Some child
  pub free : stay ≡ Gone → MayBeLent children_now child.seats
  pub apart : (others : Seats) → MayBeLent children others → AreApart others child.seats
