-- Who has a seat.
use Rattle.std.specs.Prelude.{◌≡◌, ℕ, List, Option, Some, None, slice_get}
use Rattle.model_hub.specs.declared.child.Child.{Child}
use Rattle.model_hub.specs.Children.{pump_of}
use Rattle.aio_serving.specs.Served.{IsModest}
use Rattle.aio_roster.specs.declared.roster.Holder.{Holder}
use Rattle.aio_roster.specs.Rosters.{RosterSeen, IsFree, IsHis, IsShort}

-- A child has the seat, on which its pump posts, and nobody else.
pub record HasSeat (seat : ℕ) (roster : RosterSeen) (holder : Holder) : Type 0 where
  pub at : slice_get roster.children holder.number ≡ Some holder.child
  pub has : pump_of seat holder.child ≡ Some holder.pump
  pub only : IsHis seat roster.children holder.number
  pub numbered : holder.child.number ≡ holder.number
  pub short : IsShort roster.noted holder.child
  pub modest : IsModest holder.child

abbrev pub HoldsSeat : ℕ → RosterSeen → Option Holder → Type 0
HoldsSeat seat roster None = IsFree seat roster.children
HoldsSeat seat roster (Some holder) = HasSeat seat roster holder

-- the child that is named for a seat
abbrev pub named_in : List (Option ℕ) → ℕ → Option ℕ
named_in holders seat = elim (slice_get holders seat) [ None ↦ None | Some named ↦ named ]

-- the child with this number has the seat, or it doesn't, or isn't there
abbrev pub HeldBy : ℕ → List Child → ℕ → Option Holder → Type 0
HeldBy seat children number None = (child : Child) → slice_get children number ≡ Some child → pump_of seat child ≡ None
HeldBy seat children number (Some holder) =
    (holder.number ≡ number) × (slice_get children number ≡ Some holder.child) × (pump_of seat holder.child ≡ Some holder.pump)
