-- What a hub keeps holds on, where children are given commands.
use Rattle.std.proofs.Common.{ℕ, ◌≤◌, ◌^◌, List, [], ◌∷◌, length}
use Rattle.std.specs.List.{AllByRecursion as Each}
use Rattle.model_hub.specs.declared.child.Child.{Child}
use Rattle.model_hub.specs.declared.child.Seats.{Seats}
use Rattle.model_hub.specs.declared.pump.Pump.{Pump}
use Rattle.aio_serving.specs.Heads.{HeadsSeen}
use Rattle.aio_roster.specs.Changes.{MayBeLent, LeavesFree}
use Rattle.aio_commands.specs.Served.{HaveLanes}
use Rattle.aio_live.specs.States.{IsState}

each_lent : (children children_now : List Child) → LeavesFree children children_now → (free : List Seats) → Each (MayBeLent children) free
    → Each (MayBeLent children_now) free
each_lent children children_now leaves [] lent = tt
each_lent children children_now leaves (seats ∷ more) lent =
    (leaves seats lent.0, each_lent children children_now leaves more lent.1)

pub kept_state : (children children_now : List Child) (free : List Seats) (heads heads_now : HeadsSeen) → IsState children free heads
    → LeavesFree children children_now → HaveLanes children_now heads_now
    → ((n : ℕ) (at : Pump) → length (heads.given n at) ≤ 2 ^ 61 → length (heads_now.given n at) ≤ 2 ^ 61)
    → IsState children_now free heads_now
kept_state children children_now free heads heads_now state leaves lanes few =
    record {
      lanes = lanes;
      few = λ n at. few n at (state.few n at);
      lent = each_lent children children_now leaves free state.lent;
      apart = state.apart;
    }
