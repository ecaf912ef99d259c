-- What a hub keeps as it is made.
use Rattle.std.specs.Prelude.{◌≡◌, ℕ, [], false}
use Rattle.model_hub.specs.Hub.{seats_for, most_launches}
use Rattle.aio_live.specs.States.{StateSeen}

-- No child was launched, nothing is kept and nothing was taken; the seats of so many launches are free.
pub record IsNew {Run : Type 0} (state : StateSeen Run) : Type 0 where
  pub count : ℕ
  pub is : count ≡ most_launches
  pub hub : state.hub ≡ record { children = []; kept = []; free = seats_for count; taken = []; starved = false }
  pub nones : state.nones ≡ 0
  pub lanes : state.lanes ≡ []
