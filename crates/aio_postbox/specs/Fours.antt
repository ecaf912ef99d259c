-- The seats of posters by fours.
use Rattle.std.specs.Prelude.{◌≡◌, ℕ, List, map}
use Rattle.model_hub.specs.declared.child.Seats.{Seats}
use Rattle.model_hub.specs.Hub.{seats_for}
use Rattle.aio_inbox.specs.declared.view.PosterView.{PosterView}
use Rattle.aio_inbox.specs.Views.{new_posters}
use Rattle.aio_postbox.specs.declared.four.Four.{Four}

abbrev pub seats_of : {N : Type 0} → Four N → Seats
seats_of four = record { stdin = four.stdin.seat; out = four.out.seat; errs = four.errs.seat; exit = four.exit.seat }

abbrev pub seats_in : {N : Type 0} → List (Four N) → List Seats
seats_in fours = map seats_of fours

-- the posters of all 1,024 seats of an inbox, of which nothing was posted
pub record AllPosters (posters : List PosterView) : Type 0 where
  pub count : ℕ
  pub is : count ≡ 1024
  pub all : posters ≡ new_posters count

-- these are the 256 fours of the seats of an inbox
pub record AllFours {N : Type 0} (fours : List (Four N)) : Type 0 where
  pub count : ℕ
  pub is : count ≡ 256
  pub all : seats_in fours ≡ seats_for count
