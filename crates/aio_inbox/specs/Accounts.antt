-- What the taker has of a settled seat.
use Rattle.std.specs.Prelude.{◌≡◌, ◌<◌}
use mathlib.Core.List.{IsPrefix}
use Rattle.model_pump.specs.Posts.{posts_of}
use Rattle.aio_inbox.specs.declared.view.SettledSeat.{SettledSeat}
use Rattle.aio_inbox.specs.declared.view.TakerView.{TakerView}

-- what was taken of the seat is a prefix of what was posted on it
abbrev pub Begins : TakerView → SettledSeat → Type 0
Begins v s = IsPrefix (posts_of s.seat v.taken) s.posted

-- it is all of it
abbrev pub IsWhole : TakerView → SettledSeat → Type 0
IsWhole v s = posts_of s.seat v.taken ≡ s.posted

-- it is all of it from the first take on that found nothing after the seat was settled
abbrev pub Ends : TakerView → SettledSeat → Type 0
Ends v s = s.nones < v.nones → IsWhole v s
