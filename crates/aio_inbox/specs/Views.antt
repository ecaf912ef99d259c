-- What passes on the queue know, and what posts and takes make of it.
use Rattle.std.specs.Prelude.{ℕ, zero, suc, ◌+◌, List, [], ◌∷◌, ◌++◌, length}
use Rattle.crossbeam_queue.specs.Passes.{Pass, view}
use Rattle.model_pump.specs.Posts.{Post}
use Rattle.model_pump.specs.Posts.{PostKind}
use Rattle.aio_inbox.specs.declared.view.PosterView.{PosterView}
use Rattle.aio_inbox.specs.declared.view.SettledSeat.{SettledSeat}
use Rattle.aio_inbox.specs.declared.view.TakerView.{TakerView}
use Rattle.aio_inbox.specs.declared.view.InboxView.{InboxView}
use Rattle.aio_inbox.specs.declared.view.InboxView.TheVariants.{Posts, Takes, Nobody}

-- what a pass knows
abbrev pub known_of : Pass Post InboxView → InboxView
known_of pass = view pass

-- ---- posters
abbrev pub new_poster : ℕ → PosterView
new_poster seat = record { seat = seat; posted = [] }

-- the posters of the first n seats
abbrev pub new_posters : ℕ → List PosterView
new_posters zero = []
new_posters (suc n) = new_posters n ++ new_poster n ∷ []

-- the post that a poster makes next
abbrev pub next_post : PosterView → PostKind → Post
next_post v kind = record { seat = v.seat; number = length v.posted; kind = kind }

abbrev pub with_post : PosterView → Post → PosterView
with_post v post = record { seat = v.seat; posted = v.posted ++ post ∷ [] }

abbrev pub with_posted : PosterView → PostKind → PosterView
with_posted v kind = with_post v (next_post v kind)

-- ---- the taker
abbrev pub new_taker : ℕ → TakerView
new_taker seats = record { taken = []; settled = []; seats = seats; nones = 0 }

abbrev pub with_taken : TakerView → Post → TakerView
with_taken v post = record { taken = v.taken ++ post ∷ []; settled = v.settled; seats = v.seats; nones = v.nones }

abbrev pub with_none : TakerView → TakerView
with_none v = record { taken = v.taken; settled = v.settled; seats = v.seats; nones = v.nones + 1 }

abbrev pub with_seat : TakerView → TakerView
with_seat v = record { taken = v.taken; settled = v.settled; seats = v.seats + 1; nones = v.nones }

-- what a poster posted, at the time at which it is settled
abbrev pub settled_by : TakerView → PosterView → SettledSeat
settled_by v poster = record { seat = poster.seat; posted = poster.posted; nones = v.nones }

abbrev pub with_settled : TakerView → PosterView → TakerView
with_settled v poster =
    record { taken = v.taken; settled = v.settled ++ settled_by v poster ∷ []; seats = v.seats; nones = v.nones }

-- ---- which of these a pass is. One that is none of them posted nothing and took nothing
abbrev pub poster_of : InboxView → PosterView
poster_of (Posts v) = v
poster_of (Takes v) = new_poster 0
poster_of Nobody = new_poster 0

abbrev pub taker_of : InboxView → TakerView
taker_of (Posts v) = new_taker 0
taker_of (Takes v) = v
taker_of Nobody = new_taker 0

abbrev pub first_view : InboxView
first_view = Takes (new_taker 0)
