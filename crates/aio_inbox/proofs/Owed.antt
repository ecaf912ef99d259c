-- What each call owes to the queue, of a pass of which it is known whose it is.
use Rattle.std.proofs.Common.{◌≡◌, ℕ, ◌<◌, ◌^◌, sym, subst, ◌∙◌, arith}
use Rattle.crossbeam_queue.specs.Fifo.{Pushes, Pops, Forks, Merges, Learns}
use Rattle.model_pump.specs.Posts.{Post}
use Rattle.aio_inbox.specs.declared.view.PosterView.{PosterView}
use Rattle.aio_inbox.specs.declared.view.TakerView.{TakerView}
use Rattle.aio_inbox.specs.declared.view.InboxView.{InboxView}
use Rattle.aio_inbox.specs.declared.view.InboxView.TheVariants.{Posts, Takes, Nobody}
use Rattle.aio_inbox.specs.Views.{poster_of}
use Rattle.aio_inbox.specs.Delivers.{Delivers}
use Rattle.aio_inbox.specs.Steps.{Adds, Gets, HasRest, Awaits, after_seat, seat_made, after_none, after_settling}
use Rattle.aio_inbox.specs.Ends.{IsPoster}
use Rattle.aio_inbox.proofs.Keeping.{posts, has_rest, takes, awaits, seats, counts, settles}

pub may_post : (n pass seat count : ℕ) (v : InboxView) (x : Post) → n ≡ 1024 → IsPoster seat count v → count < 2 ^ 51
    → x.seat ≡ seat → x.number ≡ count → Pushes Delivers n pass v x (Adds v x) × Learns Delivers pass v (HasRest v)
may_post n pass seat count v x sized is room seat_is number_is =
    let u = poster_of v in
    subst (λ (z : InboxView). Pushes Delivers n pass z x (Adds z x) × Learns Delivers pass z (HasRest z)) (sym is.0)
    (posts n pass u x sized (seat_is ∙ sym is.1) (number_is ∙ sym is.2) (let made = is.2 in omega (arith, made, room)), has_rest pass u)

pub may_take : (pass : ℕ) (v : InboxView) (t : TakerView) → v ≡ Takes t → Pops Delivers pass v (Gets v) × Learns Delivers pass v (Awaits v)
may_take pass v t is =
    subst (λ (z : InboxView). Pops Delivers pass z (Gets z) × Learns Delivers pass z (Awaits z)) (sym is) (takes pass t, awaits pass t)

pub may_seat : (pass : ℕ) (v : InboxView) (t : TakerView) → v ≡ Takes t → t.seats < 1024 → Forks Delivers pass v (after_seat v) (seat_made v)
may_seat pass v t is few = subst (λ (z : InboxView). Forks Delivers pass z (after_seat z) (seat_made z)) (sym is) (seats pass t few)

pub may_count : (pass : ℕ) (v : InboxView) (t : TakerView) → v ≡ Takes t → Forks Delivers pass v (after_none v) Nobody
may_count pass v t is = subst (λ (z : InboxView). Forks Delivers pass z (after_none z) Nobody) (sym is) (counts pass t)

pub may_settle : (pass : ℕ) (v : InboxView) (t : TakerView) (other : ℕ) (u : InboxView) (p : PosterView) → v ≡ Takes t → u ≡ Posts p
    → Merges Delivers pass v other u (after_settling v u) Nobody
may_settle pass v t other u p is theirs =
    subst (λ (z : InboxView). Merges Delivers pass z other u (after_settling z u) Nobody) (sym is)
    (subst (λ (z : InboxView). Merges Delivers pass (Takes t) other z (after_settling (Takes t) z) Nobody) (sym theirs) (settles pass t other p))
