-- What the pass of a poster, and that of the taker, always know.
use Rattle.std.specs.Prelude.{◌≡◌, ◌≤◌, ◌^◌, ℕ, length, All}
use Rattle.aio_inbox.specs.declared.view.InboxView.{InboxView}
use Rattle.aio_inbox.specs.declared.view.InboxView.TheVariants.{Posts, Takes}
use Rattle.aio_inbox.specs.Numbers.{IsNumbered}
use Rattle.aio_inbox.specs.Views.{poster_of, taker_of}
use Rattle.aio_inbox.specs.Accounts.{Begins, Ends}

-- a poster on this seat, which made this many posts
abbrev pub IsPoster : ℕ → ℕ → InboxView → Type 0
IsPoster seat count v =
    (v ≡ Posts (poster_of v)) × ((poster_of v).seat ≡ seat) × (length (poster_of v).posted ≡ count)
    × (count ≤ 2 ^ 51) × IsNumbered seat (poster_of v).posted

abbrev pub IsTaker : InboxView → Type 0
IsTaker v =
    (v ≡ Takes (taker_of v))
    × All (Begins (taker_of v)) (taker_of v).settled
    × All (Ends (taker_of v)) (taker_of v).settled
