-- How many posts of each seat were taken.
use Rattle.std.specs.Prelude.{◌≡◌, ℕ, ◌≤◌, ◌^◌, Bool, ◌&&◌, ◌==◌, List, Some, length, nat_lt, slice_get}
use Rattle.model_pump.specs.Posts.{posts_of}
use Rattle.aio_inbox.specs.declared.view.PosterView.{PosterView}
use Rattle.aio_inbox.specs.declared.view.TakerView.{TakerView}

-- these are the numbers of the posts that were taken of each seat
pub record Counts (counts : List ℕ) (taker : TakerView) : Type 0 where
  pub sized : length counts ≡ 1024
  pub seats : taker.seats ≡ 1024
  pub few : length taker.taken ≤ 2 ^ 61
  pub each : (seat count : ℕ) → slice_get counts seat ≡ Some count → count ≡ length (posts_of seat taker.taken)

-- it is a seat of the inbox, the poster is on it, and all that it posted was taken
abbrev pub is_home : TakerView → PosterView → ℕ → Bool
is_home taker poster seat =
    nat_lt seat taker.seats && (poster.seat == seat && length poster.posted == length (posts_of seat taker.taken))
