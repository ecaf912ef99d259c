-- What a post does, by its answer.
use Rattle.std.specs.Prelude.{◌≡◌, ◌<◌, ◌^◌, length}
use Rattle.crossbeam_queue.specs.Fifo.{Held}
use Rattle.model_pump.specs.Posts.{PostKind}
use Rattle.aio_inbox.specs.declared.post.Posting.{Posting}
use Rattle.aio_inbox.specs.declared.post.Posting.TheVariants.{Posted, Full, Spent}
use Rattle.aio_inbox.specs.declared.view.PosterView.{PosterView}
use Rattle.aio_inbox.specs.Views.{with_posted}
use Rattle.aio_inbox.specs.Steps.{IsHeldOf}

-- the poster made 2^51 posts exactly where it is spent. What is not posted comes back and nothing changed; and where
-- the poster is not spent, the inbox held 1,024 posts at a step of the call
abbrev pub PostAnswers : Posting → PostKind → PosterView → PosterView → Type 0
PostAnswers Posted kind v w = (length v.posted < 2 ^ 51) × (w ≡ with_posted v kind)
PostAnswers (Full back) kind v w = (length v.posted < 2 ^ 51) × (w ≡ v) × (back ≡ kind) × Held 1024 (IsHeldOf v)
PostAnswers (Spent back) kind v w = (length v.posted ≡ 2 ^ 51) × (w ≡ v) × (back ≡ kind)
