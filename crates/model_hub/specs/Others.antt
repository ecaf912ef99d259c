-- What the others do in one call of the hub, and what it answers.
use Rattle.std.specs.Prelude.{ℕ, Bool, true, false, List}
use Rattle.model_wire.specs.Call.{Item, Answer}
use Rattle.model_pump.specs.declared.stream.Stream.{Stream}
use Rattle.model_hub.specs.declared.giving.Giving.{Giving}
use Rattle.model_hub.specs.declared.giving.Giving.TheVariants.{Given, Full, Spent}
use Rattle.model_pump.specs.Posts.{Post}

-- what one call offers to a lane of a child, at most once each: a Go to that of a stream, a Close or a Write to that of the
-- standard input
pub data Offer : Type 0 where
  OfGo : Stream → Offer
  OfClose : Offer
  OfWrite : Offer

abbrev pub is_given : Giving → Bool
is_given Given = true
is_given Full = false
is_given Spent = false

-- what the lanes of the child with this number answer
abbrev pub Lanes : Type 0
Lanes = ℕ → Offer → Giving

-- what the poller answers to a poll
pub data Polled : Type 0 where
  Ready : ℕ → List Item → Polled
  PollFailed : Polled
  PollStarved : Polled

-- what the launcher answers
pub data Launching : Type 0 where
  Started : Launching
  NotStarted : Launching
  NoMemory : Launching

-- A pump's report as far as seats go: the seat of the poster that it gives back, and how many posts that made.
pub record Back : Type 0 where
  pub seat : ℕ
  pub count : ℕ

-- what a call answers
pub data Said : Type 0 where
  Got : Answer → Said
  Failed : Said
  Memory : Said

-- The lanes' answers; the poller's to a poll and to a call on a socket; the posts that were taken, in order; what the
-- launcher answers; and what it reports of the run of the child with this number, where that is taken in.
pub record Others : Type 0 where
  pub lanes : Lanes
  pub polled : Polled
  pub net : Said
  pub posts : List Post
  pub launching : Launching
  pub reports : ℕ → List Back
