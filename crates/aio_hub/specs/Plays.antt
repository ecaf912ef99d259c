-- What the pumps of a child in memory do: each posts the kinds that it was given, as long as the inbox takes them.
use Rattle.std.specs.Prelude.{◌≡◌, ◌⊎◌, ℕ, ◌+◌, List, [], ◌∷◌, ◌++◌, length, Option, Some, None}
use Rattle.model_pump.specs.Posts.{PostKind}
use Rattle.model_pump.specs.declared.post.PostKind.TheVariants as post
use Rattle.aio_inbox.specs.declared.view.PosterView.{PosterView}
use Rattle.aio_inbox.specs.declared.post.Posting.TheVariants as posting
use Rattle.aio_inbox.specs.Answers.{PostAnswers}
use Rattle.aio_lane.specs.Ends.{TailSeen}
use Rattle.aio_pump.specs.declared.report.Ending.{Ending}
use Rattle.aio_pump.specs.declared.report.Ending.TheVariants as ending
use Rattle.aio_pump.specs.declared.report.PumpReport.{PumpReport}
use Rattle.aio_pump.specs.Moments.{all_posted, told}
use Rattle.aio_hub.specs.declared.kit.PumpKit.{PumpKit}
use Rattle.aio_hub.specs.declared.kit.PumpReports.{PumpReports}

-- what the four pumps of a child are to post
pub record ChildPosts : Type 0 where
  pub stdin : List PostKind
  pub out : List PostKind
  pub errs : List PostKind
  pub exit : List PostKind

abbrev pub no_posts : ChildPosts
no_posts = record { stdin = []; out = []; errs = []; exit = [] }

-- how many bytes the pump moved that posts this
abbrev pub bytes_moved : PostKind → ℕ
bytes_moved (post.Piece stream offset bytes) = length bytes
bytes_moved (post.End stream) = 0
bytes_moved post.Room = 0
bytes_moved post.Broken = 0
bytes_moved (post.Exit code) = 0
bytes_moved post.Fault = 0
bytes_moved post.Starved = 0

abbrev pub all_moved : List PostKind → ℕ
all_moved [] = 0
all_moved (kind ∷ kinds) = bytes_moved kind + all_moved kinds

-- why the pump ended whose last post was this; after a piece or a room it goes on until it is stopped
abbrev pub ending_by : PostKind → Ending
ending_by (post.Piece stream offset bytes) = ending.Stopped
ending_by (post.End stream) = ending.Ended
ending_by post.Room = ending.Stopped
ending_by post.Broken = ending.Failed
ending_by (post.Exit code) = ending.Ended
ending_by post.Fault = ending.Failed
ending_by post.Starved = ending.Memory

-- why the pump ended that posted these, by the last of them
abbrev pub ending_after : Ending → List PostKind → Ending
ending_after so [] = so
ending_after so (kind ∷ kinds) = ending_after (ending_by kind) kinds

-- A front of these kinds was posted, and these are left: what became of the poster, how many bytes were moved, and why the
-- pump ended by what it posted.
pub record PostsFront (kinds left : List PostKind) (before after : PosterView) (moved : ℕ) (by : Ending) : Type 0 where
  pub posted : List PostKind
  pub front : kinds ≡ posted ++ left
  pub poster : after ≡ all_posted before posted
  pub moves : moved ≡ told (all_moved posted)
  pub ends : by ≡ ending_after ending.Stopped posted

-- Why no more was posted: nothing is left, or the first that is left found the inbox full, or the poster spent.
abbrev pub Halts : List PostKind → PosterView → Ending → Ending → Type 0
Halts [] poster by so = so ≡ by
Halts (kind ∷ left) poster by so =
    (PostAnswers (posting.Full kind) kind poster poster × (so ≡ by))
    ⊎ (PostAnswers (posting.Spent kind) kind poster poster × (so ≡ ending.Spent))

-- What a pump in memory reports that was given these kinds.
pub record Plays (kinds : List PostKind) (poster : PosterView) (tail : Option TailSeen) (report : PumpReport PosterView)
    : Type 0 where
  pub left : List PostKind
  pub by : Ending
  pub posts : PostsFront kinds left poster report.poster report.moved by
  pub halts : Halts left report.poster by report.ending
  pub same : report.tail ≡ tail

-- The reports of the four pumps of a child, each over its own of the kit.
pub record PlaysAll {Inbox : Type 0} (kinds : ChildPosts) (kit : PumpKit Inbox PosterView) (run : PumpReports PosterView)
    : Type 0 where
  pub stdin : Plays kinds.stdin kit.stdin_seat (Some kit.stdin) run.stdin
  pub out : Plays kinds.out kit.out_seat (Some kit.out) run.out
  pub errs : Plays kinds.errs kit.errs_seat (Some kit.errs) run.errs
  pub exit : Plays kinds.exit kit.exit_seat None run.exit
