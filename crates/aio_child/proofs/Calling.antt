-- What a child's calls come to, by the tree.
use Rattle.std.proofs.Common.{◌≡◌, ℕ, ℤ, Bool, true, false, not, ◌&&◌, List, [], ◌∷◌, ◌++◌, Option, Some, None, Result, Ok, Err}
use Rattle.std.proofs.Common.{is_none, ◌∙◌, refl, ap, subst}
use Rattle.model_pump.specs.declared.stream.Stream.{Stream}
use Rattle.model_value.specs.declared.outcome.Outcome.TheVariants.{Value as Returned}
use Rattle.model_value.specs.Value.{Int}
use Rattle.model_wire.specs.declared.call.Call.TheVariants as call
use Rattle.model_stream.specs.declared.answers.ChildWait.{ChildWait}
use Rattle.model_stream.specs.declared.answers.ChildWait.TheVariants as wait_as
use Rattle.model_stream.specs.declared.answers.Wrote.{Wrote}
use Rattle.model_stream.specs.declared.answers.Wrote.TheVariants as wrote
use Rattle.model_stream.specs.Children.{Child, inlet, its_stdin, its_pipe, lose_child, fed, feed_more, break_stdin, told_pipe, exit_with, write_child}
use Rattle.model_stream.specs.Children.{wait_child, kill}
use Rattle.model_stream.specs.Doing.{Doing, Ends, Changes, Asks, MakeFuture, and_then, asks, asked_on, on, settles}
use Rattle.model_stream.specs.Receivers.{Receiver, takes_more}
use Rattle.model_stream.specs.Senders.{has_unsent, is_closing, is_flushed, schedule_loss, send_more, write}
use Rattle.aio_wire.specs.Outside.{Outside}
use Rattle.aio_wire.specs.declared.stop.Stop.{Stop}
use Rattle.aio_exchange.specs.Follows.{Follows, Reach}
use Rattle.aio_exchange.specs.Tells.{Tells}
use Rattle.aio_exchange.specs.Ways.{changed_on}
use Rattle.aio_exchange.proofs.Following.{follows_ends, follows_stopped, follows_then, follows_unless, follows_where}
use Rattle.aio_exchange.proofs.Telling.{tells_changed, tells_end, tells_ends, tells_unless, tells_where}
use Rattle.aio_task.specs.View.{View}
use Rattle.aio_change.specs.Owned.{settled_way}
use Rattle.aio_change.specs.Seen.{seen_changed}
use Rattle.aio_change.proofs.InOrder.{tells_settles}

open_still : (eof paused : Bool) → (not eof && not paused) ≡ true → eof ≡ false
open_still false paused e = refl
open_still true paused e = absurd (let bad : ⊥ = cc in bad)

-- one that takes more hasn't ended
pub takes_open : (r : Receiver) → takes_more r ≡ true → r.reader.eof ≡ false
takes_open r e = open_still r.reader.eof r.reader.paused e

-- ---- what asks nothing
module _ (p : Child) where
  -- ---- what a pipe tells
  module _ (pipe : Stream) (change : Receiver → Doing Receiver) where
    pub told_nothing : (at : View) → takes_more ((its_pipe pipe).get p) ≡ false → Tells seen_changed (told_pipe pipe change p) at at p
    told_nothing at e =
        tells_unless seen_changed (takes_more ((its_pipe pipe).get p)) (on (its_pipe pipe) change p) (Ends p) at at p e (tells_ends seen_changed p at)

    pub told_so : (after : Child) (old new : View) → takes_more ((its_pipe pipe).get p) ≡ true
        → Tells seen_changed (on (its_pipe pipe) change p) old new after → Tells seen_changed (told_pipe pipe change p) old new after
    told_so after old new e told =
        tells_where seen_changed (takes_more ((its_pipe pipe).get p)) (on (its_pipe pipe) change p) (Ends p) old new after e told

  -- ---- a standard input that broke
  module _ (id : ℕ) where
    abbrev breaks : Doing Child
    breaks = on its_stdin (schedule_loss (inlet id) (has_unsent p.stdin)) p

    pub broken_before : (at : View) → p.stdin.writer.ended ≡ true → Tells seen_changed (break_stdin id p) at at p
    broken_before at e = tells_where seen_changed p.stdin.writer.ended (Ends p) breaks at at p e (tells_ends seen_changed p at)

    pub broken_now : (unsent : Bool) (after : Child) (old new : View) → p.stdin.writer.ended ≡ false → unsent ≡ has_unsent p.stdin
        → Tells seen_changed (on its_stdin (schedule_loss (inlet id) unsent) p) old new after → Tells seen_changed (break_stdin id p) old new after
    broken_now unsent after old new e same told =
        tells_unless seen_changed p.stdin.writer.ended (Ends p) breaks old new after e
        (subst (λ b. Tells seen_changed (on its_stdin (schedule_loss (inlet id) b) p) old new after) same told)

  -- ---- the exit
  module _ (code : ℤ) where
    abbrev exits : Doing Child
    exits = settles p.waits (Returned (Int code)) (Ends (record p { code = Some code; waits = [] }))

    pub exited_before : (at : View) → is_none p.code ≡ false → Tells seen_changed (exit_with code p) at at p
    exited_before at e = tells_unless seen_changed (is_none p.code) exits (Ends p) at at p e (tells_ends seen_changed p at)

    pub exits_now : (after : Child) (old new : View) → is_none p.code ≡ true
        → new ≡ changed_on seen_changed (settled_way (Returned (Int code)) p.waits) old → after ≡ record p { code = Some code; waits = [] }
        → Tells seen_changed (exit_with code p) old new after
    exits_now after old new e parts is =
        tells_where seen_changed (is_none p.code) exits (Ends p) old new after e
        (tells_settles p.waits (Returned (Int code)) (Ends (record p { code = Some code; waits = [] })) old new new after parts
        (tells_end seen_changed (record p { code = Some code; waits = [] }) after new is))

  -- ---- a wait for the exit
  module _ (next : ℕ) where
    abbrev waits_by : Option ℤ → Doing (Child × ChildWait)
    waits_by code = elim code [
      | Some code ↦ Ends (p, wait_as.Code code)
      | None ↦ Changes MakeFuture (Ends (record p { waits = p.waits ++ next ∷ [] }, wait_as.Waits next))
    ]

    pub waits_no_more : (code : ℤ) (at : View) → Some code ≡ p.code → Tells seen_changed (wait_child next p) at at (p, wait_as.Code code)
    waits_no_more code at is =
        subst (λ code_of. Tells seen_changed (waits_by code_of) at at (p, wait_as.Code code)) is
        (tells_ends seen_changed {A = Child × ChildWait} (p, wait_as.Code code) at)

    pub waits_now : (on : ℕ) (after : Child) (old new : View) → None ≡ p.code → on ≡ next → new ≡ seen_changed MakeFuture old
        → after ≡ record p { waits = p.waits ++ on ∷ [] } → Tells seen_changed (wait_child next p) old new (after, wait_as.Waits on)
    waits_now on after old new none same parts is =
        subst (λ code_of. Tells seen_changed (waits_by code_of) old new (after, wait_as.Waits on)) none
        (tells_changed seen_changed MakeFuture (Ends (record p { waits = p.waits ++ next ∷ [] }, wait_as.Waits next)) old new new
        (after, wait_as.Waits on) parts
        (tells_end seen_changed {A = Child × ChildWait} (record p { waits = p.waits ++ next ∷ [] }, wait_as.Waits next)
        (after, wait_as.Waits on) new
        (ap (λ a. (a, wait_as.Waits on)) is ∙ ap (λ n. (record p { waits = p.waits ++ n ∷ [] }, wait_as.Waits n)) same)))

-- ---- what asks
module _ {W : Type 0} (o : Outside W) (id : ℕ) (p : Child) where
  -- ---- `writable`
  abbrev feeds_more : Doing Child
  feeds_more = on its_stdin (send_more (inlet id)) p

  pub nothing_unsent : (at : Reach View W) → has_unsent p.stdin ≡ false → Follows o seen_changed (feed_more id p) at at (Ok p)
  nothing_unsent at e =
      follows_unless o seen_changed (has_unsent p.stdin) (and_then feeds_more (fed id)) (Ends p) at at (Ok p) e
      (follows_ends o seen_changed p at)

  pub feeds_then : (between : Child) (old mid new : Reach View W) (result : Result Child Stop) → has_unsent p.stdin ≡ true
      → Follows o seen_changed feeds_more old mid (Ok between) → Follows o seen_changed (fed id between) mid new result
      → Follows o seen_changed (feed_more id p) old new result
  feeds_then between old mid new result e f h =
      follows_where o seen_changed (has_unsent p.stdin) (and_then feeds_more (fed id)) (Ends p) old new result e
      (follows_then o seen_changed feeds_more (fed id) between old mid new result f h)

  pub feeds_stopped : (why : Stop) (old new : Reach View W) → has_unsent p.stdin ≡ true → Follows o seen_changed feeds_more old new (Err why)
      → Follows o seen_changed (feed_more id p) old new (Err why)
  feeds_stopped why old new e f =
      follows_where o seen_changed (has_unsent p.stdin) (and_then feeds_more (fed id)) (Ends p) old new (Err why) e
      (follows_stopped o seen_changed feeds_more (fed id) why old new f)

  pub fed_on : (at : Reach View W) → (is_flushed p.stdin && is_closing p.stdin) ≡ false → Follows o seen_changed (fed id p) at at (Ok p)
  fed_on at e =
      follows_unless o seen_changed (is_flushed p.stdin && is_closing p.stdin) (lose_child id false p) (Ends p) at at (Ok p) e
      (follows_ends o seen_changed p at)

  pub fed_loses : (old new : Reach View W) (result : Result Child Stop) → (is_flushed p.stdin && is_closing p.stdin) ≡ true
      → Follows o seen_changed (lose_child id false p) old new result → Follows o seen_changed (fed id p) old new result
  fed_loses old new result e f =
      follows_where o seen_changed (is_flushed p.stdin && is_closing p.stdin) (lose_child id false p) (Ends p) old new result e f

  -- ---- a write
  pub dropped : (piece : List ℕ) (at : Reach View W) → is_closing p.stdin ≡ true
      → Follows {A = Child × Wrote} o seen_changed (write_child id piece p) at at (Ok (p, wrote.Done))
  dropped piece at e =
      follows_where o seen_changed (is_closing p.stdin) (Ends (p, wrote.Done)) (asked_on its_stdin (write (inlet id) piece) p) at at
      (Ok (p, wrote.Done)) e (follows_ends o seen_changed {A = Child × Wrote} (p, wrote.Done) at)

  pub writes : (piece : List ℕ) (old new : Reach View W) (result : Result (Child × Wrote) Stop) → is_closing p.stdin ≡ false
      → Follows {A = Child × Wrote} o seen_changed (asked_on its_stdin (write (inlet id) piece) p) old new result
      → Follows {A = Child × Wrote} o seen_changed (write_child id piece p) old new result
  writes piece old new result e f =
      follows_unless o seen_changed (is_closing p.stdin) (Ends (p, wrote.Done)) (asked_on its_stdin (write (inlet id) piece) p) old new result e f

  -- ---- `kill`
  pub kills_none : (at : Reach View W) → is_none p.code ≡ false → Follows o seen_changed (kill id p) at at (Ok p)
  kills_none at e =
      follows_unless o seen_changed (is_none p.code) (asks (call.Kill id) (Ends p)) (Ends p) at at (Ok p) e (follows_ends o seen_changed p at)

  pub kills : (old new : Reach View W) (result : Result Child Stop) → is_none p.code ≡ true
      → Follows o seen_changed (Asks (call.Kill id) (λ came. Ends p)) old new result → Follows o seen_changed (kill id p) old new result
  kills old new result e f =
      follows_where o seen_changed (is_none p.code) (asks (call.Kill id) (Ends p)) (Ends p) old new result e f
