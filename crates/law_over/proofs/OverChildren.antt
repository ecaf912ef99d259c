-- A child that is over stays over.
use Rattle.std.proofs.Common.{◌≡◌, ℕ, ℤ, Bool, true, false, cond, not, ◌&&◌, ◌||◌, ◌==◌, List, [], ◌∷◌, ◌++◌, Option, Some, None, refl, is_none, is_some}
use Rattle.model_pump.specs.declared.stream.Stream.{Stream}
use Rattle.model_pump.specs.declared.stream.Stream.TheVariants as stream
use Rattle.model_value.specs.declared.action.ChildItem.{ChildItem}
use Rattle.model_value.specs.declared.action.ChildItem.TheVariants.{Broken, Out, OutEnd, Errs, ErrsEnd, Exit}
use Rattle.model_value.specs.Value.{Exc}
use Rattle.model_wire.specs.declared.watch.Watch.TheVariants as watch
use Rattle.model_stream.specs.declared.answers.ChildWait.{ChildWait}
use Rattle.model_stream.specs.declared.answers.ChildWait.TheVariants as wait_as
use Rattle.model_stream.specs.declared.answers.StreamGot.TheVariants as got_as
use Rattle.model_stream.specs.declared.answers.Wrote.{Wrote}
use Rattle.model_stream.specs.declared.answers.Wrote.TheVariants as wrote
use Rattle.model_stream.specs.declared.put.Limited.{Limited}
use Rattle.model_stream.specs.declared.read_op.Taken.TheVariants as taken
use Rattle.model_stream.specs.Children.{Child, close_child, drain_child, feed_more, inlet, its_pipe, its_stdin, kill, limits_child, lose_child, tell_child}
use Rattle.model_stream.specs.Children.{told_pipe, wait_child, write_child}
use Rattle.model_stream.specs.Doing.{Doing, Ends, Changes, MakeFuture, and_then, asked_on, on}
use Rattle.model_stream.specs.Reading.{ReadOp, Take, Taken, take_read}
use Rattle.model_stream.specs.Receivers.{AllGot, Receiver, StreamGot, all_taken, give_up_read, read, read_all, read_as, receive, receive_end}
use Rattle.model_stream.specs.Receivers.{second_waiter, takes_more, wait_for_data}
use Rattle.model_stream.specs.Senders.{Sender, Drain, close_sender, drain_sender, has_unsent, is_closing, is_lost, limits_sender, lose_sender}
use Rattle.model_stream.specs.Watching.{entry_if, watched_child}
use Rattle.law_over.specs.AllEnds.{AllEnds}
use Rattle.law_over.specs.Gone.{is_over_child, is_spent}
use Rattle.law_over.proofs.Along.{ends_if, ends_into, ends_map}
use Rattle.law_over.proofs.Spent.{Spent, SpentFirst, both, both_hold, clash, spent_close, spent_closing, spent_drain, spent_ended, spent_limits, spent_lose}
use Rattle.law_over.proofs.Spent.{spent_lost, spent_sent}

abbrev pub OverChild : Child → Type 0
OverChild p = is_over_child p ≡ true

abbrev pub OverChildFirst : {R : Type 0} → Child × R → Type 0
OverChildFirst done = is_over_child done.0 ≡ true

-- ---- a pipe that ended stays so, whatever is read
abbrev EndedFirst : {R : Type 0} → Receiver × R → Type 0
EndedFirst done = done.0.reader.eof ≡ true

ended_waits : (next : ℕ) (r : Receiver) → r.reader.eof ≡ true → AllEnds (EndedFirst {R = StreamGot}) (wait_for_data next r)
ended_waits next r e = at r.waiter
  where
    at : (waiter : Option ℕ) → AllEnds {A = Receiver × StreamGot} EndedFirst (elim waiter [
      | Some future ↦ Ends (r, got_as.Raises second_waiter)
      | None ↦ Changes MakeFuture (Ends (record { reader = record r.reader { paused = false }; waiter = Some next }, got_as.Waits next))
    ])
    at (Some future) = e
    at None = e

ended_as : (next : ℕ) (t : Take) (r : Receiver) (answer : Taken) → r.reader.eof ≡ true → AllEnds (EndedFirst {R = StreamGot}) (read_as answer t next r)
ended_as next t r (taken.Bytes bytes) e = e
ended_as next t r (taken.Raises fault) e = e
ended_as next t r taken.Needs e = ended_waits next r e

ended_read : (next : ℕ) (op : ReadOp) (r : Receiver) → r.reader.eof ≡ true → AllEnds (EndedFirst {R = StreamGot}) (read next op r)
ended_read next op r e = ended_as next (take_read op r.reader) r (take_read op r.reader).answer e

ended_all : (next : ℕ) (r : Receiver) → r.reader.eof ≡ true → AllEnds (EndedFirst {R = AllGot}) (read_all next r)
ended_all next r e = at r.reader.failed
  where
    by : (b : Bool) → AllEnds {A = Receiver × AllGot} EndedFirst (cond b (Ends (all_taken r, record { taken = r.reader.held; got = got_as.Bytes [] }))
        (and_then (wait_for_data next (all_taken r)) (λ done. Ends (done.0, record { taken = r.reader.held; got = done.1 }))))
    by true = e
    by false =
        ends_into {A = Receiver × StreamGot} {B = Receiver × AllGot} EndedFirst (λ done. (done.0, record { taken = r.reader.held; got = done.1 }))
        (wait_for_data next (all_taken r)) (ended_waits next (all_taken r) e)

    at : (failed : Option Exc) → AllEnds {A = Receiver × AllGot} EndedFirst (elim failed [
      | Some fault ↦ Ends (r, record { taken = []; got = got_as.Raises fault })
      | None ↦ cond r.reader.eof (Ends (all_taken r, record { taken = r.reader.held; got = got_as.Bytes [] }))
          (and_then (wait_for_data next (all_taken r)) (λ done. Ends (done.0, record { taken = r.reader.held; got = done.1 })))
    ])
    at (Some fault) = e
    at None = by r.reader.eof

module _ (future : ℕ) (r : Receiver) where
  abbrev given_by : Option ℕ → Receiver
  given_by waiter = elim waiter [ None ↦ r | Some other ↦ cond (other == future) (record r { waiter = None }) r ]

  given_ended : r.reader.eof ≡ true → (give_up_read future r).reader.eof ≡ true
  given_ended e = at r.waiter
    where
      by : (same : Bool) → (cond same (record r { waiter = None }) r).reader.eof ≡ true
      by true = e
      by false = e

      at : (waiter : Option ℕ) → (given_by waiter).reader.eof ≡ true
      at None = e
      at (Some other) = by (other == future)

takes_none : (eof paused : Bool) → eof ≡ true → (not eof && not paused) ≡ false
takes_none true paused e = refl
takes_none false paused e = absurd (let bad : ⊥ = cc in bad)

known_not : (code : Option ℤ) → is_some code ≡ true → is_none code ≡ false
known_not (Some code) e = refl
known_not None e = absurd (let bad : ⊥ = cc in bad)

module _ (id : ℕ) (p : Child) (e : is_over_child p ≡ true) where
  -- ---- what is so of one that is over
  three : ((is_spent p.stdin && p.out.reader.eof && p.errs.reader.eof) ≡ true) × (is_some p.code ≡ true)
  three = both (is_spent p.stdin && p.out.reader.eof && p.errs.reader.eof) (is_some p.code) e

  two : ((is_spent p.stdin && p.out.reader.eof) ≡ true) × (p.errs.reader.eof ≡ true)
  two = both (is_spent p.stdin && p.out.reader.eof) p.errs.reader.eof three.0

  one : (is_spent p.stdin ≡ true) × (p.out.reader.eof ≡ true)
  one = both (is_spent p.stdin) p.out.reader.eof two.0

  exited : is_none p.code ≡ false
  exited = known_not p.code three.1

  over_by : (stdin : Sender) (out errs : Receiver) (code : Option ℤ) (waits : List ℕ) → is_spent stdin ≡ true → out.reader.eof ≡ true
      → errs.reader.eof ≡ true → is_some code ≡ true
      → is_over_child (record { stdin = stdin; out = out; errs = errs; code = code; waits = waits }) ≡ true
  over_by stdin out errs code waits a b c d =
      both_hold (is_spent stdin && out.reader.eof && errs.reader.eof) (is_some code)
      (both_hold (is_spent stdin && out.reader.eof) errs.reader.eof (both_hold (is_spent stdin) out.reader.eof a b) c) d

  abbrev with_stdin : Sender → Child
  with_stdin s = record p { stdin = s }

  over_with : (s : Sender) → is_spent s ≡ true → is_over_child (with_stdin s) ≡ true
  over_with s is = over_by s p.out p.errs p.code p.waits is one.1 two.1 three.1

  on_stdin : (change : Sender → Doing Sender) → AllEnds Spent (change p.stdin) → AllEnds OverChild (on its_stdin change p)
  on_stdin change here =
      ends_into OverChild with_stdin (change p.stdin) (ends_map Spent (λ s. OverChild (with_stdin s)) (change p.stdin) over_with here)

  asked_on_stdin : {R : Type 0} (change : Sender → Doing (Sender × R)) → AllEnds (SpentFirst {R = R}) (change p.stdin)
      → AllEnds (OverChildFirst {R = R}) (asked_on its_stdin change p)
  asked_on_stdin {R} change here =
      ends_into {A = Sender × R} {B = Child × R} OverChildFirst (λ done. (with_stdin done.0, done.1)) (change p.stdin)
      (ends_map SpentFirst (λ done. OverChild (with_stdin done.0)) (change p.stdin) (λ done is. over_with done.0 is) here)

  asked_on_pipe : {R : Type 0} (from : Stream) (change : Receiver → Doing (Receiver × R))
      → ((r : Receiver) → r.reader.eof ≡ true → AllEnds (EndedFirst {R = R}) (change r))
      → AllEnds (OverChildFirst {R = R}) (asked_on (its_pipe from) change p)
  asked_on_pipe {R} stream.Out change each =
      ends_into {A = Receiver × R} {B = Child × R} OverChildFirst (λ done. (record p { out = done.0 }, done.1)) (change p.out)
      (ends_map EndedFirst (λ done. OverChild (record p { out = done.0 })) (change p.out)
      (λ done is. over_by p.stdin done.0 p.errs p.code p.waits one.0 is two.1 three.1) (each p.out one.1))
  asked_on_pipe {R} stream.Errs change each =
      ends_into {A = Receiver × R} {B = Child × R} OverChildFirst (λ done. (record p { errs = done.0 }, done.1)) (change p.errs)
      (ends_map EndedFirst (λ done. OverChild (record p { errs = done.0 })) (change p.errs)
      (λ done is. over_by p.stdin p.out done.0 p.code p.waits one.0 one.1 is three.1) (each p.errs two.1))

  -- ---- callbacks
  pub over_child_feeds : AllEnds OverChild (feed_more id p)
  over_child_feeds =
      ends_if OverChild (has_unsent p.stdin) _ (Ends p) (λ some. clash (has_unsent p.stdin) some (spent_sent p.stdin one.0)) (λ _. e)

  pub over_child_loses : (broken : Bool) → AllEnds OverChild (lose_child id broken p)
  over_child_loses broken = on_stdin (lose_sender (inlet id) broken) (spent_lose (inlet id) broken p.stdin)

  told_none : (from : Stream) (change : Receiver → Doing Receiver) → AllEnds OverChild (told_pipe from change p)
  told_none from change =
      ends_if OverChild (takes_more ((its_pipe from).get p)) (on (its_pipe from) change p) (Ends p)
      (λ more. clash (takes_more ((its_pipe from).get p)) more (none from)) (λ _. e)
    where
      none : (from : Stream) → takes_more ((its_pipe from).get p) ≡ false
      none stream.Out = takes_none p.out.reader.eof p.out.reader.paused one.1
      none stream.Errs = takes_none p.errs.reader.eof p.errs.reader.paused two.1

  pub over_child_told : (item : ChildItem (List ℕ)) → AllEnds OverChild (tell_child id item p)
  over_child_told Broken =
      ends_if OverChild p.stdin.writer.ended (Ends p) _ (λ _. e) (λ live. clash p.stdin.writer.ended (spent_ended p.stdin one.0) live)
  over_child_told (Out bytes) = told_none stream.Out (receive bytes)
  over_child_told OutEnd = told_none stream.Out receive_end
  over_child_told (Errs bytes) = told_none stream.Errs (receive bytes)
  over_child_told ErrsEnd = told_none stream.Errs receive_end
  over_child_told (Exit code) = ends_if OverChild (is_none p.code) _ (Ends p) (λ running. clash (is_none p.code) running exited) (λ _. e)

  -- ---- requests
  pub over_child_closes : AllEnds OverChild (close_child id p)
  over_child_closes = on_stdin (close_sender (inlet id)) (spent_close p.stdin one.0 (inlet id))

  pub over_child_written : (piece : List ℕ) → AllEnds (OverChildFirst {R = Wrote}) (write_child id piece p)
  over_child_written piece =
      ends_if (OverChildFirst {R = Wrote}) (is_closing p.stdin) (Ends (p, wrote.Done)) _ (λ _. e)
      (λ other. clash (is_closing p.stdin) (spent_closing p.stdin one.0) other)

  pub over_child_drains : (yielded : Bool) (next : ℕ) → AllEnds (OverChildFirst {R = Drain}) (drain_child yielded next p)
  over_child_drains yielded next = asked_on_stdin (drain_sender yielded next) (spent_drain p.stdin one.0 yielded next)

  pub over_child_limits : (high low : Option ℤ) → AllEnds (OverChildFirst {R = Limited}) (limits_child high low p)
  over_child_limits high low = asked_on_stdin (limits_sender high low) (spent_limits p.stdin one.0 high low)

  pub over_child_waits : (next : ℕ) → AllEnds (OverChildFirst {R = ChildWait}) (wait_child next p)
  over_child_waits next = by p.code
    where
      by : (code : Option ℤ) → AllEnds {A = Child × ChildWait} OverChildFirst (elim code [
        | Some code ↦ Ends (p, wait_as.Code code)
        | None ↦ Changes MakeFuture (Ends (record p { waits = p.waits ++ next ∷ [] }, wait_as.Waits next))
      ])
      by (Some code) = e
      by None = e

  pub over_child_killed : AllEnds OverChild (kill id p)
  over_child_killed = ends_if OverChild (is_none p.code) _ (Ends p) (λ _ answer. e) (λ _. e)

  pub over_child_read : (next : ℕ) (op : ReadOp) (from : Stream) → AllEnds (OverChildFirst {R = StreamGot}) (asked_on (its_pipe from) (read next op) p)
  over_child_read next op from = asked_on_pipe from (read next op) (ended_read next op)

  pub over_child_read_all : (next : ℕ) (from : Stream) → AllEnds (OverChildFirst {R = AllGot}) (asked_on (its_pipe from) (read_all next) p)
  over_child_read_all next from = asked_on_pipe from (read_all next) (ended_all next)

  pub over_child_given : (on : ℕ) (from : Stream) → OverChild ((its_pipe from).put (give_up_read on ((its_pipe from).get p)) p)
  over_child_given on stream.Out =
      over_by p.stdin (give_up_read on p.out) p.errs p.code p.waits one.0 (given_ended on p.out one.1) two.1 three.1
  over_child_given on stream.Errs =
      over_by p.stdin p.out (give_up_read on p.errs) p.code p.waits one.0 one.1 (given_ended on p.errs two.1) three.1

  -- ---- and is watched no more
  pub over_child_unwatched : watched_child id (Some p) ≡ []
  over_child_unwatched =
      by (has_unsent p.stdin) (is_lost p.stdin) (takes_more p.out) (takes_more p.errs) (is_none p.code) (spent_sent p.stdin one.0)
      (spent_lost p.stdin one.0) (takes_none p.out.reader.eof p.out.reader.paused one.1)
      (takes_none p.errs.reader.eof p.errs.reader.paused two.1) exited
    where
      by : (feeds lost out errs exit : Bool) → feeds ≡ false → lost ≡ true → out ≡ false → errs ≡ false → exit ≡ false
          → entry_if (feeds || not lost || out || errs || exit) (watch.Child id feeds (not lost) out errs exit) ≡ []
      by false true false false false a b c d f = refl
      by true lost out errs exit a b c d f = absurd (let bad : ⊥ = cc in bad)
      by false false out errs exit a b c d f = absurd (let bad : ⊥ = cc in bad)
      by false true true errs exit a b c d f = absurd (let bad : ⊥ = cc in bad)
      by false true false true exit a b c d f = absurd (let bad : ⊥ = cc in bad)
      by false true false false true a b c d f = absurd (let bad : ⊥ = cc in bad)
