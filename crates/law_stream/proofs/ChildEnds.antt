-- A child that is over stays so, and is watched no more.
use Rattle.std.proofs.Common.{◌≡◌, ◌∙◌, ℕ, ℤ, Bool, true, false, not, ◌&&◌, ◌||◌, ◌==◌, cond, List, [], ◌∷◌, ◌++◌, Option, Some, None, refl, sym, ap}
use Rattle.std.proofs.Common.{is_none, is_some}
use Rattle.model_pump.specs.declared.stream.Stream.{Stream}
use Rattle.model_pump.specs.declared.stream.Stream.TheVariants as stream
use Rattle.model_value.specs.Value.{Exc}
use Rattle.model_value.specs.declared.action.ChildItem.{ChildItem}
use Rattle.model_value.specs.declared.action.ChildItem.TheVariants.{Broken, Out, OutEnd, Errs, ErrsEnd, Exit}
use Rattle.model_wire.specs.declared.call.Call.TheVariants as call
use Rattle.model_wire.specs.declared.watch.Watch.TheVariants as watch
use Rattle.model_stream.specs.declared.answers.ChildWait.{ChildWait}
use Rattle.model_stream.specs.declared.answers.ChildWait.TheVariants as wait_as
use Rattle.model_stream.specs.declared.answers.StreamGot.TheVariants as got_as
use Rattle.model_stream.specs.declared.answers.Wrote.{Wrote}
use Rattle.model_stream.specs.declared.answers.Wrote.TheVariants as wrote
use Rattle.model_stream.specs.declared.phase.Phase.{Phase}
use Rattle.model_stream.specs.declared.phase.Phase.TheVariants as phase
use Rattle.model_stream.specs.declared.read_op.Taken.TheVariants as taken
use Rattle.model_stream.specs.Children.{Child, inlet, its_stdin, its_pipe, fed, tell_child, told_pipe}
use Rattle.model_stream.specs.Children.{write_child, drain_child, wait_child}
use Rattle.model_stream.specs.Doing.{Doing, Ends, Changes, MakeFuture, and_then, asks, asked_on, on, settles}
use Rattle.model_stream.specs.Reading.{Reading, Take, Taken, take_read}
use Rattle.model_stream.specs.Receivers.{Receiver, StreamGot, AllGot, all_taken, receive, receive_end, read, read_all, read_as, second_waiter, takes_more}
use Rattle.model_stream.specs.Receivers.{give_up_read, wait_for_data, wakes}
use Rattle.model_stream.specs.Senders.{Sender, Drain, close_sender, drain_sender, has_unsent, is_closing, is_lost, schedule_loss, send_more, write}
use Rattle.model_stream.specs.Sending.{is_nothing}
use Rattle.model_stream.specs.Watching.{entry_if, watched_child}
use Rattle.law_stream.specs.SoundSenders as senders
use Rattle.law_stream.specs.SoundSenders.{IsSoundSender}
use Rattle.law_stream.specs.Ways.{Move, Always}
use Rattle.law_stream.proofs.Along.{always_if, always_into, always_map}
use Rattle.law_stream.proofs.SenderRuns.{along}
use Rattle.law_stream.specs.ChildEnds.{is_over}
use Rattle.law_stream.specs.ChildSteps.{ChildStep, IsWritable, Loses, IsTold, Closes, Writes, Drains, SetsLimits, WaitsFor, IsKilled, Takes}
use Rattle.law_stream.specs.ChildSteps.{ChildComes, Rests, Steps, May, done}
use Rattle.law_stream.specs.SoundReceivers as receivers
use Rattle.law_stream.proofs.ChildOrder.{step_keeps}

-- ---- what is so of one that is over
all_four : (a b c d : Bool) → (a && b && c && d) ≡ true → (a ≡ true) × (b ≡ true) × (c ≡ true) × (d ≡ true)
all_four true true true true e = (refl, refl, refl, refl)
all_four false b c d e = absurd (let bad : ⊥ = cc in bad)
all_four true false c d e = absurd (let bad : ⊥ = cc in bad)
all_four true true false d e = absurd (let bad : ⊥ = cc in bad)
all_four true true true false e = absurd (let bad : ⊥ = cc in bad)

known_not : (code : Option ℤ) → is_some code ≡ true → is_none code ≡ false
known_not (Some code) e = refl
known_not None e = absurd (let bad : ⊥ = cc in bad)

takes_none : (eof paused : Bool) → eof ≡ true → (not eof && not paused) ≡ false
takes_none true paused e = refl
takes_none false paused e = absurd (let bad : ⊥ = cc in bad)

closing_lost : (s : Sender) → is_lost s ≡ true → is_closing s ≡ true
closing_lost s e = by s.phase e
  where
    by : (p : Phase) → elim p [ phase.Open ↦ false | phase.Closing ↦ false | phase.Losing broken ↦ false | phase.Lost broken ↦ true ] ≡ true
        → elim p [ phase.Open ↦ false | phase.Closing ↦ true | phase.Losing broken ↦ true | phase.Lost broken ↦ true ] ≡ true
    by phase.Open e = e
    by phase.Closing e = refl
    by (phase.Losing broken) e = refl
    by (phase.Lost broken) e = refl

over_lost : (s : Sender) → is_lost s ≡ true → senders.is_over s ≡ true
over_lost s e = by s.phase e
  where
    by : (p : Phase) → elim p [ phase.Open ↦ false | phase.Closing ↦ false | phase.Losing broken ↦ false | phase.Lost broken ↦ true ] ≡ true
        → elim p [ phase.Open ↦ false | phase.Closing ↦ false | phase.Losing broken ↦ true | phase.Lost broken ↦ true ] ≡ true
    by phase.Open e = e
    by phase.Closing e = e
    by (phase.Losing broken) e = refl
    by (phase.Lost broken) e = refl

record IsOver (p : Child) : Type 0 where
  lost : is_lost p.stdin ≡ true
  ended : p.stdin.writer.ended ≡ true
  sent : has_unsent p.stdin ≡ false
  closing : is_closing p.stdin ≡ true
  out : p.out.reader.eof ≡ true
  errs : p.errs.reader.eof ≡ true
  exited : is_none p.code ≡ false

over_so : (p : Child) → IsSoundSender p.stdin → is_over p ≡ true → IsOver p
over_so p sound e =
    let four = all_four (is_lost p.stdin) p.out.reader.eof p.errs.reader.eof (is_some p.code) e in
    let ended : p.stdin.writer.ended ≡ true = sound.over ∙ over_lost p.stdin four.0 in
    record {
      lost = four.0;
      ended = ended;
      sent = ap (λ (bytes : List ℕ). not (is_nothing bytes)) (sound.nothing ended);
      closing = closing_lost p.stdin four.0;
      out = four.1;
      errs = four.2;
      exited = known_not p.code four.3;
    }

clash : (b : Bool) → b ≡ true → b ≡ false → ⊥
clash b one other = let bad : ⊥ = cc in bad

-- ---- a pipe that ended stays so
abbrev HasEnded : List Move → Receiver → Type 0
HasEnded moves r = r.reader.eof ≡ true

abbrev FirstHasEnded : {R : Type 0} → List Move → Receiver × R → Type 0
FirstHasEnded moves it = it.0.reader.eof ≡ true

ended_wakes : (reader : Reading) (waiter : Option ℕ) → reader.eof ≡ true → Always HasEnded (wakes reader waiter)
ended_wakes reader None e = e
ended_wakes reader (Some future) e = e

ended_waits : (next : ℕ) (r : Receiver) → r.reader.eof ≡ true → Always (FirstHasEnded {R = StreamGot}) (wait_for_data next r)
ended_waits next r e = at r.waiter
  where
    at : (waiter : Option ℕ) → Always {A = Receiver × StreamGot} FirstHasEnded (elim waiter [
      | Some future ↦ Ends (r, got_as.Raises second_waiter)
      | None ↦ Changes MakeFuture (Ends (record { reader = record r.reader { paused = false }; waiter = Some next }, got_as.Waits next))
    ])
    at (Some on) = e
    at None = e

ended_read : (next : ℕ) (t : Take) (r : Receiver) (answer : Taken) → r.reader.eof ≡ true → Always (FirstHasEnded {R = StreamGot}) (read_as answer t next r)
ended_read next t r (taken.Bytes bytes) e = e
ended_read next t r (taken.Raises fault) e = e
ended_read next t r taken.Needs e = ended_waits next r e

ended_all : (next : ℕ) (r : Receiver) → r.reader.eof ≡ true → Always (FirstHasEnded {R = AllGot}) (read_all next r)
ended_all next r e = at r.reader.failed
  where
    by : (b : Bool) → Always {A = Receiver × AllGot} FirstHasEnded (cond b (Ends (all_taken r, record { taken = r.reader.held; got = got_as.Bytes [] }))
        (and_then (wait_for_data next (all_taken r)) (λ done. Ends (done.0, record { taken = r.reader.held; got = done.1 }))))
    by true = e
    by false =
        always_into {A = Receiver × StreamGot} {B = Receiver × AllGot} FirstHasEnded (λ done. (done.0, record { taken = r.reader.held; got = done.1 }))
        (wait_for_data next (all_taken r)) (ended_waits next (all_taken r) e)

    at : (failed : Option Exc) → Always {A = Receiver × AllGot} FirstHasEnded (elim failed [
      | Some fault ↦ Ends (r, record { taken = []; got = got_as.Raises fault })
      | None ↦ cond r.reader.eof (Ends (all_taken r, record { taken = r.reader.held; got = got_as.Bytes [] }))
          (and_then (wait_for_data next (all_taken r)) (λ done. Ends (done.0, record { taken = r.reader.held; got = done.1 })))
    ])
    at (Some fault) = e
    at None = by r.reader.eof

module _ (future : ℕ) (r : Receiver) where
  abbrev given_by : Option ℕ → Receiver
  given_by waiter = elim waiter [ None ↦ r | Some other ↦ cond (other == future) (record r { waiter = None }) r ]

  given_ended : r.reader.eof ≡ true → (give_up_read future r).reader.eof ≡ true
  given_ended e = at r.waiter
    where
      by : (same : Bool) → (cond same (record r { waiter = None }) r).reader.eof ≡ true
      by true = e
      by false = e

      at : (waiter : Option ℕ) → (given_by waiter).reader.eof ≡ true
      at None = e
      at (Some other) = by (other == future)

stays_ended : (step : receivers.ReceiverStep) (r : Receiver) → r.reader.eof ≡ true → Always HasEnded (receivers.done step r)
stays_ended (receivers.Receives piece) r e = ended_wakes _ r.waiter e
stays_ended receivers.ReceivesEnd r e = ended_wakes _ r.waiter refl
stays_ended (receivers.IsLost None) r e = ended_wakes _ r.waiter refl
stays_ended (receivers.IsLost (Some fault)) r e = ended_wakes _ r.waiter e
stays_ended (receivers.Reads next op) r e =
    always_into {A = Receiver × StreamGot} HasEnded (λ done. done.0) (read next op r)
    (ended_read next (take_read op r.reader) r (take_read op r.reader).answer e)
stays_ended (receivers.ReadsAll next) r e = always_into {A = Receiver × AllGot} HasEnded (λ done. done.0) (read_all next r) (ended_all next r e)
stays_ended (receivers.GivesUp on) r e = given_ended on r e

-- ---- a child that is over stays so
abbrev StaysOver : List Move → Child → Type 0
StaysOver moves after = is_over after ≡ true

module _ (id : ℕ) (p : Child) (sound : IsSoundSender p.stdin) (e : is_over p ≡ true) where
  so : IsOver p
  so = over_so p sound e

  told_none : (from : Stream) (change : Receiver → Doing Receiver) → Always StaysOver (told_pipe from change p)
  told_none from change =
      always_if StaysOver (takes_more ((its_pipe from).get p)) (on (its_pipe from) change p) (Ends p)
      (λ more. absurd (clash _ more (none from))) (λ _. e)
    where
      none : (from : Stream) → takes_more ((its_pipe from).get p) ≡ false
      none stream.Out = takes_none p.out.reader.eof p.out.reader.paused so.out
      none stream.Errs = takes_none p.errs.reader.eof p.errs.reader.paused so.errs

  told_over : (item : ChildItem (List ℕ)) → Always StaysOver (tell_child id item p)
  told_over Broken =
      always_if StaysOver p.stdin.writer.ended (Ends p) (on its_stdin (schedule_loss (inlet id) (has_unsent p.stdin)) p)
      (λ _. e) (λ live. absurd (clash _ so.ended live))
  told_over (Out bytes) = told_none stream.Out (receive bytes)
  told_over OutEnd = told_none stream.Out receive_end
  told_over (Errs bytes) = told_none stream.Errs (receive bytes)
  told_over ErrsEnd = told_none stream.Errs receive_end
  told_over (Exit code) =
      always_if StaysOver (is_none p.code) (settles p.waits _ (Ends (record p { code = Some code; waits = [] }))) (Ends p)
      (λ running. absurd (clash _ running so.exited)) (λ _. e)

  abbrev WithStdin : List Move → Sender → Type 0
  WithStdin moves s = is_over (record p { stdin = s }) ≡ true

  abbrev FirstWithStdin : {R : Type 0} → List Move → Sender × R → Type 0
  FirstWithStdin moves it = is_over (record p { stdin = it.0 }) ≡ true

  closes_over : Always WithStdin (close_sender (inlet id) p.stdin)
  closes_over = always_if WithStdin (is_closing p.stdin) (Ends p.stdin) _ (λ _. e) (λ other. absurd (clash _ so.closing other))

  drains_over : (yielded : Bool) (next : ℕ) → Always (FirstWithStdin {R = Drain}) (drain_sender yielded next p.stdin)
  drains_over yielded next =
      always_if (FirstWithStdin {R = Drain}) (is_closing p.stdin && not yielded) _ _ (λ _. e)
      (λ _. always_if (FirstWithStdin {R = Drain}) (is_lost p.stdin) _ _ (λ _. e) (λ other. absurd (clash _ so.lost other)))

  abbrev FirstStays : {R : Type 0} → List Move → Child × R → Type 0
  FirstStays moves it = is_over it.0 ≡ true

  waits_over : (next : ℕ) → Always (FirstStays {R = ChildWait}) (wait_child next p)
  waits_over next = by p.code
    where
      by : (code : Option ℤ) → Always {A = Child × ChildWait} FirstStays (elim code [
        | Some code ↦ Ends (p, wait_as.Code code)
        | None ↦ Changes MakeFuture (Ends (record p { waits = p.waits ++ next ∷ [] }, wait_as.Waits next))
      ])
      by (Some code) = e
      by None = e

  pipe_over : (from : Stream) (step : receivers.ReceiverStep) → Always StaysOver (on (its_pipe from) (receivers.done step) p)
  pipe_over stream.Out step =
      always_into StaysOver (λ out. record p { out = out }) (receivers.done step p.out)
      (always_map HasEnded (λ moves r. is_over (record p { out = r }) ≡ true) (receivers.done step p.out)
      (λ moves r ended. ap (λ b. is_lost p.stdin && b && p.errs.reader.eof && is_some p.code) (ended ∙ sym so.out) ∙ e) (stays_ended step p.out so.out))
  pipe_over stream.Errs step =
      always_into StaysOver (λ errs. record p { errs = errs }) (receivers.done step p.errs)
      (always_map HasEnded (λ moves r. is_over (record p { errs = r }) ≡ true) (receivers.done step p.errs)
      (λ moves r ended. ap (λ b. is_lost p.stdin && p.out.reader.eof && b && is_some p.code) (ended ∙ sym so.errs) ∙ e) (stays_ended step p.errs so.errs))

  pub step_over : (step : ChildStep) → May step p → Always StaysOver (done id step p)
  step_over IsWritable may =
      always_if StaysOver (has_unsent p.stdin) (and_then (on its_stdin (send_more (inlet id)) p) (fed id)) (Ends p)
      (λ some. absurd (clash _ some so.sent)) (λ _. e)
  step_over (Loses ran broken) may = absurd (clash _ so.lost may.not_lost)
  step_over (IsTold item) may = told_over item
  step_over Closes may = always_into StaysOver (λ after. record p { stdin = after }) (close_sender (inlet id) p.stdin) closes_over
  step_over (Writes piece) may =
      always_into {A = Child × Wrote} StaysOver (λ it. it.0) (write_child id piece p)
      (always_if (FirstStays {R = Wrote}) (is_closing p.stdin) (Ends (p, wrote.Done)) (asked_on its_stdin (write (inlet id) piece) p)
      (λ _. e) (λ other. absurd (clash _ so.closing other)))
  step_over (Drains yielded next) may =
      always_into {A = Child × Drain} StaysOver (λ it. it.0) (drain_child yielded next p)
      (always_into (FirstStays {R = Drain}) (λ done. (record p { stdin = done.0 }, done.1)) (drain_sender yielded next p.stdin) (drains_over yielded next))
  step_over (SetsLimits high low) may = e
  step_over (WaitsFor next) may = always_into {A = Child × ChildWait} StaysOver (λ it. it.0) (wait_child next p) (waits_over next)
  step_over IsKilled may = always_if StaysOver (is_none p.code) (asks (call.Kill id) (Ends p)) (Ends p) (λ _ came fit. e) (λ _. e)
  step_over (Takes from step) may = pipe_over from step

  -- ---- and is watched no more
  pub over_unwatched : watched_child id (Some p) ≡ []
  over_unwatched = by _ _ _ _ _ so.sent so.lost (takes_none p.out.reader.eof p.out.reader.paused so.out)
      (takes_none p.errs.reader.eof p.errs.reader.paused so.errs) so.exited
    where
      by : (feeds lost out errs exit : Bool) → feeds ≡ false → lost ≡ true → out ≡ false → errs ≡ false → exit ≡ false
          → entry_if (feeds || not lost || out || errs || exit) (watch.Child id feeds (not lost) out errs exit) ≡ []
      by false true false false false a b c d f = refl
      by true lost out errs exit a b c d f = absurd (let bad : ⊥ = cc in bad)
      by false false out errs exit a b c d f = absurd (let bad : ⊥ = cc in bad)
      by false true true errs exit a b c d f = absurd (let bad : ⊥ = cc in bad)
      by false true false true exit a b c d f = absurd (let bad : ⊥ = cc in bad)
      by false true false false true a b c d f = absurd (let bad : ⊥ = cc in bad)

-- so after any row of steps
pub row_over : (id : ℕ) (p : Child) (ran : ℕ) (written : List ℕ) (moves : List Move) (after : Child) → IsSoundSender p.stdin
    → ChildComes id p ran written moves after → is_over p ≡ true → is_over after ≡ true
row_over id _ _ _ _ _ sound (Rests p) e = e
row_over id _ _ _ _ _ sound (Steps step p mid after first more others rest may leads comes) e =
    let one = along StaysOver (done id step p) first mid (step_over id p sound e step may) leads in
    let keeps = along _ (done id step p) first mid (step_keeps id step p sound may) leads in
    row_over id mid others rest more after keeps.sound comes one
