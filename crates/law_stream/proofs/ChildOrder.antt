-- What each step of a child keeps of its standard input, and what any row of them does.
use Rattle.std.proofs.Common.{◌≡◌, ℕ, ℤ, Bool, true, false, cond, not, ◌&&◌, List, [], ◌∷◌, ◌++◌, Option, Some, None, refl, is_none}
use Rattle.model_pump.specs.declared.stream.Stream.{Stream}
use Rattle.model_pump.specs.declared.stream.Stream.TheVariants as stream
use Rattle.model_value.specs.declared.action.ChildItem.{ChildItem}
use Rattle.model_value.specs.declared.action.ChildItem.TheVariants.{Broken, Out, OutEnd, Errs, ErrsEnd, Exit}
use Rattle.model_value.specs.Value.{Outcome}
use Rattle.model_wire.specs.declared.call.Call.TheVariants as call
use Rattle.model_wire.specs.declared.event.Handed.TheVariants as to
use Rattle.model_stream.specs.declared.answers.ChildWait.{ChildWait}
use Rattle.model_stream.specs.declared.answers.ChildWait.TheVariants as wait_as
use Rattle.model_stream.specs.declared.answers.Wrote.{Wrote}
use Rattle.model_stream.specs.declared.answers.Wrote.TheVariants as wrote
use Rattle.model_stream.specs.declared.put.Limited.{Limited}
use Rattle.model_stream.specs.Children.{Child, inlet, its_stdin, its_pipe, lose_child, fed, feed_more, break_stdin, told_pipe, exit_with, tell_child}
use Rattle.model_stream.specs.Children.{write_child, drain_child, limits_child, wait_child, kill}
use Rattle.model_stream.specs.Doing.{Doing, Ends, Changes, MakeFuture, Settle, and_then, asks, asked_on, on, settles}
use Rattle.model_stream.specs.Receivers.{Receiver, takes_more, receive, receive_end}
use Rattle.model_stream.specs.Senders.{Sender, Drain, has_unsent, is_closing, is_flushed, schedule_loss, send_more, write, close_sender}
use Rattle.model_stream.specs.Senders.{drain_sender, limits_sender, lose_sender}
use Rattle.model_stream.specs.Sending.{put_answer, written_of}
use Rattle.law_stream.specs.SoundSenders.{IsSoundSender, KeepsSender, MayLose}
use Rattle.law_stream.specs.Ways.{Move, Did, Always}
use Rattle.law_stream.proofs.Along.{always_if, always_into, always_map, always_then}
use Rattle.law_stream.proofs.SenderRuns.{along, keeps_both}
use Rattle.law_stream.proofs.SoundSenders.{keeps_still, keeps_quiet, live_of, nothing_by, close_keeps, schedule_keeps}
use Rattle.law_stream.proofs.SoundSends.{write_keeps, send_keeps, lose_keeps, drain_keeps, limits_keeps}
use Rattle.law_stream.specs.ChildSteps.{ChildStep, IsWritable, Loses, IsTold, Closes, Writes, Drains, SetsLimits, WaitsFor, IsKilled, Takes}
use Rattle.law_stream.specs.ChildSteps.{ChildComes, KeepsChild, Rests, Steps, May, done, ran_in, written_in, written_to}
use Rattle.law_stream.specs.SoundReceivers as receivers
use Rattle.law_stream.proofs.Quiet.{AllQuiet, quiet_keeps, quiet_step}
use Rattle.law_stream.proofs.SoundConnections.{IsNeutral, keeps_heard, may_flush}

abbrev KeepsFirst : {R : Type 0} (id ran : ℕ) (piece : List ℕ) (p : Child) → List Move → Child × R → Type 0
KeepsFirst id ran piece p moves done = KeepsChild id ran piece p moves done.0

-- what its standard input does
on_stdin :
    (id ran : ℕ) (piece : List ℕ) (p : Child) (change : Sender → Doing Sender) → Always (KeepsSender (to.Child id) ran piece p.stdin) (change p.stdin)
    → Always (KeepsChild id ran piece p) (on its_stdin change p)
on_stdin id ran piece p change here = always_into (KeepsChild id ran piece p) (λ after. record p { stdin = after }) (change p.stdin) here

asked_on_stdin :
    {R : Type 0} (id ran : ℕ) (piece : List ℕ) (p : Child) (change : Sender → Doing (Sender × R))
    → Always (λ moves (done : Sender × R). KeepsSender (to.Child id) ran piece p.stdin moves done.0) (change p.stdin)
    → Always (KeepsFirst id ran piece p) (asked_on its_stdin change p)
asked_on_stdin id ran piece p change here =
    always_into (KeepsFirst id ran piece p) (λ done. (record p { stdin = done.0 }, done.1)) (change p.stdin) here

-- what a pipe does
on_pipe : (id : ℕ) (from : Stream) (change : Receiver → Doing Receiver) (p : Child) → IsSoundSender p.stdin → ((r : Receiver) → AllQuiet (change r))
    → Always (KeepsChild id 0 [] p) (on (its_pipe from) change p)
on_pipe id stream.Out change p sound quiet =
    always_into (KeepsChild id 0 [] p) (λ out. record p { out = out }) (change p.out)
    (quiet_keeps (to.Child id) p.stdin sound (change p.out) (quiet p.out))
on_pipe id stream.Errs change p sound quiet =
    always_into (KeepsChild id 0 [] p) (λ errs. record p { errs = errs }) (change p.errs)
    (quiet_keeps (to.Child id) p.stdin sound (change p.errs) (quiet p.errs))

child_told : (id : ℕ) (from : Stream) (change : Receiver → Doing Receiver) (p : Child) → IsSoundSender p.stdin → ((r : Receiver) → AllQuiet (change r))
    → Always (KeepsChild id 0 [] p) (told_pipe from change p)
child_told id from change p sound quiet =
    always_if (KeepsChild id 0 [] p) (takes_more ((its_pipe from).get p)) (on (its_pipe from) change p) (Ends p)
    (λ _. on_pipe id from change p sound quiet) (λ _. keeps_still (to.Child id) p.stdin sound)

-- ---- callbacks
child_loses : (id ran : ℕ) (broken : Bool) (p : Child) → IsSoundSender p.stdin → MayLose ran broken p.stdin
    → Always (KeepsChild id ran [] p) (lose_child id broken p)
child_loses id ran broken p sound may =
    on_stdin id ran [] p (lose_sender (inlet id) broken) (lose_keeps (to.Child id) ran broken p.stdin sound may)

first_of : (a b : Bool) → (a && b) ≡ true → not a ≡ false
first_of true b is = refl
first_of false b is = absurd (let bad : ⊥ = cc in bad)

child_fed : (id : ℕ) (p : Child) → IsSoundSender p.stdin → Always (KeepsChild id 0 [] p) (fed id p)
child_fed id p sound =
    always_if (KeepsChild id 0 [] p) (is_flushed p.stdin && is_closing p.stdin) (lose_child id false p) (Ends p)
    (λ is. child_loses id 0 false p sound (may_flush p.stdin sound (first_of (is_flushed p.stdin) (is_closing p.stdin) is)))
    (λ _. keeps_still (to.Child id) p.stdin sound)

child_feeds : (id : ℕ) (p : Child) → IsSoundSender p.stdin → Always (KeepsChild id 0 [] p) (feed_more id p)
child_feeds id p sound =
    always_if (KeepsChild id 0 [] p) (has_unsent p.stdin) (and_then (on its_stdin (send_more (inlet id)) p) (fed id)) (Ends p)
    (λ some.
    always_then (KeepsChild id 0 [] p) (on its_stdin (send_more (inlet id)) p) (fed id)
    (always_map (KeepsChild id 0 [] p) (λ moves mid. Always (λ more. KeepsChild id 0 [] p (moves ++ more)) (fed id mid))
    (on its_stdin (send_more (inlet id)) p)
    (λ moves mid keeps.
    always_map (KeepsChild id 0 [] mid) (λ more. KeepsChild id 0 [] p (moves ++ more)) (fed id mid)
    (λ more after next. keeps_both (to.Child id) 0 0 [] [] p.stdin mid.stdin after.stdin moves more keeps next)
    (child_fed id mid keeps.sound))
    (on_stdin id 0 [] p (send_more (inlet id)) (send_keeps (to.Child id) p.stdin sound some))))
    (λ _. keeps_still (to.Child id) p.stdin sound)

child_breaks : (id : ℕ) (p : Child) → IsSoundSender p.stdin → Always (KeepsChild id 0 [] p) (break_stdin id p)
child_breaks id p sound =
    always_if (KeepsChild id 0 [] p) p.stdin.writer.ended (Ends p) (on its_stdin (schedule_loss (inlet id) (has_unsent p.stdin)) p)
    (λ _. keeps_still (to.Child id) p.stdin sound)
    (λ is.
    on_stdin id 0 [] p (schedule_loss (inlet id) (has_unsent p.stdin))
    (schedule_keeps (to.Child id) (has_unsent p.stdin) p.stdin sound (live_of p.stdin sound is) (nothing_by p.stdin.writer.unsent)))

child_exits : (id : ℕ) (code : ℤ) (p : Child) → IsSoundSender p.stdin → Always (KeepsChild id 0 [] p) (exit_with code p)
child_exits id code p sound =
    always_if (KeepsChild id 0 [] p) (is_none p.code) (settles p.waits _ (Ends (record p { code = Some code; waits = [] }))) (Ends p)
    (λ _. told p.waits _ (record p { code = Some code; waits = [] }) (keeps_still (to.Child id) p.stdin sound))
    (λ _. keeps_still (to.Child id) p.stdin sound)
  where
    told : (futures : List ℕ) (outcome : Outcome) (after : Child) → KeepsChild id 0 [] p [] after
        → Always (KeepsChild id 0 [] p) (settles futures outcome (Ends after))
    told [] outcome after keeps = keeps
    told (future ∷ futures) outcome after keeps =
        always_map (KeepsChild id 0 [] p) (λ moves. KeepsChild id 0 [] p (Did (Settle future outcome) ∷ moves)) (settles futures outcome (Ends after))
        (λ moves result it. keeps_quiet (to.Child id) 0 [] p.stdin (Settle future outcome) moves result.stdin refl it) (told futures outcome after keeps)

child_hears : (id : ℕ) (item : ChildItem (List ℕ)) (p : Child) → IsSoundSender p.stdin → Always (KeepsChild id 0 [] p) (tell_child id item p)
child_hears id Broken p sound = child_breaks id p sound
child_hears id (Out bytes) p sound = child_told id stream.Out (receive bytes) p sound (quiet_step (receivers.Receives bytes))
child_hears id OutEnd p sound = child_told id stream.Out receive_end p sound (quiet_step receivers.ReceivesEnd)
child_hears id (Errs bytes) p sound = child_told id stream.Errs (receive bytes) p sound (quiet_step (receivers.Receives bytes))
child_hears id ErrsEnd p sound = child_told id stream.Errs receive_end p sound (quiet_step receivers.ReceivesEnd)
child_hears id (Exit code) p sound = child_exits id code p sound

-- ---- requests
child_writes : (id : ℕ) (piece : List ℕ) (p : Child) → IsSoundSender p.stdin
    → Always (KeepsFirst {R = Wrote} id 0 (written_to piece p) p) (write_child id piece p)
child_writes id piece p sound = by (is_closing p.stdin)
  where
    by : (b : Bool) → Always (KeepsFirst {R = Wrote} id 0 (cond b [] (written_of (put_answer piece p.stdin.writer) piece)) p)
        (cond b (Ends (p, wrote.Done)) (asked_on its_stdin (write (inlet id) piece) p))
    by true = keeps_still (to.Child id) p.stdin sound
    by false =
        asked_on_stdin id 0 (written_of (put_answer piece p.stdin.writer) piece) p (write (inlet id) piece) (write_keeps (to.Child id) piece p.stdin sound)

child_waits : (id next : ℕ) (p : Child) → IsSoundSender p.stdin → Always (KeepsFirst {R = ChildWait} id 0 [] p) (wait_child next p)
child_waits id next p sound = by p.code
  where
    still : KeepsSender (to.Child id) 0 [] p.stdin [] p.stdin
    still = keeps_still (to.Child id) p.stdin sound

    by : (code : Option ℤ) → Always (KeepsFirst {R = ChildWait} id 0 [] p) (elim code [
      | Some code ↦ Ends (p, wait_as.Code code)
      | None ↦ Changes MakeFuture (Ends (record p { waits = p.waits ++ next ∷ [] }, wait_as.Waits next))
    ])
    by (Some code) = still
    by None = keeps_quiet (to.Child id) 0 [] p.stdin MakeFuture [] p.stdin refl still

kill_neutral : (id : ℕ) → IsNeutral (to.Child id) (call.Kill id)
kill_neutral id = record { closes = refl; offers = refl; hands = λ came. refl }

child_killed : (id : ℕ) (p : Child) → IsSoundSender p.stdin → Always (KeepsChild id 0 [] p) (kill id p)
child_killed id p sound =
    let still = keeps_still (to.Child id) p.stdin sound in
    always_if (KeepsChild id 0 [] p) (is_none p.code) (asks (call.Kill id) (Ends p)) (Ends p)
    (λ _ came fit. keeps_heard (to.Child id) 0 [] p.stdin (call.Kill id) came [] p.stdin (kill_neutral id) still)
    (λ _. still)

-- ---- each step, and all
pub step_keeps : (id : ℕ) (step : ChildStep) (p : Child) → IsSoundSender p.stdin → May step p
    → Always (KeepsChild id (ran_in step) (written_in step p) p) (done id step p)
step_keeps id IsWritable p sound may = child_feeds id p sound
step_keeps id (Loses ran broken) p sound may = child_loses id ran broken p sound may
step_keeps id (IsTold item) p sound may = child_hears id item p sound
step_keeps id Closes p sound may = on_stdin id 0 [] p (close_sender (inlet id)) (close_keeps (to.Child id) p.stdin sound)
step_keeps id (Writes piece) p sound may =
    always_into {A = Child × Wrote} (KeepsChild id 0 (written_to piece p) p) (λ it. it.0) (write_child id piece p) (child_writes id piece p sound)
step_keeps id (Drains yielded next) p sound may =
    always_into {A = Child × Drain} (KeepsChild id 0 [] p) (λ it. it.0) (drain_child yielded next p)
    (asked_on_stdin id 0 [] p (drain_sender yielded next) (drain_keeps (to.Child id) yielded next p.stdin sound))
step_keeps id (SetsLimits high low) p sound may =
    always_into {A = Child × Limited} (KeepsChild id 0 [] p) (λ it. it.0) (limits_child high low p)
    (asked_on_stdin id 0 [] p (limits_sender high low) (limits_keeps (to.Child id) high low p.stdin sound))
step_keeps id (WaitsFor next) p sound may =
    always_into {A = Child × ChildWait} (KeepsChild id 0 [] p) (λ it. it.0) (wait_child next p) (child_waits id next p sound)
step_keeps id IsKilled p sound may = child_killed id p sound
step_keeps id (Takes from step) p sound may = on_pipe id from (receivers.done step) p sound (quiet_step step)

pub children_keep : (id : ℕ) (p : Child) (ran : ℕ) (written : List ℕ) (moves : List Move) (after : Child) → IsSoundSender p.stdin
    → ChildComes id p ran written moves after → KeepsChild id ran written p moves after
children_keep id _ _ _ _ _ sound (Rests p) = keeps_still (to.Child id) p.stdin sound
children_keep id _ _ _ _ _ sound (Steps step p mid after first more others rest may leads comes) =
    let one = along (KeepsChild id (ran_in step) (written_in step p) p) (done id step p) first mid (step_keeps id step p sound may) leads in
    keeps_both (to.Child id) (ran_in step) others (written_in step p) rest p.stdin mid.stdin after.stdin first more one
    (children_keep id mid others rest more after one.sound comes)
