use Rattle.std.proofs.Common.{◌≡◌, ◌⊎◌, inl, inr, true, false, rules, SFits, w64, to_z, of_z, ◌∙◌, ap, subst, sym}
use Rattle.std.proofs.lemmas.Bool.{false≢true}
use Rattle.std.proofs.lemmas.Int.{to_z-of_z}
use Rattle.model_value.specs.Action.{Action}
use Rattle.model_value.specs.declared.outcome.Outcome.TheVariants.{Value as Returned}
use Rattle.law_cases.specs.Trees.{is_of_streams}
use Rattle.aio_ready.specs.Queue.{soon_all}
use Rattle.aio_future.specs.Settled as settled
use Rattle.aio_future.specs.Settled.{called}
use Rattle.aio_core.proofs.Acting.{HearsNews, extra_acts, extra_serves, fire_acts, group_acts, item_acts, item_serves, main_acts, no_step}
use Rattle.aio_core.proofs.Acting.{sleep_acts, sleep_free, sleep_idle}
use Rattle.law_reach.specs.Changes.{runner_of}
use Rattle.aio_core.proofs.handles.call.Goals as goal

-- ---- the end of a sleep
pub resolve-was_pending-requires-clause-idle : goal.resolve-was_pending-requires-clause-idle
resolve-was_pending-requires-clause-idle g c = sleep_idle _ c.in-SleepDone.future c.args.body.now (rw c.in-SleepDone.is at c.requires.taken)

pub resolve-was_pending-requires-clause-no_task : goal.resolve-was_pending-requires-clause-no_task
resolve-was_pending-requires-clause-no_task g c = sleep_free _ c.in-SleepDone.future c.args.body.now (rw c.in-SleepDone.is at c.requires.taken)

pub returns-in-SleepDone-clause-acts : goal.returns-in-SleepDone-clause-acts
returns-in-SleepDone-clause-acts g c =
    let body = c.args.body.now in
    let future = c.in-SleepDone.future in
    rw c.in-SleepDone.is (sleep_acts _ future body c.resolve-was_pending.new.self
    (c.resolve-was_pending.ensures.after
    ∙ ap (λ v. record body.parts {
      futures = settled.settled future (Returned v) body.parts.futures;
      queue = soon_all (called future body.parts.futures) body.parts.queue;
    }) c.nothing.ensures))

-- ---- groups, timeouts and main
pub child_done-requires : goal.child_done-requires
child_done-requires g c = rw c.in-GroupDone.is at c.requires.taken

pub fire-requires : goal.fire-requires
fire-requires g c = rw c.in-Fires.is at c.requires.taken

pub returns-in-GroupDone-clause-acts : goal.returns-in-GroupDone-clause-acts
returns-in-GroupDone-clause-acts g c =
    rw c.in-GroupDone.is
    (group_acts c.in-GroupDone.group c.in-GroupDone.task c.args.body.now c.child_done.new.body c.child_done.ensures)

pub returns-in-Fires-clause-acts : goal.returns-in-Fires-clause-acts
returns-in-Fires-clause-acts g c = rw c.in-Fires.is (fire_acts c.in-Fires.timeout c.args.body.now c.fire.new.body c.fire.ensures)

pub returns-in-MainDone-clause-acts : goal.returns-in-MainDone-clause-acts
returns-in-MainDone-clause-acts g c = rw c.in-MainDone.is (main_acts c.args.body.now)

-- ---- what is added
pub act-requires : goal.act-requires
act-requires g c = record { serves = extra_serves c.in-Extra.key c.args.body.now (rw c.in-Extra.is at c.requires.taken) }

pub returns-in_ok-act-in-Extra-clause-acts : goal.returns-in_ok-act-in-Extra-clause-acts
returns-in_ok-act-in-Extra-clause-acts g c =
    rw c.in-Extra.is (extra_acts c.in-Extra.key c.args.body.now c.act.new.parts c.act.new.self c.in_ok-act-in-Extra.ensures)

pub item-requires : goal.item-requires
item-requires g c = record {
  serves = item_serves c.in-ExtraItem.code c.in-ExtraItem.bytes c.args.body.now (rw c.in-ExtraItem.is at c.requires.taken);
}

pub returns-in_ok-item-in-ExtraItem-clause-acts : goal.returns-in_ok-item-in-ExtraItem-clause-acts
returns-in_ok-item-in-ExtraItem-clause-acts g c =
    let code = c.in-ExtraItem.code in
    let bytes = c.in-ExtraItem.bytes in
    let hears = HearsNews g.X.Extra.added c.args.body.now c.item.new.parts c.item.new.self in
    let fits : SFits w64 code = search rules in
    rw c.in-ExtraItem.is (item_acts code bytes c.args.body.now c.item.new.parts c.item.new.self
    (subst (λ n. hears n bytes) (to_z-of_z w64 code fits)
    (subst (hears (to_z w64 (of_z w64 code))) c.items.ensures c.in_ok-item-in-ExtraItem.ensures)))

-- ---- no such calls
module _ (it : Action) where
  either : {A B : Type 0} → A ⊎ B → (A → ⊥) → (B → ⊥) → ⊥
  either (inl a) f g = f a
  either (inr b) f g = g b

  no_stream : is_of_streams it ≡ false → is_of_streams it ≡ true → ⊥
  no_stream loop streams = false≢true (sym loop ∙ streams)

pub returns-in-Step-clause-acts : goal.returns-in-Step-clause-acts
returns-in-Step-clause-acts g c =
    let it = c.args.action.now in
    absurd (either it c.in-Step.is (λ w. no_step it _ c.requires.idle (ap runner_of w.1)) (λ v.
    either it v (λ w. no_step it _ c.requires.idle (ap runner_of w.2)) (λ v.
    either it v (λ w. no_step it _ c.requires.idle (ap runner_of w.1)) (λ v.
    either it v (λ w. no_stream it c.requires.of_loop (ap is_of_streams w.1)) (λ v.
    either it v (λ w. no_stream it c.requires.of_loop (ap is_of_streams w.1)) (λ v.
    either it v (λ w. no_stream it c.requires.of_loop (ap is_of_streams w.2)) (λ v.
    either it v (λ w. no_stream it c.requires.of_loop (ap is_of_streams w.2)) (λ v.
    either it v (λ w. no_stream it c.requires.of_loop (ap is_of_streams w.1)) (λ v.
    either it v (λ w. no_stream it c.requires.of_loop (ap is_of_streams w.1)) (λ v.
    either it v (λ w. no_stream it c.requires.of_loop (ap is_of_streams w.1)) (λ v.
    either it v (λ w. no_stream it c.requires.of_loop (ap is_of_streams w.1)) (λ v.
    either it v (λ w. no_stream it c.requires.of_loop (ap is_of_streams w.1)) (λ v.
    either it v (λ w. no_stream it c.requires.of_loop (ap is_of_streams w.1)) (λ v.
    either it v (λ w. no_stream it c.requires.of_loop (ap is_of_streams w.2)) (λ w.
    no_stream it c.requires.of_loop (ap is_of_streams w.2))))))))))))))))
