-- What the input of a step means, by the request at which its task stood: the pieces of code that decide it.
use Rattle.std.proofs.Common.{◌≡◌, ℕ, [], ◌++◌, Result, Ok, refl, sym, ap, subst}
use Rattle.std.specs.Prelude.{IfOk}
use Rattle.std.proofs.lemmas.Result.{IfOk-weaker}
use Rattle.model_value.specs.Input.{Input}
use Rattle.model_machine.specs.Replies.{decides}
use Rattle.model_machine.specs.State as plain
use Rattle.model_machine.specs.State.{State}
use Rattle.aio_base.specs.declared.memory.Memory.{Memory}
use Rattle.aio_timer.specs.declared.live.TimerId.{TimerId}
use Rattle.aio_wire.specs.Outside.{Outside}
use Rattle.aio_wire.specs.Port.{ported}
use Rattle.aio_wire.specs.declared.stop.Stop.{Stop}
use Rattle.aio_exchange.proofs.Among.{told_none}
use Rattle.aio_extra.specs.Added.{Added}
use Rattle.aio_body.proofs.Asking.{come_none, comes_alone, comes_ends, comes_goes}
use Rattle.aio_body.specs.Asked.{IsDeciding, Says}
use Rattle.aio_body.specs.Asking.{Comes, or_stop}
use Rattle.aio_body.specs.Outcomes.{reply_of}
use Rattle.aio_body.specs.Stands.{Context}
use Rattle.aio_body.specs.declared.run_state.RunState.{RunState}
use Rattle.aio_body.specs.declared.reply.RequestReply.{RequestReply}
use Rattle.aio_body.specs.declared.resume_point.ResumePoint.{ResumePoint}
use Rattle.aio_body.specs.declared.resume_point.ResumePoint.TheVariants.{Asked, Sleeping}
use Rattle.aio_serve.specs.Resuming.{resuming}
use Rattle.aio_body.proofs.Growing.{decides_begins}
use Rattle.aio_body.proofs.Unasked.{decides_told}
use Rattle.aio_step.specs.Stepping.{DecidesAs, deciding}
use Rattle.aio_step.proofs.First.{asked_decides, sleeping_decides}

module _ {X W : Type 0} (a : Added X) (o : Outside W) (task : ℕ) (input : Input) (old : RunState X) (wire : W) where
  -- the input answers what the coroutine asked
  pub heard_asked : Comes o (deciding a task Asked input old old) (ported wire old.events) (ported wire old.events) (Ok (reply_of input))
  heard_asked =
      comes_ends o (deciding a task Asked input old old) [] (ported wire old.events) (ported wire old.events) (reply_of input)
      (come_none o _ (ported wire old.events) (ported wire old.events) _ refl (λ c at h. (
        told_none old.events.events,
        asked_decides task c old at.0 input at.1 h.1 h.0.in_step,
      )))

  pub heard_sleeping : (timer : TimerId) (future : ℕ)
      → Comes o (deciding a task (Sleeping timer future) input old old) (ported wire old.events) (ported wire old.events) (Ok (reply_of input))
  heard_sleeping timer future =
      comes_ends o (deciding a task (Sleeping timer future) input old old) [] (ported wire old.events) (ported wire old.events) (reply_of input)
      (come_none o _ (ported wire old.events) (ported wire old.events) _ refl (λ c at h. (
        told_none old.events.events,
        sleeping_decides timer future task c old at.0 input at.1 h.1 h.0.in_step,
      )))

  -- the machine's task stood at this alone
  module _ (code : ResumePoint) (stood : plain.ResumePoint) (is : (other : plain.ResumePoint) → DecidesAs code other → stood ≡ other) where
    stood_there : (c : Context a) (s : State a.Kept) (other : plain.ResumePoint) → DecidesAs code other → IsDeciding task other c old s
        → IsDeciding task stood c old s
    stood_there c s other d h = subst (λ st. IsDeciding task st c old s) (sym (is other d)) h

    -- what it stood at goes on, and asks nothing
    pub heard_alone : (new : RunState X) (result : Result RequestReply Memory)
        → IfOk result (λ said. (c : Context a) (s : State a.Kept) → IsDeciding task stood c old s
        → Says task c new said (decides a.meaning stood task input s))
        → (told : Result RequestReply Stop) → told ≡ or_stop result
        → Comes o (deciding a task code input old new) (ported wire old.events) (ported wire new.events) told
    heard_alone new result goes told same =
        subst (Comes o (deciding a task code input old new) (ported wire old.events) (ported wire new.events)) (sym same)
        (comes_alone o (deciding a task code input old new) (ported wire old.events) (ported wire new.events)
        (λ c at h. decides_begins a.meaning task (c.past ++ old.events.events) at.0 h.0.in_step.stands.events at.1 input) result refl
        (IfOk-weaker result _ _ (λ said given c at h.
        let says = subst (λ (st : plain.ResumePoint). Says task c new said (decides a.meaning st task input at.0)) (is at.1 h.1)
        (given c at.0 (stood_there c at.0 at.1 h.1 h.0)) in
        (decides_told task c new old at.0 h.0.in_step said at.1 input says, says)) goes))

    -- it goes on, and may ask
    pub heard_on : (new : RunState X) (now : W) (result : Result RequestReply Stop)
        → Comes o (resuming a task stood input old new) (ported wire old.events) (ported now new.events) result
        → Comes o (deciding a task code input old new) (ported wire old.events) (ported now new.events) result
    heard_on new now result goes =
        comes_goes o (deciding a task code input old new) [] (ported wire old.events) (ported wire old.events)
        (λ c s. IsDeciding task stood c old s) (decides a.meaning stood task input) (ported now new.events) result
        (come_none o (λ c at. IsDeciding task at.1 c old at.0 × DecidesAs code at.1) (ported wire old.events) (ported wire old.events)
        (λ c at. (next : State a.Kept) × (IsDeciding task stood c old next
        × (decides a.meaning at.1 task input at.0 ≡ decides a.meaning stood task input next))) refl (λ c at h. (
          told_none old.events.events,
          (at.0, (stood_there c at.0 at.1 h.1 h.0, ap (λ st. decides a.meaning st task input at.0) (sym (is at.1 h.1)))),
        )))
        goes
