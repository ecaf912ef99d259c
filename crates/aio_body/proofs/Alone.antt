-- A request that asks nothing is one that may, and so is one that has no memory before it asks. Arguments may refuse it.
use Rattle.std.proofs.Common.{◌≡◌, ℕ, ◌++◌, Result, Err, refl, sym, subst}
use Rattle.std.specs.Prelude.{IfOk}
use Rattle.std.proofs.lemmas.Result.{IfOk-weaker}
use Rattle.model_value.specs.Request.{Request}
use Rattle.model_value.specs.Value.{Exc, Value}
use Rattle.model_machine.specs.Replies as plain
use Rattle.model_machine.specs.Replies.{reply}
use Rattle.model_machine.specs.State.{State}
use Rattle.aio_base.specs.declared.memory.Memory.{Memory}
use Rattle.aio_wire.specs.Outside.{Outside}
use Rattle.aio_wire.specs.Port.{ported}
use Rattle.aio_wire.specs.declared.stop.Stop.TheVariants as stop
use Rattle.aio_extra.specs.Added.{Added}
use Rattle.aio_body.specs.declared.run_state.RunState.{RunState}
use Rattle.aio_body.specs.declared.reply.RequestReply.{RequestReply}
use Rattle.aio_body.specs.declared.reply.RequestReply.TheVariants as said
use Rattle.aio_body.specs.Asked.{IsAskingFor, Says, Serves}
use Rattle.aio_body.specs.Asking.{Comes, ReplyBegins, or_stop, serving}
use Rattle.aio_body.specs.Stands.{Context}
use Rattle.aio_body.proofs.Asking.{comes_alone, comes_without}
use Rattle.aio_body.proofs.Growing.{reply_begins}
use Rattle.aio_body.proofs.Unasked.{reply_told}

-- ---- a request that changes nothing
module _ {X : Type 0} (a : Added X) (task : ℕ) (asked : Request) (old : RunState X) where
  abbrev pub Means : (State a.Kept → plain.RequestReply a.Kept) → Type 0
  Means machine = (c : Context a) (s : State a.Kept) → IsAskingFor task asked c old s → reply a.meaning task asked s ≡ machine s

  pub serves_raise : (fault : Exc) → Means (plain.Raises fault) → (result : Result RequestReply Memory)
      → IfOk result (λ it. it ≡ said.Raises fault) → Serves a task asked old old result
  serves_raise fault means result raises =
      IfOk-weaker result _ _
      (λ it e c s h.
      subst (Says task c old it) (sym (means c s h))
      (subst (λ (one : RequestReply). Says task c old one (plain.Raises fault s)) (sym e) (refl, h.going.in_step))) raises

  pub serves_answer : (value : Value) → Means (plain.Answers value) → (result : Result RequestReply Memory)
      → IfOk result (λ it. it ≡ said.Answers value) → Serves a task asked old old result
  serves_answer value means result answers =
      IfOk-weaker result _ _
      (λ it e c s h.
      subst (Says task c old it) (sym (means c s h))
      (subst (λ (one : RequestReply). Says task c old one (plain.Answers value s)) (sym e) (refl, h.going.in_step))) answers

-- ---- one that asks nothing
module _ {X W : Type 0} (a : Added X) (o : Outside W) (task : ℕ) (asked : Request) (old : RunState X) (wire : W) where
  serving_begins : (c : Context a) (s : State a.Kept) → IsAskingFor task asked c old s
      → ReplyBegins (c.past ++ old.events.events) (reply a.meaning task asked s)
  serving_begins c s h = reply_begins a.meaning task (c.past ++ old.events.events) s h.going.in_step.stands.events asked

  pub serves_without : (new : RunState X) → Comes o (serving a task asked old new) (ported wire old.events) (ported wire new.events) (Err stop.Memory)
  serves_without new =
      comes_without o (serving a task asked old new) (ported wire old.events) (ported wire new.events) serving_begins refl

  pub serves_alone : (new : RunState X) (result : Result RequestReply Memory) → Serves a task asked old new result
      → Comes o (serving a task asked old new) (ported wire old.events) (ported wire new.events) (or_stop result)
  serves_alone new result serves =
      comes_alone o (serving a task asked old new) (ported wire old.events) (ported wire new.events) serving_begins result refl
      (IfOk-weaker result _ _
      (λ it are c s h. let says = are c s h in (reply_told task c new old s h.going.in_step it asked says, says)) serves)

  -- the arguments refuse it
  pub refused_alone : (fault : Exc) → Means a task asked old (plain.Raises fault)
      → (result : Result RequestReply Memory) → IfOk result (λ it. it ≡ said.Raises fault)
      → Comes o (serving a task asked old old) (ported wire old.events) (ported wire old.events) (or_stop result)
  refused_alone fault means result raises = serves_alone old result (serves_raise a task asked old fault means result raises)
