-- What a call comes to is the machine's reply, where the two are known.
use Rattle.std.proofs.Common.{◌≡◌, ℕ, refl}
use Rattle.model_value.specs.declared.input.Input.TheVariants.{Send, Throw}
use Rattle.model_value.specs.Input.{Input}
use Rattle.model_value.specs.Value.{Value, Exc, Outcome}
use Rattle.model_machine.specs.Outcomes.{input_of}
use Rattle.model_machine.specs.Replies as plain
use Rattle.model_machine.specs.State.{State}
use Rattle.aio_extra.specs.Added.{Added}
use Rattle.aio_body.specs.declared.run_state.RunState.{RunState}
use Rattle.aio_body.specs.declared.reply.RequestReply.{RequestReply}
use Rattle.aio_body.specs.declared.reply.RequestReply.TheVariants.{Answers, Raises}
use Rattle.aio_body.specs.Outcomes.{RepliesAs, reply_of}
use Rattle.aio_body.specs.Asked.{IsInStep, Says}
use Rattle.aio_body.specs.Stands.{Context}

module _ {X : Type 0} {a : Added X} (task : ℕ) (c : Context a) (body : RunState X) (now : State a.Kept) (said : RequestReply)
    (machine : plain.RequestReply a.Kept) where
  pub answers_so : (value : Value) → said ≡ Answers value → machine ≡ plain.Answers value now → IsInStep task c body now
      → Says task c body said machine
  answers_so value e m h = rw (e, m) (refl, h)

  pub raises_so : (fault : Exc) → said ≡ Raises fault → machine ≡ plain.Raises fault now → IsInStep task c body now
      → Says task c body said machine
  raises_so fault e m h = rw (e, m) (refl, h)

  -- what is done is told as it ended
  heard_so : (input : Input) → said ≡ reply_of input → machine ≡ plain.replied input now → IsInStep task c body now → Says task c body said machine
  heard_so (Send value) e m h = answers_so value e m h
  heard_so (Throw fault) e m h = raises_so fault e m h

  pub replied_so : (outcome : Outcome) → RepliesAs outcome said → machine ≡ plain.replied (input_of outcome) now → IsInStep task c body now
      → Says task c body said machine
  replied_so outcome e m h = heard_so (input_of outcome) e m h
