-- What the rooms of the table require, and what comes of their answers, whichever request is asked.
use Rattle.std.proofs.Common.{◌≡◌, ℕ, Result, subst}
use Rattle.model_value.specs.Request.{Request}
use Rattle.aio_base.specs.declared.memory.Memory.{Memory}
use Rattle.aio_wire.specs.Outside.{Outside}
use Rattle.aio_wire.specs.Port.{ported}
use Rattle.aio_wire.specs.declared.stop.Stop.{Stop}
use Rattle.aio_extra.specs.Added.{Added}
use Rattle.aio_body.specs.declared.run_state.RunState.{RunState}
use Rattle.aio_body.specs.declared.reply.RequestReply.{RequestReply}
use Rattle.aio_body.specs.Asked.{IsAskingFor, IsGoing, Serves, SomeGoes}
use Rattle.aio_body.specs.Asking.{Comes, or_stop, serving}
use Rattle.aio_body.specs.Stands.{Possible}
use Rattle.aio_body.proofs.Alone.{serves_alone}
use Rattle.aio_body.proofs.May.{going_of, some_of}

module _ {X : Type 0} {a : Added X} {task : ℕ} {asked : Request} {old : RunState X} where
  -- ---- a room requires that the task asks for its own request
  pub asks : {it : Request} → asked ≡ it → Possible a (IsAskingFor task asked) old → Possible a (IsAskingFor task it) old
  asks same possible = subst (λ r. Possible a (IsAskingFor task r) old) same possible

  -- or that the task's step goes on
  pub goes : Possible a (IsAskingFor task asked) old → Possible a (IsGoing task) old
  goes possible = going_of task asked old possible

  -- or that the step of some task does
  pub some_goes : Possible a (IsAskingFor task asked) old → Possible a SomeGoes old
  some_goes possible = some_of task old (goes possible)

  -- ---- a request that asks nothing comes to what its room makes of it
  pub alone : {W : Type 0} {o : Outside W} {wire : W} {it : Request} {new : RunState X} (result : Result RequestReply Memory)
      {told : Result RequestReply Stop} → asked ≡ it → Serves a task it old new result → told ≡ or_stop result
      → Comes o (serving a task asked old new) (ported wire old.events) (ported wire new.events) told
  alone {W} {o} {wire} {it} {new} result same serves stops = rw (same, stops) (serves_alone a o task it old wire new result serves)
