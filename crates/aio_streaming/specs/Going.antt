-- A step goes on inside of a request, or as its task is resumed.
use Rattle.std.specs.Prelude.{ℕ, Result, IfOk}
use Rattle.model_machine.specs.Replies as plain
use Rattle.model_machine.specs.Sound.{AreStreamsFutures}
use Rattle.model_machine.specs.State.{State}
use Rattle.law_turns.specs.Replied.{RunsSound}
use Rattle.aio_base.specs.declared.memory.Memory.{Memory}
use Rattle.aio_extra.specs.Added.{Added}
use Rattle.aio_body.specs.declared.run_state.RunState.{RunState}
use Rattle.aio_body.specs.declared.reply.RequestReply.{RequestReply}
use Rattle.aio_body.specs.Asked.{IsInStep, Says}
use Rattle.aio_body.specs.Stands.{Context}

pub record RunsOn {X : Type 0} {a : Added X} (task : ℕ) (c : Context a) (body : RunState X) (s : State a.Kept) : Type 0 where
  pub in_step : IsInStep task c body s
  pub sound : RunsSound task s
  -- what streams keep are plain futures
  pub streams : AreStreamsFutures s

-- A call comes to what the machine's reply is, from wherever the step goes on.
abbrev pub RepliesOn : {X : Type 0} → (a : Added X) → ℕ → (State a.Kept → plain.RequestReply a.Kept) → (old new : RunState X)
    → Result RequestReply Memory → Type 0
RepliesOn a task machine old new result =
    IfOk result (λ said. (c : Context a) (s : State a.Kept) → RunsOn task c old s → Says task c new said (machine s))
