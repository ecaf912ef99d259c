-- What comes of requests on what is written, and what a task awaits that waits till a writer is closed.
use Rattle.std.specs.Prelude.{ℕ, ◌<◌, Option, Some, None, Result, IfOk, codes}
use Rattle.model_value.specs.declared.input.Input.TheVariants.{Send, Throw}
use Rattle.model_value.specs.declared.kind.Kind.TheVariants.{ValueError}
use Rattle.model_value.specs.Input.{Input}
use Rattle.model_value.specs.Value.{Exc, Nothing, exception_of}
use Rattle.model_stream.specs.Kept.{times_asked}
use Rattle.model_stream.specs.declared.put.Limited.{Limited}
use Rattle.model_stream.specs.declared.put.Limited.TheVariants as limited
use Rattle.model_machine.specs.Replies.{awaits}
use Rattle.model_machine.specs.State.{State}
use Rattle.aio_base.specs.declared.memory.Memory.{Memory}
use Rattle.aio_extra.specs.Added.{Added}
use Rattle.aio_body.specs.declared.run_state.RunState.{RunState}
use Rattle.aio_body.specs.declared.reply.RequestReply.{RequestReply}
use Rattle.aio_body.specs.declared.reply.RequestReply.TheVariants.{Answers, Raises}
use Rattle.aio_body.specs.Asked.{Says}
use Rattle.aio_body.specs.Stands.{Context}
use Rattle.aio_streaming.specs.Going.{RunsOn}

-- marks that are refused
abbrev pub limited_as : Limited → RequestReply
limited_as limited.Set = Answers Nothing
limited_as limited.BadLimits = Raises (exception_of ValueError (codes "limits"))

-- the exception that an input throws
abbrev pub fault_in : Input → Option Exc
fault_in (Send value) = None
fault_in (Throw fault) = Some fault

-- a step goes on, and this is a future that streams keep
pub record KeepsFuture {X : Type 0} {a : Added X} (task on : ℕ) (c : Context a) (body : RunState X) (s : State a.Kept) : Type 0 where
  pub going : RunsOn task c body s
  pub kept : 0 < times_asked on s.streams

-- A call comes to an await of a future that streams keep.
abbrev pub AwaitsKept : {X : Type 0} → (a : Added X) → (task on : ℕ) → (old new : RunState X) → Result RequestReply Memory → Type 0
AwaitsKept a task on old new result =
    IfOk result (λ said. (c : Context a) (s : State a.Kept) → KeepsFuture task on c old s
    → Says task c new said (awaits task on s))
