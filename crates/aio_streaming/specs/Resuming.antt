-- What the request at which a task stood makes of the input that its step begins with.
use Rattle.std.specs.Prelude.{ℕ, Result, IfOk}
use Rattle.model_value.specs.Input.{Input}
use Rattle.model_machine.specs.Replies as plain
use Rattle.model_machine.specs.Replies.{decides}
use Rattle.model_machine.specs.State.{State, ResumePoint}
use Rattle.aio_base.specs.declared.memory.Memory.{Memory}
use Rattle.aio_extra.specs.Added.{Added}
use Rattle.aio_body.specs.declared.run_state.RunState.{RunState}
use Rattle.aio_body.specs.declared.reply.RequestReply.{RequestReply}
use Rattle.aio_body.specs.Asked.{IsDeciding, Says}
use Rattle.aio_body.specs.Asking.{Piece, ReplyBegins}
use Rattle.aio_body.specs.Stands.{Context}

abbrev pub resuming : {X : Type 0} → (a : Added X) → ℕ → ResumePoint → Input → (old new : RunState X)
    → Piece a (State a.Kept) (plain.RequestReply a.Kept) RequestReply
resuming a task stood input old new =
    record {
      from = λ c s. IsDeciding task stood c old s;
      does = decides a.meaning stood task input;
      ends = plain.Halts;
      says = λ c said it. Says task c new said it;
      begins = ReplyBegins;
    }

-- of one that asks nothing
abbrev pub Resumes : {X : Type 0} → (a : Added X) → ℕ → ResumePoint → Input → (old new : RunState X) → Result RequestReply Memory → Type 0
Resumes a task stood input old new result =
    IfOk result (λ said. (c : Context a) (s : State a.Kept) → IsDeciding task stood c old s
    → Says task c new said (decides a.meaning stood task input s))
