-- What a request comes to whose call has an answer: it answers with a value, or raises an exception, whose text may want memory.
use Rattle.std.specs.Prelude.{◌≡◌, ℕ, Option, Some, None, Result, Ok, Err, ◌⊎◌, codes}
use Rattle.model_value.specs.declared.kind.Kind.TheVariants.{OSError}
use Rattle.model_value.specs.Value.{Child, Exc, Nothing, Server, Value, exception_of}
use Rattle.model_stream.specs.declared.answers.Wrote.{Wrote}
use Rattle.model_stream.specs.declared.answers.Wrote.TheVariants as wrote
use Rattle.model_machine.specs.Replies as plain
use Rattle.model_machine.specs.Replies.{after_eof}
use Rattle.model_machine.specs.State.{State}
use Rattle.aio_wire.specs.declared.stop.Stop.{Stop}
use Rattle.aio_wire.specs.declared.stop.Stop.TheVariants as stop
use Rattle.aio_body.specs.declared.reply.RequestReply.{RequestReply}
use Rattle.aio_body.specs.declared.reply.RequestReply.TheVariants.{Answers, Raises}

pub data Answered : Type 0 where
  With : (value : Value) → Answered
  Raising : (fault : Exc) → Answered

-- the same in the machine
abbrev pub answered_by : {S : Type 0} → Answered → State S → plain.RequestReply S
answered_by (With value) s = plain.Answers value s
answered_by (Raising fault) s = plain.Raises fault s

abbrev pub ComesAs : Answered → Result RequestReply Stop → Type 0
ComesAs (With value) result = result ≡ Ok (Answers value)
ComesAs (Raising fault) result = (result ≡ Ok (Raises fault)) ⊎ (result ≡ Err stop.Memory)

abbrev pub AnsweredAs : {R : Type 0} → (R → Answered) → Result R Stop → Result RequestReply Stop → Type 0
AnsweredAs said (Ok it) result = ComesAs (said it) result
AnsweredAs said (Err why) result = result ≡ Err why

-- ---- which answers are what
abbrev pub listened_as : Option ℕ → Answered
listened_as (Some id) = With (Server id)
listened_as None = Raising (exception_of OSError (codes "listen refused"))

abbrev pub launched_as : Option ℕ → Answered
launched_as (Some id) = With (Child id)
launched_as None = Raising (exception_of OSError (codes "launch refused"))

abbrev pub wrote_as : Wrote → Answered
wrote_as wrote.Done = With Nothing
wrote_as wrote.AfterEof = Raising after_eof
