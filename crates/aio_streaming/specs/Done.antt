-- What a request comes to whose call has no answer.
use Rattle.std.specs.Prelude.{Result, Ok, Err}
use Rattle.model_value.specs.Value.{Exc, Nothing}
use Rattle.aio_wire.specs.declared.stop.Stop.{Stop}
use Rattle.aio_body.specs.declared.reply.RequestReply.{RequestReply}
use Rattle.aio_body.specs.declared.reply.RequestReply.TheVariants.{Answers, Raises}

-- it answers with none, once that is done
abbrev pub done_as : {R : Type 0} → Result R Stop → Result RequestReply Stop
done_as (Ok it) = Ok (Answers Nothing)
done_as (Err why) = Err why

-- or raises the exception with which its task was resumed
abbrev pub raised_as : {R : Type 0} → Exc → Result R Stop → Result RequestReply Stop
raised_as fault (Ok it) = Ok (Raises fault)
raised_as fault (Err why) = Err why
