-- What became of an offer, in code and in the definitions.
use Rattle.model_stream.specs.Answers as plain
use Rattle.aio_sender.specs.declared.sent.Sent.{Sent}
use Rattle.aio_sender.specs.declared.sent.Sent.TheVariants.{Took, Again, Gone}

abbrev pub sent_as : Sent → plain.Sent
sent_as (Took count) = plain.SentSome count
sent_as Again = plain.SentNone
sent_as Gone = plain.SendFailed
