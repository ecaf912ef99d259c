-- What an input or an outcome is to whoever is answered by it.
use Rattle.std.specs.Prelude.{◌≡◌}
use Rattle.model_value.specs.Input.{Input}
use Rattle.model_value.specs.Value.{Outcome}
use Rattle.model_value.specs.declared.input.Input.TheVariants.{Send, Throw}
use Rattle.model_machine.specs.Outcomes.{input_of}
use Rattle.aio_body.specs.declared.reply.RequestReply.{RequestReply}
use Rattle.aio_body.specs.declared.reply.RequestReply.TheVariants.{Answers, Raises}

abbrev pub reply_of : Input → RequestReply
reply_of (Send value) = Answers value
reply_of (Throw fault) = Raises fault

abbrev pub RepliesAs : Outcome → RequestReply → Type 0
RepliesAs outcome said = said ≡ reply_of (input_of outcome)
