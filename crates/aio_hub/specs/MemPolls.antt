-- What a poller in memory answers to a poll and to a call on a socket.
use Rattle.std.specs.Prelude.{ℕ, List, Option, Some, None}
use Rattle.model_wire.specs.Call.{Call}
use Rattle.model_wire.specs.declared.answer.Answer.TheVariants as answer
use Rattle.model_wire.specs.declared.call.Call.TheVariants as call
use Rattle.model_wire.specs.declared.watch.Watch.{Watch}
use Rattle.aio_wire.specs.declared.wire.Reply.{Reply}
use Rattle.aio_wire.specs.declared.wire.Reply.TheVariants as reply
use Rattle.aio_hub.specs.declared.poller.Polled.{Polled}
use Rattle.aio_hub.specs.declared.poller.Polled.TheVariants as polled
use Rattle.aio_hub.specs.InMemory.{PollerState, Answers}

abbrev pub AnswersPoll : Option ℕ → List Watch → PollerState → Polled → PollerState → Type 0
AnswersPoll wait watched old (polled.Ready now items) new = Answers (call.Select wait watched) old (Some (answer.Turn now items)) new
AnswersPoll wait watched old polled.Failed new = Answers (call.Select wait watched) old None new

abbrev pub AnswersNet : Call → PollerState → Reply → PollerState → Type 0
AnswersNet asks old (reply.Got given) new = Answers asks old (Some given) new
AnswersNet asks old reply.Over new = ⊥
AnswersNet asks old (reply.Bad fault) new = ⊥
AnswersNet asks old reply.Failed new = Answers asks old None new
