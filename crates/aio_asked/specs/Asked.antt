-- What a hub did in a call, where memory wasn't refused before.
use Rattle.std.specs.Prelude.{◌≡◌, false, Result, Ok, Err}
use Rattle.aio_base.specs.declared.memory.Memory.{Memory}
use Rattle.model_wire.specs.Call.{Call, Answer}
use Rattle.model_wire.specs.declared.answer.Answer.TheVariants as answer
use Rattle.model_hub.specs.Others.{Said, Got, Failed}
use Rattle.model_hub.specs.Asked.{HubSeen, Asks}
use Rattle.aio_wire.specs.declared.wire.Reply.{Reply}
use Rattle.aio_wire.specs.declared.wire.Reply.TheVariants as reply
use Rattle.aio_polling.specs.declared.ending.Selected.{Selected}
use Rattle.aio_polling.specs.declared.ending.Selected.TheVariants as selected

abbrev pub AsksOn : Call → (old new : HubSeen) → Said → Type 0
AsksOn asks old new said = old.hub.starved ≡ false → Asks asks old new said

-- a hub's answers have no end
abbrev pub IsNoEnd : Reply → Type 0
IsNoEnd (reply.Got given) = Unit {0}
IsNoEnd reply.Over = ⊥
IsNoEnd (reply.Bad fault) = ⊥
IsNoEnd reply.Failed = Unit {0}

-- what a reply says
abbrev pub said_of : Reply → Said
said_of (reply.Got given) = Got given
said_of reply.Over = Failed
said_of (reply.Bad fault) = Failed
said_of reply.Failed = Failed

-- an answer as a reply
abbrev pub replied : Result Answer Memory → Result Reply Memory
replied (Ok given) = Ok (reply.Got given)
replied (Err memory) = Err memory

-- ---- a select
-- as a reply; where memory was refused to a pump, it is refused
abbrev pub reply_of : Selected → Result Reply Memory
reply_of (selected.Turn now items) = Ok (reply.Got (answer.Turn now items))
reply_of selected.Faulted = Ok reply.Failed
reply_of selected.Starved = Err (record {})
reply_of selected.Unpolled = Ok reply.Failed
