use Rattle.std.proofs.Common.{w64, subst}
use Rattle.std.proofs.lemmas.Int.{to_z-of_z}
use Rattle.std.proofs.lemmas.Result.{IfOk-weaker}
use Rattle.model_exec.specs.Serving.{asked}
use Rattle.aio_exec.specs.Seen.{SaysSeen, kept_of}
use Rattle.aio_exec.proofs.Lifting.{asks_by, list_ask}
use Rattle.aio_exec.proofs.serving.ExecExtra.ask.Goals as goal

pub items_in-requires : goal.items_in-requires
items_in-requires c = list_ask c.args._task c.args._futures.now c.args.arguments.now c.args.self.now c.args._parts.now c.requires

pub returns : goal.returns
returns c =
    let a = c.args in
    let given = c.items_in.result.now in
    IfOk-weaker c.ask_for.result _ _
    (λ it seen. λ t s items h.
    asks_by a._task t s a.self.now a._parts.now a._futures.now a.arguments.now items given h a.code c.items_in.ensures c.ask_for.new.self a._parts.now it
    (subst (λ n. SaysSeen (kept_of c.ask_for.new.self) a._parts.now a._parts.now it (asked n given (kept_of a.self.now)))
    (to_z-of_z w64 a.code c.ranges.code) (seen a._parts.now))) c.ask_for.ensures
