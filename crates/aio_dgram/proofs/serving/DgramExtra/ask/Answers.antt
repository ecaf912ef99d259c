use Rattle.std.proofs.Common.{w64, subst}
use Rattle.std.proofs.lemmas.Int.{to_z-of_z}
use Rattle.std.proofs.lemmas.Result.{IfOk-weaker}
use Rattle.model_dgram.specs.Serving.{asked_for, wanted_of}
use Rattle.aio_task.specs.View.{parts}
use Rattle.aio_dgram.specs.Seen.{kept_of}
use Rattle.aio_dgram.specs.Woken.{SaysSeen}
use Rattle.aio_dgram.proofs.Lifting.{asks_by, free_ask, idle_ask, list_ask, tidy_ask}
use Rattle.aio_dgram.proofs.serving.DgramExtra.ask.Goals as goal

pub items_in-requires : goal.items_in-requires
items_in-requires c = list_ask c.args._task c.args._futures.now c.args.arguments.now c.args.self.now c.args.parts.now c.requires

pub ask_for-requires-clause-idle : goal.ask_for-requires-clause-idle
ask_for-requires-clause-idle c = idle_ask c.args._task c.args._futures.now c.args.arguments.now c.args.self.now c.args.parts.now c.requires

pub ask_for-requires-clause-free : goal.ask_for-requires-clause-free
ask_for-requires-clause-free c = free_ask c.args._task c.args._futures.now c.args.arguments.now c.args.self.now c.args.parts.now c.requires

pub ask_for-requires-clause-tidy : goal.ask_for-requires-clause-tidy
ask_for-requires-clause-tidy c = tidy_ask c.args._task c.args._futures.now c.args.arguments.now c.args.self.now c.args.parts.now c.requires

pub returns : goal.returns
returns c =
    let a = c.args in
    let given = c.items_in.result.now in
    IfOk-weaker c.ask_for.result _ _
    (λ asked seen. λ t s items h.
    asks_by a._task t s a.self.now a.parts.now a._futures.now a.arguments.now items given h a.code c.items_in.ensures c.ask_for.new.self c.ask_for.new.parts
    asked
    (subst (λ n. SaysSeen (kept_of c.ask_for.new.self) a.parts.now c.ask_for.new.parts asked
    (asked_for n (wanted_of n given) (parts a.parts.now) (kept_of a.self.now))) (to_z-of_z w64 a.code c.ranges.code) seen)) c.ask_for.ensures
