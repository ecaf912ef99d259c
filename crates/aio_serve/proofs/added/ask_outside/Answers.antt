use Rattle.std.proofs.Common.{Ok, Err, sym, ap, subst, w64, ◌∙◌}
use Rattle.std.proofs.lemmas.Int.{to_z-of_z}
use Rattle.std.specs.Prelude.{is_some}
use Rattle.aio_extra.specs.Called.{MayServe}
use Rattle.aio_extra.specs.declared.asked.Asked.TheVariants.{Outside}
use Rattle.aio_wire.specs.Port.{ported}
use Rattle.aio_body.specs.Asking.{Comes}
use Rattle.aio_serve.specs.Adding.{answering_once}
use Rattle.aio_serve.proofs.Adding.{answers_run}
use Rattle.aio_serve.proofs.Hearing.{asks_number, heard_served, hears_so, meets_none}
use Rattle.aio_serve.proofs.added.ask_outside.Goals as goal

pub hear-requires-clause-runs : goal.hear-requires-clause-runs
hear-requires-clause-runs g c =
    ap (λ b. is_some b.parts.running) c.ask.ensures.frame
    ∙ ap is_some (answers_run c.args.task (Outside c.args.code c.args.bytes c.args.key) c.args.body.now c.requires)

pub hear-requires-clause-serves : goal.hear-requires-clause-serves
hear-requires-clause-serves g c =
    subst (λ b. MayServe g.X.Extra.added b.parts.running b.extra b.parts) (sym c.ask.ensures.frame)
    (heard_served g.X.Extra.added g.W.Wire.outside c.args.task c.args.code c.args.bytes c.args.key c.args.body.now c.args.wire.now c.in-Ok.answer
    c.ask.new.body.events c.ask.new.wire
    (asks_number _ _ _ (to_z-of_z w64 c.args.code c.ranges.code) c.args.bytes (ported c.args.wire.now c.args.body.now.events)
    (ported c.ask.new.wire c.ask.new.body.events) (Ok c.in-Ok.answer) c.in-Ok.ensures.asks) c.requires)

pub returns-in-Ok : goal.returns-in-Ok
returns-in-Ok g c =
    subst (Comes _ (answering_once g.X.Extra.added c.args.task (Outside c.args.code c.args.bytes c.args.key) c.args.body.now c.hear.new.body)
    (ported c.args.wire.now c.args.body.now.events) (ported c.ask.new.wire c.hear.new.body.events)) (sym c.or_stop.ensures)
    (hears_so g.X.Extra.added g.W.Wire.outside c.args.task c.args.code c.args.bytes c.args.key c.args.body.now c.args.wire.now c.in-Ok.answer
    c.ask.new.body.events c.ask.new.wire
    (asks_number _ _ _ (to_z-of_z w64 c.args.code c.ranges.code) c.args.bytes (ported c.args.wire.now c.args.body.now.events)
    (ported c.ask.new.wire c.ask.new.body.events) (Ok c.in-Ok.answer) c.in-Ok.ensures.asks)
    c.ask.new.body c.ask.ensures.frame c.hear.new.body c.hear.result c.hear.ensures)

pub returns-in-Err : goal.returns-in-Err
returns-in-Err g c =
    meets_none g.X.Extra.added g.W.Wire.outside c.args.task c.args.code c.args.bytes c.args.key c.args.body.now c.args.wire.now c.ask.new.body
    c.ask.new.wire c.in-Err.stop
    (asks_number _ _ _ (to_z-of_z w64 c.args.code c.ranges.code) c.args.bytes (ported c.args.wire.now c.args.body.now.events)
    (ported c.ask.new.wire c.ask.new.body.events) (Err c.in-Err.stop) c.in-Err.ensures.asks)
