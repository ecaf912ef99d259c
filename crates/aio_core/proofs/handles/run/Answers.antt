use Rattle.std.proofs.Common.{refl, sym, subst}
use Rattle.aio_body.specs.Stands.{Possible}
use Rattle.aio_body.specs.Taken.{IsTaken}
use Rattle.aio_core.proofs.Acting.{may_act, runs_acting, runs_without}
use Rattle.aio_core.proofs.handles.run.Goals as goal

pub act-requires : goal.act-requires
act-requires g c =
    subst (Possible g.X.Extra.added (IsTaken c.args.action.now)) (sym c.in-Ok.ensures) (may_act c.args.action.now c.args.body.now _ refl c.requires)

pub returns-in-Ok : goal.returns-in-Ok
returns-in-Ok g c =
    runs_acting g.X.Extra.added g.W.Wire.outside c.args.action.now c.args.body.now c.note.new.body c.act.new.body c.args.wire.now c.act.new.wire
    c.act.result c.in-Ok.ensures c.act.ensures

pub returns-in-Err : goal.returns-in-Err
returns-in-Err g c =
    runs_without g.X.Extra.added g.W.Wire.outside c.args.action.now c.args.body.now _ c.args.wire.now
