use Rattle.std.proofs.Common.{not, ◌&&◌}
use Rattle.std.proofs.lemmas.Result.{IfOk-weaker}
use Rattle.model_machine.specs.Turn.{cancelled_if}
use Rattle.aio_core.proofs.Following.{alive_by}
use Rattle.aio_core.proofs.turns.end_turn.Goals as goal

pub cancel_after_main-requires : goal.cancel_after_main-requires
cancel_after_main-requires g c = c.requires

pub finish-requires : goal.finish-requires
finish-requires g c =
    alive_by c.args.body.now c.cancel_after_main.new.body (λ d s. d) (λ s. cancelled_if (s.main_done && not c.args.done_before) s) c.requires
    c.cancel_after_main.ensures

pub returns : goal.returns
returns g c =
    IfOk-weaker c.finish.result _ _
    (λ said does d s h. does d (cancelled_if (s.main_done && not c.args.done_before) s) (c.cancel_after_main.ensures d s h)) c.finish.ensures
