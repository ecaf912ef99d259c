use Rattle.std.proofs.Common.{sym, ◌∙◌}
use Rattle.std.proofs.lemmas.Result.{IfOk-weaker}
use Rattle.model_sync.specs.Serving.{served}
use Rattle.aio_task.specs.View.{parts}
use Rattle.aio_sync.specs.Seen.{kept_of}
use Rattle.aio_sync.specs.Wants.{wanted_as}
use Rattle.aio_sync.proofs.Asking.{drawing_over, drawing_through, room}
use Rattle.aio_sync.proofs.requests.Sync.serve_if_room.Goals as goal

pub serve-requires-clause-room : goal.serve-requires-clause-room
serve-requires-clause-room c = room c.args.self.now.keys.drawn (sym c.can_draw.ensures ∙ c.if-can_draw.true)

pub returns-then-can_draw : goal.returns-then-can_draw
returns-then-can_draw c =
    let a = c.args in
    let x = kept_of a.self.now in
    IfOk-weaker c.serve.result _ _
    (λ asked seen. drawing_through x (kept_of c.serve.new.self) a.parts.now c.serve.new.parts asked (served (wanted_as a.wanted) (parts a.parts.now) x)
    (sym c.can_draw.ensures ∙ c.if-can_draw.true) seen) c.serve.ensures

pub returns : goal.returns
returns c =
    let a = c.args in
    let x = kept_of a.self.now in
    IfOk-weaker c.out_of_range.result _ _
    (λ asked e. drawing_over x a.parts.now asked (served (wanted_as a.wanted) (parts a.parts.now) x) (sym c.can_draw.ensures ∙ c.if-can_draw.false) e)
    c.out_of_range.ensures
