use Rattle.std.proofs.Common.{sym, ◌∙◌}
use Rattle.std.proofs.lemmas.Result.{IfOk-weaker}
use Rattle.model_exec.specs.Execed.{standing_at}
use Rattle.aio_task.specs.View.{parts}
use Rattle.aio_exec.specs.Seen.{kept_of}
use Rattle.aio_exec.proofs.Seeing.{woken_waiting}
use Rattle.aio_exec.proofs.exec.Exec.woken.Goals as goal

pub returns-in-Waiting : goal.returns-in-Waiting
returns-in-Waiting c =
    let a = c.args in
    let x = kept_of a.self.now in
    IfOk-weaker c.waited.result _ _
    (λ asked seen. woken_waiting x (kept_of c.waited.new.self) a.parts.now a.parts.now a.key a.place a.input asked (parts a.parts.now)
    (standing_at a.place x) (sym c.find.ensures ∙ c.in-Waiting.is) (seen a.parts.now)) c.waited.ensures
