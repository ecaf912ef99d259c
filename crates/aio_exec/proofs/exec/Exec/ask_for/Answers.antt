use Rattle.std.proofs.Common.{w64, sym, ap, ◌∙◌}
use Rattle.std.proofs.lemmas.Int.{to_z-of_z}
use Rattle.std.proofs.lemmas.Result.{IfOk-weaker}
use Rattle.model_exec.specs.Serving.{is_job_code}
use Rattle.aio_exec.specs.Seen.{kept_of}
use Rattle.aio_exec.proofs.Seeing.{asked_through}
use Rattle.aio_exec.proofs.exec.Exec.ask_for.Goals as goal

pub returns : goal.returns
returns c =
    let a = c.args in
    let is = ap is_job_code (sym (to_z-of_z w64 a.code c.ranges.code)) ∙ sym c.is_job_code.ensures ∙ c.if-not-is_job_code.false in
    IfOk-weaker c.ask_to.result _ _
    (λ it seen. λ v. asked_through (kept_of a.self.now) (kept_of c.ask_to.new.self) v it a.code a.items.now _ is c.in-Some.ensures
    (sym c.can_draw.ensures ∙ c.if-not-can_draw.false) (seen v)) c.ask_to.ensures
