use Rattle.std.proofs.Common.{◌∙◌, ap, sym, subst, List, ℕ}
use Rattle.std.proofs.lemmas.Result.{IfOk-weaker}
use Rattle.model_text.specs.Scripts.{script_of}
use Rattle.aio_run.specs.Working.{TalliesOver}
use Rattle.aio_run.proofs.working.tally_work.Goals as goal

pub returns-in-Ok : goal.returns-in-Ok
returns-in-Ok c =
    IfOk-weaker c.tally_program.result _ _ (λ tally it. (
      c.in-Ok.program,
      ap script_of (sym c.in_ok-script.ensures.script) ∙ ap script_of (sym c.as_slice.ensures.value) ∙ c.in-Ok.ensures.program,
      subst (λ (text : List ℕ). TalliesOver c.in-Ok.program text tally) (c.as_slice-in-Ok.ensures.value ∙ c.in_ok-script.ensures.journal) it,
    )) c.tally_program.ensures
