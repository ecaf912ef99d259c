use Rattle.std.proofs.Common.{arith, ◌+◌, ◌∙◌, ap, map, ℕ, List, sym, subst}
use Rattle.std.proofs.lemmas.Result.{IfErr-weaker, IfOk-weaker}
use Rattle.model_tree.specs.Syntax.{Program}
use Rattle.model_text.specs.declared.cause.Cause.TheVariants.{TooLong}
use Rattle.model_text.specs.Scripts.{script_of_parts}
use Rattle.model_text.specs.SecondPass.{Judged, parts_of}
use Rattle.script_term.specs.Spelled.{plain_numbered}
use Rattle.script_fault.specs.Faults.{IsFaultOf}
use Rattle.script_term.specs.declared.spelled.NumberedForm.{NumberedForm}
use Rattle.aio_script.proofs.Reading.{too_long, from_forms}
use Rattle.aio_script.proofs.reader.read.Goals as goal

pub returns-then-text-gt-LONGEST-clause-fault : goal.returns-then-text-gt-LONGEST-clause-fault
returns-then-text-gt-LONGEST-clause-fault c =
    (TooLong, too_long c.args.text.now c.if-text-gt-LONGEST.true, c.cause_number.ensures)

pub overflow_add-line_count : goal.overflow_add-line_count
overflow_add-line_count c = omega (arith, c.line_count.ensures.few, c.if-text-gt-LONGEST.false)

pub returns-clause-program : goal.returns-clause-program
returns-clause-program c =
    let last = c.line_count.result + 1 in
    let read =
    from_forms c.args.text.now (map plain_numbered c.in_ok-forms.forms.items) last (omega (arith, c.if-text-gt-LONGEST.false))
    c.in_ok-forms.ensures.forms (ap (λ (n : ℕ). n + 1) c.line_count.ensures.count)
    ∙ ap (λ (forms : List NumberedForm). script_of_parts last (parts_of (map plain_numbered forms))) (sym c.as_slice.ensures.value) in
    IfOk-weaker c.program_of.result _ _ (λ program d. read ∙ d) c.program_of.ensures.program

pub returns-clause-fault : goal.returns-clause-fault
returns-clause-fault c =
    let last = c.line_count.result + 1 in
    let read =
    from_forms c.args.text.now (map plain_numbered c.in_ok-forms.forms.items) last (omega (arith, c.if-text-gt-LONGEST.false))
    c.in_ok-forms.ensures.forms (ap (λ (n : ℕ). n + 1) c.line_count.ensures.count)
    ∙ ap (λ (forms : List NumberedForm). script_of_parts last (parts_of (map plain_numbered forms))) (sym c.as_slice.ensures.value) in
    IfErr-weaker c.program_of.result _ _ (λ fault d. subst (λ (judged : Judged Program). IsFaultOf judged fault) (sym read) d) c.program_of.ensures.fault
