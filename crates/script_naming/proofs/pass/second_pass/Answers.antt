use Rattle.std.proofs.Common.{[], map, find, refl, ap, ap₂, sym, ◌∙◌, subst}
use Rattle.std.specs.Str.{bytes_eq}
use Rattle.model_text.specs.declared.cause.Cause.TheVariants.{NoMain}
use Rattle.model_text.specs.SecondPass.{callee, is_main, main_text, parts_of, parts_judged, second_pass}
use Rattle.script_term.specs.Spelled.{plain_numbered}
use Rattle.aio_program.specs.Line.{plain_part as plain_named_part}
use Rattle.script_fault.specs.Faults.{IsFaultOf}
use Rattle.script_naming.specs.Parts.{plain_parts}
use Rattle.script_naming.proofs.Judged.{judges-err, pass-fails, pass-is, pass-without-main}
use Rattle.script_naming.proofs.pass.second_pass.Goals as goal

pub returns-in_err-named : goal.returns-in_err-named
returns-in_err-named c =
    let parts = (parts_of (map plain_numbered c.args.forms.now)).coroutines in
    let fault = c.in_err-named.field-0.0 in
    let lent = ap plain_parts c.as_slice.ensures.value ∙ c.in_ok-parts.ensures in
    let lent_again = ap plain_parts c.as_slice-2.ensures.value ∙ c.in_ok-parts.ensures in
    let callees = c.in_ok-callees.ensures ∙ ap (λ ps. map callee ps) lent in
    judges-err (λ named. map plain_named_part named.items)
    (second_pass c.args.last parts) c.from_residual-in_err-named.result fault c.from_residual-in_err-named.ensures.1
    (pass-fails c.args.last parts fault
    (subst (λ judged. IsFaultOf judged fault) (ap₂ (λ cs ps. parts_judged cs [] ps) callees lent_again) c.in_err-named.ensures))

pub returns-then-has_main : goal.returns-then-has_main
returns-then-has_main c =
    let parts = (parts_of (map plain_numbered c.args.forms.now)).coroutines in
    let lent = ap plain_parts c.as_slice.ensures.value ∙ c.in_ok-parts.ensures in
    let lent_again = ap plain_parts c.as_slice-2.ensures.value ∙ c.in_ok-parts.ensures in
    let callees = c.in_ok-callees.ensures ∙ ap (λ ps. map callee ps) lent in
    pass-is c.args.last parts (map plain_named_part c.in_ok-named.named.items)
    (ap₂ (λ cs ps. parts_judged cs [] ps) (sym callees) (sym lent_again) ∙ c.in_ok-named.ensures)
    (ap (λ cs. is_main (find (λ callee. bytes_eq callee.name main_text) cs)) (sym callees) ∙ sym c.has_main.ensures ∙ c.if-has_main.true)

pub returns : goal.returns
returns c =
    let parts = (parts_of (map plain_numbered c.args.forms.now)).coroutines in
    let lent = ap plain_parts c.as_slice.ensures.value ∙ c.in_ok-parts.ensures in
    let lent_again = ap plain_parts c.as_slice-2.ensures.value ∙ c.in_ok-parts.ensures in
    let callees = c.in_ok-callees.ensures ∙ ap (λ ps. map callee ps) lent in
    subst (IsFaultOf (second_pass c.args.last parts)) (sym c.at.ensures) (
      NoMain,
      pass-without-main c.args.last parts (map plain_named_part c.in_ok-named.named.items)
          (ap₂ (λ cs ps. parts_judged cs [] ps) (sym callees) (sym lent_again) ∙ c.in_ok-named.ensures)
          (ap (λ cs. is_main (find (λ callee. bytes_eq callee.name main_text) cs)) (sym callees) ∙ sym c.has_main.ensures ∙ c.if-has_main.false),
      refl,
    )
