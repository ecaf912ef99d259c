use Rattle.std.proofs.Common.{map, [], ◌∷◌, sym, ap, ◌∙◌}
use Rattle.std.proofs.lemmas.List.{map-append}
use Rattle.model_text.specs.Levels.{all_of}
use Rattle.algorithm_reading.specs.Operands.{that_fits}
use Rattle.script_term.specs.Operand.{plain_operand, with_last}
use Rattle.script_term.proofs.Lists.{all_of-append_one}
use Rattle.script_term.proofs.operand.all_that_fit.Goals as goal

pub loop-operand-preserved : goal.loop-operand-preserved
loop-operand-preserved c =
    let yielded = map plain_operand c.loop-operand.yielded in
    let last = plain_operand c.in-Some.operand in
    c.in_ok-terms.ensures
    ∙ ap (λ all. with_last all (that_fits last)) c.loop-operand.invariant
    ∙ sym (all_of-append_one that_fits yielded last)
    ∙ ap (all_of that_fits) (sym (map-append plain_operand c.loop-operand.yielded (c.in-Some.operand ∷ [])))
