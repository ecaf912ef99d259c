use Rattle.std.proofs.Common.{sym, ◌∙◌}
use Rattle.script_form.proofs.LastLemmas.{before_last-split}
use Rattle.script_form.proofs.fronts.before_last.Goals as goal

pub returns-then-is_sign : goal.returns-then-is_sign
returns-then-is_sign c =
    sym (before_last-split c.args.symbol c.args.lexemes.now c.in_ok-last.inner.now c.in_ok-last.last.now _ c.in_ok-last.ensures.cases.0
    (sym c.if-is_sign.true ∙ c.is_sign.ensures))

pub returns-else-is_sign : goal.returns-else-is_sign
returns-else-is_sign c =
    sym (before_last-split c.args.symbol c.args.lexemes.now c.in_ok-last.inner.now c.in_ok-last.last.now _ c.in_ok-last.ensures.cases.0
    (sym c.if-is_sign.false ∙ c.is_sign.ensures))
