use Rattle.std.proofs.Common.{Some, None, rules, sym}
use Rattle.std.specs.Rc.{rc_str_bytes}
use Rattle.script_form.proofs.AsLemmas.{before_as-at, before_as-few}
use Rattle.script_form.proofs.fronts.before_as.Goals as goal

pub returns : goal.returns
returns c =
    before_as-at c.args.lexemes.now c.split_at.result.0.now c.split_at.result.1.now c.in_ok-place.place (Some (rc_str_bytes c.in_ok-closing_name.field-0.now))
    (search rules) c.split_at.ensures.front c.split_at.ensures.back c.in_ok-closing_name.ensures

pub returns-in_err-place : goal.returns-in_err-place
returns-in_err-place c = rw c.from_residual.ensures (sym (before_as-few c.args.lexemes.now c.in_err-place.ensures))

pub returns-in_err-closing_name : goal.returns-in_err-closing_name
returns-in_err-closing_name c =
    rw c.from_residual-in_err-closing_name.ensures
    (before_as-at c.args.lexemes.now c.split_at.result.0.now c.split_at.result.1.now c.in_ok-place.place None
    (search rules) c.split_at.ensures.front c.split_at.ensures.back c.in_err-closing_name.ensures)
