use Rattle.std.proofs.Common.{option_map, ap, sym, ◌∙◌}
use Rattle.script_term.specs.Spelled.{plain_spelled}
use Rattle.script_form.specs.Capped.{plain_capped}
use Rattle.script_form.proofs.ReadLemmas.{return-read}
use Rattle.script_form.proofs.forms.return_form.Goals as goal

pub returns : goal.returns
returns c =
    return-read c.args.rest.now (plain_capped c.in-Some.value) (option_map plain_spelled c.returning.result) (sym c.is_empty.ensures ∙ c.if-is_empty.false)
    (ap (option_map plain_capped) (sym c.in-Some.is) ∙ c.in_ok-value.ensures)
    (c.returning.ensures ∙ ap (option_map _) c.fits.ensures)
