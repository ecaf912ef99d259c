use Rattle.std.proofs.Common.{option_map, sym, ap, ◌∙◌, Some}
use Rattle.model_text.specs.Places.{heights}
use Rattle.script_form.specs.Capped.{plain_capped}
use Rattle.script_form.specs.Fitting.{fitting}
use Rattle.script_form.proofs.TermLemmas.{terms_more, terms_stop}
use Rattle.script_form.proofs.terms.all_terms.Goals as goal

pub returns-in_default : goal.returns-in_default
returns-in_default c =
    sym (ap (option_map (fitting heights))
    (terms_stop c.args.parts.now c.loop-part.part-index c.part-item.result c.loop-part-test.true c.part-item.is
    (ap (option_map plain_capped) (sym c.in_default.is) ∙ c.in_ok-term.ensures)))

pub loop-part-preserved : goal.loop-part-preserved
loop-part-preserved c =
    terms_more c.args.parts.now c.loop-part.part-index c.part-item.result _ (plain_capped c.in-Some.term) c.loop-part-test.true
    c.part-item.is c.loop-part.invariant
    (ap (option_map plain_capped) (sym c.in-Some.is) ∙ c.in_ok-term.ensures)
    ∙ ap Some (sym c.in_ok-terms.ensures)
