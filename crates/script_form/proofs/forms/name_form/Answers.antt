use Rattle.std.proofs.Common.{map, ap, sym, ◌∙◌, subst}
use Rattle.std.specs.Rc.{rc_str_bytes}
use Rattle.model_text.specs.Forms.{Assign, with_term}
use Rattle.script_term.specs.Lexeme.{plain_lexeme}
use Rattle.script_form.specs.Unplaced.{Reads}
use Rattle.script_form.proofs.ReadLemmas.{name-assigns}
use Rattle.script_form.proofs.forms.name_form.Goals as goal

pub returns-in-None : goal.returns-in-None
returns-in-None c =
    let rest = map plain_lexeme c.in-Some.rest.now in
    subst (λ form. Reads c.assign_form.result form)
    (ap (λ name. with_term (Assign name) rest) c.in_ok-name.ensures.cases
    ∙ sym (name-assigns (rc_str_bytes c.args.name.now) (map plain_lexeme c.args.rest.now) rest c.in-Some.ensures c.in-None.ensures))
    c.assign_form.ensures
