use Rattle.std.proofs.Common.{map, sym, subst}
use Rattle.script_term.specs.Lexeme.{plain_lexeme}
use Rattle.script_form.specs.Unplaced.{Reads}
use Rattle.script_form.proofs.FormLemmas.{with-group, with-timeout}
use Rattle.script_form.proofs.forms.with_form.Goals as goal

pub returns-in-Some : goal.returns-in-Some
returns-in-Some c =
    subst (λ form. Reads c.group_form.result form)
    (sym (with-group (map plain_lexeme c.args.rest.now) (map plain_lexeme c.in-Some.rest.now) c.in-Some.ensures)) c.group_form.ensures

pub returns-in-None : goal.returns-in-None
returns-in-None c =
    subst (λ form. Reads c.timeout_form.result form) (sym (with-timeout (map plain_lexeme c.args.rest.now) c.in-None.ensures)) c.timeout_form.ensures
