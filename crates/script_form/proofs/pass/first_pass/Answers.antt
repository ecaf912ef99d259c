use Rattle.std.proofs.Common.{◌≡◌, ◌+◌, ◌≤◌, ◌∷◌, [], length, option_map, map, refl, ap, sym, ◌∙◌, subst, arith}
use Rattle.std.proofs.lemmas.List.{map-append}
use Rattle.model_text.specs.TextLines.{text_lines}
use Rattle.model_text.specs.FirstPass.{first_pass, forms_from}
use Rattle.script_term.specs.Spelled.{plain_spelled, plain_numbered}
use Rattle.script_form.specs.Placed.{IsBehind}
use Rattle.script_form.specs.Behind.{roles_of}
use Rattle.script_form.proofs.PassLemmas.{before_all, pass_stops, pass_goes_on, pass_ends, pass_lacks, with_next, roles_of-next}
use Rattle.script_form.proofs.pass.first_pass.Goals as goal
use Rattle.script_form.proofs.pass.first_pass.Goals.{in-Some-form+in_ok-push, in_default-form}

pub returns-in-Err-clause-fault : goal.returns-in-Err-clause-fault
returns-in-Err-clause-fault c =
    let l = c.loop-first in
    let forms = map plain_numbered l.forms.items in
    let all = first_pass (text_lines c.args.text.now) in
    rw c.at.ensures
    (pass_stops forms all l.line (roles_of forms) c.in-Some.first.now (text_lines l.rest.now)
    (text_lines c.in-Some.behind.now) c.in-Err.fault l.invariant.forms c.in-Some.ensures.line (c.in-Err.ensures.fault (roles_of forms) l.invariant.behind))

pub returns-then-is_outside-clause-forms : goal.returns-then-is_outside-clause-forms
returns-then-is_outside-clause-forms c =
    let l = c.loop-first in
    let forms = map plain_numbered l.forms.items in
    pass_ends forms (first_pass (text_lines c.args.text.now)) l.line (roles_of forms)
    (l.invariant.forms ∙ ap (λ text. before_all forms (forms_from l.line (roles_of forms) (text_lines text))) (c.in_default.ensures.none.0 refl))
    (sym c.if-is_outside.true ∙ c.is_outside.ensures (roles_of forms) l.invariant.behind)

pub returns-clause-fault : goal.returns-clause-fault
returns-clause-fault c =
    let l = c.loop-first in
    let forms = map plain_numbered l.forms.items in
    rw c.at-else-is_outside.ensures (pass_lacks forms (first_pass (text_lines c.args.text.now)) l.line (roles_of forms)
    (l.invariant.forms ∙ ap (λ text. before_all forms (forms_from l.line (roles_of forms) (text_lines text))) (c.in_default.ensures.none.0 refl))
    (sym c.if-is_outside.false ∙ c.is_outside.ensures (roles_of forms) l.invariant.behind))

pub loop-first-preserved : goal.loop-first-preserved
loop-first-preserved c =
    let l = c.loop-first in
    let forms = map plain_numbered l.forms.items in
    let form = option_map plain_spelled c.in-Ok.form in
    let all = first_pass (text_lines c.args.text.now) in
    let next : with_next l.line form forms ≡ map plain_numbered c.match-form.forms.items =
    elim c.match-form.branch [
      | in-Some-form+in_ok-push w ↦
          rw (w.in-Some-form.is, w.forms-is, w.in_ok-push.ensures.items)
          (sym (map-append plain_numbered l.forms.items (record { line = l.line; form = w.in-Some-form.form } ∷ [])))
      | in_default-form w ↦ rw (w.in_default-form.is, w.forms-is) refl
    ] in
    let few : l.line + 1 + length c.in-Some.behind.now ≤ length c.args.text.now + 1 =
    omega (arith, l.invariant.few, c.in-Some.ensures.shorter) in
    record {
      few = few;
      behind = subst (λ all. IsBehind c.line_form.new.places (roles_of all)) next
          (subst (IsBehind c.line_form.new.places) (roles_of-next l.line form forms) (c.in-Ok.ensures.places (roles_of forms) l.invariant.behind));
      forms =
          pass_goes_on forms all l.line c.in-Some.first.now (text_lines l.rest.now)
          (text_lines c.in-Some.behind.now) form l.invariant.forms c.in-Some.ensures.line (c.in-Ok.ensures.form (roles_of forms) l.invariant.behind)
          ∙ ap (λ done. before_all done (forms_from (l.line + 1) (roles_of done) (text_lines c.in-Some.behind.now))) next;
    }
