use Rattle.std.proofs.Common.{◌==◌, ◌∷◌, option_map, map, ap, sym, ◌∙◌, subst}
use Rattle.model_text.specs.Forms.{form_of}
use Rattle.model_text.specs.Places.{role_of}
use Rattle.script_term.specs.Lexeme.{plain_lexeme}
use Rattle.script_term.specs.Spelled.{plain_spelled}
use Rattle.script_form.specs.Placed.{IsBehind}
use Rattle.script_form.specs.Unplaced.{plain_unplaced, unplaced_of}
use Rattle.script_form.proofs.PassLemmas.{line-read, read_of}
use Rattle.script_form.proofs.pass.line_form.Goals as goal

pub returns-clause-form : goal.returns-clause-form
returns-clause-form c = λ roles behind.
    let lexemes = c.in_ok-lexemes.lexemes in
    let some = ap (λ n. n == 0) (sym lexemes.ok.0) ∙ sym c.is_empty.ensures ∙ c.if-is_empty.false in
    let read =
    ap (option_map plain_unplaced) (sym c.in-Some.is) ∙ c.in_ok-unplaced.ensures
    ∙ ap (λ all. option_map unplaced_of (form_of (map plain_lexeme all))) c.as_slice.ensures.value in
    line-read roles c.args.line.now c.in_ok-tokens.tokens lexemes.items (plain_unplaced c.in-Some.unplaced)
    (plain_spelled c.in_ok-placed.field-0) c.in_ok-tokens.ensures.tokens c.in_ok-lexemes.ensures some read
    (λ form same. c.in_ok-placed.ensures.form roles form behind same)

pub returns-clause-places : goal.returns-clause-places
returns-clause-places c = λ roles behind.
    let read =
    ap (option_map plain_unplaced) (sym c.in-Some.is) ∙ c.in_ok-unplaced.ensures
    ∙ ap (λ all. option_map unplaced_of (form_of (map plain_lexeme all))) c.as_slice.ensures.value in
    let r = read_of (plain_unplaced c.in-Some.unplaced) (form_of (map plain_lexeme c.in_ok-lexemes.lexemes.items)) read in
    subst (λ form. IsBehind c.placed.new.places (role_of form ∷ roles)) (sym (c.in_ok-placed.ensures.form roles r.spelled behind r.same).0)
    (c.in_ok-placed.ensures.places roles r.spelled behind r.same)
