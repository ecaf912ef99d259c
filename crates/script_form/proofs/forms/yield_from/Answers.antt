use Rattle.std.proofs.Common.{option_map, map, ap, sym, ◌∙◌}
use Rattle.std.specs.Rc.{rc_str_bytes}
use Rattle.model_text.specs.Forms.{YieldFrom}
use Rattle.script_term.specs.Lexeme.{plain_lexeme}
use Rattle.script_term.specs.Spelled.{plain_goal, plain_spelled}
use Rattle.script_form.specs.Capped.{plain_capped}
use Rattle.script_form.proofs.ReadLemmas.{yield_from-read}
use Rattle.script_form.proofs.forms.yield_from.Goals as goal

pub returns : goal.returns
returns c =
    yield_from-read (option_map rc_str_bytes c.args.into) (map plain_lexeme c.args.rest.now) (map plain_lexeme c.in-Some.rest.now)
    (option_map plain_goal (plain_capped c.in-Some-2.goal)) (option_map plain_spelled c.awaiting.result) c.in-Some.ensures
    (ap (option_map (λ goal. option_map plain_goal (plain_capped goal))) (sym c.in-Some-2.is) ∙ c.in_ok-goal.ensures)
    (c.awaiting.ensures ∙ ap (λ goal. option_map (YieldFrom (option_map rc_str_bytes c.args.into)) (option_map plain_goal goal)) c.fits.ensures)
