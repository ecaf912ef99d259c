use Rattle.std.proofs.Common.{Some, map, option_map, ap, sym, ◌∙◌}
use Rattle.model_text.specs.Levels.{term_of}
use Rattle.script_term.specs.Lexeme.{plain_lexeme}
use Rattle.script_term.specs.Operand.{plain_operand}
use Rattle.script_form.proofs.TermLemmas.{one_kept, none_kept}
use Rattle.script_form.proofs.terms.one_term.Goals as goal

pub returns : goal.returns
returns c =
    ap Some (c.that_fits.ensures)
    ∙ one_kept (plain_operand c.in-Some.operand) (term_of (map plain_lexeme c.args.lexemes.now))
    (ap (option_map plain_operand) (sym c.in-Some.is) ∙ c.in_ok-operand.ensures)

pub returns-in_default : goal.returns-in_default
returns-in_default c =
    none_kept (term_of (map plain_lexeme c.args.lexemes.now)) (ap (option_map plain_operand) (sym c.in_default.is) ∙ c.in_ok-operand.ensures)
