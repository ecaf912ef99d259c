use Rattle.std.proofs.Common.{◌≡◌, List, option_and_then, ◌∙◌}
use Rattle.std.proofs.lemmas.Result.{IfOk-weaker}
use Rattle.algorithm_reading.specs.Reader.{Open as OpenBracket, AtOperand, reading}
use Rattle.algorithm_reading.specs.Feeding.{infix_of, behind_infix, at_symbol}
use Rattle.script_term.specs.Operand.{plain_operand}
use Rattle.script_term_reader.specs.Next.{applied}
use Rattle.script_term_reader.proofs.Others.{at_symbol-other}
use Rattle.script_term_reader.proofs.feeding.at_symbol.Goals as goal

pub returns-in_default : goal.returns-in_default
returns-in_default c =
    IfOk-weaker c.infixed_by.result
    (λ next. (opened : List OpenBracket) → applied next opened
    ≡ option_and_then (λ pending. reading (AtOperand c.args.loose pending) opened)
    (option_and_then (behind_infix c.args.tight (plain_operand c.args.operand)) (infix_of c.args.symbol)))
    (λ next. (opened : List OpenBracket) → applied next opened ≡ at_symbol c.args.loose c.args.tight (plain_operand c.args.operand) opened c.args.symbol)
    (λ next made opened. made opened
    ∙ at_symbol-other c.args.symbol c.args.loose c.args.tight (plain_operand c.args.operand) opened c.in_default.not-LeftBracket)
    c.infixed_by.ensures
