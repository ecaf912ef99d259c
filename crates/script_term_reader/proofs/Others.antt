-- What a lexeme makes of an expression, where it is none of those that a definition names.
use Rattle.std.proofs.Common.{◌≡◌, List, option_and_then, refl}
use Rattle.model_text.specs.declared.symbol.Symbol.{Symbol as AnySymbol}
use Rattle.model_text.specs.declared.symbol.Symbol.TheVariants as symbol
use Rattle.algorithm_reading.specs.Operands.{Operand}
use Rattle.algorithm_reading.specs.Pending.{Loose, Tight}
use Rattle.algorithm_reading.specs.Reader.{Open, AtOperand, reading}
use Rattle.algorithm_reading.specs.Feeding.{infix_of, behind_infix, at_symbol}

pub at_symbol-other : (s : AnySymbol) (loose : Loose) (tight : Tight) (operand : Operand) (opened : List Open) → (s ≡ symbol.LeftBracket → ⊥)
    → option_and_then (λ pending. reading (AtOperand loose pending) opened) (option_and_then (behind_infix tight operand) (infix_of s))
    ≡ at_symbol loose tight operand opened s
at_symbol-other symbol.LeftBracket loose tight operand opened differs = absurd (differs refl)
at_symbol-other s loose tight operand opened differs = refl
