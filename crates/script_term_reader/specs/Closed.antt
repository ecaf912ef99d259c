-- What a comma makes of the innermost bracket, and how far the expression before it has come once it closes.
-- Source: the definition of where an expression ends (algorithm_reading, specs/Ends.antt).
use Rattle.std.specs.Prelude.{Option, None, option_map, if◌then◌else◌}
use Rattle.model_text.specs.Words.{Lexeme, is_sign}
use Rattle.algorithm_reading.specs.Reader.{Open, TermProgress, BehindOperand}
use Rattle.algorithm_reading.specs.Ends.{parted, closing, whole}

abbrev pub parted_open : Open → TermProgress → Option Open
parted_open innermost progress =
    option_map (λ bracket. record innermost { bracket = bracket }) (parted innermost.bracket progress)

abbrev pub closed : Lexeme → TermProgress → Open → Option TermProgress
closed lexeme progress innermost =
    if is_sign (closing innermost.bracket) lexeme
    then option_map (λ operand. BehindOperand innermost.loose innermost.tight operand) (whole innermost.bracket progress)
    else None
