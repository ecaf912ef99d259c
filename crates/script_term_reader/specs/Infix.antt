-- An operator between operands, by its level, seen as plain data.
-- Source: the definition of how an expression is read (algorithm_reading, specs/Feeding.antt).
use Rattle.algorithm_reading.specs.Feeding as plain
use Rattle.script_term_reader.specs.declared.feeding.Infix.{Infix}
use Rattle.script_term_reader.specs.declared.feeding.Infix.TheVariants.{Compares, Adds, Multiplies}

abbrev pub plain_infix : Infix → plain.Infix
plain_infix (Compares comparison) = plain.Compares comparison
plain_infix (Adds operator) = plain.Adds operator
plain_infix (Multiplies operator) = plain.Multiplies operator
