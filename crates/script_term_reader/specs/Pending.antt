-- Operators that still want their right operand, seen as plain data.
-- Source: the definition of what is pending (algorithm_reading, specs/Pending.antt).
use Rattle.std.specs.Prelude.{option_map}
use Rattle.algorithm_reading.specs.Pending as plain
use Rattle.script_term.specs.Operand.{plain_operand}
use Rattle.script_term_reader.specs.declared.pending.Loose.TheInside.{Inside as LooseInside}
use Rattle.script_term_reader.specs.declared.pending.Tight.TheInside.{Inside as TightInside}
use Rattle.script_term_reader.specs.PendingLeft.{plain_left}

abbrev pub plain_loose : LooseInside → plain.Loose
plain_loose loose =
    record { or_left = option_map plain_operand loose.or_left; and_left = option_map plain_operand loose.and_left; nots = loose.nots }

abbrev pub plain_tight : TightInside → plain.Tight
plain_tight tight =
    record {
      compare_left = plain_left tight.compare_left;
      sum_left = plain_left tight.sum_left;
      product_left = plain_left tight.product_left;
      minuses = tight.minuses;
    }
