-- Forms of the code, seen as plain data.
-- Source: the definition of forms (model_text, specs/Forms.antt).
use Rattle.std.specs.Prelude.{map, option_map}
use Rattle.std.specs.Rc.{rc_str_bytes}
use Rattle.model_text.specs.Levels as levels
use Rattle.model_text.specs.Forms as plain
use Rattle.model_text.specs.FirstPass.{Numbered}
use Rattle.script_term.specs.declared.spelled.Arguments.{Arguments}
use Rattle.script_term.specs.declared.spelled.Goal.{Goal}
use Rattle.script_term.specs.declared.spelled.Goal.TheVariants.{Awaited, Asked}
use Rattle.script_term.specs.declared.spelled.Spelled.{Spelled}
use Rattle.script_term.specs.declared.spelled.Spelled.TheVariants.{Profile, Def, Assign, Yield, YieldFrom, Print, Raise, Return, Pass, If, Else, While, Try}
use Rattle.script_term.specs.declared.spelled.Spelled.TheVariants.{Except, Finally, WithGroup, WithTimeout, End}
use Rattle.script_term.specs.declared.spelled.NumberedForm.{NumberedForm}

abbrev pub plain_arguments : Arguments → levels.Arguments
plain_arguments arguments =
    record { before = arguments.before.items; bare = option_map rc_str_bytes arguments.bare; after = arguments.after.items }

abbrev pub plain_goal : Goal → plain.Goal
plain_goal (Awaited name) = plain.Awaited (rc_str_bytes name)
plain_goal (Asked name arguments) = plain.Asked (rc_str_bytes name) (plain_arguments arguments)

abbrev pub plain_spelled : Spelled → plain.Spelled
plain_spelled (Profile number) = plain.Profile number
plain_spelled (Def name parameters) = plain.Def (rc_str_bytes name) (map rc_str_bytes parameters.items)
plain_spelled (Assign name value) = plain.Assign (rc_str_bytes name) value
plain_spelled Yield = plain.Yield
plain_spelled (YieldFrom into goal) = plain.YieldFrom (option_map rc_str_bytes into) (plain_goal goal)
plain_spelled (Print items) = plain.Print items.items
plain_spelled (Raise fault) = plain.Raise fault
plain_spelled (Return value) = plain.Return value
plain_spelled Pass = plain.Pass
plain_spelled (If test) = plain.If test
plain_spelled Else = plain.Else
plain_spelled (While test) = plain.While test
plain_spelled Try = plain.Try
plain_spelled (Except kind name) = plain.Except (rc_str_bytes kind) (option_map rc_str_bytes name)
plain_spelled Finally = plain.Finally
plain_spelled (WithGroup name) = plain.WithGroup (rc_str_bytes name)
plain_spelled (WithTimeout delay name) = plain.WithTimeout delay (rc_str_bytes name)
plain_spelled End = plain.End

abbrev pub plain_numbered : NumberedForm → Numbered plain.Spelled
plain_numbered numbered = record { line = numbered.line; form = plain_spelled numbered.form }
