-- Coroutines whose lines are lent, seen as plain data.
-- Source: the definition of parts (model_text, specs/SecondPass.antt).
use Rattle.std.specs.Prelude.{List, map}
use Rattle.std.specs.Rc.{rc_str_bytes}
use Rattle.model_text.specs.Forms.{Spelled}
use Rattle.model_text.specs.FirstPass.{Numbered}
use Rattle.model_text.specs.SecondPass as plain
use Rattle.script_term.specs.Spelled.{plain_numbered}
use Rattle.script_naming.specs.declared.part.Part.{Part}

abbrev pub plain_part : Part → plain.Part (Numbered Spelled)
plain_part part =
    record { line = part.line; name = rc_str_bytes part.name.now; parameters = map rc_str_bytes part.parameters.now; lines = map plain_numbered part.lines.now }

-- these lines, and then these coroutines
abbrev pub lines_before : List (Numbered Spelled) → List (plain.Part (Numbered Spelled)) → plain.ScriptParts (Numbered Spelled)
lines_before lines coroutines = record { front = lines; coroutines = coroutines }

abbrev pub plain_parts : List Part → List (plain.Part (Numbered Spelled))
plain_parts parts = map plain_part parts
