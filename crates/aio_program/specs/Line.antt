-- Lines and parts of the code as plain data.
use Rattle.std.specs.Prelude.{map}
use Rattle.std.specs.Rc.{rc_str_bytes}
use Rattle.model_text.specs.Forms as form
use Rattle.model_text.specs.SecondPass as plain
use Rattle.model_text.specs.SecondPass.{Part}
use Rattle.aio_program.specs.declared.line.Line.{Line}
use Rattle.aio_program.specs.declared.line.Line.TheVariants as line
use Rattle.aio_program.specs.declared.line.NamedPart.{NamedPart}
use Rattle.aio_program.specs.Target.{plain_name, plain_target}

abbrev pub plain_line : Line → plain.Line
plain_line (line.Profile number) = form.Profile number
plain_line (line.Def name parameters) = form.Def (rc_str_bytes name) (map rc_str_bytes parameters.items)
plain_line (line.Assign name value) = form.Assign (rc_str_bytes name) value
plain_line line.Yield = form.Yield
plain_line (line.YieldFrom into target) = form.YieldFrom (plain_name into) (plain_target target)
plain_line (line.Print items) = form.Print items
plain_line (line.Raise fault) = form.Raise fault
plain_line (line.Return value) = form.Return value
plain_line line.Pass = form.Pass
plain_line (line.If test) = form.If test
plain_line line.Else = form.Else
plain_line (line.While test) = form.While test
plain_line line.Try = form.Try
plain_line (line.Except kind name) = form.Except kind (plain_name name)
plain_line line.Finally = form.Finally
plain_line (line.WithGroup name) = form.WithGroup (rc_str_bytes name)
plain_line (line.WithTimeout delay name) = form.WithTimeout delay (rc_str_bytes name)
plain_line line.End = form.End

abbrev pub plain_part : NamedPart → Part plain.Line
plain_part part =
    record { line = part.line; name = rc_str_bytes part.name; parameters = map rc_str_bytes part.parameters.items; lines = map plain_line part.lines.items }
