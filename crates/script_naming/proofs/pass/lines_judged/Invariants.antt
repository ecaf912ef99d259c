use Rattle.std.proofs.Common.{◌≡◌, drop, map}
use Rattle.model_text.specs.SecondPass.{lines_judged}
use Rattle.script_term.specs.Spelled.{plain_numbered}
use Rattle.aio_program.specs.Line.{plain_line}
use Rattle.script_naming.proofs.Judged.{after}
use Rattle.script_naming.proofs.pass.lines_judged.Given as goal

abbrev pub invariant-loop-line : goal.invariant-loop-line
invariant-loop-line l =
    lines_judged l.scope (map plain_numbered l.lines)
    ≡ after (map plain_line l.meant.items) (lines_judged l.scope (map plain_numbered (drop l.line-index l.lines)))
