use Rattle.std.proofs.Common.{◌≡◌, List, [], drop, map}
use Rattle.model_tree.specs.Syntax.{Name}
use Rattle.model_text.specs.SecondPass.{parts_judged}
use Rattle.aio_program.specs.Line.{plain_part}
use Rattle.script_naming.specs.Parts.{plain_parts}
use Rattle.script_naming.specs.Scope.{Holds}
use Rattle.script_naming.proofs.Judged.{after}
use Rattle.script_naming.proofs.pass.parts_judged.Given as goal

abbrev pub invariant-loop-part : goal.invariant-loop-part
invariant-loop-part l =
    (names : List Name) × Holds l.earlier names × (parts_judged l.callees [] (plain_parts l.parts)
    ≡ after (map plain_part l.named.items) (parts_judged l.callees names (plain_parts (drop l.part-index l.parts))))
