use Rattle.std.proofs.Common.{◌≡◌, drop, map}
use Rattle.model_text.specs.Scripts.{profile_in}
use Rattle.model_text.specs.SecondPass.{parts_of}
use Rattle.script_term.specs.Spelled.{plain_numbered}
use Rattle.script_naming.proofs.part.profile_of.Given as goal

abbrev pub invariant-loop-line : goal.invariant-loop-line
invariant-loop-line l =
    profile_in (parts_of (map plain_numbered (drop l.line-index l.forms))).front ≡ profile_in (parts_of (map plain_numbered l.forms)).front
