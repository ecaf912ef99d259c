use Rattle.std.proofs.Common.{◌≡◌, Some, map, take}
use Rattle.std.specs.Rc.{rc_str_bytes}
use Rattle.model_text.specs.Levels.{all_of, bare_name}
use Rattle.script_form.specs.Parts.{plain_part}
use Rattle.script_form.proofs.terms.all_names.Given as goal

abbrev pub invariant-loop-part : goal.invariant-loop-part
invariant-loop-part l =
    all_of bare_name (map plain_part (take l.part-index l.parts)) ≡ Some (map rc_str_bytes l.names.items)
