-- The forms so far, and then those of the rest, are the text's.
use Rattle.std.proofs.Common.{◌≡◌, ◌+◌, ◌≤◌, length, map}
use Rattle.model_text.specs.TextLines.{text_lines}
use Rattle.model_text.specs.FirstPass.{first_pass, forms_from}
use Rattle.script_term.specs.Spelled.{plain_numbered}
use Rattle.script_form.specs.Placed.{IsBehind}
use Rattle.script_form.specs.Behind.{roles_of}
use Rattle.script_form.proofs.PassLemmas.{before_all}
use Rattle.script_form.proofs.pass.first_pass.Given as goal

abbrev pub invariant-loop-first : goal.invariant-loop-first
invariant-loop-first l = record {
  few : l.line + length l.rest ≤ length l.text + 1;
  behind : IsBehind l.places (roles_of (map plain_numbered l.forms.items));
  forms :
      first_pass (text_lines l.text)
      ≡ before_all (map plain_numbered l.forms.items) (forms_from l.line (roles_of (map plain_numbered l.forms.items)) (text_lines l.rest));
}

abbrev pub decreases-loop-first : goal.decreases-loop-first
decreases-loop-first l = length l.rest
