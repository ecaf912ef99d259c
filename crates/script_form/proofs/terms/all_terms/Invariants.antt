use Rattle.std.proofs.Common.{◌≡◌, Some, option_map, map, take}
use Rattle.model_text.specs.Levels.{all_of, term_of}
use Rattle.model_text.specs.Places.{heights}
use Rattle.script_form.specs.Parts.{plain_part}
use Rattle.script_form.specs.Capped.{plain_capped}
use Rattle.script_form.specs.Fitting.{fitting}
use Rattle.script_form.proofs.terms.all_terms.Given as goal

abbrev pub invariant-loop-part : goal.invariant-loop-part
invariant-loop-part l =
    option_map (fitting heights) (all_of term_of (map plain_part (take l.part-index l.parts))) ≡ Some (option_map (λ terms. terms.items) (plain_capped l.terms))
