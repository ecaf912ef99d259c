use Rattle.std.proofs.Common.{◌≡◌, min, max, drop}
use Rattle.model_text.specs.Terms.{terms, height_of_all}
use Rattle.script_term.proofs.term.greatest.Given as goal

abbrev pub invariant-loop-item : goal.invariant-loop-item
invariant-loop-item l =
    max l.height (min (height_of_all (terms (drop l.item-index l.items))) 255) ≡ min (height_of_all (terms l.items)) 255
