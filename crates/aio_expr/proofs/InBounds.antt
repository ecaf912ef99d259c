-- When a value is in bounds.
use Rattle.std.proofs.Common.{◌≡◌, ℕ, ◌<◌, ◌≤◌, Bool, true, false, nat_le, ◌&&◌, if◌then◌else◌, Ok, Err, refl, ap, ap₂, sym}
use Rattle.std.proofs.lemmas.Bool.{false≢true, lt-leb, le-leb}
use Rattle.model_value.specs.Value.{Value}
use Rattle.model_value.specs.Weight.{weight_of}
use Rattle.model_value.specs.Depth.{depth_of}
use Rattle.model_says.specs.Operations.{bounded, heaviest, deepest, out_of_range}

not_le : (a b : ℕ) → b < a → nat_le a b ≡ false
not_le a b above = lt-leb a b above

both_no : (a b : Bool) → a ≡ false → (a && b) ≡ false
both_no true b e = absurd (false≢true (sym e))
both_no false b e = refl

second_no : (a b : Bool) → b ≡ false → (a && b) ≡ false
second_no true b e = e
second_no false b e = refl

decided : (test : Bool) (value : Value) (answer : Bool) → test ≡ answer → (if test then Ok value else Err out_of_range)
    ≡ (if answer then Ok value else Err out_of_range)
decided test value answer e = ap (λ b. if b then Ok value else Err out_of_range) e

pub too_heavy : (value : Value) → heaviest < weight_of value → bounded value ≡ Err out_of_range
too_heavy value above = decided _ value false (both_no _ _ (not_le (weight_of value) heaviest above))

pub too_deep : (value : Value) → deepest < depth_of value → bounded value ≡ Err out_of_range
too_deep value above = decided _ value false (second_no _ _ (not_le (depth_of value) deepest above))

pub in_bounds : (value : Value) → weight_of value ≤ heaviest → depth_of value ≤ deepest → bounded value ≡ Ok value
in_bounds value light shallow =
    decided _ value true (ap₂ (λ a b. a && b) (le-leb (weight_of value) heaviest light) (le-leb (depth_of value) deepest shallow))
