-- When bytes are a text.
use Rattle.std.proofs.Common.{◌≡◌, ℕ, Bool, true, false, if◌then◌else◌, List, Ok, Err, IsUtf8, nat_le, ◌&&◌, refl, ap, ◌∙◌, subst}
use Rattle.std.specs.Str.{is_utf8}
use Rattle.std.proofs.lemmas.Str.{is_utf8-from_IsUtf8, IsUtf8-from_is_utf8}
use Rattle.std.specs.Result.{result_unwrap_or}
use Rattle.model_value.specs.Value.{Value, Text, Bytes}
use Rattle.model_value.specs.Weight.{weight_of}
use Rattle.model_value.specs.Depth.{depth_of}
use Rattle.model_tree.specs.declared.function.Function.TheVariants as function
use Rattle.model_says.specs.Operations.{bounded, decoded, applied, heaviest, deepest, not_utf8, out_of_range}

by_test : (bytes : List ℕ) (test : Bool) → is_utf8 bytes ≡ test → decoded bytes ≡ (if test then bounded (Text bytes) else Err not_utf8)
by_test bytes test e = ap (λ b. if b then bounded (Text bytes) else Err not_utf8) e

pub decoded-utf8 : (bytes : List ℕ) → IsUtf8 bytes → decoded bytes ≡ bounded (Text bytes)
decoded-utf8 bytes h = by_test bytes true (is_utf8-from_IsUtf8 bytes h)

pub decoded-other : (bytes : List ℕ) → ¬ (IsUtf8 bytes) → decoded bytes ≡ Err not_utf8
decoded-other bytes h = go (is_utf8 bytes) refl
  where
    go : (test : Bool) → is_utf8 bytes ≡ test → decoded bytes ≡ Err not_utf8
    go true e = absurd (h (IsUtf8-from_is_utf8 bytes e))
    go false e = by_test bytes false e

-- ---- texts from their bytes
value_is : (test : Bool) (v w : Value) → (if test then Ok v else Err out_of_range) ≡ Ok w → (test ≡ true) × (v ≡ w)
value_is true v w e = (refl, ap (λ r. result_unwrap_or r v) e)
value_is false v w e = absurd cc

pub text-of-bytes : (t : List ℕ) (b : Value) → IsUtf8 t → applied function.Bytes (Text t) ≡ Ok b → applied function.Text b ≡ Ok (Text t)
text-of-bytes t b utf8 e =
    let found = value_is (nat_le (weight_of (Bytes t)) heaviest && nat_le (depth_of (Bytes t)) deepest) (Bytes t) b e in
    subst (λ v. applied function.Text v ≡ Ok (Text t)) found.1
    (decoded-utf8 t utf8 ∙ ap (λ test. if test then Ok (Text t) else Err out_of_range) found.0)
