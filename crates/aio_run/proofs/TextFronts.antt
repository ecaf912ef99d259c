-- The front of a text that is a byte longer than the longest spells what the text spells.
use Rattle.std.proofs.Common.{◌≡◌, ℕ, ◌<◌, Bool, true, false, nat_le, List, length, take, refl, ap, sym, ◌∙◌, arith}
use Rattle.std.proofs.lemmas.Bool.{leb-true, leb-false, lt-leb}
use Rattle.std.proofs.lemmas.List.{take_all, length-take}
use Rattle.std.specs.Prelude.{if◌then◌else◌}
use Rattle.model_text.specs.declared.cause.Cause.TheVariants.{TooLong}
use Rattle.model_text.specs.FirstPass.{fault_at}
use Rattle.model_text.specs.TextLines.{text_lines}
use Rattle.model_text.specs.Scripts.{most_bytes, script_of, script_of_lines}

too_long : (text : List ℕ) → most_bytes < length text → script_of text ≡ fault_at 1 TooLong
unfolding script_of
too_long text long =
    ap (λ fits. if fits then script_of_lines (text_lines text) else fault_at 1 TooLong) (lt-leb (length text) most_bytes long)

alike_if : (text : List ℕ) (fits : Bool) → nat_le (length text) most_bytes ≡ fits → script_of (take 1048577 text) ≡ script_of text
alike_if text true fits =
    let short = leb-true (length text) most_bytes fits in
    ap script_of (take_all 1048577 text (omega (arith, short)))
alike_if text false fits =
    let long = leb-false (length text) most_bytes fits in
    too_long (take 1048577 text) (omega (arith, long, length-take 1048577 text)) ∙ sym (too_long text long)

pub spells_alike : (text : List ℕ) → script_of (take 1048577 text) ≡ script_of text
spells_alike text = alike_if text (nat_le (length text) most_bytes) refl
