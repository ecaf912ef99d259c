-- The coroutines of a script, by its last lines.
use Rattle.std.proofs.Common.{◌≡◌, ℕ, ◌-◌, ◌<◌, ◌≤◌, suc, List, [], ◌∷◌, ◌++◌, length, take, drop, map, reverse, slice_index_or, ap, ap₂, sym, ◌∙◌, arith}
use Rattle.std.specs.Prelude.{slice_range}
use Rattle.std.proofs.lemmas.List.{reverse-append}
use Rattle.model_text.specs.Forms.{Spelled}
use Rattle.model_text.specs.FirstPass.{Numbered}
use Rattle.model_text.specs.SecondPass as plain
use Rattle.model_text.specs.SecondPass.{ScriptParts, before_parts, parts_of}
use Rattle.script_term.specs.declared.spelled.NumberedForm.{NumberedForm}
use Rattle.script_term.specs.Spelled.{plain_spelled, plain_numbered}
use Rattle.script_naming.specs.declared.part.Part.{Part}
use Rattle.script_naming.specs.Parts.{plain_part, plain_parts}
use Rattle.script_naming.proofs.Names.{drop-before}

abbrev pub parts_in : List NumberedForm → ScriptParts (Numbered Spelled)
parts_in forms = parts_of (map plain_numbered forms)

pub range-before : {A : Type 0} (xs : List A) (at end : ℕ) (x : A) → 0 < at → at ≤ end → end ≤ length xs → x ≡ slice_index_or xs (at - 1) x
    → slice_range xs (at - 1) end ≡ x ∷ slice_range xs at end
range-before xs at end x some in_range inside is =
    let within : at ≤ length xs = omega arith in
    let more : end - (at - 1) ≡ suc (end - at) = omega arith in
    ap₂ (λ n l. take n l) more (drop-before xs at x some within is)

pub parts-before : (forms : List NumberedForm) (at : ℕ) (head : NumberedForm) → 0 < at → at ≤ length forms → head ≡ slice_index_or forms (at - 1) head
    → parts_in (drop (at - 1) forms) ≡ before_parts (plain_spelled head.form) (plain_numbered head) (parts_in (drop at forms))
parts-before forms at head some inside is = ap parts_in (drop-before forms at head some inside is)

pub plain_parts-reverse : (parts : List Part) (part : Part) → plain_part part ∷ plain_parts (reverse parts) ≡ plain_parts (reverse (parts ++ part ∷ []))
plain_parts-reverse parts part = ap plain_parts (sym (reverse-append parts (part ∷ [])))

-- the coroutine of a head takes the lines up to the next
pub parts-headed : (head : NumberedForm) (lines : List NumberedForm) (parts : ScriptParts (Numbered Spelled)) (part : Part) → parts.front
    ≡ map plain_numbered lines
    → ((others : List (plain.Part (Numbered Spelled)))
    → before_parts (plain_spelled head.form) (plain_numbered head) (record { front = map plain_numbered lines; coroutines = others })
    ≡ record { front = []; coroutines = plain_part part ∷ others }) → before_parts (plain_spelled head.form) (plain_numbered head) parts
    ≡ record { front = []; coroutines = plain_part part ∷ parts.coroutines }
parts-headed head lines parts part front headed =
    let these : ScriptParts (Numbered Spelled) → ScriptParts (Numbered Spelled) = before_parts (plain_spelled head.form) (plain_numbered head) in
    ap (λ (f : List (Numbered Spelled)). these (record { front = f; coroutines = parts.coroutines })) front ∙ headed parts.coroutines
