use Rattle.std.proofs.Common.{◌≡◌, List, [], ◌∷◌, Some, option_map, map, length, refl, ap, ◌∙◌, arith}
use Rattle.model_text.specs.Levels.{from_bare, term_of}
use Rattle.script_form.specs.Fitting.{fitting, height_of_arguments}
use Rattle.script_form.specs.Parts.{plain_part}
use Rattle.script_form.proofs.terms.from_bare.Goals as goal

nothing : {A : Type 0} (xs : List A) → length xs ≡ 0 → [] ≡ xs
nothing [] e = refl
nothing (x ∷ xs) e = absurd (omega arith)

pub returns-in_default : goal.returns-in_default
returns-in_default c = λ terms e.
    ap Some (c.joined.ensures terms [] e (ap Some c.new.ensures.items))
    ∙ ap (λ parts. option_map (fitting height_of_arguments) (from_bare term_of terms (map plain_part parts)))
    (nothing c.args.parts.now c.in_default.ensures.cases)
