-- All values of a list whose last item stands behind the others.
use Rattle.std.proofs.Common.{◌≡◌, List, [], ◌∷◌, ◌++◌, Option, Some, None, option_map, option_and_then, refl, ap, ◌∙◌}
use Rattle.model_text.specs.Levels.{all_of}
use Rattle.script_term.specs.Operand.{with_last}

one : {B : Type 0} (last : Option B) → option_and_then (λ y. Some (y ∷ [])) last ≡ option_map (λ y. y ∷ []) last
one None = refl
one (Some y) = refl

more : {B : Type 0} (first : Option B) (all : Option (List B)) (last : Option B) → option_and_then (λ y. option_map (λ ys. y ∷ ys) (with_last all last)) first
    ≡ with_last (option_and_then (λ y. option_map (λ ys. y ∷ ys) all) first) last
more None all last = refl
more (Some y) None last = refl
more (Some y) (Some ys) None = refl
more (Some y) (Some ys) (Some z) = refl

pub all_of-append_one : {A B : Type 0} (f : A → Option B) (xs : List A) (x : A) → all_of f (xs ++ x ∷ []) ≡ with_last (all_of f xs) (f x)
all_of-append_one f [] x = one (f x)
all_of-append_one f (first ∷ xs) x =
    ap (λ rest. option_and_then (λ y. option_map (λ ys. y ∷ ys) rest) (f first)) (all_of-append_one f xs x) ∙ more (f first) (all_of f xs) (f x)
