-- One thing after another, where one of them may be missing.
use Rattle.std.proofs.Common.{◌≡◌, Option, Some, None, refl, ap}
use Rattle.std.proofs.Math.Path.{fun_ext}
use Rattle.std.specs.Prelude.{option_and_then, option_map}

pub map-none : {A B : Type 0} (f : A → Option B) (found : Option A) → ((a : A) → f a ≡ None) → option_and_then f found ≡ None
map-none f None e = refl
map-none f (Some a) e = e a

pub and_then-map : {A B C : Type 0} (f : A → B) (g : B → Option C) (found : Option A) → option_and_then g (option_map f found)
    ≡ option_and_then (λ a. g (f a)) found
and_then-map f g None = refl
and_then-map f g (Some a) = refl

pub map-and_then : {A B C : Type 0} (f : B → C) (g : A → Option B) (found : Option A) → option_map f (option_and_then g found)
    ≡ option_and_then (λ a. option_map f (g a)) found
map-and_then f g None = refl
map-and_then f g (Some a) = refl

pub map-map : {A B C : Type 0} (f : A → B) (g : B → C) (found : Option A) → option_map g (option_map f found) ≡ option_map (λ a. g (f a)) found
map-map f g None = refl
map-map f g (Some a) = refl

pub and_then-and_then : {A B C : Type 0} (f : A → Option B) (g : B → Option C) (found : Option A) → option_and_then g (option_and_then f found)
    ≡ option_and_then (λ a. option_and_then g (f a)) found
and_then-and_then f g None = refl
and_then-and_then f g (Some a) = refl

pub map-same : {A : Type 0} (found : Option A) → option_map (λ a. a) found ≡ found
map-same None = refl
map-same (Some a) = refl

pub and_then-ap : {A B : Type 0} (f g : A → Option B) (found : Option A) → ((a : A) → f a ≡ g a) → option_and_then f found ≡ option_and_then g found
and_then-ap f g found e = ap (λ h. option_and_then h found) (fun_ext e)

pub map-ap : {A B : Type 0} (f g : A → B) (found : Option A) → ((a : A) → f a ≡ g a) → option_map f found ≡ option_map g found
map-ap f g found e = ap (λ h. option_map h found) (fun_ext e)
