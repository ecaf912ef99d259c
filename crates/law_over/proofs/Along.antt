-- However trees end that are put together.
use Rattle.std.proofs.Common.{◌≡◌, ℕ, Bool, true, false, cond, List, [], ◌∷◌, refl}
use Rattle.model_value.specs.Value.{Outcome}
use Rattle.model_stream.specs.Doing.{Doing, Ends, Changes, Asks, and_then, settles}
use Rattle.law_over.specs.AllEnds.{AllEnds}

pub ends_if : {A : Type 0} (Holds : A → Type 0) (b : Bool) (x y : Doing A) → (b ≡ true → AllEnds Holds x) → (b ≡ false → AllEnds Holds y)
    → AllEnds Holds (cond b x y)
ends_if Holds true x y here there = here refl
ends_if Holds false x y here there = there refl

-- of every result
pub ends_any : {A : Type 0} (Holds : A → Type 0) (doing : Doing A) → ((result : A) → Holds result) → AllEnds Holds doing
ends_any Holds (Ends result) each = each result
ends_any Holds (Changes change rest) each = ends_any Holds rest each
ends_any Holds (Asks call rest) each = λ answer. ends_any Holds (rest answer) each

pub ends_map : {A : Type 0} (Holds Then : A → Type 0) (doing : Doing A) → ((result : A) → Holds result → Then result)
    → AllEnds Holds doing → AllEnds Then doing
ends_map Holds Then (Ends result) each here = each result here
ends_map Holds Then (Changes change rest) each here = ends_map Holds Then rest each here
ends_map Holds Then (Asks call rest) each here = λ answer. ends_map Holds Then (rest answer) each (here answer)

pub ends_then : {A B : Type 0} (Holds : B → Type 0) (doing : Doing A) (next : A → Doing B) → AllEnds (λ result. AllEnds Holds (next result)) doing
    → AllEnds Holds (and_then doing next)
ends_then Holds (Ends result) next here = here
ends_then Holds (Changes change rest) next here = ends_then Holds rest next here
ends_then Holds (Asks call rest) next here = λ answer. ends_then Holds (rest answer) next (here answer)

pub ends_into : {A B : Type 0} (Holds : B → Type 0) (into : A → B) (doing : Doing A) → AllEnds (λ result. Holds (into result)) doing
    → AllEnds Holds (and_then doing (λ result. Ends (into result)))
ends_into Holds into doing here = ends_then Holds doing (λ result. Ends (into result)) here

-- after futures that are told
pub ends_told : {A : Type 0} (Holds : A → Type 0) (futures : List ℕ) (outcome : Outcome) (rest : Doing A) → AllEnds Holds rest
    → AllEnds Holds (settles futures outcome rest)
ends_told Holds [] outcome rest here = here
ends_told Holds (future ∷ futures) outcome rest here = ends_told Holds futures outcome rest here
