-- What holds along every way.
use Rattle.std.proofs.Common.{◌≡◌, Bool, true, false, cond, List, [], ◌∷◌, ◌++◌, refl}
use Rattle.model_value.specs.Value.{Outcome}
use Rattle.model_stream.specs.Doing.{Doing, Ends, Changes, Asks, Settle, and_then, settles}
use Rattle.law_stream.specs.Ways.{Move, Did, Heard, Always}
use Rattle.std.specs.Prelude.{ℕ}

pub always_if :
    {A : Type 0} (Holds : List Move → A → Type 0) (b : Bool) (x y : Doing A) → (b ≡ true → Always Holds x) → (b ≡ false → Always Holds y)
    → Always Holds (cond b x y)
always_if Holds true x y here there = here refl
always_if Holds false x y here there = there refl

pub always_map :
    {A : Type 0} (Holds Then : List Move → A → Type 0) (doing : Doing A) → ((moves : List Move) (result : A) → Holds moves result → Then moves result)
    → Always Holds doing → Always Then doing
always_map Holds Then (Ends result) each here = each [] result here
always_map Holds Then (Changes change rest) each here =
    always_map (λ moves. Holds (Did change ∷ moves)) (λ moves. Then (Did change ∷ moves)) rest (λ moves. each (Did change ∷ moves)) here
always_map Holds Then (Asks call rest) each here =
    λ answer fit.
    always_map (λ moves. Holds (Heard call answer ∷ moves)) (λ moves. Then (Heard call answer ∷ moves)) (rest answer)
    (λ moves. each (Heard call answer ∷ moves)) (here answer fit)

pub always_into :
    {A B : Type 0} (Holds : List Move → B → Type 0) (into : A → B) (doing : Doing A)
    → Always (λ moves result. Holds moves (into result)) doing → Always Holds (and_then doing (λ result. Ends (into result)))
always_into Holds into (Ends result) here = here
always_into Holds into (Changes change rest) here = always_into (λ moves. Holds (Did change ∷ moves)) into rest here
always_into Holds into (Asks call rest) here =
    λ answer fit. always_into (λ moves. Holds (Heard call answer ∷ moves)) into (rest answer) (here answer fit)

pub always_then :
    {A B : Type 0} (Holds : List Move → B → Type 0) (doing : Doing A) (next : A → Doing B)
    → Always (λ moves result. Always (λ more. Holds (moves ++ more)) (next result)) doing → Always Holds (and_then doing next)
always_then Holds (Ends result) next here = here
always_then Holds (Changes change rest) next here = always_then (λ moves. Holds (Did change ∷ moves)) rest next here
always_then Holds (Asks call rest) next here =
    λ answer fit. always_then (λ moves. Holds (Heard call answer ∷ moves)) (rest answer) next (here answer fit)

-- futures that are told change nothing of what holds where one doesn't
pub always_told :
    {A : Type 0} (Holds : List Move → A → Type 0) (futures : List ℕ) (outcome : Outcome) (rest : Doing A)
    → ((future : ℕ) (moves : List Move) (result : A) → Holds moves result → Holds (Did (Settle future outcome) ∷ moves) result)
    → Always Holds rest → Always Holds (settles futures outcome rest)
always_told Holds [] outcome rest quiet here = here
always_told Holds (future ∷ futures) outcome rest quiet here =
    always_map Holds (λ moves. Holds (Did (Settle future outcome) ∷ moves)) (settles futures outcome rest) (λ moves result. quiet future moves result)
    (always_told Holds futures outcome rest quiet here)
