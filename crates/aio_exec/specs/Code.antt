-- Requests that stand, and jobs, as trees of numbers, and back. By it types of code may be seen as such.
use Rattle.std.specs.Prelude.{◌≡◌, ℕ, ◌⊎◌, List, Option}
use Rattle.std.specs.Coded.{Coded, code_by, coded×, coded⊎, coded_list, coded_option, coded_ℕ}
use Rattle.std.proofs.Common.{inl, inr, refl}
use Rattle.model_exec.specs.Execed.{Asking, Standing, Waiting}
use Rattle.aio_exec.specs.Drawn.{Accepted, Drawn}

abbrev Cases : Type 0
Cases = ℕ ⊎ (ℕ × Option (List ℕ))

abbrev cases_of : Standing → Cases
cases_of Asking = inl 0
cases_of (Waiting on came) = inr (on, came)

abbrev standing_of : Cases → Standing
standing_of (inl n) = Asking
standing_of (inr p) = Waiting p.0 p.1

pub back : (it : Standing) → standing_of (cases_of it) ≡ it
back Asking = refl
back (Waiting on came) = refl

abbrev pub coded_standing : Coded Standing
coded_standing = code_by Cases (coded⊎ coded_ℕ (coded× coded_ℕ (coded_option (coded_list coded_ℕ)))) cases_of standing_of back

abbrev pub coded_drawn : Coded Drawn
coded_drawn =
    code_by (ℕ × List (ℕ × Standing)) (coded× coded_ℕ (coded_list (coded× coded_ℕ coded_standing))) (λ d. (d.drawn, d.standing))
    (λ p. record { drawn = p.0; standing = p.1 }) (λ _. refl)

abbrev pub coded_accepted : Coded Accepted
coded_accepted =
    code_by (ℕ × List (ℕ × ℕ)) (coded× coded_ℕ (coded_list (coded× coded_ℕ coded_ℕ))) (λ d. (d.accepted, d.going))
    (λ p. record { accepted = p.0; going = p.1 }) (λ _. refl)
