-- The parts as the code sees them: the futures that it released stand as done ones.
use Rattle.std.specs.Prelude.{◌≡◌, ℕ, suc, Bool, true, cond, List, [], ◌∷◌, Some, None}
use Rattle.model_value.specs.Value.{Nothing}
use Rattle.model_value.specs.declared.outcome.Outcome.TheVariants.{Value}
use Rattle.model_loop.specs.Parts.{Plain, Future, Parts}
use Rattle.model_loop.specs.Cancel.{CancelRequest}
use Rattle.algorithm_parts.specs.Quiet.{stage_at}

-- what stands for a future that was released: one that ended with None, as most do
abbrev pub released : Future
released = record { kind = Plain; outcome = Some (Value Nothing); callbacks = [] }

abbrev pub release_from : (ℕ → Bool) → ℕ → List Future → List Future
release_from gone number [] = []
release_from gone number (future ∷ futures) = cond (gone number) released future ∷ release_from gone (suc number) futures

abbrev pub with_released : (ℕ → Bool) → Parts → Parts
with_released gone p = record p { futures = release_from gone 0 p.futures }

abbrev pub with_released_in : (ℕ → Bool) → CancelRequest → CancelRequest
with_released_in gone r = record r { parts = with_released gone r.parts }

-- those that were released are done
abbrev pub AreDone : (ℕ → Bool) → Parts → Type 0
AreDone gone p = (id : ℕ) → gone id ≡ true → stage_at p id ≡ None
