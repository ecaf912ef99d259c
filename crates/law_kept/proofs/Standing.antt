-- At which requests of what is added tasks stand, after a change of what one of them runs.
use Rattle.std.proofs.Common.{◌≡◌, ◌⊎◌, inl, inr, ℕ, zero, suc, List, [], ◌∷◌, ◌++◌, slice_index_or, slice_set, refl, sym, ap, ◌∙◌}
use Rattle.model_value.specs.Value.{Value}
use Rattle.model_machine.specs.Sound.{StandsUnder}
use Rattle.model_machine.specs.State.{ResumePoint, Asked, Serving, Generator, generator}

asked_serves : (key : ℕ) → Asked ≡ Serving key → ⊥
asked_serves key e = absurd (cc)

-- it stands at none of them then
pub set_fewer : (gs : List Generator) (task : ℕ) (g : Generator) (other key : ℕ) → ((key : ℕ) → g.resume_point ≡ Serving key → ⊥)
    → StandsUnder (slice_set gs task g) other key → StandsUnder gs other key
set_fewer [] task g other key never h = h
set_fewer (x ∷ xs) zero g zero key never h = absurd (never key h)
set_fewer (x ∷ xs) zero g (suc other) key never h = h
set_fewer (x ∷ xs) (suc task) g zero key never h = h
set_fewer (x ∷ xs) (suc task) g (suc other) key never h = set_fewer xs task g other key never h

pub set_nowhere : (gs : List Generator) (task : ℕ) (g : Generator) (key : ℕ) → ((key : ℕ) → g.resume_point ≡ Serving key → ⊥)
    → StandsUnder (slice_set gs task g) task key → ⊥
set_nowhere [] task g key never h = asked_serves key h
set_nowhere (x ∷ xs) zero g key never h = never key h
set_nowhere (x ∷ xs) (suc task) g key never h = set_nowhere xs task g key never h

-- it stands as before
pub set_same : (gs : List Generator) (task : ℕ) (g : Generator) (other key : ℕ)
    → g.resume_point ≡ (slice_index_or gs task (generator 0 [])).resume_point → StandsUnder (slice_set gs task g) other key → StandsUnder gs other key
set_same [] task g other key same h = h
set_same (x ∷ xs) zero g zero key same h = sym same ∙ h
set_same (x ∷ xs) zero g (suc other) key same h = h
set_same (x ∷ xs) (suc task) g zero key same h = h
set_same (x ∷ xs) (suc task) g (suc other) key same h = set_same xs task g other key same h

-- it stands at this one
abbrev key_in : ResumePoint → ℕ
key_in (Serving key) = key
key_in _ = 0

pub set_at : (gs : List Generator) (task key : ℕ) (g : Generator) (other stood : ℕ) → g.resume_point ≡ Serving key
    → StandsUnder (slice_set gs task g) other stood → StandsUnder gs other stood ⊎ ((other ≡ task) × (stood ≡ key))
set_at [] task key g other stood is h = inl h
set_at (x ∷ xs) zero key g zero stood is h = inr (refl, ap key_in (sym h ∙ is))
set_at (x ∷ xs) zero key g (suc other) stood is h = inl h
set_at (x ∷ xs) (suc task) key g zero stood is h = inl h
set_at (x ∷ xs) (suc task) key g (suc other) stood is h = next (set_at xs task key g other stood is h)
  where
    next : StandsUnder xs other stood ⊎ ((other ≡ task) × (stood ≡ key)) → StandsUnder xs other stood ⊎ ((suc other ≡ suc task) × (stood ≡ key))
    next (inl h) = inl h
    next (inr e) = inr (ap suc e.0, e.1)

-- a new task stands at none
pub push_fewer : (gs : List Generator) (coroutine : ℕ) (arguments : List Value) (other key : ℕ)
    → StandsUnder (gs ++ generator coroutine arguments ∷ []) other key → StandsUnder gs other key
push_fewer [] coroutine arguments zero key h = absurd (asked_serves key h)
push_fewer [] coroutine arguments (suc other) key h = h
push_fewer (x ∷ xs) coroutine arguments zero key h = h
push_fewer (x ∷ xs) coroutine arguments (suc other) key h = push_fewer xs coroutine arguments other key h
