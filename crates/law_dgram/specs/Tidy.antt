-- What is so of all that is kept, whatever was asked.
use Rattle.std.specs.Prelude.{ℕ, ◌<◌}
use Rattle.std.specs.List.{AllByRecursion as Each}
use Rattle.model_dgram.specs.Endpoints.{Endpoint, Endpoints, Waiting}

-- those who stand in line were asked before
abbrev pub IsLined : (drawn : ℕ) → ℕ × Endpoint → Type 0
IsLined drawn entry = Each (λ place. place < drawn) entry.1.senders

-- each that waits has a key that was drawn, each endpoint a number that was given
pub record IsTidy (kept : Endpoints) : Type 0 where
  pub places : Each (λ (entry : ℕ × Waiting). entry.0 < kept.drawn) kept.waiting
  pub numbers : Each (λ (entry : ℕ × Endpoint). entry.0 < kept.opened) kept.endpoints
  pub lines : Each (IsLined kept.drawn) kept.endpoints
