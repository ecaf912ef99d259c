-- What is so of each future that is kept.
use Rattle.std.proofs.Common.{ℕ, List}
use Rattle.std.specs.List.{AllByRecursion as Each}
use Rattle.model_dgram.specs.Endpoints.{Endpoints, Waiting, dgram_keeps, futures_of}
use Rattle.law_sync.proofs.Lists.{each_flat, each_on, flat_each}

abbrev pub futures_in : ℕ × Waiting → List ℕ
futures_in entry = futures_of entry.1

module _ (P : ℕ → Type 0) where
  abbrev pub WaitingHolds : ℕ × Waiting → Type 0
  WaitingHolds entry = Each P (futures_of entry.1)

  abbrev pub Holds : List (ℕ × Waiting) → Type 0
  Holds waiting = Each WaitingHolds waiting

  pub holds_from : (kept : Endpoints) → Each P (dgram_keeps kept).own → Holds kept.waiting
  holds_from kept own = flat_each futures_in P kept.waiting own

  pub own_holds : (kept : Endpoints) → Holds kept.waiting → Each P (dgram_keeps kept).own
  own_holds kept h = each_flat futures_in P kept.waiting h

-- what is so of more
pub holds_on : (P Q : ℕ → Type 0) → ((id : ℕ) → P id → Q id) → (waiting : List (ℕ × Waiting)) → Holds P waiting → Holds Q waiting
holds_on P Q on waiting h =
    each_on (WaitingHolds P) (WaitingHolds Q) (λ entry a. each_on P Q on (futures_of entry.1) a) waiting h
