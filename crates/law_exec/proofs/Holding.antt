-- What is so of each future that is kept.
use Rattle.std.proofs.Common.{◌≡◌, ℕ, List, [], ◌∷◌, Option, Some}
use Rattle.std.specs.List.{AllByRecursion as Each}
use Rattle.model_exec.specs.Execed.{Asking, Execed, Standing, Waiting, ask_last, exec_keeps, is_number, on_of, stand_no_more, stand_on, standing_at}
pub use Rattle.law_sync.proofs.Lists.{all_each, among_each, each_all, each_from, replaced_among}
use Rattle.law_sync.proofs.Lists.{each_append, each_flat, each_found, each_on, each_removed, each_replaced, flat_each}

module _ (P : ℕ → Type 0) where
  abbrev pub StandingHolds : ℕ × Standing → Type 0
  StandingHolds entry = Each P (on_of entry.1)

  abbrev pub Holds : Execed → Type 0
  Holds kept = Each StandingHolds kept.standing

  abbrev of_standing : ℕ × Standing → List ℕ
  of_standing entry = on_of entry.1

  pub holds_from : (kept : Execed) → Each P (exec_keeps kept).own → Holds kept
  holds_from kept own = flat_each of_standing P kept.standing own

  pub own_holds : (kept : Execed) → Holds kept → Each P (exec_keeps kept).own
  own_holds kept h = each_flat of_standing P kept.standing h

  -- ---- states
  pub last_holds : (kept : Execed) → Holds kept → Holds (ask_last kept)
  last_holds kept h = each_append StandingHolds kept.standing ((kept.drawn, Asking) ∷ []) h (tt, tt)

  pub on_holds : (place : ℕ) (it : Standing) (kept : Execed) → Holds kept → Each P (on_of it) → Holds (stand_on place it kept)
  on_holds place it kept h on = each_replaced StandingHolds (is_number place) kept.standing it h (λ key. on)

  pub no_more_holds : (place : ℕ) (kept : Execed) → Holds kept → Holds (stand_no_more place kept)
  no_more_holds place kept h = each_removed StandingHolds (is_number place) kept.standing h

  -- the future on which a request waits
  pub found_holds : (place on : ℕ) (came : Option (List ℕ)) (kept : Execed) → Holds kept → standing_at place kept ≡ Some (Waiting on came) → P on
  found_holds place on came kept h e = (each_found StandingHolds (is_number place) kept.standing (Waiting on came) e h).1.0

-- what is so of more
pub holds_on : (P Q : ℕ → Type 0) → ((id : ℕ) → P id → Q id) → (kept : Execed) → Holds P kept → Holds Q kept
holds_on P Q on kept h = each_on (StandingHolds P) (StandingHolds Q) (λ entry a. each_on P Q on (on_of entry.1) a) kept.standing h
