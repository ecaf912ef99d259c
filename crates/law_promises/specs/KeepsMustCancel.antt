-- What clears no must_cancel, and where in profile 2 a cancel that was taken back whole clears it.
use Rattle.std.specs.Prelude.{◌≡◌, ℕ, ◌+◌, ◌⊎◌, true, List, ◌∷◌, ◌++◌}
use Rattle.std.specs.List.{count_by}
use Rattle.model_loop.specs.Balance.{lowers, raises}
use Rattle.model_loop.specs.Ledger.{Origin, LedgerEntry, Took}
use Rattle.model_loop.specs.Loop.{Loop}
use Rattle.model_loop.specs.Parts.{Parts, Two}
use Rattle.model_loop.specs.Tasks.{cancelling, must_cancel_of}

-- each task that must cancel is so afterwards
abbrev pub KeepsMustCancel : (before after : Parts) → Type 0
KeepsMustCancel before after = (task : ℕ) → must_cancel_of before task ≡ true → must_cancel_of after task ≡ true

-- In profile 2, between `l` and `q` an `uncancel` lowered the task's count from 1 to 0: each request was taken back. The count
-- before that entry is that of `l` and what the ledger says since.
pub record AllTakenBack (task : ℕ) (l q : Loop) : Type 0 where
  pub profile : l.profile ≡ Two
  pub before : List LedgerEntry
  pub by : Origin
  pub after : List LedgerEntry
  pub ledger : q.ledger ≡ l.ledger ++ (before ++ Took task by true ∷ after)
  pub last : cancelling l.parts task + count_by (raises task) before ≡ count_by (lowers task) before + 1

-- In profile 1 it keeps each; in profile 2 it does unless all was taken back.
abbrev pub KeepsOrTakesBack : Loop → Loop → Type 0
KeepsOrTakesBack l q =
    (task : ℕ) → must_cancel_of l.parts task ≡ true → (must_cancel_of q.parts task ≡ true) ⊎ AllTakenBack task l q
