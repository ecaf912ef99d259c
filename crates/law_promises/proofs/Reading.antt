-- A ledger each of whose entries has what it needs is right.
use Rattle.std.proofs.Common.{◌≡◌, false, true, List, [], ◌∷◌, ◌++◌, sym, ap, subst, ◌∙◌, append_assoc, append-nil}
use Rattle.std.specs.List.{list_any}
use Rattle.model_loop.specs.Ledger.{LedgerEntry, Took}
use Rattle.law_promises.specs.Owed.{AreFound, uncancels}
use Rattle.law_promises.specs.Taken.{TakesWhatWasThere}

pub reads_right : (ledger : List LedgerEntry) → AreFound [] ledger → TakesWhatWasThere ledger
reads_right ledger found before after task by e hand =
    at [] before (subst (AreFound []) e found)
  where
    at : (read rest : List LedgerEntry) → AreFound read (rest ++ Took task by false ∷ after) → list_any (uncancels task) (read ++ rest) ≡ true
    at read [] a = ap (list_any (uncancels task)) (append-nil read) ∙ a.0 hand
    at read (x ∷ rest) a = sym (ap (list_any (uncancels task)) (append_assoc read (x ∷ []) rest)) ∙ at (read ++ x ∷ []) rest a.1
