-- The ledger from its beginning: what each entry needs of those before it.
use Rattle.std.proofs.Common.{◌≡◌, Bool, true, false, List, [], ◌∷◌, ◌++◌, sym, subst, append_assoc, append-nil}
use Rattle.std.specs.List.{list_any}
use Rattle.std.proofs.lemmas.Bool.{false≢true}
use Rattle.model_loop.specs.Ledger.{LedgerEntry, Asked, Raised, Took, Began}
use Rattle.law_promises.specs.Owed.{AreFound}

pub found_on : (before xs ys : List LedgerEntry) → AreFound before xs → AreFound (before ++ xs) ys → AreFound before (xs ++ ys)
found_on before [] ys a b = subst (λ (l : List LedgerEntry). AreFound l ys) (append-nil before) b
found_on before (x ∷ xs) ys a b =
    (a.0, found_on (before ++ x ∷ []) xs ys a.1 (subst (λ (l : List LedgerEntry). AreFound l ys) (sym (append_assoc before (x ∷ []) xs)) b))

-- whether something is taken back
abbrev pub is_took : LedgerEntry → Bool
is_took (Took task by lowered) = true
is_took _ = false

pub none_found : (before more : List LedgerEntry) → list_any is_took more ≡ false → AreFound before more
none_found before [] h = tt
none_found before (Asked by ∷ more) h = (tt, none_found (before ++ Asked by ∷ []) more h)
none_found before (Raised task by ∷ more) h = (tt, none_found (before ++ Raised task by ∷ []) more h)
none_found before (Began group ∷ more) h = (tt, none_found (before ++ Began group ∷ []) more h)
none_found before (Took task by lowered ∷ more) h = absurd (false≢true (sym h))
