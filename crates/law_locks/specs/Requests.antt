-- Requests are numbered in order of asking, and one that goes on after a wait is one that was asked.
use Rattle.std.specs.Prelude.{◌≡◌, ℕ, ◌<◌, true, false, List, ◌∷◌, ◌++◌, Some, slice_get}
use Rattle.model_sync.specs.Serving.{Wanted}
use Rattle.law_locks.specs.Tries.{Reply}

-- it was asked before, under this number, and wanted this
pub record WasAsked (before : List Reply) (number : ℕ) (wanted : Wanted) : Type 0 where
  pub place : ℕ
  pub reply : Reply
  pub there : slice_get before place ≡ Some reply
  pub asked : reply.waited ≡ false
  pub numbered : reply.number ≡ number
  pub wants : reply.wanted ≡ wanted

abbrev pub AreAskedBefore : List Reply → Type 0
AreAskedBefore replies =
    (before after : List Reply) (reply : Reply) → replies ≡ before ++ reply ∷ after → reply.waited ≡ true → WasAsked before reply.number reply.wanted

abbrev pub AreNumberedInOrder : List Reply → Type 0
AreNumberedInOrder replies =
    (before between after : List Reply) (first second : Reply) → replies ≡ before ++ first ∷ (between ++ second ∷ after) → first.waited ≡ false
    → second.waited ≡ false → first.number < second.number

pub record RequestsKeep (replies : List Reply) : Type 0 where
  pub asked : AreAskedBefore replies
  pub numbered : AreNumberedInOrder replies
