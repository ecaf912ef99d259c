-- What follows from what holds of every state of a run holds of every state of it too.
use Rattle.std.proofs.Common.{ℕ, zero, suc, List, [], ◌∷◌}
use Rattle.model_machine.specs.Extra.{Extra}
use Rattle.model_machine.specs.Mids.{mids}
use Rattle.model_machine.specs.State.{State}
use Rattle.model_machine.specs.Turn.{turn}
use Rattle.model_machine.specs.Went.{Went, Goes, Stops}
use Rattle.law_kept.specs.Runs.{AfterTurn, AreAll, IsRunOf}

module _ {S : Type 0} (P Q : State S → Type 0) (on : (s : State S) → P s → Q s) where
  all_follow : (states : List (State S)) → AreAll P states → AreAll Q states
  all_follow [] all = tt
  all_follow (s ∷ states) all = (on s all.0, all_follow states all.1)

  after_follows : (G H : State S → Type 0) (went : Went S) → ((t : State S) → G t → H t) → AfterTurn P G went → AfterTurn Q H went
  after_follows G H (Goes now) each it = each now it
  after_follows G H (Stops how last) each it = on last it

  pub run_follows : (limit : ℕ) (added : Extra S) (turns : ℕ) (s : State S) → IsRunOf P limit added turns s → IsRunOf Q limit added turns s
  run_follows limit added zero s it = on s it
  run_follows limit added (suc turns) s it = (
    on s it.0,
    all_follow (mids limit added s) it.1,
    after_follows (IsRunOf P limit added turns) (IsRunOf Q limit added turns) (turn limit added s) (run_follows limit added turns) it.2,
  )
