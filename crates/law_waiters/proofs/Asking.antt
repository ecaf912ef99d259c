-- Beside parts that keep to their own keys each wait_for asks once, in every run.
use Rattle.std.proofs.Common.{ℕ, List}
use Rattle.model_tree.specs.Syntax.{Program}
use Rattle.model_wire.specs.Journal.{Entry}
use Rattle.model_machine.specs.Extra.{Extra, no_extra}
use Rattle.model_machine.specs.State.{start}
use Rattle.model_reach.specs.Reach.{OfDgram, OfExec, OfSync, Part, reach}
use Rattle.model_gather.specs.Serving.{gather_means}
use Rattle.law_kept.proofs.Turning.{run_on}
use Rattle.law_kept.specs.Runs.{IsRunOf}
use Rattle.law_waiters.specs.Reached.{first_parted}
use Rattle.law_waiters.specs.Timed.{AsksOnce, KeepsToKeys}
use Rattle.law_waiters.proofs.Keeping.{Holds, asks_once_in, begins_right, timed_walk}
use Rattle.law_waiters.proofs.Running.{run_follows}

-- a part that isn't there
pub nothing_keeps : (part : Part) → KeepsToKeys part no_extra
nothing_keeps part = record {
  ask = λ task code arguments s. (tt, tt);
  wake = λ key input s e. (tt, tt);
  act = λ key s e. tt;
  item = λ code bytes s. tt;
}

pub asks_beside : {B C D : Type 0} (sync : Extra B) (exec : Extra C) (dgram : Extra D) → KeepsToKeys OfSync sync → KeepsToKeys OfExec exec
    → KeepsToKeys OfDgram dgram → (b : B) (c : C) (d : D) (most limit : ℕ) (program : Program) (answers : List Entry) (turns : ℕ)
    → IsRunOf (λ s. AsksOnce s.extra.gather s.loop.ledger) limit (reach gather_means sync exec dgram) turns
    (start most (first_parted b c d) program answers)
asks_beside sync exec dgram of_sync of_exec of_dgram b c d most limit program answers turns =
    let first = start most (first_parted b c d) program answers in
    run_follows (Holds sync exec dgram of_sync of_exec of_dgram) (λ s. AsksOnce s.extra.gather s.loop.ledger)
    (λ s r. asks_once_in s.extra.gather s.loop s.generators r) limit (reach gather_means sync exec dgram) turns first
    (run_on (timed_walk sync exec dgram of_sync of_exec of_dgram) limit turns first
    (begins_right sync exec dgram of_sync of_exec of_dgram b c d most program answers))
