-- Why a run ended as it did, by its last turn.
use Rattle.std.proofs.Common.{◌≡◌, ℕ, Bool, true, false, ◌∙◌, sym, subst}
use Rattle.model_value.specs.declared.outcome.Outcome.TheVariants.{Value as Returned, Failed, Cancelled}
use Rattle.model_value.specs.Value.{Outcome}
use Rattle.model_wire.specs.declared.event.End.TheVariants as end
use Rattle.model_wire.specs.Told.{WireSeen}
use Rattle.model_wire.specs.Trace.{End}
use Rattle.model_machine.specs.Outcomes.{end_of}
use Rattle.model_machine.specs.Run.{turns_over}
use Rattle.model_commands.specs.Causes.{IsCaused}
use Rattle.aio_wire.specs.declared.stop.Stop.TheVariants as stop
use Rattle.aio_core.specs.declared.went.Went as code
use Rattle.aio_core.specs.declared.went.Went.TheVariants as went
use Rattle.aio_core.specs.Turning.{HasCause}
use Rattle.aio_drive.specs.Ending.{EndedSo}

outcome_caused : (seen last : WireSeen) (outcome : Outcome) → IsCaused seen last (end_of outcome)
outcome_caused seen last (Returned value) = tt
outcome_caused seen last (Failed fault) = tt
outcome_caused seen last Cancelled = tt

-- `seen` is the wire as the run began, `now` as its last turn did, and `last` after it.
module _ (seen now last : WireSeen) where
  pub ended_caused : (said : code.Went) (it : End) → EndedSo it said → HasCause now last said → now.fitting ≡ seen.fitting → IsCaused seen last it
  ended_caused went.Went it so cause same = absurd so
  ended_caused (went.Finished outcome) it so cause same = subst (IsCaused seen last) (sym so) (outcome_caused seen last outcome)
  ended_caused went.Stalled it so cause same = subst (IsCaused seen last) (sym so) tt
  ended_caused (went.Runaway task) it so cause same = subst (IsCaused seen last) (sym so) tt
  ended_caused (went.Stopped (stop.Over call)) it so cause same = subst (IsCaused seen last) (sym so) cause
  ended_caused (went.Stopped (stop.Bad fault)) it so cause same = subst (IsCaused seen last) (sym so) cause
  ended_caused (went.Stopped (stop.Mismatch count call)) it so cause same = subst (IsCaused seen last) (sym so.0) (sym same ∙ cause)
  ended_caused (went.Stopped (stop.Failed call)) it so cause same = absurd so
  ended_caused (went.Stopped stop.Memory) it so cause same = absurd so

-- one that may make no further turn
pub limit_caused : (seen last : WireSeen) (stalled : Bool) (turns : ℕ) → IsCaused seen last (turns_over stalled turns)
limit_caused seen last true turns = tt
limit_caused seen last false turns = tt
