-- Exits of children, and what `pump_exit` did.
use Rattle.std.specs.Prelude.{◌≡◌, ◌==◌, ℕ, ◌+◌, ◌-◌, ◌^◌, ◌≤◌, ℤ, Bool, if◌then◌else◌, min, List, [], ◌∷◌, Option}
use Rattle.std.specs.List.{list_any}
use Rattle.model_wire.specs.Told.{Agrees, Rose}
use Rattle.model_pump.specs.declared.post.PostKind.TheVariants.{Exit, Fault}
use Rattle.aio_pump.specs.declared.exit.Exited.{Exited}
use Rattle.aio_pump.specs.declared.exit.Exited.TheVariants.{Code, Failed}
use Rattle.aio_pump.specs.declared.report.Ending.{Ending}
use Rattle.aio_pump.specs.declared.report.Ending.TheVariants as ending
use Rattle.aio_pump.specs.Moments.{Moment, Posts, IsSpent}

-- an exit as it is seen: its code, where that is told, and how often waiting for it failed
pub record ExitSeen : Type 0 where
  pub code : Option ℤ
  pub faults : ℕ

-- a wait gives the code that is told, or it failed and is counted; the code stays, and the count never falls
abbrev pub ExitAnswers : ExitSeen → Exited → ExitSeen → Type 0
ExitAnswers old (Code code) new = Agrees old.code code × (new.code ≡ old.code) × (old.faults ≤ new.faults)
ExitAnswers old Failed new = Rose old.faults new.faults × (new.code ≡ old.code) × (old.faults ≤ new.faults)

-- ---- the exit in memory
-- its code, the numbers of the waits that fail, and how many waits were made and failed so far
pub record ExitPlan : Type 0 where
  pub code : ℤ
  pub failing : List ℕ
  pub waits : ℕ
  pub faults : ℕ

abbrev pub one_more : ℕ → ℕ
one_more count = min (count + 1) (2 ^ 64 - 1)

-- the next wait is one that fails
abbrev pub fails : ExitPlan → Bool
fails plan = list_any (λ wait. wait == one_more plan.waits) plan.failing

abbrev pub exited : ExitPlan → Exited
exited plan = if fails plan then Failed else Code plan.code

abbrev pub waited : ExitPlan → ExitPlan
waited plan =
    record plan { waits = one_more plan.waits; faults = (if fails plan then one_more plan.faults else plan.faults) }

-- ---- the pump
-- How `pump_exit` ended: it posted the code, once; or the wait failed, and it posted the fault, once; or its poster was
-- spent, and it posted nothing. It moved nothing.
abbrev pub PumpedExit : Moment ExitSeen → Moment ExitSeen → Ending → Type 0
PumpedExit before after ending.Ended =
    (code : ℤ) × Agrees before.served.code code × Posts (Exit code ∷ []) before after × (after.moved ≡ 0)
PumpedExit before after ending.Failed =
    Rose before.served.faults after.served.faults × Posts (Fault ∷ []) before after × (after.moved ≡ 0)
PumpedExit before after ending.Spent = IsSpent after.poster × Posts [] before after × (after.moved ≡ 0)
PumpedExit before after ending.Stopped = ⊥
PumpedExit before after ending.Memory = ⊥
