-- The exit in memory answers as every exit does.
use Rattle.std.proofs.Common.{◌≤◌, Bool, true, false, if◌then◌else◌, Some, refl, arith}
use Rattle.aio_pump.specs.declared.exit.Exited.TheVariants.{Code, Failed}
use Rattle.aio_pump.specs.Exits.{ExitSeen, ExitAnswers, ExitPlan, one_more, fails, exited, waited}

abbrev pub plan_seen : ExitPlan → ExitSeen
plan_seen plan = record { code = Some plan.code; faults = plan.faults }

-- by whether the wait is one that fails
by_fails : (plan : ExitPlan) (faulty : Bool)
    → plan.faults ≤ (if faulty then one_more plan.faults else plan.faults)
    → ExitAnswers (plan_seen plan) (if faulty then Failed else Code plan.code)
    (record { code = Some plan.code; faults = (if faulty then one_more plan.faults else plan.faults) })
by_fails plan true later = (omega arith, refl, later)
by_fails plan false later = ((λ held is. cc), refl, later)

pub wait_answers : (plan : ExitPlan) → plan.faults ≤ (waited plan).faults → ExitAnswers (plan_seen plan) (exited plan) (plan_seen (waited plan))
wait_answers plan later = by_fails plan (fails plan) later
