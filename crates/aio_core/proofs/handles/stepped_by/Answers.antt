use Rattle.std.proofs.Common.{◌≡◌, ◌⊎◌, inl, inr, None, ap}
use Rattle.model_value.specs.Action.{Action}
use Rattle.law_reach.specs.Changes.{runner_of}
use Rattle.aio_core.proofs.Acting.{steps_cycle, steps_plain, steps_woken, wakeup_begins}
use Rattle.aio_core.proofs.handles.stepped_by.Goals as goal

pub woken_with-requires : goal.woken_with-requires
woken_with-requires g c = wakeup_begins c.in-Wakeup.task c.args.body.now (rw c.in-Wakeup.is at c.requires)

pub returns-in-Step : goal.returns-in-Step
returns-in-Step g c = rw c.in-Step.is (steps_plain c.args.body.now c.in-Step.task c.nothing.result c.nothing.ensures)

pub returns-in_ok-fault-in-StepInCycle : goal.returns-in_ok-fault-in-StepInCycle
returns-in_ok-fault-in-StepInCycle g c =
    rw c.in-StepInCycle.is (steps_cycle c.args.body.now c.in-StepInCycle.task c.in-StepInCycle.cycle _ c.in_ok-fault-in-StepInCycle.ensures)

pub returns-in_ok-input-in-Wakeup : goal.returns-in_ok-input-in-Wakeup
returns-in_ok-input-in-Wakeup g c =
    rw c.in-Wakeup.is (steps_woken c.args.body.now c.in-Wakeup.task _ c.in_ok-input-in-Wakeup.ensures.made c.in_ok-input-in-Wakeup.ensures.input)

pub returns-in-MainDone : goal.returns-in-MainDone
returns-in-MainDone g c = ap runner_of c.in-MainDone.is

-- ---- the others step none
module _ (it : Action) where
  either : {A B : Type 0} → A ⊎ B → (A → runner_of it ≡ None) → (B → runner_of it ≡ None) → runner_of it ≡ None
  either (inl a) f g = f a
  either (inr b) f g = g b

pub returns-in-SleepDone : goal.returns-in-SleepDone
returns-in-SleepDone g c =
    let it = c.args.action.now in
    either it c.in-SleepDone.is (λ w. ap runner_of w.2) (λ v.
    either it v (λ w. ap runner_of w.2) (λ v.
    either it v (λ w. ap runner_of w.1) (λ v.
    either it v (λ w. ap runner_of w.1) (λ v.
    either it v (λ w. ap runner_of w.2) (λ v.
    either it v (λ w. ap runner_of w.1) (λ v.
    either it v (λ w. ap runner_of w.1) (λ v.
    either it v (λ w. ap runner_of w.2) (λ v.
    either it v (λ w. ap runner_of w.2) (λ v.
    either it v (λ w. ap runner_of w.1) (λ v.
    either it v (λ w. ap runner_of w.1) (λ v.
    either it v (λ w. ap runner_of w.1) (λ v.
    either it v (λ w. ap runner_of w.1) (λ v.
    either it v (λ w. ap runner_of w.1) (λ v.
    either it v (λ w. ap runner_of w.1) (λ v.
    either it v (λ w. ap runner_of w.2) (λ w.
    ap runner_of w.2))))))))))))))))
