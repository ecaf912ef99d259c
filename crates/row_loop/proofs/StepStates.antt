-- The states of steps, and those of the end of a run, are sound.
use Rattle.std.proofs.Common.{[], ◌∷◌, Some, None, Ok, refl}
use Rattle.model_value.specs.Value.{Nothing}
use Rattle.model_value.specs.declared.action.Action.TheVariants.{Step}
use Rattle.model_loop.specs.Parts.{Profile, One}
use Rattle.model_loop.specs.Sound.{IsSound}
use Rattle.law_sound.proofs.Beginning.{first_sound, nobody, no_loop_sound as nothing}
use Rattle.row_loop.specs.Ledgers.{main_done}
use Rattle.row_loop.specs.Standing.{PartsStand, PartsStandInBoth, LoopStands, bare, under}
use Rattle.row_loop.specs.Steps.{awaited, handled, handler_runs, nothing_made, one_task, paused, running, running_must_cancel, running_over_none, sleeping}
use Rattle.row_loop.specs.Steps.{three_timers, two_due}
use Rattle.row_loop.specs.Steps.{woken_and_must_cancel, woken_at_once}
use Rattle.row_loop.proofs.Building.{asks, at, begins, below, falls_due, finishes, hears, lowers, many, no_group, pauses, plain, sleeps, task, waits}

pub nothing_made_stands : PartsStand None nothing_made
nothing_made_stands = ([], (nobody, nothing One))

pub one_task_stands : PartsStand None one_task
one_task_stands = ([], (nobody, task (nothing One)))

runs_under : (profile : Profile) → IsSound (Some 0) nobody (under profile (bare running []))
runs_under profile = plain (begins (first_sound profile) 0 refl refl refl)

main_runs : IsSound (Some 0) nobody (bare running [])
main_runs = runs_under One

pub running_stands : PartsStand (Some 0) running
running_stands = ([], (nobody, main_runs))

-- it asked for its own cancel, once and twice, and took that back
pub running_must_cancel_once : PartsStandInBoth (Some 0) (running_must_cancel 1)
running_must_cancel_once profile = (_, (nobody, asks (runs_under profile) 0 0))

pub running_must_cancel_twice : PartsStandInBoth (Some 0) (running_must_cancel 2)
running_must_cancel_twice profile = (_, (nobody, asks (asks (runs_under profile) 0 0) 0 0))

pub running_must_cancel_never : PartsStand (Some 0) (running_must_cancel 0)
running_must_cancel_never = (_, (nobody, lowers (asks main_runs 0 0) 0 0))

main_sleeps : IsSound None nobody (bare sleeping [])
main_sleeps = waits main_runs 1 refl

pub sleeping_stands : PartsStand None sleeping
sleeping_stands = ([], (nobody, main_sleeps))

pub woken_at_once_stands : PartsStand None (woken_at_once 1)
woken_at_once_stands = (_, (nobody, asks main_sleeps 0 0))

pub woken_and_must_cancel_stands : PartsStand None (woken_and_must_cancel 2)
woken_and_must_cancel_stands = (_, (nobody, asks (asks main_sleeps 0 0) 0 0))

pub paused_stands : PartsStand None (paused (Step 0))
paused_stands = ([], (nobody, pauses main_runs))

pub running_over_none_stands : PartsStand (Some 0) running_over_none
running_over_none_stands = (_, (nobody, asks (begins (many (task (nothing One)) [] (below 1 [] refl)) 0 refl refl refl) 0 0))

pub awaited_stands : PartsStand (Some 0) (awaited [] 3)
awaited_stands =
    let made = many (plain (task (task (nothing One)))) (2 ∷ 1 ∷ []) (below 3 (2 ∷ 1 ∷ []) refl) in
    let zero_ = pauses (begins made 0 refl refl refl) in
    ([], (nobody, begins (waits (begins zero_ 1 refl refl refl) 0 refl) 0 refl refl refl))

child_handles : IsSound None nobody (bare handled [])
child_handles = hears (task (task (nothing One))) 1 0 1

pub handled_stands : PartsStand None handled
handled_stands = ([], (nobody, child_handles))

pub handler_runs_stands : PartsStand (Some 1) handler_runs
handler_runs_stands = ([], (nobody, begins (pauses (begins child_handles 0 refl refl refl)) 1 refl refl refl))

timers_wait : IsSound None nobody (bare three_timers [])
timers_wait =
    let made = plain (plain (plain (begins (first_sound One) 0 refl refl refl))) in
    let slept = sleeps (sleeps (sleeps made 20 0 1 refl) 30 0 2 refl) 10 0 3 refl in
    at (finishes slept (Ok Nothing) (no_group 0)) 20

pub three_timers_stands : PartsStand None three_timers
three_timers_stands = ([], (nobody, timers_wait))

pub two_due_stands : PartsStand None two_due
two_due_stands = ([], (nobody, falls_due timers_wait))

pub main_done_stands : LoopStands None main_done
main_done_stands =
    let made = plain (task (task (task (nothing One)))) in
    let zero_ = finishes (begins made 0 refl refl refl) (Ok Nothing) (no_group 0) in
    (nobody, waits (begins (waits (begins zero_ 1 refl refl refl) 3 refl) 2 refl refl refl) 1 refl)
