-- The states of timeouts are sound.
use Rattle.std.proofs.Common.{◌<◌, ◌++◌, Some, None, pos, refl, arith}
use Rattle.model_loop.specs.Loop.{Expired, Expiring}
use Rattle.model_loop.specs.Parts.{Profile, One, Two}
use Rattle.model_loop.specs.Sound.{IsSound}
use Rattle.model_loop.specs.Tasks.{cancelled_error}
use Rattle.law_sound.proofs.Beginning.{nobody, no_loop_sound as nothing}
use Rattle.row_loop.specs.Nested.{alone_due, alone_left, alone_waiting, before, both_asked, both_due, expiring_alone, expiring_and_asked, expiring_and_lowered}
use Rattle.row_loop.specs.Nested.{inner_took, outer_fired, stepping}
use Rattle.row_loop.specs.ProfileTwo.{must_cancel_at_exit}
use Rattle.row_loop.specs.Standing.{LoopStands, under}
use Rattle.row_loop.proofs.Building.{asks, at, begins, enters, falls_due, fires, leaves, lowers, pauses, plain, task, waits}

before_under : (profile : Profile) → IsSound (Some 0) nobody (under profile before)
before_under profile = begins (task (nothing profile)) 0 refl refl refl

before_both : IsSound (Some 0) nobody before
before_both = before_under One

pub before_stands : LoopStands (Some 0) before
before_stands = (nobody, before_both)

both_come : IsSound None nobody both_due
both_come = falls_due (at (waits (plain (enters (enters before_both 0 (Some (pos 10))) 0 (Some (pos 10)))) 1 refl) 10)

pub both_due_stands : LoopStands None both_due
both_due_stands = (nobody, both_come)

outer_came : IsSound None nobody outer_fired
outer_came = fires both_come 0 refl refl refl

pub outer_fired_stands : LoopStands None outer_fired
outer_fired_stands = (nobody, outer_came)

both_came : IsSound (Some 0) nobody (stepping 2 Expiring Expiring both_asked)
both_came = begins (fires outer_came 1 refl refl refl) 0 refl refl refl

pub inner_leaves_stands : LoopStands (Some 0) (stepping 2 Expiring Expiring both_asked)
inner_leaves_stands = (nobody, both_came)

pub outer_leaves_stands : LoopStands (Some 0) (stepping 1 Expiring Expired (both_asked ++ inner_took))
outer_leaves_stands = let within : 1 < 2 = omega arith in (nobody, leaves both_came (Some cancelled_error) 1 within refl)

-- ---- one timeout: it is entered, the task pauses, and goes on at time 10
came_under : (profile : Profile) → IsSound (Some 0) nobody (under profile alone_due)
came_under profile = begins (falls_due (at (pauses (enters (before_under profile) 0 (Some (pos 10)))) 10)) 0 refl refl refl

alone_came : IsSound (Some 0) nobody alone_due
alone_came = came_under One

pub alone_due_stands : LoopStands (Some 0) alone_due
alone_due_stands = (nobody, alone_came)

pub alone_left_stands : LoopStands (Some 0) alone_left
alone_left_stands = let within : 0 < 1 = omega arith in (nobody, leaves alone_came (Some cancelled_error) 0 within refl)

pub alone_waiting_stands : LoopStands (Some 0) alone_waiting
alone_waiting_stands = (nobody, begins (falls_due (at (pauses (enters before_both 0 (Some (pos 30)))) 10)) 0 refl refl refl)

expires_under : (profile : Profile) → IsSound (Some 0) nobody (under profile expiring_alone)
expires_under profile = begins (fires (pauses (came_under profile)) 0 refl refl refl) 0 refl refl refl

expires_alone : IsSound (Some 0) nobody expiring_alone
expires_alone = expires_under One

pub expiring_alone_stands : LoopStands (Some 0) expiring_alone
expiring_alone_stands = (nobody, expires_alone)

pub expiring_and_lowered_stands : LoopStands (Some 0) expiring_and_lowered
expiring_and_lowered_stands = (nobody, lowers expires_alone 0 0)

-- the task asked for its own cancel in the block, and caught it
pub expiring_and_asked_stands : LoopStands (Some 0) expiring_and_asked
expiring_and_asked_stands =
    let caught = begins (falls_due (at (pauses (asks (enters before_both 0 (Some (pos 10))) 0 0)) 10)) 0 refl refl refl in
    (nobody, begins (fires (pauses caught) 0 refl refl refl) 0 refl refl refl)

-- the script took the timeout's cancel back, and then the task asked for its own
pub must_cancel_at_exit_stands : (profile : Profile) → LoopStands (Some 0) (under profile must_cancel_at_exit)
must_cancel_at_exit_stands One = (nobody, asks (lowers (expires_under One) 0 0) 0 0)
must_cancel_at_exit_stands Two = (nobody, asks (lowers (expires_under Two) 0 0) 0 0)
