-- How an exit goes, in the machine's words and in the code's.
use Rattle.std.specs.Prelude.{◌≡◌, ℕ, ◌<◌, Bool, true, false, List, [], ◌∷◌, ◌++◌, Option, Some, None, length, slice_get, slice_set}
use Rattle.model_value.specs.Input.{Input}
use Rattle.model_value.specs.Value.{Exc}
use Rattle.model_loop.specs.Children.{failures}
use Rattle.model_loop.specs.Groups.{Exited, group_of, set_group, is_empty, at_begin, at_end, begin_exit, take_back, abort_if_raised, hear}
use Rattle.model_loop.specs.Loop.{Loop}
use Rattle.model_loop.specs.Parts.{Plain, Parts, Profile, profile_named}
use Rattle.model_loop.specs.Futures.{next_future}
use Rattle.model_loop.specs.Tasks.{waiter_of}
use Rattle.aio_task.specs.View.{View, parts}
use Rattle.aio_task.specs.Keeps.{NameMap}
use Rattle.aio_group.specs.declared.exit.GroupExit.{GroupExit}
use Rattle.aio_group.specs.declared.exit.ExitStep.{ExitStep}
use Rattle.aio_group.specs.declared.exit.ExitStep.TheVariants as next
use Rattle.aio_group.specs.Answers.{fault_of, exit_of}
use Rattle.aio_group.specs.Held.{Held, listed}
use Rattle.aio_group.specs.Stands.{GroupsStand, Came}

-- a loop that runs by this profile
abbrev pub ruled : Profile → Loop → Loop
ruled profile l = record l { profile = profile }

-- the request is taken back, by a profile, where it is time to
abbrev pub taken_back : Profile → (now : Bool) → ℕ → Loop → Loop
taken_back profile now id l = take_back now id (ruled profile l)

-- what a block's end does before the exit waits or ends
abbrev pub begun : Profile → Option Exc → ℕ → Loop → Loop
begun profile raised id l = abort_if_raised raised id (taken_back profile (at_begin profile) id (begin_exit raised id l))

-- what the end of a wait does before the exit waits again or ends
abbrev pub heard : Input → ℕ → Loop → Loop
heard input id l = hear input id (set_group id (record (group_of l id) { exit_future = None }) l)

-- what is done last, before the exit waits or ends
abbrev pub last_step : Profile → ExitStep → ℕ → Loop → Loop
last_step profile (next.Waits future) id l = l
last_step profile (next.Ends fault) id l = taken_back profile (at_end profile) id l

-- each task waits for a future that was made
abbrev pub WaitsMade : Parts → Type 0
WaitsMade p = (task on : ℕ) → waiter_of p task ≡ Some on → on < next_future p

-- How the exit of a group goes on whose body ended with this failure, if with one. Where children are left a future was
-- made.
abbrev pub IsNext : Held → Option Exc → View → ExitStep → View → Type 0
IsNext held body v (next.Waits future) w =
    (is_empty held.children ≡ false)
    × ((future ≡ length v.futures)
    × ((w ≡ record v { futures = v.futures ++ record { kind = Plain; outcome = None; callbacks = [] } ∷ [] })
    × WaitsMade (parts v)))
IsNext held body v (next.Ends fault) w =
    (is_empty held.children ≡ true)
    × ((fault ≡ fault_of (failures (parts v) held.failed ++ listed body)) × (w ≡ v))

-- A group and the parts became these, as the machine's did by a step of its exit, which answered this, where it runs by the
-- profile that the parts have.
abbrev pub Exits : Held → View → Held → View → (ℕ → Loop → Exited) → GroupExit → Type 0
Exits before v after w step exit =
    (t : NameMap) (groups : List Held) (id : ℕ) (l : Loop) → slice_get groups id ≡ Some before
    → GroupsStand t groups v l → l.profile ≡ profile_named v.profile
    → Came t l (slice_set groups id after) w (step id l).loop × (exit_of exit ≡ (step id l).answer)
