-- The states of a group are sound.
use Rattle.std.proofs.Common.{ℕ, ◌<◌, true, [], ◌∷◌, List, Some, None, Ok, Err, refl, arith}
use Rattle.model_value.specs.Value.{Nothing}
use Rattle.model_value.specs.declared.action.Action.TheVariants.{GroupDone, Wakeup}
use Rattle.model_loop.specs.Children.{told_more}
use Rattle.model_loop.specs.Ledger.{Began}
use Rattle.model_loop.specs.Loop.{Loop}
use Rattle.model_loop.specs.Parts.{OfTask, Plain, Profile, One, Two}
use Rattle.model_loop.specs.Sound.{IsSound}
use Rattle.model_loop.specs.Tasks.{cancelled_error}
use Rattle.law_sound.proofs.Beginning.{nobody, no_loop_sound as nothing}
use Rattle.row_loop.specs.Family.{a, all_woken, asked_before, b, both_failed, c, cancelled_body, child_failed, in_block, last_was_told, loop_of, parent_alone}
use Rattle.row_loop.specs.Family.{parent_with_child, parent_woken, three_children, told_nothing, told_one, unentered}
use Rattle.row_loop.specs.Made.{free, parts_of, waiting, waits as waiting_for}
use Rattle.row_loop.specs.ProfileTwo.{child_left, child_over}
use Rattle.row_loop.specs.Standing.{LoopStands, under}
use Rattle.row_loop.proofs.Building.{asks, begins, begins_exit, creates, enters_group, child_finishes, makes_group, pauses, plain, task, tells}
use Rattle.row_loop.proofs.Building.{waits}

first : 0 < 1
first = omega arith

module _ (profile : Profile) where
  unentered_group : IsSound (Some 0) nobody (under profile (loop_of parent_alone unentered []))
  unentered_group = makes_group (begins (task (nothing profile)) 0 refl refl refl) 0

  in_its_block : IsSound (Some 0) nobody (under profile (loop_of parent_alone (in_block []) []))
  in_its_block = enters_group unentered_group 0 first refl

  pub with_one : IsSound (Some 0) nobody (under profile (loop_of parent_with_child (in_block (1 ∷ [])) []))
  with_one = creates in_its_block 0

pub unentered_stands : LoopStands (Some 0) (loop_of parent_alone unentered [])
unentered_stands = (nobody, unentered_group One)

pub in_block_stands : LoopStands (Some 0) (loop_of parent_alone (in_block []) [])
in_block_stands = (nobody, in_its_block One)

pub parent_with_child_stands : (profile : Profile) → LoopStands (Some 0) (under profile (loop_of parent_with_child (in_block (1 ∷ [])) []))
parent_with_child_stands profile = (nobody, with_one profile)

-- ---- the exit waits for one task, which returns or fails
abbrev one_runs : Loop
one_runs =
    loop_of
    (parts_of (waiting (OfTask 0) [] ∷ waiting (OfTask 1) (GroupDone 0 1 ∷ []) ∷ waiting Plain (Wakeup 0 ∷ []) ∷ []) (waiting_for 0 2 0 ∷ free 1 0 ∷ []) [] 2)
    (record (in_block (1 ∷ [])) { exiting = true; exit_future = Some 2 }) (Began 0 ∷ [])

-- no request is there to take back, in either profile
one_is_run : (profile : Profile) → IsSound (Some 1) nobody (under profile one_runs)
one_is_run One = begins (waits (begins_exit (with_one One) None 0 first refl refl) 2 refl) 1 refl refl refl
one_is_run Two = begins (waits (begins_exit (with_one Two) None 0 first refl refl) 2 refl) 1 refl refl refl

abbrev told_one_task : ℕ → List ℕ
told_one_task = told_more nobody 0 1

pub last_was_told_stands : LoopStands (Some 0) last_was_told
last_was_told_stands = (told_one_task, begins (tells (child_finishes (one_is_run One) (Ok Nothing) refl refl refl) 0 1 refl refl refl) 0 refl refl refl)

one_failed : (profile : Profile) → IsSound None nobody (under profile child_failed)
one_failed profile = child_finishes (one_is_run profile) (Err a) refl refl refl

pub child_failed_stands : (profile : Profile) → LoopStands None (under profile child_failed)
child_failed_stands profile = (nobody, one_failed profile)

pub parent_woken_stands : (profile : Profile) → LoopStands (Some 0) (under profile parent_woken)
parent_woken_stands profile = (told_one_task, begins (tells (one_failed profile) 0 1 refl refl refl) 0 refl refl refl)

-- ---- two tasks fail
two_failed : IsSound (Some 0) nobody both_failed
two_failed =
    let made = pauses (creates (with_one One) 0) in
    let one = child_finishes (begins made 1 refl refl refl) (Err a) refl refl refl in
    let two = child_finishes (begins one 2 refl refl refl) (Err b) refl refl refl in
    begins two 0 refl refl refl

pub both_failed_stands : LoopStands (Some 0) both_failed
both_failed_stands = (nobody, two_failed)

tells_of_two : IsSound None nobody told_nothing
tells_of_two = waits (begins_exit two_failed (Some c) 0 first refl refl) 3 refl

pub told_nothing_stands : LoopStands None told_nothing
told_nothing_stands = (nobody, tells_of_two)

told_of_one : IsSound None told_one_task told_one
told_of_one = tells tells_of_two 0 1 refl refl refl

pub told_one_stands : LoopStands None told_one
told_one_stands = (told_one_task, told_of_one)

pub all_woken_stands : LoopStands (Some 0) all_woken
all_woken_stands = (told_more told_one_task 0 2, begins (tells told_of_one 0 2 refl refl refl) 0 refl refl refl)

-- ---- the task fails while the body waits for future 2, and may have asked for the parent's cancel before
pub cancelled_body_stands : (profile : Profile) → LoopStands (Some 0) (under profile (cancelled_body 1 []))
cancelled_body_stands profile =
    let one = pauses (begins (pauses (with_one profile)) 1 refl refl refl) in
    let zero_ = waits (plain (begins one 0 refl refl refl)) 2 refl in
    let failed = child_finishes (begins zero_ 1 refl refl refl) (Err a) refl refl refl in
    (told_one_task, begins (tells failed 0 1 refl refl refl) 0 refl refl refl)

pub asked_body_stands : (profile : Profile) → LoopStands (Some 0) (under profile (cancelled_body 2 asked_before))
asked_body_stands profile =
    let one = pauses (asks (begins (pauses (with_one profile)) 1 refl refl refl) 1 0) in
    let zero_ = waits (plain (begins one 0 refl refl refl)) 2 refl in
    let failed = child_finishes (begins zero_ 1 refl refl refl) (Err a) refl refl refl in
    (told_one_task, begins (tells failed 0 1 refl refl refl) 0 refl refl refl)

-- ---- three tasks, the first of which asks for the parent's cancel, and the second ends cancelled
pub three_children_stands : LoopStands (Some 0) three_children
three_children_stands =
    let made = plain (creates (creates (with_one One) 0) 0) in
    let zero_ = waits (begins_exit made None 0 first refl refl) 5 refl in
    let one = pauses (asks (begins zero_ 1 refl refl refl) 1 0) in
    let two = child_finishes (begins one 2 refl refl refl) (Err cancelled_error) refl refl refl in
    (nobody, begins (waits (begins two 3 refl refl refl) 4 refl) 0 refl refl refl)

-- ---- one of two tasks fails while the body waits for future 3; the other catches its cancel, and returns as the exit waits for it
left_one : (profile : Profile) → IsSound (Some 0) told_one_task (under profile child_left)
left_one profile =
    let zero_ = waits (plain (creates (with_one profile) 0)) 3 refl in
    let one = child_finishes (begins zero_ 1 refl refl refl) (Err a) refl refl refl in
    let told = tells (pauses (begins one 2 refl refl refl)) 0 1 refl refl refl in
    begins (pauses (begins told 2 refl refl refl)) 0 refl refl refl

pub child_left_stands : (profile : Profile) → LoopStands (Some 0) (under profile child_left)
child_left_stands profile = (told_one_task, left_one profile)

pub child_over_stands : LoopStands (Some 0) (child_over 1 9 [])
child_over_stands =
    let left = waits (begins_exit (left_one Two) (Some cancelled_error) 0 first refl refl) 4 refl in
    let two = child_finishes (begins left 2 refl refl refl) (Ok Nothing) refl refl refl in
    (told_more told_one_task 0 2, begins (tells two 0 2 refl refl refl) 0 refl refl refl)

-- the first asked for the parent's cancel before, and the body caught that
pub asked_child_over_stands : LoopStands (Some 0) (child_over 2 12 asked_before)
asked_child_over_stands =
    let asked = pauses (asks (begins (pauses (creates (with_one Two) 0)) 1 refl refl refl) 1 0) in
    let zero_ = waits (plain (begins (pauses (begins asked 2 refl refl refl)) 0 refl refl refl)) 3 refl in
    let one = child_finishes (begins zero_ 1 refl refl refl) (Err a) refl refl refl in
    let told = tells (pauses (begins one 2 refl refl refl)) 0 1 refl refl refl in
    let body = begins (pauses (begins told 2 refl refl refl)) 0 refl refl refl in
    let left = waits (begins_exit body (Some cancelled_error) 0 first refl refl) 4 refl in
    let two = child_finishes (begins left 2 refl refl refl) (Ok Nothing) refl refl refl in
    (told_more told_one_task 0 2, begins (tells two 0 2 refl refl refl) 0 refl refl refl)
