-- States are built by what the loop does, from one in which nothing was made; each of that keeps a state sound.
use Rattle.std.proofs.Common.{◌≡◌, ℕ, ℤ, zero, suc, ◌<◌, true, false, List, [], ◌∷◌, Option, Some, None, Result, length, nat_lt, slice_index_or, refl, ap, ◌∙◌}
use Rattle.std.proofs.Common.{arith}
use Rattle.std.specs.List.{All, list_all}
use Rattle.std.proofs.lemmas.Bool.{and_parts, false≢true, ltb-true}
use Rattle.std.proofs.lemmas.List.Elements.{All-cons, All-nil}
use Rattle.model_value.specs.Value.{Value, Nothing, Exc, Outcome}
use Rattle.model_value.specs.declared.action.Action.TheVariants.{GroupDone, HandlerDone, Fires, SleepDone}
use Rattle.model_value.specs.declared.input.Input.TheVariants.{Send}
use Rattle.model_loop.specs.Children.{told_more}
use Rattle.model_loop.specs.Futures.{is_pending, new_plain, new_many, next_future, register, settle}
use Rattle.model_loop.specs.Groups.{new_group, group_of, make_group, enter_group, create, child_done, exit_begin}
use Rattle.model_loop.specs.Handles.{due, later}
use Rattle.model_loop.specs.Ledger.{ByScript, ask_cancel}
use Rattle.model_loop.specs.Loop.{Group, Loop, book, in_parts, take_one_back}
use Rattle.model_loop.specs.Owning.{is_plain}
use Rattle.model_loop.specs.Parts.{Handle}
use Rattle.model_loop.specs.Sound.{IsSound}
use Rattle.model_loop.specs.Suspend.{suspend}
use Rattle.model_loop.specs.Tasks.{begin_step, finish, lives, pause, spawn}
use Rattle.model_loop.specs.Timeouts.{enter_timeout, exit_timeout, fire, timeout_of}
use Rattle.model_loop.specs.Ways.{steps}
use Rattle.law_changes.specs.Telling.{is_open}
use Rattle.law_steps.specs.Frames.{taken}
use Rattle.law_steps.proofs.Looks.{handles_look_same}
use Rattle.law_groups.proofs.Quiet.{same_quiet}
use Rattle.law_groups.proofs.Holding.{looks_holds}
use Rattle.law_sound.proofs.Carrying.{looks_carries}
use Rattle.law_sound.proofs.GroupSteps as group
use Rattle.law_sound.proofs.Registering.{register_step_sound}
use Rattle.law_sound.proofs.Steps as step
use Rattle.law_sound.proofs.TimeoutSteps as timeout

-- ---- what is made, whoever runs; a script asks for a cancel and takes one back, and so does what is added
module _ {running : Option ℕ} {told : ℕ → List ℕ} {l : Loop} (s : IsSound running told l) where
  pub task : IsSound running told (in_parts spawn l)
  task = step.spawn_step_sound running told l s

  pub plain : IsSound running told (in_parts new_plain l)
  plain = step.plain_step_sound running told l s

  pub many : (members : List ℕ) → All (λ member. member < next_future l.parts) members → IsSound running told (in_parts (new_many members) l)
  many members there = step.many_step_sound running told members l there s

  pub settles : (id : ℕ) (outcome : Outcome) → is_plain l.parts id ≡ true → IsSound running told (in_parts (settle id outcome) l)
  settles id outcome free = step.settle_step_sound running told id outcome l free s

  pub asks : (by id : ℕ) → IsSound running told (book (ask_cancel (ByScript by) id) l)
  asks by id = step.request_step_sound running told (ByScript by) id l (record { timeout = λ k. refl; group = λ k. refl }) s

  pub lowers : (by other : ℕ) → IsSound running told (take_one_back (ByScript by) other l)
  lowers by other = step.uncancel_step_sound running told (ByScript by) other l (record { timeout = λ k. refl; group = λ k. refl }) s

  pub sleeps : (when other future : ℕ) → is_plain l.parts future ≡ true → IsSound running told (in_parts (later when (SleepDone other future)) l)
  sleeps when other future free = step.later_step_sound running told when other future l free s

  pub falls_due : IsSound running told (in_parts due l)
  falls_due = step.due_step_sound running told l s

  pub hears : (future conn other : ℕ) → IsSound running told (in_parts (register future (HandlerDone conn other)) l)
  hears future conn other = register_step_sound (HandlerDone conn other) refl refl running told refl future l s

  -- the clock tells a time
  pub at : (now : ℕ) → IsSound running told (record l { parts = record (l.parts) { time = now } })
  at now =
      let looks = handles_look_same l.parts (record (l.parts) { time = now }) refl refl (λ test follows. refl) in
      step.parts_sound running running told l (record (l.parts) { time = now }) s
      (looks_carries l.parts (record (l.parts) { time = now }) looks
      (λ n. record { stamps = n.stamps; tags = n.tags; members = n.members }) (same_quiet l.parts (record (l.parts) { time = now }) refl refl refl))
      (looks_holds running running told told (group_of l) l.parts (record (l.parts) { time = now }) looks (λ t m. m)
      (step.holds_of running told l s)) (λ t. refl)

  pub enters : (owner : ℕ) (delay : Option ℤ) → IsSound running told (enter_timeout owner delay l)
  enters owner delay = timeout.enter_timeout_sound running told owner delay l s

  pub leaves : (raised : Option Exc) (id : ℕ) → id < length l.timeouts → is_open (timeout_of l id).state ≡ true
      → IsSound running told (exit_timeout raised id l).loop
  leaves raised id within open_ = timeout.exit_timeout_sound running told raised id l within open_ s

  pub makes_group : (parent : ℕ) → IsSound running told (make_group parent l)
  makes_group parent = group.make_group_sound running told parent l s

  pub enters_group : (id : ℕ) → id < length l.groups → lives l.parts (group_of l id).parent ≡ true → IsSound running told (enter_group id l)
  enters_group id within living = group.enter_group_sound running told id l within living s

  pub creates : (id : ℕ) → IsSound running told (create id l)
  creates id = group.create_sound running told id l s

  pub begins_exit : (raised : Option Exc) (id : ℕ) → id < length l.groups → (group_of l id).entered ≡ true → (group_of l id).exiting ≡ false
      → IsSound running told (exit_begin raised id l).loop
  begins_exit raised id within entered outside = group.exit_begin_sound running told raised id l within entered outside s

-- ---- between two callbacks: the first handle is taken out, and has its effect
module _ {told : ℕ → List ℕ} {l : Loop} (s : IsSound None told l) where
  pub begins : {handle : Handle} {rest : List Handle} (id : ℕ) → l.parts.pending ≡ handle ∷ rest → handle.dead ≡ false
      → steps id handle.action ≡ true → IsSound (Some id) told (record l { parts = (begin_step id (Send Nothing) (taken rest l.parts)).parts })
  begins {handle} {rest} id first live mine = step.begin_step_sound told id (Send Nothing) handle rest l first live mine s

  pub fires : {handle : Handle} {rest : List Handle} (id : ℕ) → l.parts.pending ≡ handle ∷ rest → handle.dead ≡ false → handle.action ≡ Fires id
      → IsSound None told (fire id (in_parts (taken rest) l))
  fires {handle} {rest} id first live mine = timeout.fire_sound told id handle rest l first live mine s

  pub tells : {handle : Handle} {rest : List Handle} (id child : ℕ) → l.parts.pending ≡ handle ∷ rest → handle.dead ≡ false
      → handle.action ≡ GroupDone id child → IsSound None (told_more told id child) (child_done id child (in_parts (taken rest) l))
  tells {handle} {rest} id child first live mine = group.child_done_step_sound told id child handle rest l first live mine s

-- ---- a task's step ends
parents : (it : Group) → it.parent ≡ 0 → (g : ℕ) → (slice_index_or (it ∷ []) g (new_group 0)).parent ≡ 0
parents it parent zero = parent
parents it parent (suc g) = refl

module _ {told : ℕ → List ℕ} {l : Loop} {id : ℕ} (s : IsSound (Some id) told l) where
  pub pauses : IsSound None told (in_parts (pause id) l)
  pauses = step.pause_step_sound told id l s

  pub waits : (on : ℕ) → is_pending l.parts on ≡ true → IsSound None told (book (suspend id on) l)
  waits on here = step.suspend_step_sound told id on l here s

  pub finishes : (end : Result Value Exc)
      → ((g : ℕ) → (group_of l g).entered ≡ true → (group_of l g).ended ≡ false → id ≡ (group_of l g).parent → ⊥)
      → IsSound None told (in_parts (finish id end) l)
  finishes end free = step.finish_step_sound told id end l free s

  -- one that is no group's parent
  pub child_finishes : {it : Group} (end : Result Value Exc) → l.groups ≡ it ∷ [] → it.parent ≡ 0 → nat_lt 0 id ≡ true
      → IsSound None told (in_parts (finish id end) l)
  child_finishes {it} end alone parent other =
      finishes end (λ g entered open_ mine.
      let a = ap (λ groups. (slice_index_or groups g (new_group 0)).parent) alone ∙ parents it parent g in
      let b = ltb-true 0 id other in
      absurd (omega (arith, mine, a, b)))

-- where there are no groups
pub no_group : (id g : ℕ) → (slice_index_or [] g (new_group 0)).entered ≡ true → (slice_index_or [] g (new_group 0)).ended ≡ false
    → id ≡ (slice_index_or [] g (new_group 0)).parent → ⊥
no_group id g entered open_ mine = false≢true entered

-- members that there are, by a test
pub below : (n : ℕ) (members : List ℕ) → list_all (λ member. nat_lt member n) members ≡ true → All (λ member. member < n) members
below n [] h = All-nil (λ member. member < n)
below n (x ∷ xs) h =
    let both = and_parts (nat_lt x n) (list_all (λ member. nat_lt member n) xs) h in
    All-cons (λ member. member < n) x xs (ltb-true x n both.0) (below n xs both.1)
