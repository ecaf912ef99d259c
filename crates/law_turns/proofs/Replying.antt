-- Each request of the table keeps the loop sound.
use Rattle.std.proofs.Common.{◌≡◌, ℕ, suc, ◌+◌, ◌<◌, pos, true, false, List, [], ◌∷◌, ◌++◌, Option, Some, length, Bool}
use Rattle.std.proofs.Common.{slice_index_or, refl, ap, ◌∙◌, length-append, arith}
use Rattle.std.proofs.lemmas.Bool.{eq-eqb}
use Rattle.std.proofs.lemmas.Option.{none-some}
use Rattle.model_value.specs.declared.input.Input.TheVariants.{Send, Throw}
use Rattle.model_value.specs.declared.outcome.Outcome.TheVariants.{Value as Returned, Failed}
use Rattle.model_value.specs.Input.{Input}
use Rattle.model_value.specs.Request.{Request}
use Rattle.model_value.specs.Value.{Value, Fut, Exc}
use Rattle.model_wire.specs.declared.event.Event.TheVariants as event
use Rattle.model_wire.specs.Event.{Event}
use Rattle.model_loop.specs.Loop.{Group, in_parts}
use Rattle.model_loop.specs.Futures.{is_pending_at, new_plain, next_future}
use Rattle.model_loop.specs.Groups.{GroupExit, Waits, Passes, Raises as RaisedBy, exit_begin, group_of, make_group, next_group, new_group}
use Rattle.model_loop.specs.Handles.{deadline}
use Rattle.model_loop.specs.Ledger.{ByScript}
use Rattle.model_loop.specs.Owning.{is_plain}
use Rattle.model_loop.specs.Sound.{IsSound}
use Rattle.model_loop.specs.Tasks.{lives}
use Rattle.model_loop.specs.Timeouts.{exit_timeout}
use Rattle.model_loop.proofs.FutureCases.{is_plain_at}
use Rattle.model_machine.specs.Arguments.{as_future}
use Rattle.model_machine.specs.Extra.{Extra}
use Rattle.model_machine.specs.Outcomes.{input_of}
use Rattle.model_machine.specs.Replies.{RequestReply, replied, shown_all, alarmed, enters_group, exits_as, exits_group, timed_out_if}
use Rattle.model_machine.specs.State.{State, with_loop}
use Rattle.model_machine.specs.Told.{told_by, told_in}
use Rattle.law_cancel.proofs.Lookups.{get-push_last}
use Rattle.law_changes.specs.Telling.{IsOther}
use Rattle.law_sound.proofs.Steps.{pause_step_sound, suspend_step_sound, plain_step_sound, settle_step_sound, request_step_sound, uncancel_step_sound}
use Rattle.law_sound.proofs.Steps.{spawn_step_sound, later_step_sound}
use Rattle.law_sound.proofs.GroupSteps.{make_group_sound, enter_group_sound, create_sound, exit_begin_sound}
use Rattle.law_sound.proofs.TimeoutSteps.{enter_timeout_sound, reschedule_sound, exit_timeout_sound}
use Rattle.law_groups.proofs.Waits.{exit_waits}
use Rattle.law_cases.specs.Cases.{Replies, raises, leaves_none, exits_none, tells, names_itself, hands_on, pauses_on, alarms, awaits, prints, makes, sets}
use Rattle.law_cases.specs.Cases.{fails, cancels, uncancels, spawns_it, enters, leaves, moves, enters_one, exits, creates_it, serves_it}
use Rattle.law_turns.specs.Replied.{RunsSound, HasPlainFutures, RepliesSound, IsFit}
use Rattle.law_turns.proofs.Turning.{as_told}

-- what is said tells no group
told_in-said : (events : List Event) (task : ℕ) (text : List ℕ) (group : ℕ)
    → told_in (events ++ event.Said task text ∷ []) group ≡ told_in events group
told_in-said [] task text group = refl
told_in-said (event.Called call ∷ events) task text group = told_in-said events task text group
told_in-said (event.Got answer ∷ events) task text group = told_in-said events task text group
told_in-said (event.Said other words ∷ events) task text group = told_in-said events task text group
told_in-said (event.Ran it ∷ events) task text group = ap (told_by group it) (told_in-said events task text group)

by_script : (task : ℕ) → IsOther (ByScript task)
by_script task = record { timeout = λ id. refl; group = λ id. refl }

module _ {S : Type 0} (task : ℕ) where
  pub replied_sound : (input : Input) (s : State S) → RunsSound task s → RepliesSound task (replied input s)
  replied_sound (Send value) s sound = sound
  replied_sound (Throw fault) s sound = sound

  future_plain : (s : State S) → HasPlainFutures s → (value : Value) (on : ℕ) → as_future s value ≡ Some on
      → is_plain s.loop.parts on ≡ true
  future_plain s plain (Fut id) on e = plain id on e
  future_plain s plain _ on e = absurd (none-some on e)

  -- ---- groups
  enters_sound : (s : State S) → RunsSound task s → RepliesSound task (enters_group task s)
  enters_sound s sound =
      enter_group_sound (Some task) (told_in s.events) (next_group s.loop) (make_group task s.loop)
      (let e : length (make_group task s.loop).groups ≡ length s.loop.groups + 1 = length-append s.loop.groups _ in omega (arith, e))
      (ap (λ (g : Group). lives s.loop.parts g.parent) (last s.loop.groups) ∙ sound.parts.runs task (eq-eqb task task refl))
      (make_group_sound (Some task) (told_in s.events) task s.loop sound)
    where
      last : (groups : List Group) → slice_index_or (groups ++ new_group task ∷ []) (length groups) (new_group 0) ≡ new_group task
      last [] = refl
      last (x ∷ xs) = last xs

  exits_sound : (raised : Option Exc) (id : ℕ) (s : State S) → RunsSound task s
      → (id < length s.loop.groups) × ((group_of s.loop id).entered ≡ true) × ((group_of s.loop id).exiting ≡ false)
      → RepliesSound task (exits_group (exit_begin raised id s.loop) task id s)
  exits_sound raised id s sound open_ = at (exit_begin raised id s.loop).answer refl
    where
      begun : IsSound (Some task) (told_in s.events) (exit_begin raised id s.loop).loop
      begun = exit_begin_sound (Some task) (told_in s.events) raised id s.loop open_.0 open_.1 open_.2 sound

      at : (answer : GroupExit) → (exit_begin raised id s.loop).answer ≡ answer
          → RepliesSound task (exits_as answer task id (with_loop (exit_begin raised id s.loop).loop s))
      at (Waits on) e =
          suspend_step_sound (told_in s.events) task on (exit_begin raised id s.loop).loop (exit_waits raised id s.loop on e) begun
      at Passes e = begun
      at (RaisedBy fault) e = begun

  -- ---- each case
  pub case_sound : (added : Extra S) (asked : Request) (it : RequestReply S) (s : State S) → RunsSound task s → HasPlainFutures s → IsFit asked s
      → Replies added task s asked it → RepliesSound task it
  case_sound added asked it s sound plain fit (raises fault f) = sound
  case_sound added asked it s sound plain fit (leaves_none timeout raised fault e) = sound
  case_sound added asked it s sound plain fit (exits_none group raised fault e) = sound
  case_sound added asked it s sound plain fit (tells value none b) = sound
  case_sound added asked it s sound plain fit names_itself = sound
  case_sound added asked it s sound plain fit (hands_on on outcome e b) = replied_sound (input_of outcome) s sound
  case_sound added asked it s sound plain fit (pauses_on may b) = pause_step_sound (told_in s.events) task s.loop sound
  case_sound added asked it s sound plain fit (alarms x delay) =
      suspend_step_sound (told_in s.events) task (next_future s.loop.parts) (in_parts (alarmed task (pos (suc delay))) s.loop)
      (ap is_pending_at (get-push_last s.loop.parts.futures _))
      (later_step_sound (Some task) (told_in s.events) (deadline s.loop.parts.time (pos (suc delay))) task (next_future s.loop.parts)
      (in_parts new_plain s.loop) (ap is_plain_at (get-push_last s.loop.parts.futures _))
      (plain_step_sound (Some task) (told_in s.events) s.loop sound))
  case_sound added asked it s sound plain fit (awaits x on e none) =
      suspend_step_sound (told_in s.events) task on s.loop (fit on e none) sound
  case_sound added asked it s sound plain fit (prints values) =
      as_told (Some task) (told_in s.events) (told_in (s.events ++ event.Said task (shown_all values) ∷ [])) s.loop
      (told_in-said s.events task (shown_all values)) sound
  case_sound added asked it s sound plain fit (makes few) = plain_step_sound (Some task) (told_in s.events) s.loop sound
  case_sound added asked it s sound plain fit (sets future value on e) =
      settle_step_sound (Some task) (told_in s.events) on (Returned value) s.loop (future_plain s plain future on e) sound
  case_sound added asked it s sound plain fit (fails future fault on raised e) =
      settle_step_sound (Some task) (told_in s.events) on (Failed raised) s.loop (future_plain s plain future on e) sound
  case_sound added asked it s sound plain fit (cancels x on) =
      request_step_sound (Some task) (told_in s.events) (ByScript task) on s.loop (by_script task) sound
  case_sound added asked it s sound plain fit (uncancels x other) =
      uncancel_step_sound (Some task) (told_in s.events) (ByScript task) other s.loop (by_script task) sound
  case_sound added asked it s sound plain fit (spawns_it coroutine arguments few) = spawn_step_sound (Some task) (told_in s.events) s.loop sound
  case_sound added asked it s sound plain fit (enters x delay few) = enter_timeout_sound (Some task) (told_in s.events) task delay s.loop sound
  case_sound added asked it s sound plain fit (leaves timeout raised id e) = at (exit_timeout raised id s.loop).timed_out
    where
      at : (b : Bool) → RepliesSound task (timed_out_if b (with_loop (exit_timeout raised id s.loop).loop s))
      at true = exit_timeout_sound (Some task) (told_in s.events) raised id s.loop (fit id e).0 (fit id e).1 sound
      at false = exit_timeout_sound (Some task) (told_in s.events) raised id s.loop (fit id e).0 (fit id e).1 sound
  case_sound added asked it s sound plain fit (moves timeout x id when e) = reschedule_sound (Some task) (told_in s.events) id when s.loop sound
  case_sound added asked it s sound plain fit (enters_one few) = enters_sound s sound
  case_sound added asked it s sound plain fit (exits group raised id e) = exits_sound raised id s sound (fit id e)
  case_sound added asked it s sound plain fit (creates_it group id coroutine arguments few e) = create_sound (Some task) (told_in s.events) id s.loop sound
  case_sound added asked it s sound plain fit (serves_it code arguments number items) = absurd fit
