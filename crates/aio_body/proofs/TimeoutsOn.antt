-- What is stood for goes on through calls of timeouts.
use Rattle.std.proofs.Common.{◌≡◌, ℕ, ℤ, Bool, true, false, List, Option, Some, None, length, nat_le, option_map, slice_get, if◌then◌else◌, ◌∙◌, refl}
use Rattle.std.proofs.Common.{sym, subst}
use Rattle.model_value.specs.Action.{Action}
use Rattle.model_value.specs.declared.action.Action.TheVariants.{Fires}
use Rattle.model_value.specs.Value.{Exc}
use Rattle.model_loop.proofs.TimeoutCases.{leave_from, reschedule_where}
use Rattle.model_loop.specs.Handles.{deadline, later, soon}
use Rattle.model_loop.specs.Ledger.{ByTimeout}
use Rattle.model_loop.specs.Loop.{Group, Loop, TimeoutState, Created, Active, Expiring, Expired, Finished}
use Rattle.model_loop.specs.Parts.{Parts}
use Rattle.model_loop.specs.Tasks.{future_of, uncancel}
use Rattle.model_loop.specs.Timeouts.{enter_timeout, exit_timeout, fire, fires_at, give_up, is_active, make_timeout, moment, reschedule, schedule, timeout_of}
use Rattle.model_loop.specs.Timeouts.{without_handle}
use Rattle.model_machine.specs.State.{State, with_loop}
use Rattle.aio_task.specs.View.{View}
use Rattle.aio_timeout.specs.declared.timeout.Timeout.{Timeout}
use Rattle.aio_timeout.specs.Kept.{IsSameStep, KeepsTimeouts, KeptTimeouts}
use Rattle.aio_group.proofs.Standing.{groups_on}
use Rattle.aio_group.specs.Stands.{KeepsAt}
use Rattle.aio_extra.specs.Added.{Added, named_in}
use Rattle.aio_body.specs.declared.run_state.RunState.{RunState}
use Rattle.aio_body.specs.Asked.{IsInStep}
use Rattle.aio_body.specs.Stands.{Context, Stands}
use Rattle.aio_body.proofs.Left.{leaves_handles, leaves_later, leaves_request, leaves_revoke, leaves_uncancel}
use Rattle.aio_body.proofs.Lasting.{spares_none, stands_kept}
use Rattle.aio_body.proofs.Leaving.{Leaves, leaves_on, leaves_same}

-- ---- what calls of timeouts leave of the parts
pub leaves_soon : (action : Action) (p : Parts) → Leaves None p (soon action p)
leaves_soon action p = leaves_handles p (soon action p) refl refl refl

leaves_fires : (id when : ℕ) (p : Parts) → Leaves None p (fires_at id when p)
leaves_fires id when p = at (nat_le when p.time)
  where
    at : (b : Bool) → Leaves None p (if b then soon (Fires id) p else later when (Fires id) p)
    at true = leaves_soon (Fires id) p
    at false = leaves_later when (Fires id) p

leaves_given_up : (tag : Option ℕ) (p : Parts) → Leaves None p (give_up tag p)
leaves_given_up None p = leaves_same p
leaves_given_up (Some tag) p = leaves_revoke tag p

leaves_schedule : (id : ℕ) (when : Option ℕ) (l : Loop) → Leaves None l.parts (schedule id when l).parts
leaves_schedule id None l = leaves_given_up (timeout_of l id).tag l.parts
leaves_schedule id (Some when) l =
    let p : Parts = give_up (timeout_of l id).tag l.parts in
    leaves_on None l.parts p (fires_at id when p) (leaves_given_up (timeout_of l id).tag l.parts) (leaves_fires id when p)

-- the groups and the profile stay
abbrev pub SameGroups : (l m : Loop) → Type 0
SameGroups l m = (m.groups ≡ l.groups) × (m.profile ≡ l.profile)

schedule_groups : (id : ℕ) (when : Option ℕ) (l : Loop) → SameGroups l (schedule id when l)
schedule_groups id None l = (refl, refl)
schedule_groups id (Some when) l = (refl, refl)

module _ {X : Type 0} {a : Added X} where
  -- ---- the state after a change of the timeouts and of the parts, whose view is `v` then
  pub stands_timed : (out : Option ℕ) (c : Context a) (old : RunState X) (s : State a.Kept) (v : View) (timeouts : List Timeout) (m : Loop)
      → (h : Stands out c old s) → KeptTimeouts h.name_map s.loop timeouts v m → Leaves None s.loop.parts m.parts → SameGroups s.loop m
      → length v.queue.below ≡ length old.parts.queue.below → v.profile ≡ old.parts.profile
      → Stands out c (record old { parts = v; timeouts = timeouts }) (with_loop m s)
  stands_timed out c old s v timeouts m h kept leaves groups below profile =
      stands_kept None out c old s v timeouts old.groups m c.left h
      (record { name_map = kept.name_map; keeps = kept.keeps.parts; extends = kept.extends }) leaves (spares_none s.loop.parts (named_in a s))
      (record {
        timeouts = kept.keeps.timeouts;
        groups =
            subst (λ (gs : List Group). (id : ℕ) → KeepsAt kept.name_map m.parts (slice_get old.groups id) (slice_get gs id)) (sym groups.0)
            (groups_on h.name_map kept.name_map s.loop.parts m.parts leaves.goes_on kept.extends.gone old.groups s.loop.groups h.blocks.groups);
      }) (below ∙ h.left) profile groups.1

  pub timeouts_of : (out : Option ℕ) (c : Context a) (body : RunState X) (s : State a.Kept) → (h : Stands out c body s)
      → KeepsTimeouts h.name_map body.timeouts body.parts s.loop
  timeouts_of out c body s h = record { parts = h.keeps; timeouts = h.blocks.timeouts }

  -- in a step of a task
  pub goes_timed : (task : ℕ) (c : Context a) (old : RunState X) (s : State a.Kept) (v : View) (timeouts : List Timeout) (m : Loop)
      → (h : IsInStep task c old s) → KeptTimeouts h.stands.name_map s.loop timeouts v m → Leaves None s.loop.parts m.parts
      → SameGroups s.loop m → length v.queue.below ≡ length old.parts.queue.below → IsSameStep old.parts v
      → IsInStep task c (record old { parts = v; timeouts = timeouts }) (with_loop m s)
  goes_timed task c old s v timeouts m h kept leaves groups below same = record {
    stands = stands_timed (Some task) c old s v timeouts m h.stands kept leaves groups below same.profile;
    called = same.called ∙ h.called;
    running = same.running ∙ h.running;
  }

-- ---- each call
pub leaves_enter : (task : ℕ) (delay : Option ℤ) (l : Loop) → Leaves None l.parts (enter_timeout task delay l).parts
leaves_enter task delay l = leaves_schedule (length l.timeouts) (option_map (deadline l.parts.time) delay) (make_timeout task l)

pub enter_groups : (task : ℕ) (delay : Option ℤ) (l : Loop) → SameGroups l (enter_timeout task delay l)
enter_groups task delay l = schedule_groups (length l.timeouts) (option_map (deadline l.parts.time) delay) (make_timeout task l)

pub leaves_reschedule : (id : ℕ) (when : Option ℤ) (l : Loop) → Leaves None l.parts (reschedule id when l).parts
leaves_reschedule id when l = at (is_active (timeout_of l id).state)
  where
    at : (b : Bool) → Leaves None l.parts (reschedule_where b id when l).parts
    at true = leaves_schedule id (option_map moment when) l
    at false = leaves_same l.parts

pub reschedule_groups : (id : ℕ) (when : Option ℤ) (l : Loop) → SameGroups l (reschedule id when l)
reschedule_groups id when l = at (is_active (timeout_of l id).state)
  where
    at : (b : Bool) → SameGroups l (reschedule_where b id when l)
    at true = schedule_groups id (option_map moment when) l
    at false = (refl, refl)

pub leaves_fire : (id : ℕ) (l : Loop) → Leaves None l.parts (fire id l).parts
leaves_fire id l = leaves_request (ByTimeout id) (future_of l.parts (timeout_of l id).task) l.parts

pub fire_groups : (id : ℕ) (l : Loop) → SameGroups l (fire id l)
fire_groups id l = (refl, refl)

pub leaves_exit : (raised : Option Exc) (id : ℕ) (l : Loop) → Leaves None l.parts (exit_timeout raised id l).loop.parts
leaves_exit raised id l = at (timeout_of l id).state
  where
    p : Parts
    p = give_up (timeout_of l id).tag l.parts

    first : Leaves None l.parts p
    first = leaves_given_up (timeout_of l id).tag l.parts

    at : (state : TimeoutState) → Leaves None l.parts (leave_from state raised id (without_handle id l)).loop.parts
    at Created = first
    at Active = first
    at Expiring =
        let task : ℕ = (timeout_of (without_handle id l) id).task in
        leaves_on None l.parts p (uncancel l.profile task p) first (leaves_uncancel l.profile task p)
    at Expired = first
    at Finished = first

pub exit_groups : (raised : Option Exc) (id : ℕ) (l : Loop) → SameGroups l (exit_timeout raised id l).loop
exit_groups raised id l = at (timeout_of l id).state
  where
    at : (state : TimeoutState) → SameGroups l (leave_from state raised id (without_handle id l)).loop
    at Created = (refl, refl)
    at Active = (refl, refl)
    at Expiring = (refl, refl)
    at Expired = (refl, refl)
    at Finished = (refl, refl)
