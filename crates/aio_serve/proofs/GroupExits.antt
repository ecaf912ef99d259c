-- The exit of a group, as it begins or goes on, and what that makes of its task's step.
use Rattle.std.proofs.Common.{◌≡◌, ℕ, ◌<◌, ◌≤◌, true, List, [], ◌∷◌, ◌++◌, Option, Some, None, slice_get, ◌∙◌, refl, sym, ap, subst, arith}
use Rattle.model_value.specs.Input.{Input}
use Rattle.model_value.specs.Value.{Exc}
use Rattle.model_loop.proofs.GroupCases.{wait_or_end_with}
use Rattle.model_loop.specs.Futures.{is_pending, is_pending_at, new_plain, next_future}
use Rattle.model_loop.specs.Groups as plain
use Rattle.model_loop.specs.Groups.{Exited, Waits, end_exit, exit_begin, exit_woken, group_of, raised_of, set_group, wait_or_end}
use Rattle.model_loop.specs.Loop.{Loop, book}
use Rattle.model_loop.specs.Parts.{Plain, Parts}
use Rattle.model_loop.specs.Suspend.{suspend}
use Rattle.model_loop.specs.Tasks.{next_task}
use Rattle.model_machine.specs.Replies.{exits_as, exits_group, waits}
use Rattle.model_machine.specs.State as resume_point
use Rattle.model_machine.specs.State.{State, stands, with_loop}
use Rattle.law_cancel.proofs.Lookups.{get-push_last}
use Rattle.law_steps.proofs.CancelSound.{plain_within}
use Rattle.aio_task.specs.View.{View}
use Rattle.aio_task.specs.Keeps.{NameMap}
use Rattle.aio_group.specs.Held.{Held}
use Rattle.refine_parts.proofs.Telling.{pending_kept}
use Rattle.aio_group.specs.declared.exit.GroupExit.{GroupExit}
use Rattle.aio_group.specs.declared.exit.GroupExit.TheVariants as exit
use Rattle.aio_group.specs.Answers.{exit_of}
use Rattle.aio_group.specs.GoesOn.{Moves}
use Rattle.aio_group.specs.Stands.{Came}
use Rattle.aio_group.proofs.Standing.{then_extends}
use Rattle.aio_extra.specs.Added.{Added, named_in}
use Rattle.aio_body.specs.declared.run_state.RunState.{RunState}
use Rattle.aio_body.specs.declared.reply.RequestReply.{RequestReply}
use Rattle.aio_body.specs.declared.resume_point.ResumePoint.TheVariants.{Leaving}
use Rattle.aio_body.specs.Asked.{HasSuspended, IsInStep, Says}
use Rattle.aio_body.specs.Slots.{resume_point_at}
use Rattle.aio_body.specs.Stands.{Context, Stands}
use Rattle.aio_serve.proofs.Appending.{below_kept}
use Rattle.aio_body.proofs.Blocks.{blocks_on}
use Rattle.aio_body.proofs.Left.{leaves_suspend}
use Rattle.refine_parts.proofs.Calls.{kept_suspend}
use Rattle.aio_serve.proofs.GroupsOn.{StepLeaves, begun_leaves, heard_leaves, blocks_came, kept_of, stands_blocks, stands_stepped}
use Rattle.aio_body.proofs.Lasting.{Spares}
use Rattle.aio_body.proofs.Leaving.{leaves_on}
use Rattle.aio_body.proofs.Rooms.{below_appended}
use Rattle.aio_body.proofs.Slotting.{stands_resume_point}
use Rattle.aio_serve.specs.GoneOn.{GoneOn, WaitsAtExit}

-- ---- what an exit waits for
-- it wasn't there before, and is pending
pub record WaitsFreshly (l : Loop) (exited : Exited) : Type 0 where
  pub fresh : (on : ℕ) → exited.answer ≡ Waits on → next_future l.parts ≤ on
  pub pends : (on : ℕ) → exited.answer ≡ Waits on → is_pending exited.loop.parts on ≡ true

same_future : (a b : ℕ) → Waits a ≡ Waits b → a ≡ b
same_future a b e = cc

raised_never : (errors : List Exc) (on : ℕ) → raised_of errors ≡ Waits on → ⊥
raised_never [] on e = absurd (cc)
raised_never (error ∷ errors) on e = absurd (cc)

end_never : (kept : Option Exc) (errors : List Exc) (id : ℕ) (l : Loop) (on : ℕ) → (end_exit kept errors id l).answer ≡ Waits on → ⊥
end_never None errors id l on e = raised_never (errors ++ plain.body_failure (group_of l id).body) on e
end_never (Some fault) [] id l on e = absurd (cc)
end_never (Some fault) (error ∷ errors) id l on e = raised_never (error ∷ errors ++ plain.body_failure (group_of l id).body) on e

new_pends : (p : Parts) → is_pending (new_plain p) (next_future p) ≡ true
new_pends p = ap is_pending_at (get-push_last p.futures (record { kind = Plain; outcome = None; callbacks = [] }))

waits_freshly : (l m : Loop) (id : ℕ) → next_future l.parts ≤ next_future m.parts → WaitsFreshly l (wait_or_end id m)
waits_freshly l m id more = at (group_of m id).children
  where
    at : (children : List ℕ) → WaitsFreshly l (wait_or_end_with children id m)
    at [] =
        let last = plain.take_back (plain.at_end m.profile) id m in
        record {
          fresh = λ on e. absurd (end_never (group_of last id).kept (group_of last id).errors id last on e);
          pends = λ on e. absurd (end_never (group_of last id).kept (group_of last id).errors id last on e);
        }
    at (child ∷ children) = record {
      fresh = λ on e. let same = same_future (next_future m.parts) on e in omega (arith, same, more);
      pends = λ on e. subst (λ k. is_pending (new_plain m.parts) k ≡ true) (same_future (next_future m.parts) on e) (new_pends m.parts);
    }

pub begins_freshly : (raised : Option Exc) (id : ℕ) (l : Loop) → WaitsFreshly l (exit_begin raised id l)
begins_freshly raised id l =
    waits_freshly l (plain.abort_if_raised raised id (plain.take_back (plain.at_begin l.profile) id (plain.begin_exit raised id l))) id
    (begun_leaves raised id l).parts.goes_on.futures

pub woken_freshly : (input : Input) (id : ℕ) (l : Loop) → WaitsFreshly l (exit_woken input id l)
woken_freshly input id l =
    waits_freshly l (plain.hear input id (set_group id (record (group_of l id) { exit_future = None }) l)) id
    (heard_leaves input id l).parts.goes_on.futures

-- and so it is in code
pub exit_pends : (t : NameMap) (l : Loop) (groups : List Held) (v : View) (exited : Exited) (came : Came t l groups v exited.loop) → WaitsFreshly l exited
    → (said : GroupExit) (future : ℕ) → exit_of said ≡ exited.answer → said ≡ exit.Waits future → is_pending_at (slice_get v.futures future) ≡ true
exit_pends t l groups v exited came fresh said future answer is =
    pending_kept came.name_map v exited.loop.parts came.stands.keeps future ∙ fresh.pends future (sym answer ∙ ap exit_of is)

-- ---- what it makes of the step
module _ {X : Type 0} {a : Added X} (task group : ℕ) (c : Context a) (old mid new : RunState X) (s : State a.Kept) (exited : Exited) (h : IsInStep task c old s)
    (within : task < next_task s.loop.parts) (moves : Moves old.parts mid.parts)
    (frame : mid ≡ record old { parts = mid.parts; groups = mid.groups })
    (came : Came h.stands.name_map s.loop mid.groups mid.parts exited.loop) (leaves : StepLeaves s.loop exited.loop)
    (fresh : WaitsFreshly s.loop exited) where
  pub gone_stands : IsInStep task c mid (with_loop exited.loop s)
  gone_stands = record {
    stands =
        subst (λ b. Stands (Some task) c b (with_loop exited.loop s)) (sym frame)
        (stands_stepped (Some task) c old s mid.parts mid.groups (λ _. exited.loop) h.stands came leaves
        (ap (λ (v : View). v.profile) moves.frame));
    called = ap (λ (v : View). v.called) moves.frame ∙ h.called;
    running = ap (λ (v : View). v.running) moves.frame ∙ h.running;
  }

  spares : (future : ℕ) → next_future s.loop.parts ≤ future → Spares (Some (task, future)) s.loop.parts (named_in a s)
  spares future new other id is sleeper own =
      let inside = (plain_within s.loop.parts id own.plain).1 in
      let same = is.1 in
      absurd (omega (arith, inside, same, new))

  -- it is suspended: one operation from the state before the exit
  suspended : (future : ℕ) → next_future s.loop.parts ≤ future → WaitsAtExit task group future mid new
      → Stands (Some task) c (record old { parts = new.parts; groups = mid.groups }) (waits task future (with_loop exited.loop s))
  suspended future later is =
      let first = kept_of came in
      let second =
      kept_suspend came.name_map mid.parts new.parts exited.loop.parts came.stands.keeps task future (record {
        parts = is.after;
        queue = is.queue;
        time = ap (λ (v : View). v.time) is.parts;
        schedule = ap (λ (v : View). v.schedule) is.parts;
      }) in
      let on = leaves_suspend task future exited.loop.parts in
      let q = (suspend task future exited.loop.parts).parts in
      stands_blocks (Some (task, future)) (Some task) c old s new.parts mid.groups (λ _. book (suspend task future) exited.loop) h.stands
      (record {
        name_map = second.name_map;
        keeps = second.keeps;
        extends = then_extends h.stands.name_map came.name_map second.name_map s.loop.parts exited.loop.parts q came.extends second.extends;
      })
      (leaves_on (Some (task, future)) s.loop.parts exited.loop.parts q leaves.parts on) (spares future later)
      (blocks_on came.name_map second.name_map old.timeouts mid.groups exited.loop (book (suspend task future) exited.loop) second.extends on.goes_on refl refl
      (blocks_came h.stands.name_map old.timeouts old.groups mid.groups mid.parts s.loop exited.loop came leaves.timeouts h.stands.blocks))
      (below_appended mid.parts.queue new.parts.queue is.queue
      ∙ below_kept h.stands.name_map came.name_map old.parts mid.parts s.loop.parts exited.loop.parts h.stands.keeps came.stands.keeps came.extends.bar
      leaves.handles)
      (ap (λ (v : View). v.profile) is.parts ∙ ap (λ (v : View). v.profile) moves.frame) leaves.profile

  waits_at_exit : (future : ℕ) → next_future s.loop.parts ≤ future → WaitsAtExit task group future mid new
      → HasSuspended task c new (stands (resume_point.Leaving group) task (waits task future (with_loop exited.loop s)))
  waits_at_exit future later is =
      let tasks = leaves.parts.tasks in
      let suspends = (leaves_suspend task future exited.loop.parts).tasks in
      record {
        stands =
            stands_resume_point c (record old { parts = new.parts; groups = mid.groups }) new (waits task future (with_loop exited.loop s)) task (Leaving group)
            (resume_point.Leaving group) (suspended future later is) refl
            (is.frame ∙ ap (λ (b : RunState X). record b { parts = new.parts; slots = new.slots }) frame)
            (is.slots ∙ ap (λ (b : RunState X). resume_point_at task (Leaving group) b.slots.items) frame) (omega (arith, within, tasks, suspends));
        called = ap (λ (v : View). v.called) is.parts ∙ gone_stands.called;
        running = ap (λ (v : View). v.running) is.parts;
      }

  pub exits_so : (end : GroupExit) (said : RequestReply) → exit_of end ≡ exited.answer → GoneOn task group end mid new said
      → Says task c new said (exits_group exited task group s)
  exits_so end said answer is = subst (λ a. Says task c new said (exits_as a task group (with_loop exited.loop s))) answer (at end answer is)
    where
      at : (end : GroupExit) → exit_of end ≡ exited.answer → GoneOn task group end mid new said
          → Says task c new said (exits_as (exit_of end) task group (with_loop exited.loop s))
      at (exit.Waits future) answer is =
          subst (λ r. Says task c new r (exits_as (Waits future) task group (with_loop exited.loop s))) (sym is.1)
          (waits_at_exit future (fresh.fresh future (sym answer)) is.0)
      at exit.Passes answer is =
          subst (λ r. Says task c new r (exits_as plain.Passes task group (with_loop exited.loop s))) (sym is.1)
          (refl, subst (λ b. IsInStep task c b (with_loop exited.loop s)) (sym is.0) gone_stands)
      at (exit.Raises fault) answer is =
          subst (λ r. Says task c new r (exits_as (plain.Raises fault) task group (with_loop exited.loop s))) (sym is.1)
          (refl, subst (λ b. IsInStep task c b (with_loop exited.loop s)) (sym is.0) gone_stands)
