-- Callbacks, turns and runs: no event is of a task that is done.
use Rattle.std.proofs.Common.{◌≡◌, ℕ, zero, suc, Bool, true, false, List, [], ◌∷◌, ◌++◌, Option, None, refl, sym, ap, ◌∙◌}
use Rattle.std.proofs.Common.{append_assoc, append-nil, ◌||◌}
use Rattle.std.specs.List.{list_any}
use Rattle.std.proofs.lemmas.Bool.{false≢true}
use Rattle.std.proofs.lemmas.List.Folds.{list_any-append}
use Rattle.model_value.specs.Value.{Nothing}
use Rattle.model_value.specs.declared.input.Input.TheVariants.{Send}
use Rattle.model_says.specs.Says.{step_limit}
use Rattle.model_wire.specs.declared.event.Event.TheVariants as event
use Rattle.model_wire.specs.Event.{Event}
use Rattle.model_loop.specs.Owning.{OwnsFutures}
use Rattle.model_loop.specs.Parts.{Handle}
use Rattle.model_loop.specs.Ways.{is_running, steps}
use Rattle.model_machine.specs.Extra.{Extra}
use Rattle.model_machine.specs.Run.{run_after, run_on}
use Rattle.model_machine.specs.Sound.{IsStateSound}
use Rattle.model_machine.specs.State.{State, unbooked_in}
use Rattle.model_machine.specs.Turn.{ran, run_first}
use Rattle.model_machine.specs.Turn.{turn, turn_over, woken_by}
use Rattle.model_machine.specs.Went.{Went, Goes, Stops, state_of}
use Rattle.law_replies.specs.Added.{KeepsSound}
use Rattle.law_replies.specs.InStep.{LeavesStateSound}
use Rattle.law_runs.proofs.Beginning.{stepped_lives}
use Rattle.law_runs.proofs.Folding.{IsThroughTurns, turn_through}
use Rattle.law_runs.proofs.Turning.{turn_in}
use Rattle.law_promises.specs.Done.{GoesOnWithout, IsDone, LeavesDone, is_of}
use Rattle.law_promises.proofs.Later.{later_same, later_refl, stays_done}
use Rattle.law_promises.proofs.DoneReplies.{IsWithin, quiet, within_then, within_row, runs_as}
use Rattle.law_reach.specs.Changes.{runner_of}
use Rattle.law_reach.specs.Reaches.{InCallback}
use Rattle.law_reach.proofs.Running.{ran_goes}
use Rattle.law_reach.proofs.Turning.{over_row, woken_row}

-- ---- one after another
without_then : (task : ℕ) (a b c : List Event) → GoesOnWithout task a b → GoesOnWithout task b c → GoesOnWithout task a c
without_then task a b c x y = (
  x.0 ++ y.0,
  y.1 ∙ ap (λ (es : List Event). es ++ y.0) x.1 ∙ append_assoc a x.0 y.0,
  list_any-append (is_of task) x.0 y.0 ∙ ap (λ h. h || list_any (is_of task) y.0) x.2 ∙ y.2,
)

leaves_then : {S : Type 0} (s t u : State S) → LeavesDone s t → LeavesDone t u → LeavesDone s u
leaves_then s t u a b = record {
  stays = λ task is. b.stays task (a.stays task is);
  events = λ task is. without_then task s.events t.events u.events (a.events task is) (b.events task (a.stays task is));
}

leaves_of : {S : Type 0} (r : Option ℕ) (s t : State S) → OwnsFutures s.loop.parts
    → ((task : ℕ) → IsDone s.loop.parts task → is_running r task ≡ false) → IsWithin r s t → LeavesDone s t
leaves_of r s t owns not_it a = record {
  stays = λ task is. stays_done s.loop.parts t.loop.parts a.later owns task is;
  events = λ task is. (a.more, a.events, a.others task (not_it task is));
}

same_leaves : {S : Type 0} (s : State S) → LeavesDone s s
same_leaves s = record { stays = λ task is. is; events = λ task is. ([], sym (append-nil s.events), refl) }

module _ {S : Type 0} (added : Extra S) where
  -- nobody runs
  idle_leaves : (s t : State S) → IsStateSound added s → InCallback added None s t → LeavesDone s t
  idle_leaves s t sound row = leaves_of None s t sound.loop.parts.owns (λ task is. refl) (within_row added row)

  -- ---- a callback
  pub first_leaves : (s : State S) (handle : Handle) (rest : List Handle) → s.loop.parts.pending ≡ handle ∷ rest → IsStateSound added s
      → LeavesDone s (state_of (run_first step_limit added handle rest s))
  first_leaves s handle rest first sound = at handle.dead refl
    where
      out : State S
      out = unbooked_in (λ p. record p { pending = rest }) s

      others : handle.dead ≡ false → (task : ℕ) → IsDone s.loop.parts task → (b : Bool) → steps task handle.action ≡ b → b ≡ false
      others live task is false e = refl
      others live task is true e =
          absurd (false≢true (sym is.over ∙ stepped_lives added s task (Send Nothing) handle rest first live e sound))

      at : (dead : Bool) → handle.dead ≡ dead
          → LeavesDone s (state_of (ran step_limit added dead handle.action (unbooked_in (λ p. record p { pending = rest }) s)))
      at true e = leaves_of None s out sound.loop.parts.owns (λ task is. refl) (quiet None s out (later_same _ _ refl refl) refl)
      at false e =
          leaves_of (runner_of handle.action) s (state_of (ran step_limit added false handle.action out)) sound.loop.parts.owns
          (λ task is. sym (runs_as handle.action task) ∙ others e task is (steps task handle.action) refl)
          (within_then (runner_of handle.action) s out _ (quiet (runner_of handle.action) s out (later_same _ _ refl refl) refl)
          (within_row added (ran_goes step_limit added false handle.action out).reaches))

  -- ---- a turn
  through : IsThroughTurns added LeavesDone
  through = record {
    same = same_leaves;
    next = leaves_then;
    asked = λ call s sound. leaves_of None s _ sound.loop.parts.owns (λ task is. refl)
        (record { later = later_refl s.loop.parts; more = event.Called call ∷ []; events = refl; others = λ task h. refl });
    got = λ call answer entries s sound. leaves_of None s _ sound.loop.parts.owns (λ task is. refl)
        (record {
          later = later_refl s.loop.parts;
          more = event.Called call ∷ event.Got answer ∷ [];
          events = append_assoc s.events (event.Called call ∷ []) (event.Got answer ∷ []);
          others = λ task h. refl;
        });
    woken = λ answer s sound. idle_leaves s (unbooked_in (woken_by answer) s) sound (woken_row added answer s);
    first = first_leaves;
    over = λ done_before s sound. idle_leaves s (state_of (turn_over done_before s)) sound (over_row added done_before s);
  }

  module _ (keeps : KeepsSound added) where
    pub turn_leaves : (s : State S) → IsStateSound added s → LeavesDone s (state_of (turn step_limit added s))
    turn_leaves = turn_through added keeps LeavesDone through

    -- ---- a run
    pub run_leaves : (allowed left : ℕ) (s : State S) → IsStateSound added s → (task : ℕ) → IsDone s.loop.parts task
        → GoesOnWithout task s.events (run_on step_limit added allowed left s).events
    unfolding run_on
    run_leaves allowed zero s sound task is = (same_leaves s).events task is
    run_leaves allowed (suc left) s sound task is =
        at (turn step_limit added s) (turn_in added keeps s sound) (turn_leaves s sound) (λ t h done. run_leaves allowed left t h task done)
      where
        at : (w : Went S) → LeavesStateSound added w → LeavesDone s (state_of w)
            → ((t : State S) → IsStateSound added t → IsDone t.loop.parts task → GoesOnWithout task t.events (run_on step_limit added allowed left t).events)
            → GoesOnWithout task s.events (run_after (run_on step_limit added allowed left) w).events
        at (Goes now) h a rest =
            without_then task s.events now.events (run_on step_limit added allowed left now).events (a.events task is)
            (rest now h (a.stays task is))
        at (Stops end last) h a rest = a.events task is
