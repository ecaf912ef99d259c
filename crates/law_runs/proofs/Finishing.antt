-- A task that returned or raised has left its blocks, and its end leaves a sound state.
use Rattle.std.proofs.Common.{◌≡◌, ℕ, ◌<◌, ◌≤◌, ◌⊎◌, inl, inr, true, false, not, ◌&&◌, [], Option, Some, None, Result, Ok, Err, length, map}
use Rattle.std.proofs.Common.{is_none, slice_get, if◌then◌else◌, refl, sym, ap, subst, ◌∙◌}
use Rattle.std.specs.List.{list_any}
use Rattle.std.proofs.lemmas.Bool.{cases_lt, eq-eqb, false_from_ne_true, false≢true}
use Rattle.model_value.specs.Equality.{equal}
use Rattle.model_value.specs.declared.outcome.Outcome.TheVariants.{Value as Returned, Failed, Cancelled}
use Rattle.model_value.specs.Value.{Value, Exc, Group, Outcome}
use Rattle.model_says.specs.Endings.{Returns, Raises}
use Rattle.model_says.specs.Says.{step_limit}
use Rattle.model_loop.specs.Futures.{is_pending, is_pending_at, settle}
use Rattle.model_loop.specs.Groups.{group_of, new_group}
use Rattle.model_loop.specs.Loop.{Group as GroupFields}
use Rattle.model_loop.specs.Parts.{Future, Parts}
use Rattle.model_loop.specs.Tasks.{finish, future_of, is_cancelled, must_cancel_of, lives, clear_must_cancel}
use Rattle.model_loop.proofs.FutureCases.{settled, settled_as}
use Rattle.model_machine.specs.Extra.{Extra}
use Rattle.model_machine.specs.Sound.{IsStateSound, blocks_of, exchanges_of, ids_of, names_made}
use Rattle.model_machine.specs.State.{State, generator_of, unbooked_in}
use Rattle.model_machine.specs.Step.{says_of}
use Rattle.model_machine.specs.Told.{told_in}
use Rattle.law_says.specs.Given.{InSaying}
use Rattle.law_says.proofs.Growing.{over_returned, over_raised, same_blocks}
use Rattle.law_says.specs.Opened.{entered_as}
use Rattle.law_cancel.proofs.Effects.{settle-pending}
use Rattle.law_steps.proofs.Settling.{settle_effect}
use Rattle.law_sound.proofs.Steps.{finish_step_sound}
use Rattle.law_turns.specs.Fits.{HasNoOpenGroup}
use Rattle.law_turns.specs.After.{IsLoopAfter, ResultIn}
use Rattle.law_turns.proofs.Loops.{parts_loop}
use Rattle.law_turns.proofs.Requests.{finish_after}
use Rattle.law_replies.specs.InStep.{IsStepSound}
use Rattle.law_replies.proofs.Answering.{left_before}
use Rattle.law_replies.proofs.Blocks.{open_kept}
use Rattle.law_replies.proofs.Counts.{lives_before, lives_within}
use Rattle.law_replies.proofs.Given.{Made, said_made}
use Rattle.law_replies.proofs.Ids.{loop_more}
use Rattle.law_replies.proofs.Keeping.{apart_of, joined, open_of, with_open, tapes_blocks, futures_kept, loop_keeps, stays_stood, leaves_none}
use Rattle.law_replies.proofs.Tapes.{past_default}
use Rattle.law_replies.proofs.Table.{same_tapes}

settle_done : (id : ℕ) (outcome : Outcome) (p : Parts) → is_pending (settle id outcome p) id ≡ false
settle_done id outcome p = at (slice_get p.futures id) refl
  where
    until : (future : Future) → slice_get p.futures id ≡ Some future → (o : Option Outcome) → future.outcome ≡ o
        → is_pending (settled_as o id future outcome p) id ≡ false
    until future e (Some done) o = ap is_pending_at e ∙ ap is_none o
    until future e None o =
        ap (λ q. is_pending q id) (sym (settle-pending id outcome p future e o)) ∙ (settle_effect id outcome p future e o).done

    at : (o : Option Future) → slice_get p.futures id ≡ o → is_pending (settled o id outcome p) id ≡ false
    at None e = ap is_pending_at e
    at (Some future) e = until future e future.outcome refl

finish_done : (task : ℕ) (end : Result Value Exc) (p : Parts) → is_pending (finish task end p) (future_of p task) ≡ false
finish_done task (Ok value) p = settle_done (future_of p task) (if must_cancel_of p task then Cancelled else Returned value) (clear_must_cancel task p)
finish_done task (Err fault) p = settle_done (future_of p task) (if is_cancelled fault then Cancelled else Failed fault) p

module _ {S : Type 0} (added : Extra S) (task : ℕ) (s : State S) (step : IsStepSound added task s) where
  -- where no block is open, no group is
  no_group : blocks_of s task ≡ [] → HasNoOpenGroup task s
  no_group none id entered unended mine = at (cases_lt id (length s.loop.groups))
    where
      at : (id < length s.loop.groups) ⊎ (length s.loop.groups ≤ id) → ⊥
      at (inl l) =
          false≢true (sym (step.others.blocks.groups id l ∙ ap (λ k. list_any (equal (Group id)) (blocks_of s k)) (sym mine)
          ∙ ap (list_any (equal (Group id))) none)
          ∙ ap (λ b. b && not (group_of s.loop id).ended) entered ∙ ap not unended)
      at (inr past) = false≢true (sym (ap (λ (g : GroupFields). g.entered) (past_default s.loop.groups id (new_group 0) past)) ∙ entered)

  pub none_returned : (value : Value) → says_of step_limit added task s ≡ Returns value → blocks_of s task ≡ []
  none_returned value says =
      let it = generator_of task s in
      sym (same_blocks (exchanges_of s task)) ∙ ap (map entered_as) (over_returned step_limit s.program it.coroutine it.arguments it.tape value says)

  pub none_raised : (fault : Exc) → says_of step_limit added task s ≡ Raises fault → blocks_of s task ≡ []
  none_raised fault says =
      let it = generator_of task s in
      sym (same_blocks (exchanges_of s task)) ∙ ap (map entered_as) (over_raised step_limit s.program it.coroutine it.arguments it.tape fault says)

  pub returned_free : (value : Value) → says_of step_limit added task s ≡ Returns value → HasNoOpenGroup task s
  returned_free value says = no_group (none_returned value says)

  pub raised_free : (fault : Exc) → says_of step_limit added task s ≡ Raises fault → HasNoOpenGroup task s
  raised_free fault says = no_group (none_raised fault says)

  module _ (end : Result Value Exc) (good : ResultIn (names_made (ids_of s)) end) (free : HasNoOpenGroup task s) where
    abbrev t : State S
    t = unbooked_in (finish task end) s

    after : IsLoopAfter (names_made (ids_of s)) false (Some task) None None None s.loop t.loop
    after =
        parts_loop (names_made (ids_of s)) refl false (Some task) None None None s.loop (finish task end s.loop.parts)
        (finish_after (names_made (ids_of s)) false (Some task) task end s.loop.parts good)

    dead : lives t.loop.parts task ≡ true → ⊥
    dead l =
        false≢true (sym (ap (is_pending t.loop.parts) (after.parts.owned task (lives_within s.loop.parts task
        (step.others.loop.parts.runs task (eq-eqb task task refl)))) ∙ finish_done task end s.loop.parts) ∙ l)

    over : s.main_done ≡ true → lives t.loop.parts 0 ≡ false
    over done =
        false_from_ne_true (lives t.loop.parts 0) (λ e. false≢true (sym (step.others.main_over done)
        ∙ lives_before _ _ (Some task) s.loop.parts t.loop.parts after.parts step.others.loop.parts.owns 0 step.others.main_told.made e))

    pub ends : IsStateSound added t
    ends =
        joined added t task
        (with_open added None (Some task) t
        (loop_keeps added s t (same_tapes s t.loop) (Some task) None (Some task) (Some task) after.parts (after.parts.same refl)
        (loop_more s t (same_tapes s t.loop) after) (finish_step_sound (told_in s.events) task end s.loop free step.others.loop) (λ other f. f) over
        (stays_stood added s t (same_tapes s t.loop) (Some task) None (Some task) (Some task) _ _ None None None after (λ other id f e r. refl))
        (leaves_none added s t (same_tapes s t.loop) (Some task) None (Some task) (Some task) _ _ None None None after (λ id f. (refl, refl)))
        (futures_kept s t refl refl (λ id h. after.parts.plain id h) step.others.futures) (apart_of added (Some task) (Some task) s step.others))
        (open_kept _ _ (Some task) None s.loop t.loop (blocks_of s) (blocks_of t) after
        (tapes_blocks added s t (same_tapes s t.loop) (Some task) None (Some task) (Some task)) (open_of added (Some task) (Some task) s step.others.blocks)))
        (λ l. absurd (dead l)) step.begun (λ l. absurd (dead l))
        (λ id e mine. absurd (step.exits id (left_before s t _ _ (Some task) None None None after id refl refl e) (mine ∙ (after.groups id).parent)))

  pub returns_sound : (value : Value) → says_of step_limit added task s ≡ Returns value → IsStateSound added (unbooked_in (finish task (Ok value)) s)
  returns_sound value says =
      ends (Ok value) (subst (InSaying (Made (ids_of s))) says
      (said_made added (Some task) (Some task) s (apart_of added (Some task) (Some task) s step.others) task)) (returned_free value says)

  pub raises_sound : (fault : Exc) → says_of step_limit added task s ≡ Raises fault → IsStateSound added (unbooked_in (finish task (Err fault)) s)
  raises_sound fault says = ends (Err fault) tt (raised_free fault says)
