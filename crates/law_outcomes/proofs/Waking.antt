-- What is so of the futures stays so as a task goes on.
use Rattle.std.proofs.Common.{◌≡◌, inl, ℕ, suc, List, [], ◌∷◌, ◌++◌, Option, Some, None}
use Rattle.std.proofs.Common.{slice_get, slice_set, sym, ap, subst, ◌∙◌, arith}
use Rattle.std.specs.List.{AllByRecursion as Each}
use Rattle.std.proofs.lemmas.List.Sums.{sum_by-append}
use Rattle.std.proofs.lemmas.Option.{none-some}
use Rattle.model_value.specs.Input.{Input}
use Rattle.model_loop.specs.Loop.{Loop}
use Rattle.model_loop.specs.Parts.{Parts}
use Rattle.model_machine.specs.Extra.{ExtraStep, Uncancels, made_by_all}
use Rattle.model_reach.specs.Part.{key_at}
use Rattle.model_gather.specs.Gathered.{Drawn, Expired, Expiring, Finished, Gathered}
use Rattle.model_gather.specs.Gathered.{Timed, TimedState, TimedWait, Waits, WaitsFor, drawn_at, gather_part}
use Rattle.model_gather.specs.Serving.{woken}
use Rattle.model_gather.specs.Wait.{revoked}
use Rattle.model_gather.specs.WaitFor.{wait_for_woken}
use Rattle.law_apart.specs.Apart.{StaysOrIsCancelled}
use Rattle.law_cancel.proofs.Lookups.{get-set_other, get-set_same}
use Rattle.law_waiters.proofs.Drawing.{ring_in}
use Rattle.law_waiters.proofs.Fitting.{each_append}
use Rattle.law_members.proofs.Calling.{revoked_makes, revoked_onward, still_onward}
use Rattle.law_members.proofs.Drawing.{counts_in, tells_in}
use Rattle.law_members.proofs.Onward.{Onward, makes}
use Rattle.law_outcomes.proofs.Asking.{CallRight, shield_in}
use Rattle.law_outcomes.proofs.Drawing.{KeepsRight}
use Rattle.law_outcomes.proofs.Handles.{SettlesAt, revoked_settles, steps_others}
use Rattle.law_outcomes.proofs.Right.{EntryCame, goes_right, own_in}
use Rattle.law_outcomes.proofs.Right.{replaced_right}

-- an entry is replaced that has no future
pub plain_at : (kept : Gathered) (p : Parts) → KeepsRight kept p → (k : ℕ) (old new : TimedWait) (q : Parts) → slice_get kept.drawn k ≡ Some (WaitsFor old)
    → Onward p q → ((i on : ℕ) → own_in (slice_get kept.drawn i) ≡ Some on → StaysOrIsCancelled p q on)
    → KeepsRight (drawn_at k (WaitsFor new) kept) q
plain_at kept p r k old new q found onward leaves =
    let is_new = get-set_same kept.drawn k (WaitsFor old) (WaitsFor new) found in
    replaced_right r (slice_get (slice_set kept.drawn k (WaitsFor new))) k q onward (λ l apart. get-set_other kept.drawn k l (WaitsFor new) apart)
    (ap own_in is_new ∙ sym (ap own_in found)) (ap tells_in is_new ∙ sym (ap tells_in found))
    (λ l e. absurd (none-some l (sym (ap ring_in found) ∙ ap ring_in e)))
    (λ on e. absurd (none-some on (sym (ap shield_in is_new) ∙ ap shield_in e)))
    (λ it e. absurd (none-some it (sym (ap counts_in is_new) ∙ e))) (λ l on apart e. leaves l on e)
    (subst (EntryCame (slice_get (slice_set kept.drawn k (WaitsFor new))) q k) (sym is_new) tt)

-- ---- a task goes on
module _ (kept : Gathered) (l : Loop) (r : KeepsRight kept l.parts) where
  -- by steps that settle nothing and make no handle
  stays_as : (steps : List ExtraStep) → ((on : ℕ) → Each (SettlesAt (suc on)) steps) → (i on : ℕ) → own_in (slice_get kept.drawn i) ≡ Some on
      → StaysOrIsCancelled l.parts (made_by_all steps l).parts on
  stays_as steps settles i on e = inl (steps_others (suc on) steps l (settles on) on (λ same. absurd (omega (arith, same))) (r.made i on e))

  module _ (place : ℕ) (input : Input) (it : TimedWait) where
    abbrev as_is : TimedState → TimedWait
    as_is state = record it { state = state }

    finished : (state : TimedState) → slice_get kept.drawn place ≡ Some (WaitsFor (as_is state))
        → CallRight (record { state = drawn_at place (WaitsFor (record it { state = Finished; timer = None })) kept; steps = revoked it.timer }) l
    finished state found =
        plain_at kept l.parts r place (as_is state) (record it { state = Finished; timer = None }) (made_by_all (revoked it.timer) l).parts found
        (revoked_onward it.timer l) (stays_as (revoked it.timer) (λ on. revoked_settles (suc on) it.timer))

    timed_right : (state : TimedState) → slice_get kept.drawn place ≡ Some (WaitsFor (as_is state))
        → CallRight (wait_for_woken place input (as_is state) l.parts kept).call l
    timed_right Expiring found =
        let steps = revoked it.timer ++ Uncancels (key_at gather_part place) it.task ∷ [] in
        plain_at kept l.parts r place (as_is Expiring) (as_is Expired) (made_by_all steps l).parts found
        (still_onward steps l (λ test.
        let a = sum_by-append (makes test) (revoked it.timer) (Uncancels (key_at gather_part place) it.task ∷ []) in
        let b = revoked_makes test it.timer in
        omega (arith, a, b)))
        (stays_as steps (λ on.
        each_append (SettlesAt (suc on)) (revoked it.timer) (Uncancels (key_at gather_part place) it.task ∷ [])
        (revoked_settles (suc on) it.timer) (tt, tt)))
    timed_right Timed found = finished Timed found
    timed_right Expired found = finished Expired found
    timed_right Finished found = finished Finished found

  pub woken_right : (place : ℕ) (input : Input) (o : Option Drawn) → slice_get kept.drawn place ≡ o → CallRight (woken o place input l.parts kept).call l
  woken_right place input (Some (Waits it)) e =
      goes_right r (made_by_all (revoked it.timer) l).parts (revoked_onward it.timer l)
      (stays_as (revoked it.timer) (λ on. revoked_settles (suc on) it.timer))
  woken_right place input (Some (WaitsFor it)) e = timed_right place input it it.state e
  woken_right place input _ e = r
