-- Where an event is set, everybody who waits for it was woken: each call of locks, events and queues keeps that.
use Rattle.std.proofs.Common.{◌≡◌, ◌⊎◌, inl, inr, ℕ, ◌<◌, ◌≤◌, Bool, true, false, List, [], ◌∷◌, Option, Some, None, get_or, length, map}
use Rattle.std.proofs.Common.{slice_get, refl, sym, ap, subst, ◌∙◌, arith}
use Rattle.std.specs.Prelude.{is_some, not, ◌==◌, filter, slice_set}
use Rattle.std.specs.List.{AllByRecursion as Each}
use Rattle.std.proofs.lemmas.Bool.{false≢true}
use Rattle.std.proofs.lemmas.Option.{slice_get_cases}
use Rattle.model_value.specs.Input.{Input}
use Rattle.model_value.specs.declared.outcome.Outcome.TheVariants.{Value as Returned}
use Rattle.model_value.specs.Value.{Nothing, Outcome}
use Rattle.model_loop.specs.Futures.{future_outcome, next_future, outcome_at, settle}
use Rattle.model_loop.specs.Loop.{Loop}
use Rattle.model_loop.specs.Parts.{Future, Parts}
use Rattle.model_loop.proofs.FutureCases.{settled, settled_as}
use Rattle.model_machine.specs.Extra.{ExtraSaid, made_by, made_by_all}
use Rattle.model_sync.specs.Serving.{Wanted}
use Rattle.model_sync.specs.Synced.{Event, Synced, Waiting, wakes}
use Rattle.law_apart.specs.Apart.{StaysOrIsCancelled}
use Rattle.law_apart.proofs.Parts.{settle_made}
use Rattle.law_cancel.proofs.Lookups.{get-set_same}
use Rattle.law_cancel.proofs.Effects.{done_as, settle-futures}
use Rattle.law_sync.proofs.Lists.{each_append, each_at, each_both, each_filter, each_on, each_set}
use Rattle.law_exclusion.proofs.Ended.{Ends, settle_ends}
use Rattle.law_locks.proofs.Served.{Resumes, Serves, clears, gets, gets_lock, gets_now, goes_by, leaves_event, leaves_get, leaves_lock, leaves_put}
use Rattle.law_locks.proofs.Served.{makes_event, makes_lock, makes_queue, puts, puts_now, releases, says_no, sees_event, sees_lock, sees_set, sees_size, sets}
use Rattle.law_locks.proofs.Served.{stays_set, takes_lock, waits_event, waits_get, waits_get_again, waits_lock, waits_put, waits_put_again}

-- ---- a future that is done stays so
abbrev pub IsDone : Parts → ℕ → Type 0
IsDone p on = is_some (future_outcome p on) ≡ true

pub left_done : (p q : Parts) (on : ℕ) → StaysOrIsCancelled p q on → IsDone p on → IsDone q on
left_done p q on (inl same) done = ap is_some same ∙ done
left_done p q on (inr now) done = ap is_some now.1

-- one that was made is done once it was settled
settled_done : (on : ℕ) (outcome : Outcome) (p : Parts) → on < next_future p → IsDone (settle on outcome p) on
settled_done on outcome p below = at (slice_get p.futures on) refl
  where
    until : (future : Future) → slice_get p.futures on ≡ Some future → (o : Option Outcome) → future.outcome ≡ o
        → IsDone (settled_as o on future outcome p) on
    until future e (Some done) o = ap is_some (ap outcome_at e ∙ o)
    until future e None o =
        subst (λ q. IsDone q on) (ap (λ x. settled_as x on future outcome p) o)
        (subst (λ q. IsDone q on) (ap (λ f. settled f on outcome p) e)
        (ap is_some (ap (λ (fs : List Future). outcome_at (slice_get fs on)) (settle-futures on outcome p future e o)
        ∙ ap outcome_at (get-set_same p.futures on future (done_as outcome future) e))))

    none : (it : Future) → None ≡ Some it → ⊥
    none it e = absurd (cc)

    at : (o : Option Future) → slice_get p.futures on ≡ o → IsDone (settled o on outcome p) on
    at (Some future) e = until future e future.outcome refl
    at None e = found (slice_get_cases p.futures on).1
      where
        found : ((x : Future) × (on < length p.futures) × (slice_get p.futures on ≡ Some x) × (get_or p.futures on x ≡ x))
            ⊎ ((length p.futures ≤ on) × (slice_get p.futures on ≡ None)) → IsDone p on
        found (inl it) = absurd (none it.0 (sym e ∙ it.2))
        found (inr it) = let past = it.0 in absurd (omega (arith, past, below))

-- what ends stays so
pub done_on : (p q : Parts) → Ends p q → (on : ℕ) → IsDone p on → IsDone q on
done_on p q ends on done = at (future_outcome p on) refl done
  where
    at : (o : Option Outcome) → future_outcome p on ≡ o → is_some o ≡ true → IsDone q on
    at None e is = absurd (false≢true is)
    at (Some outcome) e is = ap is_some (ends on outcome e)

settle_done : (id on : ℕ) (outcome : Outcome) (p : Parts) → IsDone p on → IsDone (settle id outcome p) on
settle_done id on outcome p = done_on p (settle id outcome p) (settle_ends id outcome p) on

-- all are woken
all_done : (waiters : List ℕ) (on : ℕ) (l : Loop) → IsDone l.parts on → IsDone (made_by_all (map wakes waiters) l).parts on
all_done [] on l done = done
all_done (waiter ∷ waiters) on l done =
    all_done waiters on (made_by (wakes waiter) l) (settle_done waiter on (Returned Nothing) l.parts done)

woken_done : (waiters : List ℕ) (l : Loop) → Each (λ waiter. waiter < next_future l.parts) waiters
    → Each (IsDone (made_by_all (map wakes waiters) l).parts) waiters
woken_done [] l below = tt
woken_done (waiter ∷ waiters) l below = (
  all_done waiters waiter (made_by (wakes waiter) l) (settled_done waiter (Returned Nothing) l.parts below.0),
  woken_done waiters (made_by (wakes waiter) l)
      (subst (λ n. Each (λ it. it < n) waiters) (sym (settle_made waiter (Returned Nothing) l.parts)) below.1),
)

-- ---- events
abbrev pub IsEventKept : Parts → Event → Type 0
IsEventKept p event = event.is_set ≡ true → Each (IsDone p) event.waiters

pub events_on : (p q : Parts) → ((on : ℕ) → IsDone p on → IsDone q on) → (events : List Event) → Each (IsEventKept p) events → Each (IsEventKept q) events
events_on p q goes events all =
    each_on (IsEventKept p) (IsEventKept q) (λ event kept is. each_on (IsDone p) (IsDone q) goes event.waiters (kept is)) events all

-- futures of those who wait for events stay, or are cancelled
pub events_left : (ours : ℕ → Bool) (p q : Parts) → ((on : ℕ) → ours on ≡ true → StaysOrIsCancelled p q on) → (events : List Event)
    → Each (λ (event : Event). Each (λ waiter. ours waiter ≡ true) event.waiters) events → Each (IsEventKept p) events → Each (IsEventKept q) events
events_left ours p q stays events mine all =
    each_both (λ (event : Event). Each (λ waiter. ours waiter ≡ true) event.waiters) (IsEventKept p) (IsEventKept q)
    (λ event own kept is. each_both (λ waiter. ours waiter ≡ true) (IsDone p) (IsDone q) (λ on here done. left_done p q on (stays on here) done)
    event.waiters own (kept is)) events mine all

module _ (l : Loop) (kept : Synced) (all : Each (IsEventKept l.parts) kept.events) where
  abbrev pub Goes : ExtraSaid Synced → Type 0
  Goes said = Ends l.parts (made_by_all said.call.steps l).parts

  abbrev pub Kept : ExtraSaid Synced → Type 0
  Kept said = Each (IsEventKept (made_by_all said.call.steps l).parts) said.call.state.events

  goes_on : (said : ExtraSaid Synced) → Goes said → Each (IsEventKept l.parts) said.call.state.events → Kept said
  goes_on said goes now =
      events_on l.parts (made_by_all said.call.steps l).parts (done_on l.parts (made_by_all said.call.steps l).parts goes) said.call.state.events now

  changed : (id : ℕ) (event : Event) → IsEventKept l.parts event → Each (IsEventKept l.parts) (slice_set kept.events id event)
  changed id event now = each_set (IsEventKept l.parts) kept.events id event all now

  here : (id : ℕ) (event : Event) → slice_get kept.events id ≡ Some event → IsEventKept l.parts event
  here id event found = each_at (IsEventKept l.parts) kept.events id event found all

  unset : (event : Event) → event.is_set ≡ false → IsEventKept l.parts event
  unset event open_ is = absurd (false≢true (sym open_ ∙ is))

  fewer : (test : ℕ → Bool) (event : Event) → IsEventKept l.parts event → IsEventKept l.parts (record event { waiters = filter test event.waiters })
  fewer test event now is = each_filter (IsDone l.parts) test event.waiters (now is)

  pub serves_events : (below : Each (λ (event : Event). Each (λ waiter. waiter < next_future l.parts) event.waiters) kept.events) (wanted : Wanted)
      (said : ExtraSaid Synced) → Serves l.parts kept wanted said → Goes said → Kept said
  serves_events below wanted said (says_no _ exception) goes = goes_on said goes all
  serves_events below wanted said makes_lock goes = goes_on said goes all
  serves_events below wanted said (takes_lock id lock found free) goes = goes_on said goes all
  serves_events below wanted said (waits_lock id lock found held) goes = goes_on said goes all
  serves_events below wanted said (releases id lock found locked) goes = goes_on said goes all
  serves_events below wanted said (sees_lock id lock found) goes = goes_on said goes all
  serves_events below wanted said makes_event goes =
      goes_on said goes (each_append (IsEventKept l.parts) kept.events (record { is_set = false; waiters = [] } ∷ []) all ((λ is. tt), tt))
  serves_events below wanted said (sets id event found clear_) goes =
      each_set (IsEventKept (made_by_all said.call.steps l).parts) kept.events id (record event { is_set = true })
      (events_on l.parts (made_by_all said.call.steps l).parts (done_on l.parts (made_by_all said.call.steps l).parts goes) kept.events all)
      (λ is. woken_done event.waiters l
      (each_at (λ (it : Event). Each (λ waiter. waiter < next_future l.parts) it.waiters) kept.events id event found below))
  serves_events below wanted said (stays_set id event found set) goes = goes_on said goes all
  serves_events below wanted said (clears id event found) goes = goes_on said goes (changed id (record event { is_set = false }) (unset _ refl))
  serves_events below wanted said (sees_event id event found) goes = goes_on said goes all
  serves_events below wanted said (goes_by id event found set) goes = goes_on said goes (changed id event (here id event found))
  serves_events below wanted said (waits_event id event found clear_) goes = goes_on said goes (changed id _ (unset _ clear_))
  serves_events below wanted said (makes_queue most) goes = goes_on said goes all
  serves_events below wanted said (puts id value queue found open_) goes = goes_on said goes all
  serves_events below wanted said (waits_put id value queue found full) goes = goes_on said goes all
  serves_events below wanted said (gets id value values queue found held) goes = goes_on said goes all
  serves_events below wanted said (waits_get id queue found empty) goes = goes_on said goes all
  serves_events below wanted said (sees_size id queue found) goes = goes_on said goes all

  pub resumes_events : (key place : ℕ) (it : Waiting) (input : Input) (said : ExtraSaid Synced) → Resumes l.parts kept key place it input said
      → Goes said → Kept said
  resumes_events key place it input said (gets_lock id on value lock found) goes = goes_on said goes all
  resumes_events key place it input said (leaves_lock id on exception lock found) goes = goes_on said goes all
  resumes_events key place it input said (sees_set id on value event found) goes =
      goes_on said goes (changed id _ (fewer (λ other. not (other == on)) event (here id event found)))
  resumes_events key place it input said (leaves_event id on exception event found) goes =
      goes_on said goes (changed id _ (fewer (λ other. not (other == on)) event (here id event found)))
  resumes_events key place it input said (puts_now id on value sent queue found open_) goes = goes_on said goes all
  resumes_events key place it input said (waits_put_again id on value sent queue found full) goes = goes_on said goes all
  resumes_events key place it input said (leaves_put id on value exception queue found) goes = goes_on said goes all
  resumes_events key place it input said (gets_now id on value sent values queue found held) goes = goes_on said goes all
  resumes_events key place it input said (waits_get_again id on sent queue found empty) goes = goes_on said goes all
  resumes_events key place it input said (leaves_get id on exception queue found) goes = goes_on said goes all
