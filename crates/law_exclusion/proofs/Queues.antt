-- Each call of locks, events and queues keeps the turns of those who wait for a queue.
use Rattle.std.proofs.Common.{◌≡◌, ◌⊎◌, inl, inr, ℕ, zero, suc, ◌+◌, ◌≤◌, ℤ, pos, negsuc, Bool, true, false, cond, List, [], ◌∷◌, ◌++◌, Option, Some, None}
use Rattle.std.proofs.Common.{length, slice_get, slice_set, refl, sym, ap, subst, ◌∙◌, arith, le_refl, length-append}
use Rattle.std.specs.Prelude.{◌==◌, ◌&&◌, nat_lt, not}
use Rattle.std.specs.List.{AllByRecursion as Each}
use Rattle.std.specs.Map.{lookup, remove_entry, set_value}
use Rattle.std.proofs.lemmas.Bool.{and_from, and_parts, cases_eq, eqb-true, eq-eqb, false≢true, leb-false, leb-true, ltb-false, ne_eqb, true≢false}
use Rattle.std.proofs.lemmas.Option.{none-some, same_Some}
use Rattle.model_value.specs.Input.{Input}
use Rattle.model_value.specs.declared.outcome.Outcome.TheVariants.{Value as Returned}
use Rattle.model_value.specs.Value.{Nothing, Value}
use Rattle.model_loop.specs.Futures.{future_outcome, is_pending, next_future}
use Rattle.model_loop.specs.Loop.{Loop}
use Rattle.model_loop.specs.Parts.{Parts}
use Rattle.model_machine.specs.Extra.{ExtraSaid, ExtraStep, made_by_all}
use Rattle.model_sync.specs.Queues.{got_value, is_full, next_if, wake_next}
use Rattle.model_sync.specs.Serving.{Wanted}
use Rattle.model_sync.specs.Synced.{Acquires, Awaits, Gets, Puts, Queue, Synced, Waiting, is_place, on_of, wakes, without}
use Rattle.law_apart.specs.Apart.{StaysOrIsCancelled}
use Rattle.law_cancel.proofs.Lookups.{get-set_other, get-set_same}
use Rattle.law_locks.proofs.Served.{Resumes, Serves, clears, gets, gets_lock, gets_now, goes_by, leaves_event, leaves_get, leaves_lock, leaves_put}
use Rattle.law_locks.proofs.Served.{makes_event, makes_lock, makes_queue, puts, puts_now, releases, says_no, sees_event, sees_lock, sees_set, sees_size, sets}
use Rattle.law_locks.proofs.Served.{stays_set, takes_lock, waits_event, waits_get, waits_get_again, waits_lock, waits_put, waits_put_again}
use Rattle.law_locks.specs.Locks.{HearsOf}
use Rattle.law_sync.proofs.Lists.{each_at, each_both, each_filter, each_on}
use Rattle.law_sync.proofs.Holding.{QueueHolds}
use Rattle.law_exclusion.proofs.Ended.{Ends, settled_pending}
use Rattle.law_exclusion.proofs.Turns.{Entries, HasTurn, IsGone, IsSafe, Moves, Stands, again_moves, again_stands, asks_move, gone, new_stands, over_moves, same_move}
use Rattle.law_exclusion.proofs.Turns.{turns_last, more_woken, turns_stay, turns_woken}
use Rattle.law_exclusion.specs.Turns.{AllKeepTurns, AreWokenFirst, gets_from, is_woken, places_free, puts_into}

pub record QueueTurns (p : Parts) (xs : Entries) (id : ℕ) (queue : Queue) : Type 0 where
  pub getters : Each (HasTurn (gets_from id) p xs (length queue.values)) queue.getters
  pub putters : Each (HasTurn (puts_into id) p xs (places_free queue.size (length queue.values))) queue.putters

abbrev pub AllTurns : Parts → Synced → Type 0
AllTurns p kept = (id : ℕ) (queue : Queue) → slice_get kept.queues id ≡ Some queue → QueueTurns p kept.waiting id queue

-- ---- places
no_more : (size : ℤ) (values : List Value) (value : Value)
    → places_free size (length (values ++ value ∷ [])) + 0 ≤ places_free size (length values)
no_more (pos size) values value = let n = length-append values (value ∷ []) in omega (arith, n)
no_more (negsuc before) values value = le_refl 0

free_full : (size : ℤ) (values : List Value) (getters putters : List ℕ)
    → is_full (record { size = size; values = values; getters = getters; putters = putters }) ≡ true → places_free size (length values) ≡ 0
free_full (pos zero) values getters putters full = absurd (false≢true full)
free_full (pos (suc most)) values getters putters full = let le = leb-true (suc most) (length values) full in omega (arith, le)
free_full (negsuc before) values getters putters full = refl

-- one value more
free_one : (size : ℤ) (values : List Value) (getters putters : List ℕ) (held : ℕ) → held ≡ length values + 1
    → is_full (record { size = size; values = values; getters = getters; putters = putters }) ≡ false
    → (places_free size held ≡ 0) ⊎ (places_free size held + 1 ≤ places_free size (length values))
free_one (pos zero) values getters putters held is open_ = inl (omega arith)
free_one (pos (suc most)) values getters putters held is open_ =
    inr (let le = leb-false (suc most) (length values) open_ in omega (arith, le, is))
free_one (negsuc before) values getters putters held is open_ = inl refl

one_less : (size : ℤ) (values held : List Value) (value : Value) → held ≡ value ∷ values
    → places_free size (length values) ≤ places_free size (length held) + 1
one_less (pos size) values held value is = let n = ap length is in omega (arith, n)
one_less (negsuc before) values held value is = omega arith

-- ---- no request of a kind
abbrev Spares : (Waiting → Bool) → Option Waiting → Type 0
Spares kind None = Unit {0}
Spares kind (Some it) = kind it ≡ false

abbrev SparesAll : (id : ℕ) → Option Waiting → Type 0
SparesAll id lost = Spares (gets_from id) lost × Spares (puts_into id) lost

module _ (kind : Waiting → Bool) (p : Parts) where
  none_gone : (lost : Option Waiting) → Spares kind lost → gone kind p lost ≡ 0
  none_gone None spares = refl
  none_gone (Some it) spares = ap (λ b. cond (b && got_value (future_outcome p (on_of it))) 1 0) spares

  gone_one : (lost : Option Waiting) → gone kind p lost ≤ 1
  gone_one None = omega arith
  gone_one (Some it) = at (kind it && got_value (future_outcome p (on_of it)))
    where
      at : (b : Bool) → cond b 1 0 ≤ 1
      at true = omega arith
      at false = omega arith

  got_none : (it : Waiting) → got_value (future_outcome p (on_of it)) ≡ false → gone kind p (Some it) ≡ 0
  got_none it none = at (kind it) (got_value (future_outcome p (on_of it))) none
    where
      weight : Bool → ℕ
      weight b = cond b 1 0

      at : (b c : Bool) → c ≡ false → weight (b && c) ≡ 0
      at true c h = ap weight h
      at false c h = refl

  spared_safe : (lost : Option Waiting) → Spares kind lost → (waiters : List ℕ) → Each (IsSafe kind p lost) waiters
  spared_safe lost spares [] = tt
  spared_safe lost spares (waiter ∷ waiters) = (λ none. at lost spares, spared_safe lost spares waiters)
    where
      at : (o : Option Waiting) → Spares kind o → IsGone kind o waiter → ⊥
      at None s g = g
      at (Some it) s g = true≢false (sym (and_parts (kind it) (on_of it == waiter) g).0 ∙ s)

  is_it : (it : Waiting) (waiter : ℕ) → IsGone kind (Some it) waiter → on_of it ≡ waiter
  is_it it waiter g = eqb-true (on_of it) waiter (and_parts (kind it) (on_of it == waiter) g).1

  -- the one that is gone was woken
  woken_safe : (it : Waiting) → got_value (future_outcome p (on_of it)) ≡ true → (waiters : List ℕ) → Each (IsSafe kind p (Some it)) waiters
  woken_safe it got [] = tt
  woken_safe it got (waiter ∷ waiters) = (
    λ none g. false≢true (sym (ap got_value (ap (future_outcome p) (is_it it waiter g) ∙ none)) ∙ got),
    woken_safe it got waiters,
  )

  -- or left the list
  left_safe : (it : Waiting) (waiters : List ℕ) → Each (IsSafe kind p (Some it)) (without (on_of it) waiters)
  left_safe it [] = tt
  left_safe it (waiter ∷ waiters) = at (waiter == on_of it) refl (left_safe it waiters)
    where
      at : (b : Bool) → (waiter == on_of it) ≡ b → Each (IsSafe kind p (Some it)) (without (on_of it) waiters)
          → Each (IsSafe kind p (Some it)) (cond (not b) (waiter ∷ without (on_of it) waiters) (without (on_of it) waiters))
      at true is rest = rest
      at false is rest = (λ none g. true≢false (sym (eq-eqb waiter (on_of it) (sym (is_it it waiter g))) ∙ is), rest)

module _ (l : Loop) (kept : Synced) (all : AllTurns l.parts kept) where
  abbrev pub Now : ExtraSaid Synced → Parts
  Now said = (made_by_all said.call.steps l).parts

  -- who is woken has a value
  wakes_got : (steps : List ExtraStep) (waiter : ℕ) → steps ≡ wakes waiter ∷ [] → is_pending l.parts waiter ≡ true
      → got_value (future_outcome (made_by_all steps l).parts waiter) ≡ true
  wakes_got steps waiter is pending =
      subst (λ them. got_value (future_outcome (made_by_all them l).parts waiter) ≡ true) (sym is)
      (ap got_value (settled_pending waiter (Returned Nothing) l.parts pending))

  -- ---- by a call that makes these of who waits
  module _ (q : Parts) (ends : Ends l.parts q) (ys : Entries) (lost : Option Waiting)
      (moves : (kind : Waiting → Bool) → Moves kind l.parts kept.waiting ys lost)
    where
      spared : (kind : Waiting → Bool) (many now : ℕ) (waiters : List ℕ) → Spares kind lost → now ≤ many
          → Each (HasTurn kind l.parts kept.waiting many) waiters → Each (HasTurn kind q ys now) waiters
      spared kind many now waiters spares le turns =
          turns_stay kind l.parts q ends kept.waiting ys lost (moves kind) many now waiters
          (inr (let g = none_gone kind l.parts lost spares in omega (arith, le, g))) (spared_safe kind l.parts lost spares waiters) turns

      woken_next : (kind : Waiting → Bool) (many now : ℕ) (waiters : List ℕ) → Spares kind lost → now ≤ many + 1
          → ((waiter : ℕ) → (wake_next l.parts waiters).steps ≡ wakes waiter ∷ [] → is_pending l.parts waiter ≡ true
          → got_value (future_outcome q waiter) ≡ true) → Each (HasTurn kind l.parts kept.waiting many) waiters
          → Each (HasTurn kind q ys now) (wake_next l.parts waiters).left
      woken_next kind many now waiters spares le got turns =
          turns_woken kind l.parts q ends kept.waiting ys lost (moves kind) many now waiters
          (let g = none_gone kind l.parts lost spares in omega (arith, le, g)) got (spared_safe kind l.parts lost spares waiters) turns

      queue_stays : (id : ℕ) (queue : Queue) → SparesAll id lost → slice_get kept.queues id ≡ Some queue → QueueTurns q ys id queue
      queue_stays id queue spares found =
          let turns = all id queue found in
          record {
            getters = spared (gets_from id) (length queue.values) (length queue.values) queue.getters spares.0 (le_refl _) turns.getters;
            putters = spared (puts_into id) (places_free queue.size (length queue.values)) (places_free queue.size (length queue.values)) queue.putters
                spares.1 (le_refl _) turns.putters;
          }

      queue_changes : (at_ : ℕ) (old now : Queue) → slice_get kept.queues at_ ≡ Some old → QueueTurns q ys at_ now
          → ((id : ℕ) → (at_ ≡ id → ⊥) → SparesAll id lost) → (id : ℕ) (queue : Queue) → slice_get (slice_set kept.queues at_ now) id ≡ Some queue
          → QueueTurns q ys id queue
      queue_changes at_ old now found turns spares id queue e = at (cases_eq at_ id)
        where
          at : (at_ ≡ id) ⊎ (at_ ≡ id → ⊥) → QueueTurns q ys id queue
          at (inl same) =
              subst (λ it. QueueTurns q ys id it)
              (same_Some now queue (sym (get-set_same kept.queues at_ old now found) ∙ ap (slice_get (slice_set kept.queues at_ now)) same ∙ e))
              (subst (λ i. QueueTurns q ys i now) same turns)
          at (inr differs) = queue_stays id queue (spares id differs) (sym (get-set_other kept.queues at_ id now differs) ∙ e)

      -- one more waits
      waits_to_put : (id : ℕ) (queue : Queue) → slice_get kept.queues id ≡ Some queue → is_full queue ≡ true
          → ((other : ℕ) → (id ≡ other → ⊥) → SparesAll other lost) → Spares (gets_from id) lost
          → Each (IsSafe (puts_into id) l.parts lost) queue.putters → Stands (puts_into id) ys (next_future l.parts) → (other : ℕ) (it : Queue)
          → slice_get (slice_set kept.queues id (record queue { putters = queue.putters ++ next_future l.parts ∷ [] })) other ≡ Some it
          → QueueTurns q ys other it
      waits_to_put id queue found full spares no_getter safe stands_ =
          let turns = all id queue found in
          queue_changes id queue _ found (record {
            getters = spared (gets_from id) (length queue.values) (length queue.values) queue.getters no_getter (le_refl _) turns.getters;
            putters =
                subst (λ n. Each (HasTurn (puts_into id) q ys n) (queue.putters ++ next_future l.parts ∷ []))
                (sym (free_full queue.size queue.values queue.getters queue.putters full))
                (turns_last (puts_into id) l.parts q ends kept.waiting ys lost (moves (puts_into id)) (places_free queue.size (length queue.values))
                (next_future l.parts) queue.putters safe stands_ turns.putters);
          }) spares

      waits_to_get : (id : ℕ) (queue : Queue) → slice_get kept.queues id ≡ Some queue → queue.values ≡ []
          → ((other : ℕ) → (id ≡ other → ⊥) → SparesAll other lost) → Spares (puts_into id) lost
          → Each (IsSafe (gets_from id) l.parts lost) queue.getters → Stands (gets_from id) ys (next_future l.parts) → (other : ℕ) (it : Queue)
          → slice_get (slice_set kept.queues id (record queue { getters = queue.getters ++ next_future l.parts ∷ [] })) other ≡ Some it
          → QueueTurns q ys other it
      waits_to_get id queue found empty spares no_putter safe stands_ =
          let turns = all id queue found in
          queue_changes id queue _ found (record {
            getters =
                subst (λ (values : List Value). Each (HasTurn (gets_from id) q ys (length values)) (queue.getters ++ next_future l.parts ∷ [])) (sym empty)
                (turns_last (gets_from id) l.parts q ends kept.waiting ys lost (moves (gets_from id)) (length queue.values) (next_future l.parts) queue.getters
                safe stands_ turns.getters);
            putters = spared (puts_into id) (places_free queue.size (length queue.values)) (places_free queue.size (length queue.values)) queue.putters
                no_putter (le_refl _) turns.putters;
          }) spares

      -- a value is put in, or the first is got
      puts_in : (id : ℕ) (value : Value) (queue : Queue) → slice_get kept.queues id ≡ Some queue
          → ((other : ℕ) → (id ≡ other → ⊥) → SparesAll other lost) → Spares (gets_from id) lost
          → (places_free queue.size (length (queue.values ++ value ∷ [])) ≡ 0)
          ⊎ (places_free queue.size (length (queue.values ++ value ∷ [])) + gone (puts_into id) l.parts lost ≤ places_free queue.size (length queue.values))
          → Each (IsSafe (puts_into id) l.parts lost) queue.putters
          → ((waiter : ℕ) → (wake_next l.parts queue.getters).steps ≡ wakes waiter ∷ [] → is_pending l.parts waiter ≡ true
          → got_value (future_outcome q waiter) ≡ true) → (other : ℕ) (it : Queue)
          → slice_get (slice_set kept.queues id (record queue { values = queue.values ++ value ∷ []; getters = (wake_next l.parts queue.getters).left })) other
          ≡ Some it → QueueTurns q ys other it
      puts_in id value queue found spares no_getter free safe got =
          let turns = all id queue found in
          let n = length-append queue.values (value ∷ []) in
          queue_changes id queue _ found (record {
            getters = woken_next (gets_from id) (length queue.values) (length (queue.values ++ value ∷ [])) queue.getters no_getter (omega (arith, n)) got
                turns.getters;
            putters = turns_stay (puts_into id) l.parts q ends kept.waiting ys lost (moves (puts_into id)) (places_free queue.size (length queue.values))
                (places_free queue.size (length (queue.values ++ value ∷ []))) queue.putters free safe turns.putters;
          }) spares

      gets_out : (id : ℕ) (value : Value) (values : List Value) (queue : Queue) → slice_get kept.queues id ≡ Some queue → queue.values ≡ value ∷ values
          → ((other : ℕ) → (id ≡ other → ⊥) → SparesAll other lost) → Spares (puts_into id) lost
          → Each (IsSafe (gets_from id) l.parts lost) queue.getters
          → ((waiter : ℕ) → (wake_next l.parts queue.putters).steps ≡ wakes waiter ∷ [] → is_pending l.parts waiter ≡ true
          → got_value (future_outcome q waiter) ≡ true) → (other : ℕ) (it : Queue)
          → slice_get (slice_set kept.queues id (record queue { values = values; putters = (wake_next l.parts queue.putters).left })) other ≡ Some it
          → QueueTurns q ys other it
      gets_out id value values queue found held spares no_putter safe got =
          let turns = all id queue found in
          let n = ap length held in
          let g = gone_one (gets_from id) l.parts lost in
          queue_changes id queue _ found (record {
            getters = turns_stay (gets_from id) l.parts q ends kept.waiting ys lost (moves (gets_from id)) (length queue.values) (length values) queue.getters
                (inr (omega (arith, n, g))) safe turns.getters;
            putters = woken_next (puts_into id) (places_free queue.size (length queue.values)) (places_free queue.size (length values)) queue.putters no_putter
                (one_less queue.size values queue.values value held) got turns.putters;
          }) spares

  -- ---- as it is asked
  same_turns : (q : Parts) → Ends l.parts q → (id : ℕ) (queue : Queue) → slice_get kept.queues id ≡ Some queue → QueueTurns q kept.waiting id queue
  same_turns q ends id queue found = queue_stays q ends kept.waiting None (λ kind. same_move kind l.parts kept.waiting) id queue (tt, tt) found

  last_turns : (q : Parts) → Ends l.parts q → (new : ℕ × Waiting) (id : ℕ) (queue : Queue) → slice_get kept.queues id ≡ Some queue
      → QueueTurns q (kept.waiting ++ new ∷ []) id queue
  last_turns q ends new id queue found =
      queue_stays q ends (kept.waiting ++ new ∷ []) None (λ kind. asks_move kind l.parts kept.waiting new) id queue (tt, tt) found

  more_queues : (q : Parts) → Ends l.parts q → (new : Queue) → new.getters ≡ [] → new.putters ≡ [] → (id : ℕ) (queue : Queue)
      → slice_get (kept.queues ++ new ∷ []) id ≡ Some queue → QueueTurns q kept.waiting id queue
  more_queues q ends new no_getters no_putters id queue e = at (last_or kept.queues id e)
    where
      last_or : (qs : List Queue) (id : ℕ) → slice_get (qs ++ new ∷ []) id ≡ Some queue → (slice_get qs id ≡ Some queue) ⊎ (new ≡ queue)
      last_or [] zero h = inr (same_Some new queue h)
      last_or [] (suc id) h = absurd (none-some queue h)
      last_or (x ∷ qs) zero h = inl h
      last_or (x ∷ qs) (suc id) h = last_or qs id h

      at : (slice_get kept.queues id ≡ Some queue) ⊎ (new ≡ queue) → QueueTurns q kept.waiting id queue
      at (inl old) = same_turns q ends id queue old
      at (inr is) =
          subst (λ it. QueueTurns q kept.waiting id it) is (record {
            getters = subst (λ ws. Each (HasTurn (gets_from id) q kept.waiting (length new.values)) ws) (sym no_getters) tt;
            putters = subst (λ ws. Each (HasTurn (puts_into id) q kept.waiting (places_free new.size (length new.values))) ws) (sym no_putters) tt;
          })

  pub serves_turns : (wanted : Wanted) (said : ExtraSaid Synced) → Serves l.parts kept wanted said → Ends l.parts (Now said)
      → AllTurns (Now said) said.call.state
  serves_turns wanted said (says_no _ exception) ends = same_turns (Now said) ends
  serves_turns wanted said makes_lock ends = same_turns (Now said) ends
  serves_turns wanted said (takes_lock id lock found free) ends = same_turns (Now said) ends
  serves_turns wanted said (waits_lock id lock found held) ends = last_turns (Now said) ends (kept.drawn, Acquires id (next_future l.parts))
  serves_turns wanted said (releases id lock found locked) ends = same_turns (Now said) ends
  serves_turns wanted said (sees_lock id lock found) ends = same_turns (Now said) ends
  serves_turns wanted said makes_event ends = same_turns (Now said) ends
  serves_turns wanted said (sets id event found clear_) ends = same_turns (Now said) ends
  serves_turns wanted said (stays_set id event found set) ends = same_turns (Now said) ends
  serves_turns wanted said (clears id event found) ends = same_turns (Now said) ends
  serves_turns wanted said (sees_event id event found) ends = same_turns (Now said) ends
  serves_turns wanted said (goes_by id event found set) ends = same_turns (Now said) ends
  serves_turns wanted said (waits_event id event found clear_) ends = last_turns (Now said) ends (kept.drawn, Awaits id (next_future l.parts))
  serves_turns wanted said (makes_queue most) ends = more_queues (Now said) ends _ refl refl
  serves_turns wanted said (puts id value queue found open_) ends =
      puts_in (Now said) ends kept.waiting None (λ kind. same_move kind l.parts kept.waiting) id value queue found (λ other differs. (tt, tt)) tt
      (inr (no_more queue.size queue.values value)) (spared_safe (puts_into id) l.parts None tt queue.putters)
      (wakes_got (wake_next l.parts queue.getters).steps)
  serves_turns wanted said (waits_put id value queue found full) ends =
      let new : ℕ × Waiting = (kept.drawn, Puts id value (next_future l.parts)) in
      let moves : (kind : Waiting → Bool) → Moves kind l.parts kept.waiting (kept.waiting ++ new ∷ []) None = λ kind. asks_move kind l.parts kept.waiting new in
      waits_to_put (Now said) ends (kept.waiting ++ new ∷ []) None moves id queue found full (λ other differs. (tt, tt)) tt
      (spared_safe (puts_into id) l.parts None tt queue.putters)
      (new_stands (puts_into id) (next_future l.parts) kept.drawn new.1 kept.waiting (eq-eqb id id refl) refl)
  serves_turns wanted said (gets id value values queue found held) ends =
      gets_out (Now said) ends kept.waiting None (λ kind. same_move kind l.parts kept.waiting) id value values queue found held
      (λ other differs. (tt, tt)) tt (spared_safe (gets_from id) l.parts None tt queue.getters) (wakes_got (wake_next l.parts queue.putters).steps)
  serves_turns wanted said (waits_get id queue found empty) ends =
      let new : ℕ × Waiting = (kept.drawn, Gets id (next_future l.parts)) in
      let moves : (kind : Waiting → Bool) → Moves kind l.parts kept.waiting (kept.waiting ++ new ∷ []) None = λ kind. asks_move kind l.parts kept.waiting new in
      waits_to_get (Now said) ends (kept.waiting ++ new ∷ []) None moves id queue found empty (λ other differs. (tt, tt)) tt
      (spared_safe (gets_from id) l.parts None tt queue.getters)
      (new_stands (gets_from id) (next_future l.parts) kept.drawn new.1 kept.waiting (eq-eqb id id refl) refl)
  serves_turns wanted said (sees_size id queue found) ends = same_turns (Now said) ends

  -- ---- as it goes on, after a wait
  -- thrown an exception, it leaves the list; where it was woken, and is needed still, the next is
  leaves_turns : (kind : Waiting → Bool) (it : Waiting) (ys : Entries) → Moves kind l.parts kept.waiting ys (Some it) → (many : ℕ) (waiters : List ℕ)
      (more b : Bool) → (got_value (future_outcome l.parts (on_of it)) && more) ≡ b → (more ≡ false → many ≡ 0)
      → Ends l.parts (made_by_all (next_if b l.parts (without (on_of it) waiters)).steps l).parts
      → Each (HasTurn kind l.parts kept.waiting many) waiters
      → Each (HasTurn kind (made_by_all (next_if b l.parts (without (on_of it) waiters)).steps l).parts ys many)
      (next_if b l.parts (without (on_of it) waiters)).left
  leaves_turns kind it ys moves many waiters more true is none ends turns =
      let g = gone_one kind l.parts (Some it) in
      turns_woken kind l.parts (made_by_all (wake_next l.parts (without (on_of it) waiters)).steps l).parts ends kept.waiting ys (Some it) moves many many
      (without (on_of it) waiters) (omega (arith, g)) (wakes_got (wake_next l.parts (without (on_of it) waiters)).steps)
      (left_safe kind l.parts it waiters)
      (each_filter (HasTurn kind l.parts kept.waiting many) (λ other. not (other == on_of it)) waiters turns)
  leaves_turns kind it ys moves many waiters more false is none ends turns =
      turns_stay kind l.parts l.parts ends kept.waiting ys (Some it) moves many many (without (on_of it) waiters)
      (at (got_value (future_outcome l.parts (on_of it))) refl) (left_safe kind l.parts it waiters)
      (each_filter (HasTurn kind l.parts kept.waiting many) (λ other. not (other == on_of it)) waiters turns)
    where
      at : (b : Bool) → got_value (future_outcome l.parts (on_of it)) ≡ b → (many ≡ 0) ⊎ (many + gone kind l.parts (Some it) ≤ many)
      at true e = inl (none (ap (λ b. b && more) (sym e) ∙ is))
      at false e = inr (let g = got_none kind l.parts it e in omega (arith, g))

  one_put : (id : ℕ) (it : Waiting) {now many : ℕ} → (now ≡ 0) ⊎ (now + 1 ≤ many) → (now ≡ 0) ⊎ (now + gone (puts_into id) l.parts (Some it) ≤ many)
  one_put id it (inl none) = inl none
  one_put id it (inr le) = inr (let g = gone_one (puts_into id) l.parts (Some it) in omega (arith, le, g))

  not_not : (b : Bool) → not b ≡ false → b ≡ true
  not_not true e = refl
  not_not false e = absurd (true≢false e)

  module _ (key place : ℕ) where
    over_turns : (it : Waiting) → lookup (is_place place) kept.waiting ≡ Some it → (q : Parts) → Ends l.parts q → ((id : ℕ) → SparesAll id (Some it))
        → (id : ℕ) (queue : Queue) → slice_get kept.queues id ≡ Some queue → QueueTurns q (remove_entry (is_place place) kept.waiting) id queue
    over_turns it e q ends spares id queue found =
        queue_stays q ends (remove_entry (is_place place) kept.waiting) (Some it) (λ kind. over_moves kind l.parts place it kept.waiting e) id queue
        (spares id) found

    pub resumes_turns : (it : Waiting) (input : Input) (said : ExtraSaid Synced) → Resumes l.parts kept key place it input said
        → lookup (is_place place) kept.waiting ≡ Some it → HearsOf input (future_outcome l.parts (on_of it)) → Ends l.parts (Now said)
        → AllTurns (Now said) said.call.state
    resumes_turns it input said (gets_lock id on value lock found) e hears ends =
        over_turns _ e (Now said) ends (λ id_. (refl, refl))
    resumes_turns it input said (leaves_lock id on exception lock found) e hears ends =
        over_turns _ e (Now said) ends (λ id_. (refl, refl))
    resumes_turns it input said (sees_set id on value event found) e hears ends =
        over_turns _ e (Now said) ends (λ id_. (refl, refl))
    resumes_turns it input said (leaves_event id on exception event found) e hears ends =
        over_turns _ e (Now said) ends (λ id_. (refl, refl))
    resumes_turns it input said (puts_now id on value sent queue found open_) e hears ends =
        puts_in (Now said) ends (remove_entry (is_place place) kept.waiting) (Some it) (λ kind. over_moves kind l.parts place it kept.waiting e) id value
        queue found (λ other differs. (refl, ne_eqb id other differs)) refl
        (one_put id it (free_one queue.size queue.values queue.getters queue.putters (length (queue.values ++ value ∷ []))
        (length-append queue.values (value ∷ [])) open_)) (woken_safe (puts_into id) l.parts it hears queue.putters)
        (wakes_got (wake_next l.parts queue.getters).steps)
    resumes_turns it input said (waits_put_again id on value sent queue found full) e hears ends =
        let new : Waiting = Puts id value (next_future l.parts) in
        waits_to_put (Now said) ends (set_value (is_place place) kept.waiting new) (Some it)
        (λ kind. again_moves kind l.parts place it new kept.waiting e) id queue found full (λ other differs. (refl, ne_eqb id other differs)) refl
        (woken_safe (puts_into id) l.parts it hears queue.putters)
        (again_stands (puts_into id) l.parts place it new kept.waiting (next_future l.parts) e (eq-eqb id id refl) refl)
    resumes_turns it input said (leaves_put id on value exception queue found) e hears ends =
        let turns = all id queue found in
        let ys : Entries = remove_entry (is_place place) kept.waiting in
        let moves : (kind : Waiting → Bool) → Moves kind l.parts kept.waiting ys (Some it) = λ kind. over_moves kind l.parts place it kept.waiting e in
        queue_changes (Now said) ends ys (Some it) moves id queue _ found (record {
          getters = spared (Now said) ends ys (Some it) moves (gets_from id) (length queue.values) (length queue.values) queue.getters refl (le_refl _)
              turns.getters;
          putters = leaves_turns (puts_into id) it ys (moves (puts_into id)) (places_free queue.size (length queue.values)) queue.putters
              (not (is_full queue)) (got_value (future_outcome l.parts on) && not (is_full queue)) refl
              (λ none. free_full queue.size queue.values queue.getters queue.putters (not_not (is_full queue) none)) ends turns.putters;
        }) (λ other differs. (refl, ne_eqb id other differs))
    resumes_turns it input said (gets_now id on value sent values queue found held) e hears ends =
        gets_out (Now said) ends (remove_entry (is_place place) kept.waiting) (Some it) (λ kind. over_moves kind l.parts place it kept.waiting e) id value
        values queue found held (λ other differs. (ne_eqb id other differs, refl)) refl (woken_safe (gets_from id) l.parts it hears queue.getters)
        (wakes_got (wake_next l.parts queue.putters).steps)
    resumes_turns it input said (waits_get_again id on sent queue found empty) e hears ends =
        let new : Waiting = Gets id (next_future l.parts) in
        waits_to_get (Now said) ends (set_value (is_place place) kept.waiting new) (Some it)
        (λ kind. again_moves kind l.parts place it new kept.waiting e) id queue found empty (λ other differs. (ne_eqb id other differs, refl)) refl
        (woken_safe (gets_from id) l.parts it hears queue.getters)
        (again_stands (gets_from id) l.parts place it new kept.waiting (next_future l.parts) e (eq-eqb id id refl) refl)
    resumes_turns it input said (leaves_get id on exception queue found) e hears ends =
        let turns = all id queue found in
        let ys : Entries = remove_entry (is_place place) kept.waiting in
        let moves : (kind : Waiting → Bool) → Moves kind l.parts kept.waiting ys (Some it) = λ kind. over_moves kind l.parts place it kept.waiting e in
        queue_changes (Now said) ends ys (Some it) moves id queue _ found (record {
          getters = leaves_turns (gets_from id) it ys (moves (gets_from id)) (length queue.values) queue.getters (nat_lt 0 (length queue.values))
              (got_value (future_outcome l.parts on) && nat_lt 0 (length queue.values)) refl
              (λ none. let le = ltb-false 0 (length queue.values) none in omega (arith, le)) ends turns.getters;
          putters = spared (Now said) ends ys (Some it) moves (puts_into id) (places_free queue.size (length queue.values))
              (places_free queue.size (length queue.values)) queue.putters refl (le_refl _) turns.putters;
        }) (λ other differs. (ne_eqb id other differs, refl))

-- ---- all else: futures of those who wait stay, or are cancelled
module _ (ours : ℕ → Bool) (p q : Parts) (stays : (on : ℕ) → ours on ≡ true → StaysOrIsCancelled p q on) where
  opened : (on : ℕ) → StaysOrIsCancelled p q on → future_outcome q on ≡ None → future_outcome p on ≡ None
  opened on (inl same) none = sym same ∙ none
  opened on (inr now) none = now.0

  got_left : (on : ℕ) → StaysOrIsCancelled p q on → got_value (future_outcome p on) ≡ true → got_value (future_outcome q on) ≡ true
  got_left on (inl same) got = ap got_value same ∙ got
  got_left on (inr now) got = absurd (false≢true (sym (ap got_value now.0) ∙ got))

  turn_left : (kind : Waiting → Bool) (xs : Entries) (many waiter : ℕ) → Each (λ (entry : ℕ × Waiting). ours (on_of entry.1) ≡ true) xs
      → ours waiter ≡ true → HasTurn kind p xs many waiter → HasTurn kind q xs many waiter
  turn_left kind xs many waiter mine own turn none =
      let h = turn (opened waiter (stays waiter own) none) in
      let le = more_woken kind p q xs (each_on (λ (entry : ℕ × Waiting). ours (on_of entry.1) ≡ true)
      (λ entry. is_woken kind p entry ≡ true → is_woken kind q entry ≡ true) woken_left xs mine) in
      let m = h.1 in
      (h.0, omega (arith, le, m))
    where
      woken_left : (entry : ℕ × Waiting) → ours (on_of entry.1) ≡ true → is_woken kind p entry ≡ true → is_woken kind q entry ≡ true
      woken_left entry own_ is =
          let b = and_parts (kind entry.1) (got_value (future_outcome p (on_of entry.1))) is in
          and_from (kind entry.1) (got_value (future_outcome q (on_of entry.1))) b.0 (got_left (on_of entry.1) (stays (on_of entry.1) own_) b.1)

  turns_left : (kind : Waiting → Bool) (xs : Entries) (many : ℕ) (waiters : List ℕ) → Each (λ (entry : ℕ × Waiting). ours (on_of entry.1) ≡ true) xs
      → Each (λ waiter. ours waiter ≡ true) waiters → Each (HasTurn kind p xs many) waiters → Each (HasTurn kind q xs many) waiters
  turns_left kind xs many waiters mine own turns =
      each_both (λ waiter. ours waiter ≡ true) (HasTurn kind p xs many) (HasTurn kind q xs many)
      (λ waiter own_ turn. turn_left kind xs many waiter mine own_ turn) waiters own turns

  pub all_left : (kept : Synced) → Each (λ (entry : ℕ × Waiting). ours (on_of entry.1) ≡ true) kept.waiting
      → Each (QueueHolds (λ waiter. ours waiter ≡ true) (λ value. Unit {0})) kept.queues → AllTurns p kept → AllTurns q kept
  all_left kept mine own turns id queue found =
      let here = each_at (QueueHolds (λ waiter. ours waiter ≡ true) (λ value. Unit {0})) kept.queues id queue found own in
      let t = turns id queue found in
      record {
        getters = turns_left (gets_from id) kept.waiting (length queue.values) queue.getters mine here.getters t.getters;
        putters = turns_left (puts_into id) kept.waiting (places_free queue.size (length queue.values)) queue.putters mine here.putters t.putters;
      }

-- ---- what users rely on
pub all_keep : (p : Parts) (kept : Synced) → AllTurns p kept → AllKeepTurns p kept
all_keep p kept turns id queue found =
    let t = turns id queue found in
    record {
      getters = each_on (HasTurn (gets_from id) p kept.waiting (length queue.values))
          (AreWokenFirst (gets_from id) p kept.waiting (length queue.values)) (λ waiter turn none. (turn none).1) queue.getters t.getters;
      putters = each_on (HasTurn (puts_into id) p kept.waiting (places_free queue.size (length queue.values)))
          (AreWokenFirst (puts_into id) p kept.waiting (places_free queue.size (length queue.values))) (λ waiter turn none. (turn none).1) queue.putters
          t.putters;
    }
