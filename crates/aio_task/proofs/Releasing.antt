-- A future is released that is no task's and has no callbacks: from then on it is done.
use Rattle.std.proofs.Common.{◌≡◌, ℕ, suc, ◌+◌, ◌<◌, ◌⊎◌, Bool, true, false, not, ◌&&◌, [], Option, Some, None, length, slice_get, refl}
use Rattle.std.proofs.Common.{ap, sym, subst, ◌∙◌, arith, inl, inr}
use Rattle.std.proofs.Math.ListN.{length-set}
use Rattle.std.proofs.lemmas.Bool.{cases_Bool, cases_eq, false≢true}
use Rattle.std.specs.List.{count_by}
use Rattle.std.specs.Option.{option_map_or}
use Rattle.model_value.specs.Action.{Action}
use Rattle.model_loop.specs.Parts.{Future, Task, Parts}
use Rattle.model_loop.specs.Futures.{is_pending, is_pending_at, with_future}
use Rattle.model_loop.specs.Tasks.{future_of, lives, waiter_of}
use Rattle.model_loop.specs.Totals.{callbacks_of, callbacks_at, registered_at, pending_where}
use Rattle.model_loop.specs.Owning.{owner_of, owner_at, is_no_callback}
use Rattle.model_loop.specs.Ways.{steps, is_running, one_if}
use Rattle.model_loop.specs.MustCancel.{MayKeepMustCancel}
use Rattle.model_loop.specs.Spent.{spent_by}
use Rattle.model_loop.specs.Cycles.{passes}
use Rattle.model_loop.specs.Sound.{ArePartsSound, HasNoCycle}
use Rattle.law_cancel.proofs.PassCases.{passes_at}
use Rattle.law_cancel.proofs.Lookups.{get-set_kept, get-set_other, get-set_same, get_within}
use Rattle.law_steps.proofs.Passing.{no_cycle_more}
use Rattle.algorithm_parts.specs.Released.{released}
use Rattle.law_steps.proofs.CancelSound.{is_no_task}
use Rattle.law_steps.proofs.Looks.{spent_grows_below}

module _ (running : Option ℕ) (id : ℕ) (p : Parts) (f : Future) (there : slice_get p.futures id ≡ Some f)
    (free : owner_of p id ≡ None) (uncalled : callbacks_of p id ≡ []) where
  abbrev left : Parts
  left = with_future id released p

  at_it : slice_get left.futures id ≡ Some released
  at_it = get-set_same p.futures id f released there

  see : {Y : Type 0} (view : Option Future → Y) (j : ℕ) → view (Some released) ≡ view (Some f)
      → view (slice_get left.futures j) ≡ view (slice_get p.futures j)
  see view j same = get-set_kept view p.futures id j f released there same

  elsewhere : (j : ℕ) → (id ≡ j → ⊥) → slice_get left.futures j ≡ slice_get p.futures j
  elsewhere j n = get-set_other p.futures id j released n

  made : length left.futures ≡ length p.futures
  made = length-set p.futures id released

  owners : (j : ℕ) → owner_of left j ≡ owner_of p j
  owners j = see owner_at j (sym (sym (ap owner_at there) ∙ free))

  calls : (j : ℕ) → callbacks_of left j ≡ callbacks_of p j
  calls j = see callbacks_at j (sym (sym (ap callbacks_at there) ∙ uncalled))

  counted : (test : Action → Bool) (j : ℕ) → count_by test (callbacks_of left j) ≡ count_by test (callbacks_of p j)
  counted test j = ap (count_by test) (calls j)

  future_same : (t : ℕ) → future_of left t ≡ future_of p t
  future_same t = ap (λ n. option_map_or (λ (x : Task). x.future) (slice_get p.tasks t) n) made

  -- what is pending was
  pended : (j : ℕ) → is_pending left j ≡ true → is_pending p j ≡ true
  pended j h = go (cases_eq id j)
    where
      go : (id ≡ j) ⊎ (id ≡ j → ⊥) → is_pending p j ≡ true
      go (inl same) = absurd (false≢true (sym (ap is_pending_at at_it) ∙ subst (λ i. is_pending left i ≡ true) (sym same) h))
      go (inr n) = sym (ap is_pending_at (elsewhere j n)) ∙ h

  at_same : (test : Action → Bool) (w : Option ℕ) → registered_at left test w ≡ registered_at p test w
  at_same test None = refl
  at_same test (Some j) = counted test j

  pub release_no_cycle : HasNoCycle p → HasNoCycle left
  release_no_cycle none = no_cycle_more p left (λ x. go x (cases_eq id x)) (λ t. inl refl) none
    where
      go : (x : ℕ) → (id ≡ x) ⊎ (id ≡ x → ⊥) → (slice_get left.futures x ≡ slice_get p.futures x) ⊎ (passes left x ≡ [])
      go x (inl same) = inr (subst (λ i. passes left i ≡ []) same (ap (λ o. passes_at o id left) at_it))
      go x (inr n) = inl (elsewhere x n)

  pub release_sound : ArePartsSound running running p → ArePartsSound running running left
  release_sound is = record {
    owns = λ j t. (λ h. (is.owns j t).0 (sym (owners j) ∙ h), λ h. owners j ∙ (is.owns j t).1 h);
    settled = λ j h. settled j h (cases_eq id j);
    callbacks = λ j. counted is_no_callback j ∙ is.callbacks j;
    runs = λ t r. living t ∙ is.runs t r;
    free = is.free;
    waits_made = λ t on w. subst (λ (n : ℕ). on < n) (sym made) (is.waits_made t on w);
    one_way = record {
      one = λ t. ap (λ k. pending_where (steps t) p.pending + k) (at_same (steps t) (waiter_of p t)) ∙ is.one_way.one t
          ∙ ap (λ b. one_if (b && not (is_running running t))) (sym (living t));
      on_waiter = λ t on h. is.one_way.on_waiter t on (subst (λ k. 0 < k) (counted (steps t) on) h);
      stays = λ t on l w h. counted (steps t) on ∙ is.one_way.stays t on (sym (living t) ∙ l) w (pended on h);
    };
    ready = record { free = is.ready.free; woken = λ t h. let x = is.ready.woken t h in (x.0, x.1, over x.0 x.2) };
    must_cancel = λ t l m. may t (sym (living t) ∙ l) (is.must_cancel t (sym (living t) ∙ l) m);
  }
    where
      living : (t : ℕ) → lives left t ≡ lives p t
      living t =
          ap (is_pending left) (future_same t)
          ∙ ap is_pending_at (elsewhere (future_of p t)
          (is_no_task p is.owns id free (get_within p.futures id f there) t))

      settled : (j : ℕ) → is_pending left j ≡ false → (id ≡ j) ⊎ (id ≡ j → ⊥) → callbacks_of left j ≡ []
      settled j h (inl same) = subst (λ i. callbacks_of left i ≡ []) same (ap callbacks_at at_it)
      settled j h (inr n) = calls j ∙ is.settled j (sym (ap is_pending_at (elsewhere j n)) ∙ h)

      over : (on : ℕ) → is_pending p on ≡ false → is_pending left on ≡ false
      over on h = go (cases_Bool (is_pending left on))
        where
          go : (is_pending left on ≡ true) ⊎ (is_pending left on ≡ false) → is_pending left on ≡ false
          go (inl y) = absurd (false≢true (sym h ∙ pended on y))
          go (inr z) = z

      spent : (g : ℕ → Bool) (j : ℕ)
          → (spent_by g (slice_get left.futures j) j ≡ spent_by g (slice_get p.futures j) j) ⊎ (is_pending left j ≡ false)
      spent g j = go (cases_eq id j)
        where
          go : (id ≡ j) ⊎ (id ≡ j → ⊥)
              → (spent_by g (slice_get left.futures j) j ≡ spent_by g (slice_get p.futures j) j) ⊎ (is_pending left j ≡ false)
          go (inl same) = inr (subst (λ i. is_pending left i ≡ false) same (ap is_pending_at at_it))
          go (inr n) = inl (ap (λ o. spent_by g o j) (elsewhere j n))

      -- a task that waits for it would be woken by it
      still : (t on : ℕ) → lives p t ≡ true → waiter_of p t ≡ Some on → is_pending p on ≡ true → is_pending left on ≡ true
      still t on l w h = go (cases_eq id on)
        where
          go : (id ≡ on) ⊎ (id ≡ on → ⊥) → is_pending left on ≡ true
          go (inl same) =
              let one = is.one_way.stays t on l w h in
              let none : count_by (steps t) (callbacks_of p on) ≡ 0 =
              subst (λ i. count_by (steps t) (callbacks_of p i) ≡ 0) same (ap (count_by (steps t)) uncalled) in
              absurd (omega (arith, one, none))
          go (inr n) = ap is_pending_at (elsewhere on n) ∙ h

      may : (t : ℕ) → lives p t ≡ true → MayKeepMustCancel running p t → MayKeepMustCancel running left t
      may t l (inl x) = inl x
      may t l (inr (inl h)) = inr (inl h)
      may t l (inr (inr w)) =
          inr (inr (w.0, w.1, still t w.0 l w.1 w.2, spent_grows_below (suc w.0) p left spent w.0 w.3))
