-- A callback that steps no task is registered on a pending future.
use Rattle.std.proofs.Common.{◌≡◌, ℕ, None, Option, Some, [], ap, arith, cond, false, inl, inr, length, not, refl, slice_get, subst, suc, sym, true, ◌&&◌, ◌++◌}
use Rattle.std.proofs.Common.{◌+◌, ◌<◌, ◌∙◌, ◌∷◌, ◌⊎◌}
use Rattle.std.proofs.lemmas.Bool.{cases_eq, false≢true}
use Rattle.model_loop.specs.Ways.{is_running, one_if, steps}
use Rattle.model_loop.specs.Sound.{ArePartsSound}
use Rattle.model_loop.specs.Totals.{callbacks_of, pending_where, registered_at, callbacks_at}
use Rattle.model_loop.specs.Owning.{is_callback, is_no_callback, owner_at}
use Rattle.model_loop.specs.Tasks.{future_of, lives, waiter_of}
use Rattle.model_value.specs.Action.{Action}
use Rattle.model_loop.specs.Futures.{is_pending, is_pending_at, with_future}
use Rattle.law_steps.proofs.Looks.{spent_grows_below}
use Rattle.model_loop.specs.Parts.{Future, Parts, Task}
use Rattle.std.specs.List.{count_by}
use Rattle.model_loop.specs.Spent.{spent_by}
use Rattle.std.specs.Option.{option_map_or}
use Rattle.std.proofs.lemmas.List.Sums.{sum_by_push}
use Rattle.model_loop.specs.MustCancel.{MayKeepMustCancel}
use Rattle.law_cancel.proofs.Lookups.{get-set_kept, get-set_other}
use Rattle.std.proofs.Math.ListN.{length-set}

-- ---- a callback that steps no task is registered on a pending future
module _ (running excused : Option ℕ) (r : Parts) (on : ℕ) (f : Future) (action : Action) (e : slice_get r.futures on ≡ Some f) (o : f.outcome ≡ None)
    (none : (t : ℕ) → steps t action ≡ false) (is_one : is_callback action ≡ true) (is : ArePartsSound running excused r) where
  abbrev with_callback : Parts
  with_callback = with_future on (record f { callbacks = f.callbacks ++ action ∷ [] }) r

  see : {Y : Type 0} (view : Option Future → Y) (id : ℕ) → view (Some (record f { callbacks = f.callbacks ++ action ∷ [] })) ≡ view (Some f)
      → view (slice_get with_callback.futures id) ≡ view (slice_get r.futures id)
  see view id same = get-set_kept view r.futures on id f (record f { callbacks = f.callbacks ++ action ∷ [] }) e same

  made : length with_callback.futures ≡ length r.futures
  made = length-set r.futures on (record f { callbacks = f.callbacks ++ action ∷ [] })

  future_same : (t : ℕ) → future_of with_callback t ≡ future_of r t
  future_same t = ap (λ n. option_map_or (λ (x : Task). x.future) (slice_get r.tasks t) n) made

  pub callback_living : (t : ℕ) → lives with_callback t ≡ lives r t
  callback_living t = ap (is_pending with_callback) (future_same t) ∙ see is_pending_at (future_of r t) refl

  counted : (t id : ℕ) → count_by (steps t) (callbacks_of with_callback id) ≡ count_by (steps t) (callbacks_of r id)
  counted t id = see (λ x. count_by (steps t) (callbacks_at x)) id (sum_by_push (λ a. cond (steps t a) 1 0) f.callbacks action ∙ rw (none t) (omega arith))

  at_same : (t : ℕ) (w : Option ℕ) → registered_at with_callback (steps t) w ≡ registered_at r (steps t) w
  at_same t None = refl
  at_same t (Some id) = counted t id

  pub callback_sound : ArePartsSound running excused with_callback
  callback_sound = record {
    owns = λ id t. (λ h. (is.owns id t).0 (sym (see owner_at id refl) ∙ h), λ h. see owner_at id refl ∙ (is.owns id t).1 h);
    settled = λ id h. settled id h (cases_eq on id);
    callbacks = λ id. see (λ x. count_by is_no_callback (callbacks_at x)) id
        (sum_by_push (λ a. cond (is_no_callback a) 1 0) f.callbacks action ∙ rw is_one (omega arith)) ∙ is.callbacks id;
    free = is.free;
    ready = record { free = is.ready.free; woken = λ t h. let x = is.ready.woken t h in (x.0, x.1, see is_pending_at x.0 refl ∙ x.2) };
    runs = λ t x. callback_living t ∙ is.runs t x;
    waits_made = λ t id w. subst (λ (n : ℕ). id < n) (sym made) (is.waits_made t id w);
    one_way = record {
      one = λ t. ap (λ k. pending_where (steps t) r.pending + k) (at_same t (waiter_of r t)) ∙ is.one_way.one t
          ∙ ap (λ b. one_if (b && not (is_running running t))) (sym (callback_living t));
      on_waiter = λ t id h. is.one_way.on_waiter t id (subst (λ k. 0 < k) (counted t id) h);
      stays = λ t id l w h. counted t id ∙ is.one_way.stays t id (sym (callback_living t) ∙ l) w (sym (see is_pending_at id refl) ∙ h);
    };
    must_cancel = λ t l m. may t (is.must_cancel t (sym (callback_living t) ∙ l) m);
  }
    where
      settled : (id : ℕ) → is_pending with_callback id ≡ false → (on ≡ id) ⊎ (on ≡ id → ⊥) → callbacks_of with_callback id ≡ []
      settled id h (inl same) =
          absurd (false≢true (sym (sym (see is_pending_at id refl) ∙ h) ∙ subst (λ i. is_pending r i ≡ true) same (ap is_pending_at e ∙ rw o refl)))
      settled id h (inr n) = ap callbacks_at (get-set_other r.futures on id (record f { callbacks = f.callbacks ++ action ∷ [] }) n)
          ∙ is.settled id (sym (see is_pending_at id refl) ∙ h)

      may : (t : ℕ) → MayKeepMustCancel excused r t → MayKeepMustCancel excused with_callback t
      may t (inl x) = inl x
      may t (inr (inl h)) = inr (inl h)
      may t (inr (inr w)) = inr
          (inr (
            w.0,
            w.1,
            see is_pending_at w.0 refl
                ∙ w.2,
            spent_grows_below (suc w.0) r with_callback (λ g j. inl (see (λ x. spent_by g x j) j refl)) w.0 w.3,
          ))
