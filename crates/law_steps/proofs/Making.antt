-- A new future that is no task's keeps the parts and what holds of all groups.
use Rattle.std.proofs.Common.{◌≡◌, ℕ, suc, ◌+◌, ◌<◌, ◌⊎◌, Bool, false, not, ◌&&◌, [], ◌∷◌, Option, Some, None, length, slice_get, refl, ap, sym, subst, ◌∙◌}
use Rattle.std.proofs.Common.{inl, inr, arith, length-append, true}
use Rattle.std.proofs.lemmas.Bool.{cases_eq}
use Rattle.std.proofs.lemmas.Option.{slice_get_past}
use Rattle.std.specs.List.{count_by}
use Rattle.std.specs.Option.{option_map_or}
use Rattle.model_value.specs.Action.{Action}
use Rattle.model_loop.specs.Parts.{FutureKind, Future, Parts}
use Rattle.model_loop.specs.Futures.{is_pending, is_pending_at, make_future}
use Rattle.model_loop.specs.Tasks.{lives, waiter_of, future_of}
use Rattle.model_loop.specs.Ways.{one_if, steps, is_running}
use Rattle.model_loop.specs.Totals.{callbacks_of, callbacks_at, pending_where, registered_at}
use Rattle.model_loop.specs.MustCancel.{MayKeepMustCancel}
use Rattle.law_cancel.proofs.Lookups.{get-push_last, get-push_other}
use Rattle.model_loop.specs.Owning.{owner_in, owner_at, owner_of, own_future, is_no_callback, is_plain}
use Rattle.model_loop.specs.Sound.{ArePartsSound}
use Rattle.model_loop.proofs.FutureCases.{is_plain_at}
use Rattle.law_steps.proofs.Looks.{future_of-owned}
use Rattle.law_steps.proofs.Spawning.{live_in, spent_same}
use Rattle.law_steps.proofs.CancelSound.{plain_within}

module _ (kind : FutureKind) (free : owner_in kind ≡ None) (running excused : Option ℕ) (p : Parts) (is : ArePartsSound running excused p) where
  abbrev future : Future
  future = record { kind = kind; outcome = None; callbacks = [] }

  pub made_new : slice_get (make_future kind p).futures (length p.futures) ≡ Some future
  made_new = get-push_last p.futures future

  pub made_old : (j : ℕ) → (j ≡ length p.futures → ⊥) → slice_get (make_future kind p).futures j ≡ slice_get p.futures j
  made_old j k = get-push_other p.futures future j k

  pub made_none : slice_get p.futures (length p.futures) ≡ None
  made_none = slice_get_past p.futures (length p.futures) (omega arith)

  pub made_more : length (make_future kind p).futures ≡ length p.futures + 1
  made_more = length-append p.futures (future ∷ [])

  -- what is seen of a task's own future, where a future that isn't there is seen like one that isn't
  pub own_seen : {Y : Type 0} (f : Option Future → Y) (t : ℕ)
      → f (slice_get (make_future kind p).futures (future_of (make_future kind p) t)) ≡ f (slice_get p.futures (future_of p t))
  own_seen f t = go (own_future p t) refl
    where
      go : (o : Option ℕ) → own_future p t ≡ o
          → f (slice_get (make_future kind p).futures (future_of (make_future kind p) t)) ≡ f (slice_get p.futures (future_of p t))
      go None e =
          let a : future_of (make_future kind p) t ≡ length (make_future kind p).futures = future_of-owned (make_future kind p) t
          ∙ ap (λ o. option_map_or (λ (i : ℕ). i) o (length (make_future kind p).futures)) e in
          let b : future_of p t ≡ length p.futures = future_of-owned p t ∙ ap (λ o. option_map_or (λ (i : ℕ). i) o (length p.futures)) e in
          ap (λ i. f (slice_get (make_future kind p).futures i)) a
          ∙ ap f (slice_get_past (make_future kind p).futures (length (make_future kind p).futures) (omega arith))
          ∙ sym (ap (λ i. f (slice_get p.futures i)) b ∙ ap f made_none)
      go (Some on) e =
          let a : future_of (make_future kind p) t ≡ on = future_of-owned (make_future kind p) t
          ∙ ap (λ o. option_map_or (λ (i : ℕ). i) o (length (make_future kind p).futures)) e in
          let b : future_of p t ≡ on = future_of-owned p t ∙ ap (λ o. option_map_or (λ (i : ℕ). i) o (length p.futures)) e in
          let x = live_in running excused p is t on e in
          ap (λ i. f (slice_get (make_future kind p).futures i)) a ∙ ap f (made_old on (λ y. absurd (omega (arith, x, y))))
          ∙ sym (ap (λ i. f (slice_get p.futures i)) b)

  pub made_living : (t : ℕ) → lives (make_future kind p) t ≡ lives p t
  made_living t = own_seen is_pending_at t

  -- callbacks stay, and a future that isn't there has none
  pub called_same : (j : ℕ) → callbacks_of (make_future kind p) j ≡ callbacks_of p j
  called_same j = go (cases_eq j (length p.futures))
    where
      go : (j ≡ length p.futures) ⊎ (j ≡ length p.futures → ⊥) → callbacks_of (make_future kind p) j ≡ callbacks_of p j
      go (inl e) = subst (λ i. callbacks_of (make_future kind p) i ≡ callbacks_of p i) (sym e) (ap callbacks_at made_new ∙ sym (ap callbacks_at made_none))
      go (inr k) = ap callbacks_at (made_old j k)

  pub owner_same : (j : ℕ) → owner_of (make_future kind p) j ≡ owner_of p j
  owner_same j = go (cases_eq j (length p.futures))
    where
      go : (j ≡ length p.futures) ⊎ (j ≡ length p.futures → ⊥) → owner_of (make_future kind p) j ≡ owner_of p j
      go (inl e) = subst (λ i. owner_of (make_future kind p) i ≡ owner_of p i) (sym e) (ap owner_at made_new ∙ free ∙ sym (ap owner_at made_none))
      go (inr k) = ap owner_at (made_old j k)

  at_same : (test : Action → Bool) (o : Option ℕ) → registered_at (make_future kind p) test o ≡ registered_at p test o
  at_same test None = refl
  at_same test (Some on) = ap (count_by test) (called_same on)

  pends_old : (j : ℕ) → j < length p.futures → is_pending (make_future kind p) j ≡ is_pending p j
  pends_old j h = ap is_pending_at (made_old j (λ y. absurd (omega (arith, h, y))))

  pub make_sound : ArePartsSound running excused (make_future kind p)
  make_sound = record {
    owns = λ id t. (λ h. (is.owns id t).0 (sym (owner_same id) ∙ h), λ h. owner_same id ∙ (is.owns id t).1 h);
    settled = λ id h. settled id h (cases_eq id (length p.futures));
    callbacks = λ id. ap (count_by is_no_callback) (called_same id) ∙ is.callbacks id;
    free = is.free;
    ready = record { free = is.ready.free; woken = λ t h. let x = is.ready.woken t h in (x.0, x.1, pends_old x.0 (is.waits_made t x.0 x.1) ∙ x.2) };
    runs = λ t r. made_living t ∙ is.runs t r;
    waits_made = λ t on w. let x = is.waits_made t on w in let l = made_more in omega (arith, x, l);
    one_way = record {
      one = λ t. ap (λ k. pending_where (steps t) p.pending + k) (at_same (steps t) (waiter_of p t)) ∙ is.one_way.one t
          ∙ ap (λ b. one_if (b && not (is_running running t))) (sym (made_living t));
      on_waiter = λ t on h. is.one_way.on_waiter t on (subst (λ l. 0 < count_by (steps t) l) (called_same on) h);
      stays = λ t on l w h. ap (count_by (steps t)) (called_same on)
          ∙ is.one_way.stays t on (sym (made_living t) ∙ l) w (sym (pends_old on (is.waits_made t on w)) ∙ h);
    };
    must_cancel = λ t l k. may t (is.must_cancel t (sym (made_living t) ∙ l) k);
  }
    where
      settled : (id : ℕ) → is_pending (make_future kind p) id ≡ false → (id ≡ length p.futures) ⊎ (id ≡ length p.futures → ⊥)
          → callbacks_of (make_future kind p) id ≡ []
      settled id h (inl e) = ap (λ j. callbacks_of (make_future kind p) j) e ∙ ap callbacks_at made_new
      settled id h (inr k) = ap callbacks_at (made_old id k) ∙ is.settled id (sym (ap is_pending_at (made_old id k)) ∙ h)

      may : (t : ℕ) → MayKeepMustCancel excused p t → MayKeepMustCancel excused (make_future kind p) t
      may t (inl r) = inl r
      may t (inr (inl h)) = inr (inl h)
      may t (inr (inr w)) =
          let x = is.waits_made t w.0 w.1 in
          inr (inr (
            w.0,
            w.1,
            pends_old w.0 x
                ∙ w.2,
            spent_same (suc w.0) p (make_future kind p) (length p.futures) (λ j below. made_old j (λ y. absurd (omega (arith, below, y)))) w.0 x
                ∙ w.3,
          ))

  pub plain_old : (j : ℕ) → is_plain p j ≡ true → is_plain (make_future kind p) j ≡ true
  plain_old j h =
      let x = (plain_within p j h).1 in
      ap is_plain_at (made_old j (λ y. absurd (omega (arith, x, y)))) ∙ h
