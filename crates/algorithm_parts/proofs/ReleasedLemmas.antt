-- Forgetting released futures commutes with a request.
use Rattle.std.proofs.Common.{◌≡◌, ℕ, zero, suc, ◌+◌, Bool, true, false, cond, List, [], ◌∷◌, Option, Some, None, slice_get, slice_set, refl, ap}
use Rattle.std.proofs.Common.{sym, ◌∙◌, arith}
use Rattle.std.specs.Option.{option_map, option_map_or}
use Rattle.model_value.specs.Action.{Action}
use Rattle.model_value.specs.declared.outcome.Outcome.TheVariants.{Cancelled}
use Rattle.model_value.specs.Value.{Outcome}
use Rattle.model_loop.specs.Parts.{FutureKind, Future, Task, Parts}
use Rattle.model_loop.specs.Handles.{soon, soon_all}
use Rattle.model_loop.specs.Futures.{with_future, settle, mark_asked}
use Rattle.model_loop.specs.Tasks.{change_task}
use Rattle.model_loop.specs.Cancel.{Canceller, answers, cancel}
use Rattle.model_loop.proofs.FutureCases.{settled, settled_as}
use Rattle.law_cancel.proofs.CancelCases.{cancel_until, cancel_at}
use Rattle.law_cancel.proofs.Effects.{done_as, asked_as}
use Rattle.law_cancel.proofs.Trace.{Goes, begins, settles, asks, raises, sets_must_cancel}
use Rattle.algorithm_parts.specs.Quiet.{stage_of, stage, stage_at, Later, Grows}
use Rattle.algorithm_parts.specs.Released.{released, release_from, with_released, with_released_in, AreDone}
use Rattle.algorithm_parts.proofs.QuietLemmas.{settled_later, asked_later, must_cancel_later, raised_later}
use Rattle.algorithm_parts.proofs.Commuting.{SeesRequests, changes, cancels}

module _ (gone : ℕ → Bool) where
  -- ---- lists
  get-release : (n : ℕ) (fs : List Future) (id : ℕ)
      → slice_get (release_from gone n fs) id ≡ option_map (λ (f : Future). cond (gone (n + id)) released f) (slice_get fs id)
  get-release n [] id = refl
  get-release n (f ∷ fs) zero = let e : n + 0 ≡ n = omega arith in rw e refl
  get-release n (f ∷ fs) (suc id) = let e : n + suc id ≡ suc n + id = omega arith in rw e (get-release (suc n) fs id)

  set-gone : (n : ℕ) (fs : List Future) (id : ℕ) (f : Future) → gone (n + id) ≡ true → release_from gone n (slice_set fs id f) ≡ release_from gone n fs
  set-gone n [] id f g = refl
  set-gone n (x ∷ fs) zero f g = let e : n + 0 ≡ n = omega arith in let h : gone n ≡ true = ap gone (sym e) ∙ g in rw h refl
  set-gone n (x ∷ fs) (suc id) f g = let e : n + suc id ≡ suc n + id = omega arith in ap (λ ys. cond (gone n) released x ∷ ys) (set-gone
      (suc n) fs id f (ap gone (sym e) ∙ g))

  set-kept : (n : ℕ) (fs : List Future) (id : ℕ) (f : Future) → gone (n + id) ≡ false
      → release_from gone n (slice_set fs id f) ≡ slice_set (release_from gone n fs) id f
  set-kept n [] id f g = refl
  set-kept n (x ∷ fs) zero f g = let e : n + 0 ≡ n = omega arith in let h : gone n ≡ false = ap gone (sym e) ∙ g in rw h refl
  set-kept n (x ∷ fs) (suc id) f g = let e : n + suc id ≡ suc n + id = omega arith in ap (λ ys. cond (gone n) released x ∷ ys) (set-kept
      (suc n) fs id f (ap gone (sym e) ∙ g))

  set_same : (xs : List Future) (k : ℕ) (v : Future) → slice_get xs k ≡ Some v → slice_set xs k v ≡ xs
  set_same [] k v e = refl
  set_same (x ∷ xs) zero v e = let same : x ≡ v = cc in ap (λ z. z ∷ xs) (sym same)
  set_same (x ∷ xs) (suc k) v e = ap (λ ys. x ∷ ys) (set_same xs k v e)

  pub with_released_at : (p : Parts) (id : ℕ)
      → slice_get (with_released gone p).futures id ≡ option_map (λ (f : Future). cond (gone id) released f) (slice_get p.futures id)
  with_released_at p id = let e : 0 + id ≡ id = omega arith in get-release 0 p.futures id ∙ rw e refl

  gone_at : (id : ℕ) (b : Bool) → gone id ≡ b → gone (0 + id) ≡ b
  gone_at id b g = let e : 0 + id ≡ id = omega arith in ap gone e ∙ g

  -- ---- small changes
  soon_all-release : (actions : List Action) (p : Parts) → soon_all actions (with_released gone p) ≡ with_released gone (soon_all actions p)
  soon_all-release [] p = refl
  soon_all-release (a ∷ more) p = soon_all-release more (soon a p)

  pub with-kept : (id : ℕ) (f : Future) (p : Parts) → gone id ≡ false → with_future id f (with_released gone p) ≡ with_released gone (with_future id f p)
  with-kept id f p g = ap (λ fs. record p { futures = fs }) (sym (set-kept 0 p.futures id f (gone_at id false g)))

  pub settle-release : (id : ℕ) (outcome : Outcome) (p : Parts) → AreDone gone p
      → settle id outcome (with_released gone p) ≡ with_released gone (settle id outcome p)
  settle-release id outcome p done = ap (λ o. settled o id outcome (with_released gone p)) (with_released_at p id)
      ∙ go (slice_get p.futures id) (gone id) refl (done id)
    where
      until : (future : Future) (o : Option Outcome) → gone id ≡ false
          → settled_as o id future outcome (with_released gone p) ≡ with_released gone (settled_as o id future outcome p)
      until future (Some x) g = refl
      until future None g = ap (soon_all future.callbacks) (with-kept id (done_as outcome future) p g)
          ∙ soon_all-release future.callbacks (with_future id (done_as outcome future) p)

      over : (future : Future) (o : Option Outcome) (k : FutureKind) → stage_of o k ≡ None
          → with_released gone p ≡ with_released gone (settled_as o id future outcome p)
      over future (Some x) k e = refl
      over future None k e = absurd (cc)

      go : (o : Option Future) (b : Bool) → gone id ≡ b → (b ≡ true → stage o ≡ None)
          → settled (option_map (λ (f : Future). cond b released f) o) id outcome (with_released gone p) ≡ with_released gone (settled o id outcome p)
      go None b g d = refl
      go (Some future) true g d = over future future.outcome future.kind (d refl)
      go (Some future) false g d = until future future.outcome g

  pub ask-release : (id : ℕ) (p : Parts) → mark_asked id (with_released gone p) ≡ with_released gone (mark_asked id p)
  ask-release id p = ap (λ o. option_map_or (λ (f : Future). with_future id (asked_as f) (with_released gone p)) o (with_released gone p))
      (with_released_at p id)
      ∙ go (slice_get p.futures id) refl (gone id) refl
    where
      go : (o : Option Future) → slice_get p.futures id ≡ o → (b : Bool) → gone id ≡ b
          → option_map_or (λ (f : Future). with_future id (asked_as f) (with_released gone p)) (option_map (λ (f : Future). cond b released f) o)
          (with_released gone p)
          ≡ with_released gone (option_map_or (λ (f : Future). with_future id (asked_as f) p) o p)
      go None e b g = refl
      go (Some future) e false g = with-kept id (asked_as future) p g
      go (Some future) e true g =
          let there : slice_get (release_from gone 0 p.futures) id ≡ Some released = with_released_at p id ∙ rw (g, e) refl in
          ap (λ fs. record p { futures = fs }) (set_same (release_from gone 0 p.futures) id released there
          ∙ sym (set-gone 0 p.futures id (asked_as future) (gone_at id true g)))

  -- ---- the released stay done
  done_later : {s : List ℕ} {p : Parts} {t : List ℕ} {q : Parts} → Later s p t q → AreDone gone p → AreDone gone q
  done_later {p = p} {q = q} l done = λ id g. go id (stage_at p id) (done id g) (l.stages id)
    where
      go : (id : ℕ) (a : Option FutureKind) → a ≡ None → Grows a (stage_at q id) → stage_at q id ≡ None
      go id None e g = g
      go id (Some kind) e g = absurd (cc)

  pub done_goes : {s : List ℕ} {p : Parts} {t : List ℕ} {q : Parts} → Goes s p t q → AreDone gone p → AreDone gone q
  done_goes begins done = done
  done_goes {s} {p} {t} (settles {q = q} g id future e o k) done =
      done_later (settled_later t q id (ap stage e ∙ rw (o, k) refl)) (done_goes g done)
  done_goes {s} {p} {t} (asks {q = q} g id future members asked e o k) done = done_later (asked_later t q id) (done_goes g done)
  done_goes (raises {t = u} {q = q} g id task n e) done = done_later (raised_later u q id) (done_goes g done)
  done_goes {s} {p} {t} (sets_must_cancel {q = q} g id) done = done_later (must_cancel_later t q id) (done_goes g done)

  -- ---- a request
  at_gone : (F V : Canceller) (id : ℕ) (s : List ℕ) (p q : Parts) → AreDone gone p
      → cancel_at F V (slice_get (with_released gone p).futures id) id s q ≡ cancel_at F V (slice_get p.futures id) id s q
  at_gone F V id s p q done = ap (λ o. cancel_at F V o id s q) (with_released_at p id) ∙ go (slice_get p.futures id) (gone id) (done id)
    where
      over : (o : Option Outcome) (k : FutureKind) → stage_of o k ≡ None → answers false s q ≡ cancel_until F V o k id s q
      over (Some outcome) k e = refl
      over None k e = absurd (cc)

      go : (o : Option Future) (b : Bool) → (b ≡ true → stage o ≡ None)
          → cancel_at F V (option_map (λ (f : Future). cond b released f) o) id s q ≡ cancel_at F V o id s q
      go None b d = refl
      go (Some future) true d = over future.outcome future.kind (d refl)
      go (Some future) false d = refl

  sees : SeesRequests (with_released gone) (AreDone gone)
  sees = record {
    goes = λ s p t q g done. done_goes g done;
    raised = λ task p done. done_later (raised_later [] p task) done;
    tasks = λ p. refl;
    put = λ tasks p. refl;
    future = at_gone;
    settles = λ id p done. settle-release id Cancelled p done;
    asks = ask-release;
  }

  pub change-release : (id : ℕ) (change : Task → Task) (p : Parts) → change_task id change (with_released gone p) ≡ with_released gone (change_task id change p)
  change-release = changes (with_released gone) (AreDone gone) sees

  pub cancel-release : (id : ℕ) (p : Parts) → AreDone gone p → cancel id (with_released gone p) ≡ with_released_in gone (cancel id p)
  cancel-release = cancels (with_released gone) (AreDone gone) sees
