-- Futures that scripts make and settle.
use Rattle.std.proofs.Common.{◌≡◌, ℕ, ◌+◌, ◌^◌, ◌<◌, ◌⊎◌, List, [], ◌∷◌, ◌++◌, Option, Some, None, length, length-append, slice_get, ◌∙◌, refl, sym, ap, subst}
use Rattle.std.proofs.Common.{inl, inr, arith}
use Rattle.std.proofs.lemmas.Bool.{cases_eq}
use Rattle.model_value.specs.Value.{Outcome}
use Rattle.model_loop.specs.Futures.{new_plain, next_future, settle}
use Rattle.model_loop.specs.Loop.{in_parts}
use Rattle.model_loop.specs.Owning.{OwnsFutures, owner_of}
use Rattle.model_loop.specs.Parts.{Plain, Parts}
use Rattle.model_machine.specs.State.{State, unbooked_in}
use Rattle.law_cancel.proofs.Lookups.{get-push_last, get-push_other}
use Rattle.law_replies.proofs.Counts.{own_there}
use Rattle.law_steps.proofs.CancelSound.{plain_within}
use Rattle.aio_ready.specs.Queue.{soon_all}
use Rattle.aio_future.specs.Settled as settled
use Rattle.aio_future.specs.Settled.{called}
use Rattle.aio_task.specs.View.{View}
use Rattle.aio_task.specs.Keeps.{Kept}
use Rattle.aio_extra.specs.Added.{Added, IsNamed, named_in, owned_in}
use Rattle.aio_body.specs.declared.run_state.RunState.{RunState}
use Rattle.aio_body.specs.Asked.{IsInStep}
use Rattle.aio_body.specs.Stands.{Context, Stands, IsOwnSleep}
use Rattle.refine_parts.proofs.Calls.{kept_settle}
use Rattle.aio_body.proofs.Kept.{kept_plain}
use Rattle.aio_body.proofs.Lasting.{spares_none, stands_on}
use Rattle.aio_body.proofs.Left.{leaves_plain, leaves_settle}
use Rattle.aio_body.proofs.Noting.{telling_changes}
use Rattle.aio_body.proofs.Rooms.{below_soon_all}

module _ {X : Type 0} {a : Added X} where
  -- ---- a future is settled
  pub settles_so : (task id : ℕ) (outcome : Outcome) (c : Context a) (old : RunState X) (s : State a.Kept) (v : View) → IsInStep task c old s
      → owner_of s.loop.parts id ≡ None
      → v ≡ record old.parts { futures = settled.settled id outcome old.parts.futures; queue = soon_all (called id old.parts.futures) old.parts.queue }
      → IsInStep task c (record old { parts = v }) (unbooked_in (settle id outcome) s)
  settles_so task id outcome c old s v h none is = record {
    stands =
        stands_on None (Some task) c old s v (in_parts (settle id outcome)) h.stands
        (subst (λ x. Kept h.stands.name_map s.loop.parts x (settle id outcome s.loop.parts)) (sym is)
        (kept_settle h.stands.name_map old.parts s.loop.parts h.stands.keeps id outcome))
        (leaves_settle id outcome s.loop.parts none) (spares_none s.loop.parts (named_in a s)) (refl, (refl, refl))
        (ap (λ (x : View). length x.queue.below) is ∙ ap length (below_soon_all (called id old.parts.futures) old.parts.queue))
        (ap (λ (x : View). x.profile) is);
    called = ap (λ (x : View). x.called) is ∙ h.called;
    running = ap (λ (x : View). x.running) is ∙ h.running;
  }

-- ---- a future is made, and the script names it
own_named : (p : Parts) (named : List ℕ) (owned : ℕ → Type 0) (sleeper : Option ℕ) (id : ℕ) → IsOwnSleep p (IsNamed named owned) sleeper id
    → IsOwnSleep p (IsNamed (named ++ next_future p ∷ []) owned) sleeper id
own_named p named owned sleeper id own = record {
  plain = own.plain;
  unnamed = either;
  alone = own.alone;
}
  where
    within : id < next_future p
    within = (plain_within p id own.plain).1

    last : (place : ℕ) → slice_get (named ++ next_future p ∷ []) place ≡ Some id → place ≡ length named → ⊥
    last place e same =
        let found = sym (get-push_last named (next_future p)) ∙ ap (slice_get (named ++ next_future p ∷ [])) (sym same) ∙ e in
        let is : next_future p ≡ id = some_is (next_future p) id found in
        omega (arith, within, is)
      where
        some_is : (a b : ℕ) → Some a ≡ Some b → a ≡ b
        some_is a b e = cc

    at : (place : ℕ) → slice_get (named ++ next_future p ∷ []) place ≡ Some id → (place ≡ length named) ⊎ (place ≡ length named → ⊥) → ⊥
    at place e (inl same) = last place e same
    at place e (inr n) = own.unnamed (inl (place, sym (get-push_other named (next_future p) place n) ∙ e))

    either : IsNamed (named ++ next_future p ∷ []) owned id → ⊥
    either (inl found) = at found.0 found.1 (cases_eq found.0 (length named))
    either (inr mine) = own.unnamed (inr mine)

module _ {X : Type 0} {a : Added X} where
  pub stands_named : (out : Option ℕ) (c : Context a) (old new : RunState X) (s : State a.Kept) → Stands out c old s
      → new ≡ record old { futures = new.futures }
      → new.futures.items ≡ old.futures.items ++ next_future s.loop.parts ∷ [] → length s.futures + 1 < 2 ^ 32
      → Stands out c new (record s { futures = s.futures ++ next_future s.loop.parts ∷ [] })
  stands_named out c old new s h frame items few =
      subst (λ b. Stands out c b now) (sym frame) (telling_changes out c c old (record old { futures = new.futures }) s now h refl refl refl (record {
        own = own_named p s.futures (owned_in a s);
        futures = items ∙ ap (λ xs. xs ++ next_future p ∷ []) h.futures;
        few_futures = let l = length-append s.futures (next_future p ∷ []) in omega (arith, few, l);
        main_done = h.main_done;
        events = h.events;
        rest = h.rest;
        count = h.count;
      }))
    where
      p : Parts
      p = s.loop.parts

      now : State a.Kept
      now = record s { futures = s.futures ++ next_future s.loop.parts ∷ [] }

  pub makes_so : (task : ℕ) (c : Context a) (old new : RunState X) (s : State a.Kept) (v : View) → IsInStep task c old s → OwnsFutures s.loop.parts
      → v ≡ record old.parts { futures = old.parts.futures ++ record { kind = Plain; outcome = None; callbacks = [] } ∷ [] }
      → new ≡ record old { parts = v; futures = new.futures } → new.futures.items ≡ old.futures.items ++ next_future s.loop.parts ∷ []
      → length s.futures + 1 < 2 ^ 32
      → IsInStep task c new (unbooked_in new_plain (record s { futures = s.futures ++ next_future s.loop.parts ∷ [] }))
  makes_so task c old new s v h owns is frame items few =
      subst (λ b. IsInStep task c b (unbooked_in new_plain (record s { futures = s.futures ++ next_future s.loop.parts ∷ [] }))) (sym frame) (record {
        stands =
            stands_on None (Some task) c (record old { futures = new.futures }) (record s { futures = s.futures ++ next_future s.loop.parts ∷ [] }) v
            (in_parts new_plain) named
            (subst (λ x. Kept named.name_map s.loop.parts x (new_plain s.loop.parts)) (sym is) (kept_plain named.name_map old.parts s.loop.parts named.keeps))
            (leaves_plain s.loop.parts (own_there s.loop.parts owns))
            (spares_none s.loop.parts (named_in a (record s { futures = s.futures ++ next_future s.loop.parts ∷ [] }))) (refl, (refl, refl))
            (ap (λ (x : View). length x.queue.below) is) (ap (λ (x : View). x.profile) is);
        called = ap (λ (x : View). x.called) is ∙ h.called;
        running = ap (λ (x : View). x.running) is ∙ h.running;
      })
    where
      named : Stands (Some task) c (record old { futures = new.futures }) (record s { futures = s.futures ++ next_future s.loop.parts ∷ [] })
      named = stands_named (Some task) c old (record old { futures = new.futures }) s h.stands refl items few
