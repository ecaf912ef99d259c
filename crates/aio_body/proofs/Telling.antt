-- What the code reads is what the machine reads, where a state is stood for.
use Rattle.std.proofs.Common.{◌≡◌, ℕ, ◌<◌, true, false, List, Option, Some, None, length, slice_get, ◌∙◌, refl, ap, subst, inl, inr, arith}
use Rattle.std.specs.Option.{option_map, option_map_or}
use Rattle.std.proofs.lemmas.Bool.{false_from_ne_true}
use Rattle.model_value.specs.Value.{Value, Fut, Task as TaskId}
use Rattle.model_loop.specs.Parts.{Parts, Task}
use Rattle.model_loop.specs.Owning.{OwnsFutures, owner_of, own_future}
use Rattle.model_loop.specs.Tasks.{future_of}
use Rattle.model_stream.specs.Kept.{times_asked}
use Rattle.model_machine.specs.Arguments.{as_future, as_awaited}
use Rattle.model_machine.specs.State.{State}
use Rattle.law_steps.proofs.CancelSound.{plain_within}
use Rattle.aio_task.specs.View.{parts}
use Rattle.aio_extra.specs.Added.{Added, IsNamed, named_in, owned_by}
use Rattle.aio_body.specs.declared.run_state.RunState.{RunState}
use Rattle.aio_body.specs.Named.{future_in, awaited_in}
use Rattle.aio_body.specs.Stands.{IsOwnSleep, Context, Stands}
use Rattle.aio_body.proofs.Lasting.{Spares}
use Rattle.refine_parts.proofs.Telling.{future_of_kept}

-- ---- what is named
module _ {X : Type 0} (a : Added X) (s : State a.Kept) where
  -- by a script, or as the own one of what is added
  pub named_also : (id : ℕ) → IsNamed s.futures (owned_by a s.extra) id → named_in a s id
  named_also id (inl found) = inl found
  named_also id (inr mine) = inr (inl mine)

  -- what is named is the future of no sleep, so that a task may come to wait for it
  pub named_spares : (task on : ℕ) → named_in a s on → Spares (Some (task, on)) s.loop.parts (named_in a s)
  named_spares task on named other id new sleeper own =
      let there = subst (IsOwnSleep s.loop.parts (named_in a s) sleeper) new.1 own in
      absurd (there.unnamed named)

module _ {X : Type 0} {a : Added X} (out : Option ℕ) (c : Context a) (body : RunState X) (s : State a.Kept) (h : Stands out c body s) where
  pub future_named : (x : Value) → future_in body.futures.items x ≡ as_future s x
  future_named (Fut id) = ap (λ (xs : List ℕ). slice_get xs id) h.futures
  future_named _ = refl

  pub awaited_named : (x : Value) → awaited_in body.futures.items (parts body.parts) x ≡ as_awaited s x
  awaited_named (Fut id) = ap (λ (xs : List ℕ). slice_get xs id) h.futures
  awaited_named (TaskId id) = ap Some (future_of_kept h.name_map body.parts s.loop.parts h.keeps id)
  awaited_named _ = refl

  -- what a script names was not released
  pub named_stays : (place id : ℕ) → slice_get s.futures place ≡ Some id → h.name_map.gone id ≡ false
  named_stays place id found = false_from_ne_true (h.name_map.gone id) (λ e. (h.gone id e).unnamed (inl (place, found)))

  -- nor what a connection or a child keeps
  pub kept_stays : (id : ℕ) → 0 < times_asked id s.streams → h.name_map.gone id ≡ false
  kept_stays id kept = false_from_ne_true (h.name_map.gone id) (λ e. (h.gone id e).unnamed (inr (inr kept)))

  -- nor was a task's own future
  pub own_stays : OwnsFutures s.loop.parts → (task : ℕ) → h.name_map.gone (future_of s.loop.parts task) ≡ false
  own_stays owns task = false_from_ne_true (h.name_map.gone (future_of p task)) (λ e. at e (slice_get p.tasks task) refl)
    where
      p : Parts
      p = s.loop.parts

      none_some : (id : ℕ) → owner_of p id ≡ None → owner_of p id ≡ Some task → ⊥
      none_some id a b = absurd (cc)

      at : h.name_map.gone (future_of p task) ≡ true → (o : Option Task) → slice_get p.tasks task ≡ o → ⊥
      at e None x =
          let inside = (plain_within p (future_of p task) (h.gone (future_of p task) e).plain).1 in
          let last : future_of p task ≡ length p.futures = ap (λ o. option_map_or (λ (it : Task). it.future) o (length p.futures)) x in
          omega (arith, inside, last)
      at e (Some it) x =
          let same : future_of p task ≡ it.future = ap (λ o. option_map_or (λ (it : Task). it.future) o (length p.futures)) x in
          let own : own_future p task ≡ Some it.future = ap (option_map (λ (it : Task). it.future)) x in
          none_some (future_of p task) (plain_within p (future_of p task) (h.gone (future_of p task) e).plain).0
          (ap (owner_of p) same ∙ (owns it.future task).1 own)

  -- what is awaited was not released
  pub awaited_stays : OwnsFutures s.loop.parts → (x : Value) (on : ℕ) → as_awaited s x ≡ Some on → h.name_map.gone on ≡ false
  awaited_stays owns (Fut id) on e = named_stays id on e
  awaited_stays owns (TaskId id) on e = subst (λ k. h.name_map.gone k ≡ false) (some_is (future_of s.loop.parts id) on e) (own_stays owns id)
    where
      some_is : (a b : ℕ) → Some a ≡ Some b → a ≡ b
      some_is a b e = cc
  awaited_stays owns _ on e = absurd (cc)
