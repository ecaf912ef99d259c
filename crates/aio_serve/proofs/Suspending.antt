-- What a wait, a sleep and a new task come to in the machine, and what the parts in code need for them.
use Rattle.std.proofs.Common.{◌≡◌, ℕ, zero, suc, ◌<◌, ◌≤◌, ℤ, pos, negsuc, nat_abs, true, false, List, Option, Some, None, length, slice_get, ◌∙◌, refl, sym}
use Rattle.std.proofs.Common.{ap, subst, arith}
use Rattle.std.proofs.Math.Logic.{∥∥₁_elim}
use Rattle.std.proofs.Props.{props}
use Rattle.std.proofs.lemmas.Bool.{false≢true, le-ltb, lt-ltb}
use Rattle.std.specs.Option.{option_map, option_map_or}
use lib.Signed.{lt_z}
use Rattle.model_value.specs.Value.{Value, Fut, Task as TaskId}
use Rattle.model_value.specs.declared.request.Request.TheVariants as request
use Rattle.model_says.specs.Operations.{out_of_range}
use Rattle.model_says.specs.Requests.{bad_argument}
use Rattle.model_loop.specs.Futures.{future_outcome, is_pending_at, next_future, outcome_at}
use Rattle.model_loop.specs.Owning.{OwnsFutures, is_plain, own_future, owner_of}
use Rattle.model_loop.specs.Parts.{Parts, Task}
use Rattle.model_loop.specs.Tasks.{future_of, next_task}
use Rattle.model_machine.specs.Arguments.{as_awaited, as_int}
use Rattle.model_machine.specs.Extra.{Extra}
use Rattle.model_machine.specs.Replies.{Raises, awaits_as, most_ids, numbered_if, pauses, reply, sleeps, sleeps_for, spawns}
use Rattle.model_machine.specs.State.{State}
use Rattle.refine_parts.proofs.Telling.{pending_kept}
use Rattle.law_steps.proofs.CancelSound.{plain_within}
use Rattle.aio_task.specs.View.{parts}
use Rattle.aio_extra.specs.Added.{Added}
use Rattle.aio_body.specs.Asked.{IsAskingFor}
use Rattle.aio_body.specs.Named.{awaited_in}
use Rattle.aio_body.specs.Stands.{IsOwnSleep, Possible}
use Rattle.aio_body.specs.declared.run_state.RunState.{RunState}
use Rattle.aio_body.proofs.Lasting.{Spares}
use Rattle.aio_body.proofs.Sound.{awaited_pends}
use Rattle.aio_serve.proofs.Reading.{awaited_as, outcome_read}

-- ---- what is meant
module _ {S : Type 0} (added : Extra S) (task : ℕ) (s : State S) where
  pub await_refused : (x : Value) → as_awaited s x ≡ None → reply added task (request.Await x) s ≡ Raises bad_argument s
  unfolding reply
  await_refused x e = rw e refl

  pub await_means : (x : Value) (on : ℕ) → as_awaited s x ≡ Some on
      → reply added task (request.Await x) s ≡ awaits_as (future_outcome s.loop.parts on) task on s
  unfolding reply
  await_means x on e = rw e refl

  pub sleep_refused : (delay : Value) → as_int delay ≡ None → reply added task (request.Sleep delay) s ≡ Raises bad_argument s
  unfolding reply
  sleep_refused delay e = rw e refl

  pub sleep_means : (delay : Value) (number : ℤ) → as_int delay ≡ Some number → reply added task (request.Sleep delay) s ≡ sleeps task number s
  unfolding reply
  sleep_means delay number e = rw e refl

  pub sleeps_on : (number : ℤ) → lt_z (pos 0) number ≡ true → sleeps task number s ≡ sleeps_for task (pos (nat_abs number)) s
  sleeps_on (pos zero) h = absurd (false≢true h)
  sleeps_on (pos (suc n)) h = refl
  sleeps_on (negsuc n) h = absurd (false≢true h)

  pub sleeps_none : (number : ℤ) → lt_z (pos 0) number ≡ false → sleeps task number s ≡ pauses task s
  sleeps_none (pos zero) h = refl
  sleeps_none (pos (suc n)) h = absurd (false≢true (sym h ∙ lt-ltb 0 (suc n) (omega arith)))
  sleeps_none (negsuc n) h = refl

  pub none_spawned : (coroutine : ℕ) (arguments : List Value) → most_ids ≤ next_task s.loop.parts
      → reply added task (request.Spawn coroutine arguments) s ≡ Raises out_of_range s
  unfolding reply
  none_spawned coroutine arguments many = ap (λ b. numbered_if b (spawns coroutine arguments) s) (le-ltb (next_task s.loop.parts) most_ids many)

  pub one_spawned : (coroutine : ℕ) (arguments : List Value) → next_task s.loop.parts < most_ids
      → reply added task (request.Spawn coroutine arguments) s ≡ spawns coroutine arguments s
  unfolding reply
  one_spawned coroutine arguments few = ap (λ b. numbered_if b (spawns coroutine arguments) s) (lt-ltb (next_task s.loop.parts) most_ids few)

-- ---- what is awaited is no sleep's own
own_not_plain : (p : Parts) → OwnsFutures p → (task : ℕ) → is_plain p (future_of p task) ≡ true → ⊥
own_not_plain p owns task plain = at (slice_get p.tasks task) refl
  where
    within : (owner_of p (future_of p task) ≡ None) × (future_of p task < length p.futures)
    within = plain_within p (future_of p task) plain

    none_some : (id : ℕ) → owner_of p id ≡ None → owner_of p id ≡ Some task → ⊥
    none_some id a b = absurd (cc)

    at : (o : Option Task) → slice_get p.tasks task ≡ o → ⊥
    at None x =
        let last : future_of p task ≡ next_future p = ap (λ o. option_map_or (λ (it : Task). it.future) o (next_future p)) x in
        let inside = within.1 in
        omega (arith, inside, last)
    at (Some it) x =
        let same : future_of p task ≡ it.future = ap (λ o. option_map_or (λ (it : Task). it.future) o (next_future p)) x in
        let own : own_future p task ≡ Some it.future = ap (option_map (λ (it : Task). it.future)) x in
        none_some (future_of p task) within.0 (ap (owner_of p) same ∙ (owns it.future task).1 own)

module _ {S : Type 0} (s : State S) (named : ℕ → Type 0) (names : (place id : ℕ) → slice_get s.futures place ≡ Some id → named id) where
  awaited_no_sleep : OwnsFutures s.loop.parts → (x : Value) (on : ℕ) → as_awaited s x ≡ Some on → (sleeper : Option ℕ)
      → IsOwnSleep s.loop.parts named sleeper on → ⊥
  awaited_no_sleep owns (Fut id) on e sleeper own = own.unnamed (names id on e)
  awaited_no_sleep owns (TaskId id) on e sleeper own =
      own_not_plain s.loop.parts owns id (subst (λ k. is_plain s.loop.parts k ≡ true) (some_is on (future_of s.loop.parts id) (sym e)) own.plain)
    where
      some_is : (a b : ℕ) → Some a ≡ Some b → a ≡ b
      some_is a b e = cc
  awaited_no_sleep owns _ on e sleeper own = absurd (cc)

  pub awaited_spares : (task : ℕ) → OwnsFutures s.loop.parts → (x : Value) (on : ℕ) → as_awaited s x ≡ Some on
      → Spares (Some (task, on)) s.loop.parts named
  awaited_spares task owns x on e other id new sleeper own =
      absurd (awaited_no_sleep owns x on e sleeper (subst (IsOwnSleep s.loop.parts named sleeper) new.1 own))

module _ {X : Type 0} {a : Added X} where
  -- ---- what a wait needs
  pub awaited_waits : (task : ℕ) (x : Value) (on : ℕ) (body : RunState X) → Possible a (IsAskingFor task (request.Await x)) body
      → awaited_in body.futures.items (parts body.parts) x ≡ Some on → outcome_at (slice_get body.parts.futures on) ≡ None
      → is_pending_at (slice_get body.parts.futures on) ≡ true
  awaited_waits task x on body m named none =
      ∥∥₁_elim m (hlevel props) (λ w.
      let s = w.1.0 in
      let going = w.1.1.going in
      let stands = going.in_step.stands in
      pending_kept stands.name_map body.parts s.loop.parts stands.keeps on
      ∙ awaited_pends a.meaning task x s going.sound w.1.1.says on (awaited_as task w.0 body s going x (Some on) named)
      (sym (outcome_read task w.0 body s going x on named) ∙ none))
