-- What a task is woken with.
use Rattle.std.proofs.Common.{◌≡◌, ℕ, Bool, true, false, List, Option, Some, None, slice_get, ◌∙◌, sym, ap}
use Rattle.std.proofs.Math.Logic.{∥∥₁_elim}
use Rattle.std.proofs.Props.{props}
use Rattle.std.proofs.lemmas.Bool.{false_from_ne_true}
use Rattle.std.specs.Option.{option_map_or, option_and_then}
use Rattle.model_value.specs.Input.{Input}
use Rattle.model_value.specs.declared.input.Input.TheVariants.{Send}
use Rattle.model_value.specs.Value.{Nothing, Outcome}
use Rattle.model_wire.specs.declared.event.Event.TheVariants as event
use Rattle.model_loop.specs.Futures.{future_outcome, outcome_at}
use Rattle.model_loop.specs.Parts.{Task}
use Rattle.model_loop.specs.Tasks.{waiter_of}
use Rattle.model_machine.specs.Outcomes.{input_of, woken_with}
use Rattle.model_machine.specs.Sound.{ids_of, sends_made}
use Rattle.model_machine.specs.State.{State, noted, unbooked_in}
use Rattle.law_runs.proofs.Callbacks.{woken_made}
use Rattle.refine_parts.proofs.Telling.{outcome_kept}
use Rattle.aio_task.specs.View.{parts}
use Rattle.aio_extra.specs.Added.{Added}
use Rattle.aio_body.specs.declared.run_state.RunState.{RunState}
use Rattle.aio_body.specs.Ids.{ids_in}
use Rattle.aio_body.specs.Stands.{Context, Possible}
use Rattle.aio_body.proofs.Ids.{ids_as}
use Rattle.aio_step.specs.Stepping.{IsCalled}

module _ {X : Type 0} {a : Added X} (task : ℕ) (c : Context a) (body : RunState X) (s : State a.Kept) (h : IsCalled task c body s) where
  woken_there : (on : ℕ) → waiter_of s.loop.parts task ≡ Some on → h.stands.name_map.gone on ≡ false
  woken_there on waits = false_from_ne_true (h.stands.name_map.gone on) (λ e. absurd (none_some ((h.stands.gone on e).alone task waits)))
    where
      none_some : None ≡ Some task → ⊥
      none_some e = absurd (cc)

  waits_same : waiter_of (parts body.parts) task ≡ waiter_of s.loop.parts task
  waits_same = ap (λ (ts : List Task). option_map_or (λ (t : Task). t.waiter) (slice_get ts task) None) h.stands.keeps.tasks

  -- it waits for nothing
  pub woken_none : waiter_of (parts body.parts) task ≡ None → Send Nothing ≡ woken_with s.loop.parts task
  woken_none none = sym (ap (λ o. option_map_or input_of (option_and_then (future_outcome s.loop.parts) o) (Send Nothing)) (sym waits_same ∙ none))

  pub woken_on : (on : ℕ) (outcome : Option Outcome) → waiter_of (parts body.parts) task ≡ Some on
      → outcome_at (slice_get body.parts.futures on) ≡ outcome
      → option_map_or input_of outcome (Send Nothing) ≡ woken_with s.loop.parts task
  woken_on on outcome waits ended =
      let there = sym waits_same ∙ waits in
      ap (λ o. option_map_or input_of o (Send Nothing))
      (sym ended ∙ outcome_kept h.stands.name_map body.parts s.loop.parts h.stands.keeps on (woken_there on there))
      ∙ sym (ap (λ o. option_map_or input_of (option_and_then (future_outcome s.loop.parts) o) (Send Nothing)) there)

  pub woken_sends : sends_made (ids_in body) (woken_with s.loop.parts task) ≡ true
  woken_sends = sends
    where
      at : (t : State a.Kept) → s ≡ t → sends_made (ids_of t) (woken_with t.loop.parts task) ≡ true
          → sends_made (ids_in body) (woken_with s.loop.parts task) ≡ true
      at t e m =
          ap (λ n. sends_made n (woken_with s.loop.parts task)) (ids_as None c body s h.stands ∙ ap (λ (x : State a.Kept). ids_of x) e)
          ∙ ap (λ (x : State a.Kept). sends_made (ids_of t) (woken_with x.loop.parts task)) e ∙ m

      sends : sends_made (ids_in body) (woken_with s.loop.parts task) ≡ true
      sends =
          at (noted (event.Ran h.handle.action) (unbooked_in (λ p. record p { pending = h.rest }) h.before)) h.after
          (woken_made a.meaning h.before h.sound task)

module _ {X : Type 0} {a : Added X} where
  pub woken_sends_may : (task : ℕ) (body : RunState X) (input : Input) → Possible a (IsCalled task) body
      → ((c : Context a) (s : State a.Kept) → IsCalled task c body s → input ≡ woken_with s.loop.parts task)
      → sends_made (ids_in body) input ≡ true
  woken_sends_may task body input m is =
      ∥∥₁_elim m (bool_prop (sends_made (ids_in body) input) true)
      (λ w. ap (sends_made (ids_in body)) (is w.0 w.1.0 w.1.1) ∙ woken_sends task w.0 body w.1.0 w.1.1)
    where
      bool_prop : (a b : Bool) → IsProp (a ≡ b)
      bool_prop a b = hlevel props
