-- What a request reads in code is what it reads in the machine.
use Rattle.std.proofs.Common.{◌≡◌, ℕ, ◌≤◌, List, Option, Some, None, Bor, is_some, slice_get, ◌∙◌, refl, sym, ap, subst}
use Rattle.std.proofs.Math.Logic.{∥∥₁_elim}
use Rattle.std.specs.Coded.{le_prop}
use Rattle.std.specs.Option.{option_copied, option_map_or}
use Rattle.model_value.specs.Number.{most}
use Rattle.model_value.specs.Value.{Value, Fut, Outcome}
use Rattle.model_loop.specs.Futures.{future_outcome, outcome_at}
use Rattle.model_loop.specs.Owning.{owner_at, owner_in, owner_of}
use Rattle.model_loop.specs.Parts.{Task}
use Rattle.model_loop.specs.Tasks.{cancelling}
use Rattle.model_machine.specs.Arguments.{as_awaited, as_future}
use Rattle.model_machine.specs.State.{State}
use Rattle.refine_parts.proofs.Telling.{outcome_kept, owner_kept}
use Rattle.aio_task.specs.View.{parts}
use Rattle.aio_extra.specs.Added.{Added}
use Rattle.aio_body.specs.declared.run_state.RunState.{RunState}
use Rattle.aio_body.specs.Asked.{IsGoing, SomeGoes}
use Rattle.aio_body.specs.Named.{awaited_in, future_in}
use Rattle.aio_body.specs.Stands.{Context, Stands, Possible}
use Rattle.aio_body.proofs.May.{same_prop}
use Rattle.aio_body.proofs.Telling.{awaited_named, awaited_stays, future_named, named_stays}

module _ {X : Type 0} {a : Added X} where
  -- a task's count
  pub count_read : (out : Option ℕ) (c : Context a) (body : RunState X) (s : State a.Kept) → Stands out c body s → (task : ℕ)
      → cancelling (parts body.parts) task ≡ cancelling s.loop.parts task
  count_read out c body s h task = ap (λ (tasks : List Task). option_map_or (λ (it : Task). it.cancels) (slice_get tasks task) 0) h.keeps.tasks

  pub few_counts : (body : RunState X) → Possible a SomeGoes body → (task : ℕ) → cancelling (parts body.parts) task ≤ most
  few_counts body m task =
      ∥∥₁_elim m le_prop (λ w.
      subst (λ n. n ≤ most) (sym (count_read (Some w.1.1.0) w.0 body w.1.0 w.1.1.1.in_step.stands task)) (w.1.1.1.in_step.stands.counts task))

  -- the time
  pub few_moments : (body : RunState X) → Possible a SomeGoes body → body.parts.time ≤ most
  few_moments body m =
      ∥∥₁_elim m le_prop (λ w. subst (λ n. n ≤ most) (sym w.1.1.1.in_step.stands.keeps.time) w.1.1.1.in_step.stands.time)

some_copied : {A : Type 0} (o : Option (Bor A)) → is_some (option_copied o) ≡ is_some o
some_copied None = refl
some_copied (Some it) = refl

module _ {X : Type 0} {a : Added X} (task : ℕ) (c : Context a) (body : RunState X) (s : State a.Kept) (h : IsGoing task c body s) where
  -- what is named
  pub awaited_as : (x : Value) (on : Option ℕ) → awaited_in body.futures.items (parts body.parts) x ≡ on → as_awaited s x ≡ on
  awaited_as x on e = sym (awaited_named (Some task) c body s h.in_step.stands x) ∙ e

  pub future_as : (x : Value) (on : Option ℕ) → future_in body.futures.items x ≡ on → as_future s x ≡ on
  future_as x on e = sym (future_named (Some task) c body s h.in_step.stands x) ∙ e

  -- how what is awaited ended
  pub outcome_read : (x : Value) (on : ℕ) → awaited_in body.futures.items (parts body.parts) x ≡ Some on
      → outcome_at (slice_get body.parts.futures on) ≡ future_outcome s.loop.parts on
  outcome_read x on e =
      outcome_kept h.in_step.stands.name_map body.parts s.loop.parts h.in_step.stands.keeps on
      (awaited_stays (Some task) c body s h.in_step.stands h.sound.others.loop.parts.owns x on (awaited_as x (Some on) e))

  pub future_read : (x : Value) (on : ℕ) → future_in body.futures.items x ≡ Some on
      → outcome_at (slice_get body.parts.futures on) ≡ future_outcome s.loop.parts on
  future_read (Fut id) on e =
      outcome_kept h.in_step.stands.name_map body.parts s.loop.parts h.in_step.stands.keeps on
      (named_stays (Some task) c body s h.in_step.stands id on (future_as (Fut id) (Some on) e))
  future_read _ on e = absurd (cc)

  -- whether it ended
  pub awaited_done : (x : Value) (on : ℕ) → awaited_in body.futures.items (parts body.parts) x ≡ Some on → (o : Option (Bor Outcome))
      → option_copied o ≡ outcome_at (slice_get body.parts.futures on) → is_some o ≡ is_some (future_outcome s.loop.parts on)
  awaited_done x on e o r = sym (some_copied o) ∙ ap is_some (r ∙ outcome_read x on e)

  pub future_done : (x : Value) (on : ℕ) → future_in body.futures.items x ≡ Some on → (o : Option (Bor Outcome))
      → option_copied o ≡ outcome_at (slice_get body.parts.futures on) → is_some o ≡ is_some (future_outcome s.loop.parts on)
  future_done x on e o r = sym (some_copied o) ∙ ap is_some (r ∙ future_read x on e)

  -- a future of `future()` is no task's
  pub unowned : (x : Value) (on : ℕ) → future_in body.futures.items x ≡ Some on → owner_of s.loop.parts on ≡ None
  unowned (Fut id) on e =
      let found = h.sound.others.futures.plain id on (future_as (Fut id) (Some on) e) in
      ap owner_at found.1 ∙ ap owner_in found.2
  unowned _ on e = absurd (cc)

module _ {X : Type 0} {a : Added X} where
  pub unowned_kept : (body : RunState X) → Possible a SomeGoes body → (x : Value) (on : ℕ) → future_in body.futures.items x ≡ Some on
      → owner_at (slice_get body.parts.futures on) ≡ None
  unowned_kept body m x on e =
      ∥∥₁_elim m (same_prop (owner_at (slice_get body.parts.futures on)) None) (λ w.
      let h = w.1.1.1 in
      owner_kept h.in_step.stands.name_map body.parts w.1.0.loop.parts h.in_step.stands.keeps on (unowned w.1.1.0 w.0 body w.1.0 h x on e))
