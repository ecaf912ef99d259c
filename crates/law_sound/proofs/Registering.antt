-- An action that steps no task and tells no group is called soon, or registered on a future: the loop stays sound.
use Rattle.std.proofs.Common.{◌≡◌, ℕ, Bool, true, false, cond, List, [], ◌∷◌, ◌++◌, Option, Some, None, slice_get, slice_set, refl, ap, arith}
use Rattle.std.proofs.Math.ListN.{length-set}
use Rattle.std.proofs.lemmas.List.Sums.{sum_by_push}
use Rattle.std.specs.List.{count_by}
use Rattle.std.specs.Option.{option_map_or}
use Rattle.model_value.specs.Action.{Action}
use Rattle.model_value.specs.Value.{Outcome}
use Rattle.model_loop.specs.Children.{tells}
use Rattle.model_loop.specs.Futures.{outcome_at, register, with_future}
use Rattle.model_loop.specs.Groups.{group_of}
use Rattle.model_loop.specs.Handles.{soon}
use Rattle.model_loop.specs.Loop.{Group, Loop, in_parts}
use Rattle.model_loop.specs.Owning.{is_callback, owner_at}
use Rattle.model_loop.specs.Parts.{Future, Parts, Task}
use Rattle.model_loop.specs.Sound.{IsSound}
use Rattle.model_loop.specs.Totals.{callbacks_at, pending_where}
use Rattle.model_loop.specs.Ways.{steps}
use Rattle.model_loop.proofs.FutureCases.{is_plain_at, registered, registered_on}
use Rattle.law_cancel.proofs.Effects.{register-tasks}
use Rattle.law_cancel.proofs.Lookups.{get-set_kept}
use Rattle.law_steps.proofs.Registering.{callback_living, callback_sound}
use Rattle.law_steps.specs.Frames.{Follows, is_followed}
use Rattle.law_steps.proofs.Looks.{LooksSame, follow_steps, follow_tells, handles_look_same}
use Rattle.law_steps.proofs.Settling.{soon-where}
use Rattle.law_groups.specs.Tags.{is_deadline}
use Rattle.law_groups.specs.Holds.{Holds}
use Rattle.law_groups.proofs.Holding.{holds_on, looks_holds}
use Rattle.law_groups.proofs.Told.{framed_told}
use Rattle.law_sound.proofs.Carrying.{register_carries, soon_carries}
use Rattle.law_sound.proofs.Steps.{holds_of, parts_sound}

module _ (action : Action) (unfollowed : is_followed action ≡ false) where
  pub soon_looks : (p : Parts) → LooksSame p (soon action p)
  soon_looks p = handles_look_same p (soon action p) refl refl looks
    where
      looks : (test : Action → Bool) → Follows test → pending_where test (soon action p).pending ≡ pending_where test p.pending
      looks test follows =
          let a = soon-where test action p in
          let z : ◌≡◌ {A = ℕ} (cond (test action) 1 0) 0 = ap (λ b. cond b 1 0) (follows action unfollowed) in
          omega (arith, a, z)

  pub soon_step_sound : is_deadline action ≡ false → (running : Option ℕ) (told : ℕ → List ℕ) (l : Loop) → IsSound running told l
      → IsSound running told (in_parts (soon action) l)
  soon_step_sound timeless running told l s =
      parts_sound running running told l (soon action l.parts) s (soon_carries action l.parts timeless)
      (looks_holds running running told told (group_of l) l.parts (soon action l.parts) (soon_looks l.parts) (λ t m. m) (holds_of running told l s))
      (λ t. refl)

  -- on a pending future it tells no group, on a done one it is called soon
  module _ (called : is_callback action ≡ true) (running : Option ℕ) (told : ℕ → List ℕ) where
    module _ (groups : ℕ → Group) (id : ℕ) (p : Parts) (h : Holds running running told told groups p) where
      module _ (future : Future) (e : slice_get p.futures id ≡ Some future) (o : future.outcome ≡ None) where
        abbrev called_back : Future
        called_back = record future { callbacks = future.callbacks ++ action ∷ [] }

        abbrev with_callback : Parts
        with_callback = with_future id called_back p

        steps_none : (task : ℕ) → steps task action ≡ false
        steps_none task = follow_steps task action unfollowed

        see : {Y : Type 0} (view : Option Future → Y) (j : ℕ) → view (Some called_back) ≡ view (Some future)
            → view (slice_get (slice_set p.futures id called_back) j) ≡ view (slice_get p.futures j)
        see view j same = get-set_kept view p.futures id j future called_back e same

        tells_same : (group task : ℕ) → count_by (tells group task) called_back.callbacks ≡ count_by (tells group task) future.callbacks
        tells_same group task =
            let a = sum_by_push (λ (x : Action). cond (tells group task x) 1 0) future.callbacks action in
            let z : ◌≡◌ {A = ℕ} (cond (tells group task action) 1 0) 0 = ap (λ b. cond b 1 0) (follow_tells group task action unfollowed) in
            omega (arith, a, z)

        waiting_holds : Holds running running told told groups with_callback
        waiting_holds =
            holds_on running running told told groups p with_callback
            (record {
              owned = λ task. refl;
              owners = λ j. see owner_at j refl;
              plains = λ j. see is_plain_at j refl;
              made = length-set p.futures id called_back;
            })
            (λ j d. see outcome_at j refl)
            (callback_sound running running p id future action e o steps_none called h.parts)
            (λ group. framed_told p with_callback
            (record {
              pending = λ other task. refl;
              registered = λ other task on. see (λ x. count_by (tells other task) (callbacks_at x)) on (tells_same other task);
              owned = λ task. refl;
              living = callback_living running running p id future action e o steps_none called h.parts;
              tasks = refl;
            })
            group (told group) (groups group) (h.tellings group)) h

      register_holds : Holds running running told told groups (register id action p)
      register_holds = at (slice_get p.futures id) refl
        where
          until : (future : Future) → slice_get p.futures id ≡ Some future → (o : Option Outcome) → future.outcome ≡ o
              → Holds running running told told groups (registered_on o id future action p)
          until future e (Some outcome) o = looks_holds running running told told groups p (soon action p) (soon_looks p) (λ t m. m) h
          until future e None o = waiting_holds future e o

          at : (o : Option Future) → slice_get p.futures id ≡ o → Holds running running told told groups (registered o id action p)
          at None e = h
          at (Some future) e = until future e future.outcome refl

    pub register_step_sound : is_deadline action ≡ false → (future : ℕ) (l : Loop) → IsSound running told l
        → IsSound running told (in_parts (register future action) l)
    register_step_sound timeless future l s =
        parts_sound running running told l (register future action l.parts) s (register_carries future action l.parts called timeless)
        (register_holds (group_of l) future l.parts (holds_of running told l s))
        (λ task. ap (λ (ts : List Task). option_map_or (λ (t : Task). t.cancels) (slice_get ts task) 0) (register-tasks future action l.parts))
