-- Changes of tasks' slots.
use Rattle.std.specs.Prelude.{◌≡◌, ℕ, List, [], ◌∷◌, ◌++◌, Some, None, slice_get, slice_set}
use Rattle.std.specs.Option.{option_map_or}
use Rattle.model_value.specs.Value.{Value}
use Rattle.model_tree.specs.Syntax.{Program}
use Rattle.model_machine.specs.State.{generator}
use Rattle.aio_flat.specs.Code.{IsCodeOf}
use Rattle.aio_gen.specs.declared.generator.Gen.{Gen}
use Rattle.aio_body.specs.declared.run_state.RunState.{RunState}
use Rattle.aio_body.specs.declared.resume_point.Slot.{Slot}
use Rattle.aio_body.specs.declared.resume_point.ResumePoint.{ResumePoint}
use Rattle.aio_body.specs.declared.resume_point.ResumePoint.TheVariants.{Asked}
use Rattle.aio_body.specs.Stands.{WaitsAs}

abbrev pub with_slot : ℕ → (Slot → Slot) → List Slot → List Slot
with_slot task change slots = option_map_or (λ slot. slice_set slots task (change slot)) (slice_get slots task) slots

abbrev pub resume_point_at : ℕ → ResumePoint → List Slot → List Slot
resume_point_at task resume_point slots = with_slot task (λ slot. record slot { resume_point = resume_point }) slots

abbrev pub put_back : ℕ → Gen → List Slot → List Slot
put_back task coroutine slots = with_slot task (λ slot. record slot { coroutine = Some coroutine }) slots

abbrev pub no_slot : Slot
no_slot = record { coroutine = None; resume_point = Asked }

-- one slot more, for a task that begins
pub record HoldsMore {X : Type 0} (coroutine : ℕ) (arguments : List Value) (old new : RunState X) : Type 0 where
  pub slot : Slot
  pub frame : new ≡ record old { slots = new.slots }
  pub slots : new.slots.items ≡ old.slots.items ++ slot ∷ []
  pub resume_point : slot.resume_point ≡ Asked
  pub waits : (program : Program) → IsCodeOf program old.code
      → WaitsAs program old.code (generator coroutine arguments) slot.coroutine
