-- What calls write of what they may write.
use Rattle.std.proofs.Common.{◌≡◌, ℕ, List, [], Option, Result, Ok, Err, IfOk, IfErr, inr, refl, ap, sym, ◌∙◌, subst}
use Rattle.model_wire.specs.Told.{SinkSeen, took}
use Rattle.model_program.specs.Written.{ProgramOutput}
use Rattle.model_words.specs.Words.{Command}
use Rattle.model_commands.specs.Outputs.{IsUnbegun, MayWrite, Outside}
use Rattle.aio_drive.specs.Outcome.{EndsEarly}
use Rattle.aio_drive.specs.Writing.{StopsWriting}
use Rattle.aio_drive.specs.declared.halt.Halt.{Halt}
use Rattle.aio_drive.specs.declared.halt.Halt.TheVariants.{Memory, Sink}
use Rattle.aio_drive.proofs.Fronts.{took-nil}
use Rattle.aio_drive.proofs.Unrecorded.{early_wider, whole_wider}
use Rattle.aio_run.specs.Writes.{Writes}

-- what may be written by one rule, where all that it allows another does
pub writes_wider : (may might : ProgramOutput → Type 0) (none nothing : Type 0) → ((output : ProgramOutput) → may output → might output)
    → (none → nothing) → (old new : SinkSeen) (result : Result ℕ Halt) → Writes may none old new result → Writes might nothing old new result
writes_wider may might none nothing wider as_well old new (Ok status) whole = whole_wider may might none nothing wider as_well old new status whole
writes_wider may might none nothing wider as_well old new (Err halt) early = early_wider may might none nothing wider as_well halt old new early

-- what may be written for a command, where it is this one
pub writes_for : (it : Outside) (named command : Option Command) → named ≡ command → (old new : SinkSeen) (result : Result ℕ Halt)
    → Writes (MayWrite it named) (IsUnbegun it named) old new result → Writes (MayWrite it command) (IsUnbegun it command) old new result
writes_for it named command same old new result writes =
    subst (λ (o : Option Command). Writes (MayWrite it o) (IsUnbegun it o) old new result) same writes

-- ---- a text that is all of an output
module _ (may : ProgramOutput → Type 0) (none : Type 0) (output : ProgramOutput) (allowed : may output) where
  line_early : (text : List ℕ) (old new : SinkSeen) → text ≡ output.text → (halt : Halt) → StopsWriting text old new halt
      → EndsEarly may none old new halt
  line_early text old new same Memory stops = (stops.0, inr (output, allowed, (stops.1.0, stops.1.1 ∙ same)), stops.2)
  line_early text old new same Sink stops = (stops.0, inr (output, allowed, (stops.1.0, stops.1.1 ∙ same)), stops.2)

  pub line_written : (text : List ℕ) → text ≡ output.text → (old new : SinkSeen) (result : Result ℕ Halt)
      → IfOk result (λ told. (told ≡ output.status) × (new ≡ took old text)) → IfErr result (StopsWriting text old new)
      → Writes may none old new result
  line_written text same old new (Ok told) done stops = (output, allowed, done.1 ∙ ap (took old) same, done.0)
  line_written text same old new (Err halt) done stops = line_early text old new same halt stops

  -- none of it was written, for want of memory
  pub line_unwritten : (sink : SinkSeen) → Writes may none sink sink (Err Memory)
  line_unwritten sink = ([], inr (output, allowed, (output.text, refl)), sym (took-nil sink))
