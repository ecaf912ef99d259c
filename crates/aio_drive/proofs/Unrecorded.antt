-- A run of which nothing is recorded is one that may be recorded.
use Rattle.std.proofs.Common.{◌≡◌, ℕ, List, None, inl, inr, subst}
use Rattle.model_wire.specs.Event.{Event}
use Rattle.model_wire.specs.Told.{ShelfSeen, SinkSeen, WireSeen}
use Rattle.model_wire.specs.Trace.{End}
use Rattle.model_program.specs.Written.{MayBegin, ProgramOutput, WritesWhole}
use Rattle.model_commands.specs.Causes.{IsCaused}
use Rattle.aio_drive.specs.Drive.{AsksUntil, CutsShort, Driven, IsUnbegun, IsUntold, MayDrive, MayTell, Runs, StopsRecording}
use Rattle.aio_drive.specs.Drive.{TellsAll, TellsUntil, Undisturbed, driven_over, over_all, over_front, wire_by, wire_until}
use Rattle.aio_drive.specs.Outcome.{EndsEarly}
use Rattle.aio_drive.specs.declared.cut.Cut.{Cut}
use Rattle.aio_drive.specs.declared.cut.Cut.TheVariants.{Halted, Unrecorded}
use Rattle.aio_drive.specs.declared.driver.Manner.{Manner}
use Rattle.aio_drive.specs.declared.halt.Halt.{Halt}
use Rattle.aio_drive.specs.declared.halt.Halt.TheVariants.{Memory, Sink}

-- ---- what may be written by more than one rule
module _ (may might : ProgramOutput → Type 0) (none nothing : Type 0) (wider : (output : ProgramOutput) → may output → might output)
    (as_well : none → nothing) where
  widened : (front : List ℕ) → MayBegin may none front → MayBegin might nothing front
  widened front (inl empty) = inl (empty.0, as_well empty.1)
  widened front (inr part) = inr (part.0, wider part.0 part.1, part.2)

  pub whole_wider : (old new : SinkSeen) (status : ℕ) → WritesWhole may old new status → WritesWhole might old new status
  whole_wider old new status whole = (whole.0, wider whole.0 whole.1, whole.2, whole.3)

  pub early_wider : (halt : Halt) (old new : SinkSeen) → EndsEarly may none old new halt → EndsEarly might nothing old new halt
  early_wider Memory old new early = (early.0, widened early.0 early.1, early.2)
  early_wider Sink old new early = (early.0, widened early.0 early.1, early.2)

-- a wire of which this is known by a run's events, where that is
pub drives_as : (runs : Runs) (how : Manner) (fault : End) (it : Driven) (known more : List Event → Type 0)
    → ((events : List Event) → known events → more events) → (caused : End → Type 0) → (output : ProgramOutput)
    → MayDrive runs how fault (wire_by it known caused) output → MayDrive runs how fault (wire_by it more caused) output
drives_as runs how fault it known more wider caused output (inl (still, entries, agrees, is, holds, cause)) =
    inl (still, entries, agrees, is, wider _ holds, cause)
drives_as runs how fault it known more wider caused output (inr (rose, had, told, over, is, holds)) =
    inr (rose, had, told, over, is, wider _ holds)

asks_until : (halt : Halt) (it : Driven) (events : List Event) → TellsUntil halt it events → AsksUntil halt it.before it.after events
asks_until Memory it events (front, rest, is, (more, one, asks), records) = (front, rest, is, more, one, asks)
asks_until Sink it events (front, rest, is, told) = (front, rest, is, told.0)

-- nothing is seen of the shelf of such a run
abbrev pub no_files : ShelfSeen
no_files = record { file = λ name. None; faults = λ name. 0 }

module _ (runs : Runs) (how : Manner) (fault : End) (before after : WireSeen) (fails quiet same : Type 0) where
  abbrev it : Driven
  it = driven_over before after fails quiet (record { name = None; old = no_files; new = no_files }) same

  pub whole_unrecorded : (old new : SinkSeen) (status : ℕ) → WritesWhole (MayTell runs how fault it) old new status
      → WritesWhole (MayDrive runs how fault (over_all before after (Undisturbed fails quiet))) old new status
  whole_unrecorded =
      whole_wider (MayTell runs how fault it) (MayDrive runs how fault (over_all before after (Undisturbed fails quiet))) (Unit {0}) (Unit {0})
      (drives_as runs how fault it (TellsAll it) ((over_all before after (Undisturbed fails quiet)).asked) (λ events told. told.0)
      (IsCaused before after)) (λ none. none)

  pub early_unrecorded : (cut : Cut) (halt : Halt) → cut ≡ Halted halt → (old new : SinkSeen) → CutsShort runs how fault it old new cut
      → EndsEarly (MayDrive runs how fault (over_front halt before after (Undisturbed fails quiet))) (IsUnbegun quiet before after) old new halt
  early_unrecorded cut halt is old new cuts =
      early_wider (MayDrive runs how fault (wire_until halt it))
      (MayDrive runs how fault (over_front halt before after (Undisturbed fails quiet))) (IsUntold it) (IsUnbegun quiet before after)
      (drives_as runs how fault it (TellsUntil halt it) (AsksUntil halt before after) (asks_until halt it) (λ end. Unit {0}))
      (λ untold. untold.0) halt old new
      (subst (λ (c : Cut). CutsShort runs how fault it old new c) is cuts)

  -- no file fails where none is named
  pub never_unrecorded : (cut : Cut) → cut ≡ Unrecorded → (old new : SinkSeen) → CutsShort runs how fault it old new cut → ⊥
  never_unrecorded cut is old new cuts =
      let stopped : StopsRecording runs how it old new = subst (λ (c : Cut). CutsShort runs how fault it old new c) is cuts in
      stopped.failed
