-- From a driven run over the wire to what the program may write.
use Rattle.std.specs.Prelude.{codes}
use Rattle.std.proofs.Common.{◌≡◌, ℕ, List, [], ◌++◌, Option, Some, None, Result, Ok, Err, IfOk, IfErr}
use Rattle.std.proofs.Common.{refl, ap, sym, ◌∙◌, subst, inl, inr, append-nil, arith}
use Rattle.std.proofs.Math.Path.{fun_ext}
use Rattle.std.specs.Option.{option_map}
use Rattle.model_tree.specs.Syntax.{Program}
use Rattle.model_text.specs.FirstPass.{fault_at}
use Rattle.model_text.specs.Scripts.{script_of}
use Rattle.model_text.specs.SecondPass.{Judged}
use Rattle.model_wire.specs.declared.event.End.TheVariants as end
use Rattle.model_wire.specs.declared.event.Handed.{Handed}
use Rattle.model_wire.specs.Call.{Call}
use Rattle.model_wire.specs.Event.{Event, calls_in, handed_in}
use Rattle.model_wire.specs.Told.{ShelfSeen, SinkSeen, WireSeen, took}
use Rattle.model_wire.specs.Trace.{End, lines_of_events}
use Rattle.model_program.specs.Runs.{run}
use Rattle.model_program.specs.Written.{MayBegin, ProgramOutput}
use Rattle.model_commands.specs.Asked as plain
use Rattle.model_commands.specs.Asked.{Asks, AsksOnce}
use Rattle.model_commands.specs.Outputs.{HoldsNoScript, IsRefused, KeepsOthers, MayRun, MayRunOver, MayRunScript, Outside, Pace, faulted}
use Rattle.model_commands.specs.Outputs as outputs
use Rattle.model_commands.specs.Recorded.{FailsRecording, Records}
use Rattle.model_commands.specs.Telling.{Between, TellsAll}
use Rattle.aio_exchange.specs.Exchanged as told
use Rattle.aio_drive.specs.Asked as code
use Rattle.aio_drive.specs.Drive.{Driven, IsUntold, MayDrive, MayTell, StopsRecording, Undisturbed, wire_by, wire_until}
use Rattle.aio_drive.specs.Drive as drive
use Rattle.aio_drive.specs.Outcome.{EndsEarly}
use Rattle.aio_drive.specs.Writing.{StopsWriting}
use Rattle.aio_drive.specs.declared.driver.Manner.{Manner}
use Rattle.aio_drive.specs.declared.halt.Halt.{Halt}
use Rattle.aio_drive.specs.declared.halt.Halt.TheVariants.{Memory, Sink}
use Rattle.aio_drive.proofs.Fronts.{took_on}
use Rattle.aio_drive.proofs.Written.{early_by}
use Rattle.aio_run.specs.Running.{TellsBy, between, pace_of, told_by}
use Rattle.aio_run.specs.Script.{SpellsScript, IsMissing, Tells}
use Rattle.aio_run.specs.Writes.{Writes}
use Rattle.aio_run.specs.declared.script.NoScript.{NoScript}
use Rattle.aio_run.specs.declared.script.NoScript.TheVariants.{Refused, Failed, Memory as NoMemory}
use Rattle.aio_run.proofs.Outcomes.{refused_as}

-- ---- what a wire was asked: the code's record, and the theorem's
asked-same : (calls : List Call) (before after : Option (List Call)) → after ≡ told.asked_by calls before
    → after ≡ option_map (λ held. held ++ calls) before
asked-same calls None after is = is
asked-same calls (Some held) after is = is

handed-same : (more : Handed → List ℕ) (before after : Option (Handed → List ℕ)) → after ≡ told.handed_to more before
    → after ≡ option_map (λ held to. held to ++ more to) before
handed-same more None after is = is
handed-same more (Some held) after is = is

pub asks-same : (events : List Event) (before after : WireSeen) → code.Asks events before after → plain.Asks events before after
asks-same events before after asks = record {
  asked = asked-same (calls_in events) before.asked after.asked asks.asked;
  handed = handed-same (handed_in events None) before.handed after.handed (asks.handed None);
}

-- one call at most
pub once-same : (before after : WireSeen) → code.AsksOnce before after → plain.AsksOnce before after
once-same before after once = (once.0, once.1, asks-same once.0 before after once.2)

-- nothing was asked
none-asked : (seen : WireSeen) → Asks [] seen seen
none-asked seen = record { asked = calls seen.asked; handed = bytes seen.handed }
  where
    calls : (told : Option (List Call)) → told ≡ option_map (λ held. held ++ []) told
    calls None = refl
    calls (Some held) = ap Some (sym (append-nil held))

    bytes : (told : Option (Handed → List ℕ)) → told ≡ option_map (λ held to. held to ++ []) told
    bytes None = refl
    bytes (Some held) = ap Some (fun_ext (λ to. sym (append-nil (held to))))

pub once-none : (seen : WireSeen) → AsksOnce seen seen
once-none seen = ([], omega arith, none-asked seen)

-- ---- files
-- where this was recorded no other file changed
pub others_kept : (file : Option (List ℕ)) (bytes : List ℕ) (old new : ShelfSeen) → Records file bytes old new → KeepsOthers file old new
others_kept None bytes old new same = ap (λ (s : ShelfSeen). s.file) same
others_kept (Some name) bytes old new grew = grew.others

pub others_failed : (file : Option (List ℕ)) (bytes : List ℕ) (old new : ShelfSeen) → FailsRecording file bytes old new → KeepsOthers file old new
others_failed None bytes old new failed = absurd failed
others_failed (Some name) bytes old new failed = failed.others

pub others_same : (file : Option (List ℕ)) (old new : ShelfSeen) → new.file ≡ old.file → KeepsOthers file old new
others_same None old new same = same
others_same (Some name) old new same = λ other differs. ap (λ (held : List ℕ → Option (Option (List ℕ))). held other) same

-- before which nothing changed
pub others_from : (file : Option (List ℕ)) (old mid new : ShelfSeen) → mid ≡ old → KeepsOthers file mid new → KeepsOthers file old new
others_from file old mid new same kept = subst (λ (s : ShelfSeen). KeepsOthers file s new) same kept

-- ---- a program's run that was driven over a wire
abbrev pub between_of : Driven → Between
between_of it = between it.shelf.old it.shelf.new it.before it.after

module _ (program : Program) (how : Manner) (it : Driven) (same fails : Type 0) (undisturbed : it.undisturbed ≡ Undisturbed fails it.quiet) where
  pub runs_over : (known : List Event → Type 0) (told : Option (List ℕ) → List Event → Type 0) (caused : End → Type 0)
      → ((events : List Event) → known events → told it.shelf.name events) → (output : ProgramOutput)
      → MayDrive (run program) how end.WireFault (wire_by it known caused) output
      → MayRun (record { seen = between_of it; same = same; fails = fails; told = told; caused = caused }) program (pace_of it.shelf.name how) output
  runs_over known told caused so output (inl (calm, entries, agrees, is, holds, cause)) =
      inl ((subst (λ (t : Type 0). t) undisturbed calm).0, entries, agrees, is, so _ holds, cause)
  runs_over known told caused so output (inr (rose, had, told_so, over, is, holds)) = inr (inl (rose, had, told_so, over, is, so _ holds))

  -- what no file but the one that is named lost
  pub others_told : (output : ProgramOutput) → MayTell (run program) how end.WireFault it output → KeepsOthers it.shelf.name it.shelf.old it.shelf.new
  others_told output (inl (calm, entries, agrees, is, told, cause)) = others_kept it.shelf.name _ it.shelf.old it.shelf.new told.1
  others_told output (inr (rose, had, told_so, over, is, told)) = others_kept it.shelf.name _ it.shelf.old it.shelf.new told.1

  others_until : (halt : Halt) (events : List Event) → drive.TellsUntil halt it events → KeepsOthers it.shelf.name it.shelf.old it.shelf.new
  others_until Memory events (front, rest, is, asks, (bytes, some, records)) = others_kept it.shelf.name bytes it.shelf.old it.shelf.new records
  others_until Sink events (front, rest, is, told) = others_kept it.shelf.name _ it.shelf.old it.shelf.new told.1

  module _ (kept : it.same → it.shelf.new.file ≡ it.shelf.old.file) (halt : Halt) where
    others_begun : (front : List ℕ) → MayBegin (MayDrive (run program) how end.WireFault (wire_until halt it)) (IsUntold it) front
        → KeepsOthers it.shelf.name it.shelf.old it.shelf.new
    others_begun front (inl (empty, untold)) = others_same it.shelf.name it.shelf.old it.shelf.new (kept untold.1)
    others_begun front (inr (output, inl (calm, entries, agrees, is, told, cause), part)) = others_until halt _ told
    others_begun front (inr (output, inr (rose, had, told_so, over, is, told), part)) = others_until halt _ told

  pub others_early : (kept : it.same → it.shelf.new.file ≡ it.shelf.old.file) (halt : Halt) (old new : SinkSeen)
      → EndsEarly (MayDrive (run program) how end.WireFault (wire_until halt it)) (IsUntold it) old new halt
      → KeepsOthers it.shelf.name it.shelf.old it.shelf.new
  others_early kept Memory old new early = others_begun kept Memory early.0 early.1
  others_early kept Sink old new early = others_begun kept Sink early.0 early.1

-- what was known of a run that was cut short
pub until_so : (halt : Halt) (it : Driven) (events : List Event) → drive.TellsUntil halt it events
    → TellsBy (Err halt) (between_of it) it.shelf.name events
until_so Memory it events (front, rest, is, (more, one, asks), records) =
    (front, rest, is, (more, one, asks-same (front ++ more) it.before it.after asks), records)
until_so Sink it events (front, rest, is, told) = (front, rest, is, (asks-same front it.before it.after told.0, told.1))

pub all_so : (it : Driven) (events : List Event) → drive.TellsAll it events → TellsAll (between_of it) it.shelf.name events
all_so it events told = (asks-same events it.before it.after told.0, told.1)

-- ---- a run whose answers could not be recorded
module _ (program : Program) (how : Manner) (it : Driven) (first mid : SinkSeen) (stops : StopsRecording (run program) how it first mid) where
  cut_short : ProgramOutput
  cut_short = faulted how.trace end.ShelfFault (run program stops.had stops.made)

  cut_text : cut_short.text ≡ lines_of_events how.trace (run program stops.had stops.made).events ++ codes "! fault shelf\n"
  unfolding cut_short
  cut_text = refl

  stops_so : outputs.StopsRecording (between_of it) program (pace_of it.shelf.name how) cut_short
  unfolding cut_short
  stops_so = record {
    had = stops.had;
    told = stops.told;
    made = stops.made;
    fewer = stops.fewer;
    turn = stops.turn;
    next = stops.next;
    more = stops.more;
    events = stops.events;
    asked = asks-same ((run program stops.had stops.made).events ++ stops.turn) it.before it.after stops.asked;
    front = stops.front;
    some = stops.some;
    failed = stops.failed;
    is = refl;
  }

  abbrev lines : List ℕ
  lines = lines_of_events how.trace (run program stops.had stops.made).events

  abbrev fault : List ℕ
  fault = codes "! fault shelf\n"

  -- the fault's line was written after those of the turns before, or a front of it
  pub cut_written : (same fails none : Type 0) (last : SinkSeen) (result : Result ℕ Halt)
      → IfOk result (λ status. (status ≡ 9) × (last ≡ took mid fault))
      → IfErr result (StopsWriting fault mid last)
      → Writes (MayRun (told_by result (between_of it) same fails) program (pace_of it.shelf.name how)) none first last result
  unfolding cut_short
  cut_written same fails none last (Ok status) done stopped =
      (cut_short, inr (inr stops_so), took_on first mid last lines fault stops.wrote done.1 ∙ ap (took first) (sym cut_text), done.0)
  cut_written same fails none last (Err halt) done stopped =
      early_by (MayRun (told_by (Err halt) (between_of it) same fails) program (pace_of it.shelf.name how)) none first mid lines stops.wrote cut_short
      (inr (inr stops_so)) fault [] (cut_text ∙ ap (λ (t : List ℕ). lines ++ t) (sym (append-nil fault))) last halt stopped

-- ---- scripts
-- a script's run, by the rules for its text; reading it changed nothing of the shelf
pub run_by_script : (script : Program) (old mid new : ShelfSeen) (before after : WireSeen) (name : List ℕ) (same fails : Type 0)
    (result : Result ℕ Halt) (pace : Pace) → SpellsScript (old.file name) script → mid ≡ old → (output : ProgramOutput)
    → MayRun (told_by result (between mid new before after) same fails) script pace output
    → MayRunOver (told_by result (between old new before after) same fails) name pace output
run_by_script script old mid new before after name same fails result pace spells kept output may =
    let it : ShelfSeen → Outside = λ s. told_by result (between s new before after) same fails in
    let here = subst (λ (s : ShelfSeen). MayRun (it s) script pace output) kept may in
    inr (spells.0, spells.1, subst (λ (p : Judged Program). MayRunScript (it old) p pace output) (sym spells.2) here)

pub run_without : (none : NoScript) (old new : ShelfSeen) (seen : WireSeen) (name : List ℕ) (same fails : Type 0) (unasked : same)
    (result : Result ℕ Halt) (pace : Pace) → IsMissing name old new none → new.file ≡ old.file → (output : ProgramOutput) → Tells none output
    → MayRunOver (told_by result (between old new seen seen) same fails) name pace output
run_without (Refused number cause) old new seen name same fails unasked result pace missing kept output tells =
    let (text, why, says, spells, is) = missing.0 in
    let it : Outside = told_by result (between old new seen seen) same fails in
    let refused : MayRunScript it (fault_at number why) pace output =
    ((unasked, refl), missing.1, refused_as number cause why output is tells) in
    inr (text, says, subst (λ (p : Judged Program). MayRunScript it p pace output) (sym spells) refused)
run_without Failed old new seen name same fails unasked result pace missing kept output tells = inl (missing, kept, (unasked, refl), tells)
run_without NoMemory old new seen name same fails unasked result pace missing kept output tells = absurd tells

-- a file that holds no script spells none
pub never_spelled : (held : Option (Option (List ℕ))) (script : Program) → SpellsScript held script → HoldsNoScript held → ⊥
never_spelled None script spells none = none
never_spelled (Some None) script (text, says, spells) none = says
never_spelled (Some (Some held)) script (text, says, spells) none =
    subst (λ (p : Judged Program). IsRefused p) (ap script_of (sym says) ∙ spells) none

-- where memory was refused while a script was read nothing changed
pub unread : (none : NoScript) (old new : ShelfSeen) (name : List ℕ) → IsMissing name old new none → none ≡ NoMemory → new ≡ old
unread (Refused number cause) old new name missing is = absurd (cc is)
unread Failed old new name missing is = absurd (cc is)
unread NoMemory old new name missing is = missing
