-- From what the program did for its words to the theorem.
use Rattle.std.proofs.Common.{◌≡◌, ℕ, List, [], Option, Some, None, Ok, Err, refl, sym, subst, inl, inr, append-nil, arith}
use Rattle.model_tree.specs.Syntax.{Program}
use Rattle.model_text.specs.Scripts.{script_of}
use Rattle.model_text.specs.SecondPass.{Judged}
use Rattle.model_wire.specs.Event.{Event}
use Rattle.model_wire.specs.Told.{SinkSeen}
use Rattle.model_wire.specs.Trace.{End}
use Rattle.model_program.specs.Written.{ProgramOutput, SinkStops, StopsShort, WritesWhole}
use Rattle.model_words.specs.Words.{Command, Check, Replay, Run, Work, command_of}
use Rattle.model_commands.specs.Asked.{Asks}
use Rattle.model_commands.specs.Causes.{IsCaused}
use Rattle.model_commands.specs.Outputs.{IsUnbegun, KeepsFiles, KeepsWire, MayRun, MayRunOver, MayRunScript, MayWrite, Outside, Pace}
use Rattle.model_commands.specs.Promise.{Behaves, Moment, between, starved, stopped, whole}
use Rattle.model_commands.specs.Recorded.{recorded}
use Rattle.model_commands.specs.Telling.{Between, TellsAll, TellsFirstAndOne}

-- ---- an outside that was told this much was told that much
module _ (seen : Between) (same fails : Type 0) (mine more : Option (List ℕ) → List Event → Type 0)
    (wider : (file : Option (List ℕ)) (events : List Event) → mine file events → more file events) (caused : End → Type 0) where
  abbrev told_as : (Option (List ℕ) → List Event → Type 0) → (End → Type 0) → Outside
  told_as told caused = record { seen = seen; same = same; fails = fails; told = told; caused = caused }

  abbrev whole_as : Outside
  whole_as = told_as mine caused

  -- of a front it isn't known why the run ends
  abbrev front_as : Outside
  front_as = told_as more (λ end. Unit {0})

  run_wider : (program : Program) (pace : Pace) (output : ProgramOutput) → MayRun whole_as program pace output
      → MayRun front_as program pace output
  run_wider program pace output (inl (alive, entries, agrees, is, tells, cause)) = inl (alive, entries, agrees, is, wider _ _ tells, tt)
  run_wider program pace output (inr (inl (rose, had, told, over, is, tells))) = inr (inl (rose, had, told, over, is, wider _ _ tells))
  run_wider program pace output (inr (inr stops)) = inr (inr stops)

  script_wider : (judged : Judged Program) (pace : Pace) (output : ProgramOutput) → MayRunScript whole_as judged pace output
      → MayRunScript front_as judged pace output
  script_wider (Err fault) pace output may = may
  script_wider (Ok program) pace output may = run_wider program pace output may

  over_wider : (script : List ℕ) (pace : Pace) (output : ProgramOutput) → MayRunOver whole_as script pace output
      → MayRunOver front_as script pace output
  over_wider script pace output (inl failed) = inl failed
  over_wider script pace output (inr (text, says, may)) = inr (text, says, script_wider (script_of text) pace output may)

  pub write_wider : (command : Option Command) (output : ProgramOutput) → MayWrite whole_as command output → MayWrite front_as command output
  write_wider None output may = may
  write_wider (Some (Check script)) output may = may
  write_wider (Some (Replay script journal trace turns)) output may = may
  write_wider (Some (Run script file trace turns)) output may =
      over_wider script (record { trace = trace; turns = turns; file = file }) output may
  write_wider (Some (Work seed)) output may = may

-- what was told whole was told first, with no call besides
first_of_all : (seen : Between) (file : Option (List ℕ)) (events : List Event) → TellsAll seen file events → TellsFirstAndOne seen file events
first_of_all seen file events (asks, records) = (
  events,
  [],
  sym (append-nil events),
  ([], omega arith, subst (λ (es : List Event). Asks es seen.before seen.after) (sym (append-nil events)) asks),
  (recorded events, ([], append-nil (recorded events)), records),
)

whole_stops : (may might : ProgramOutput → Type 0) (none : Type 0) (wider : (output : ProgramOutput) → may output → might output)
    (old new : SinkSeen) (status : ℕ) → WritesWhole may old new status → StopsShort might none old new
whole_stops may might none wider old new status (output, allowed, took_it, is) =
    (output.text, inr (output, wider output allowed, ([], append-nil output.text)), took_it)

-- ---- by how the program ended
module _ {F W : Type 0} (given : List (List ℕ)) (old new : Moment F W) (files : KeepsFiles (command_of given) old.files new.files)
    (wire : KeepsWire (command_of given) old.files old.wire new.wire) (words : command_of given ≡ None → new.shelf ≡ old.shelf) where
  behaves_whole : (status : ℕ) → WritesWhole (MayWrite (whole old new) (command_of given)) old.sink new.sink status
      → Behaves given old new status
  behaves_whole status done = record {
    written = λ other another. done;
    fault = λ is. inl (subst (λ (s : ℕ). WritesWhole (MayWrite (whole old new) (command_of given)) old.sink new.sink s) is done);
    memory = λ is. whole_stops (MayWrite (whole old new) (command_of given)) (MayWrite (starved old new) (command_of given))
        (IsUnbegun (starved old new) (command_of given))
        (write_wider (between old new) (new.wire ≡ old.wire) old.fails (TellsAll (between old new)) (TellsFirstAndOne (between old new))
        (first_of_all (between old new)) (IsCaused old.told new.told) (command_of given)) old.sink new.sink status done;
    files = files;
    wire = wire;
    words = words;
  }

  behaves_stopped : SinkStops (MayWrite (stopped old new) (command_of given)) (IsUnbegun (stopped old new) (command_of given)) old.sink new.sink
      → Behaves given old new 9
  behaves_stopped stops = record {
    written = λ other another. absurd (other refl);
    fault = λ is. inr stops;
    memory = λ is. absurd (omega (arith, is));
    files = files;
    wire = wire;
    words = words;
  }

  behaves_starved : StopsShort (MayWrite (starved old new) (command_of given)) (IsUnbegun (starved old new) (command_of given)) old.sink new.sink
      → Behaves given old new 11
  behaves_starved stops = record {
    written = λ other another. absurd (another refl);
    fault = λ is. absurd (omega (arith, is));
    memory = λ is. stops;
    files = files;
    wire = wire;
    words = words;
  }

-- the same, by the words as they were passed on
module _ {F W : Type 0} (given passed : List (List ℕ)) (same : passed ≡ given) (old new : Moment F W)
    (files : KeepsFiles (command_of passed) old.files new.files) (wire : KeepsWire (command_of passed) old.files old.wire new.wire)
    (words : command_of passed ≡ None → new.shelf ≡ old.shelf) where
  pub whole_behaves : (status : ℕ) → WritesWhole (MayWrite (whole old new) (command_of passed)) old.sink new.sink status
      → Behaves given old new status
  whole_behaves status done =
      subst (λ (w : List (List ℕ)). Behaves w old new status) same (behaves_whole passed old new files wire words status done)

  pub stopped_behaves : SinkStops (MayWrite (stopped old new) (command_of passed)) (IsUnbegun (stopped old new) (command_of passed)) old.sink new.sink
      → Behaves given old new 9
  stopped_behaves stops = subst (λ (w : List (List ℕ)). Behaves w old new 9) same (behaves_stopped passed old new files wire words stops)

  pub starved_behaves : StopsShort (MayWrite (starved old new) (command_of passed)) (IsUnbegun (starved old new) (command_of passed)) old.sink new.sink
      → Behaves given old new 11
  starved_behaves stops = subst (λ (w : List (List ℕ)). Behaves w old new 11) same (behaves_starved passed old new files wire words stops)
