-- What is written of a run that ends, that fails, or that is cut short.
use Rattle.std.proofs.Common.{◌≡◌, ℕ, ◌+◌, ◌<◌, List, [], ◌++◌, inl, inr}
use Rattle.std.proofs.Common.{refl, ap, sym, ◌∙◌, subst, append_assoc, arith}
use Rattle.model_wire.specs.Event.{Event}
use Rattle.model_wire.specs.Journal.{Entry}
use Rattle.model_wire.specs.Told.{Agrees, Rose, ShelfSeen, SinkSeen, took}
use Rattle.model_wire.specs.Trace.{End, end_text, line, lines_of_events}
use Rattle.model_program.specs.Program.{output_of}
use Rattle.model_machine.specs.Run.{Run}
use Rattle.model_program.specs.Written.{IsFrontOf, ProgramOutput, WritesWhole}
use Rattle.model_program.specs.Transcript.{status_of, transcript}
use Rattle.model_commands.specs.Causes.{IsCaused}
use Rattle.model_commands.specs.Recorded.{FailsRecording, Records, recorded}
use Rattle.aio_record.proofs.Growing.{recorded-append}
use Rattle.aio_core.specs.Asked.{Asks}
use Rattle.aio_drive.specs.Drive.{CutsShort, Driven, IsUntold, MayDrive, MayTell, Runs, StopsRecording, TellsAll, TellsUntil, wire_by, wire_until}
use Rattle.aio_drive.specs.Outcome.{EndsEarly}
use Rattle.aio_drive.specs.Recording.{StopsTelling}
use Rattle.aio_drive.specs.Writing.{StopsWriting}
use Rattle.aio_drive.specs.declared.cut.Cut.{Cut}
use Rattle.aio_drive.specs.declared.cut.Cut.TheVariants.{Halted, Unrecorded}
use Rattle.aio_drive.specs.declared.driver.Manner.{Manner}
use Rattle.aio_drive.specs.declared.halt.Halt.{Halt}
use Rattle.aio_drive.specs.declared.halt.Halt.TheVariants.{Memory, Sink}
use Rattle.aio_drive.proofs.Driving.{EndsHere, FailsHere, GoesOnHere}
use Rattle.aio_drive.proofs.Fronts.{append-nil, failed_on, took-nil, took_on}
use Rattle.aio_drive.proofs.Telling.{fails_on, records_on}
use Rattle.aio_drive.proofs.Turns.{lines-append}

-- ---- what is known where a run was cut short
module _ (it : Driven) where
  -- all was told of its first events
  pub until_all : (halt : Halt) (events front rest : List Event) → events ≡ front ++ rest → TellsAll it front → TellsUntil halt it events
  until_all Memory events front rest is (asked, records) = (
    front,
    rest,
    is,
    ([], omega arith, subst (λ es. Asks es it.before it.after) (sym (append-nil front)) asked),
    (recorded front, ([], append-nil (recorded front)), records),
  )
  until_all Sink events front rest is told = (front, rest, is, told)

  -- they were asked, and a front of their entries recorded
  pub until_part : (events front rest : List Event) → events ≡ front ++ rest → Asks front it.before it.after → (bytes : List ℕ)
      → IsFrontOf bytes (recorded front) → Records it.shelf.name bytes it.shelf.old it.shelf.new → TellsUntil Memory it events
  until_part events front rest is asked bytes some records = (
    front,
    rest,
    is,
    ([], omega arith, subst (λ es. Asks es it.before it.after) (sym (append-nil front)) asked),
    (bytes, some, records),
  )

-- ---- what is written
module _ (may : ProgramOutput → Type 0) (none : Type 0) (first now : SinkSeen) (shown : List ℕ) (had_shown : now ≡ took first shown) where
  -- a text after what was shown stops short
  pub early_by : (output : ProgramOutput) → may output → (text rest : List ℕ) → output.text ≡ shown ++ (text ++ rest) → (after : SinkSeen) (halt : Halt)
      → StopsWriting text now after halt → EndsEarly may none first after halt
  early_by output allowed text rest is after Memory (front, (others, whole), wrote) = (
    shown ++ front,
    inr (output, allowed, (others ++ rest, regrouped shown front others rest ∙ ap (λ (t : List ℕ). shown ++ (t ++ rest)) whole ∙ sym is)),
    took_on first now after shown front had_shown wrote,
  )
    where
      regrouped : (a b c d : List ℕ) → (a ++ b) ++ (c ++ d) ≡ a ++ ((b ++ c) ++ d)
      regrouped a b c d = simp append_assoc
  early_by output allowed text rest is after Sink (front, (others, whole), wrote) = (
    shown ++ front,
    inr (output, allowed, (others ++ rest, regrouped shown front others rest ∙ ap (λ (t : List ℕ). shown ++ (t ++ rest)) whole ∙ sym is)),
    failed_on first now after shown front had_shown wrote,
  )
    where
      regrouped : (a b c d : List ℕ) → (a ++ b) ++ (c ++ d) ≡ a ++ ((b ++ c) ++ d)
      regrouped a b c d = simp append_assoc

  -- nothing more was written, for want of memory
  pub nothing_more : (output : ProgramOutput) → may output → (rest : List ℕ) → output.text ≡ shown ++ rest → EndsEarly may none first now Memory
  nothing_more output allowed rest is = early_by output allowed [] rest is now Memory ([], ([], refl), sym (took-nil now))

  pub nothing_at_all : shown ≡ [] → none → EndsEarly may none first now Memory
  nothing_at_all empty holds = ([], inl (refl, holds), had_shown ∙ ap (took first) empty)

-- `so_far` are the events of so many turns, of which all was told; `more` are those of the turn after them.
module _ (runs : Runs) (how : Manner) (fault : End) (it : Driven) (made : ℕ) (first now last : SinkSeen) (mid : ShelfSeen) (so_far more : List Event)
    (wrote : now ≡ took first (lines_of_events how.trace so_far)) (noted : Records it.shelf.name (recorded so_far) it.shelf.old mid) where
  abbrev Early : Halt → SinkSeen → SinkSeen → Type 0
  Early halt old new = EndsEarly (MayDrive runs how fault (wire_until halt it)) (IsUntold it) old new halt

  abbrev shown : List ℕ
  shown = lines_of_events how.trace so_far

  abbrev text_of : End → List ℕ
  text_of end = lines_of_events how.trace more ++ line (end_text end)

  -- the text of a run with these events
  text_is : (whole : Run) → whole.events ≡ so_far ++ more → transcript how.trace whole ≡ shown ++ text_of whole.end
  text_is whole is =
      ap (λ (es : List Event). lines_of_events how.trace es ++ line (end_text whole.end)) is
      ∙ ap (λ (t : List ℕ). t ++ line (end_text whole.end)) (lines-append how.trace so_far more)
      ∙ append_assoc shown (lines_of_events how.trace more) (line (end_text whole.end))

  -- what was recorded
  pub records_all : (bytes : List ℕ) → Records it.shelf.name bytes mid it.shelf.new
      → Records it.shelf.name (recorded so_far ++ bytes) it.shelf.old it.shelf.new
  records_all bytes records = records_on it.shelf.name (recorded so_far) bytes it.shelf.old mid it.shelf.new noted records

  told_all : Asks (so_far ++ more) it.before it.after → Records it.shelf.name (recorded more) mid it.shelf.new → TellsAll it (so_far ++ more)
  told_all asked records = (
    asked,
    subst (λ (bytes : List ℕ). Records it.shelf.name bytes it.shelf.old it.shelf.new) (sym (recorded-append so_far more))
        (records_all (recorded more) records),
  )

  -- a front of the turn's entries is behind those of the turns before
  front_of : (front : List ℕ) → IsFrontOf front (recorded more) → IsFrontOf (recorded so_far ++ front) (recorded (so_far ++ more))
  front_of front (rest, whole) = (
    rest,
    append_assoc (recorded so_far) front rest ∙ ap (λ (t : List ℕ). recorded so_far ++ t) whole ∙ sym (recorded-append so_far more),
  )

  -- what is known of a run with these events, and others after them, that was cut short
  until : Asks (so_far ++ more) it.before it.after → (events rest : List Event) → events ≡ (so_far ++ more) ++ rest → (halt : Halt) (text : List ℕ)
      → StopsTelling (record it.shelf { old = mid }) (recorded more) text now last (Halted halt) → TellsUntil halt it events
  until asked events rest is Memory text (front, some, records, stops) =
      until_part it events (so_far ++ more) rest is asked (recorded so_far ++ front) (front_of front some) (records_all front records)
  until asked events rest is Sink text (records, stops) = until_all it Sink events (so_far ++ more) rest is (told_all asked records)

  stops_text : (halt : Halt) (text : List ℕ) → StopsTelling (record it.shelf { old = mid }) (recorded more) text now last (Halted halt)
      → StopsWriting text now last halt
  stops_text Memory text (front, some, records, stops) = stops
  stops_text Sink text (records, stops) = stops

  -- the turn's answers could not be recorded
  stops : Asks (so_far ++ more) it.before it.after → made < how.turns → (had rest : List Entry) → Agrees it.before.left (had ++ rest)
      → (runs had made).events ≡ so_far → (runs had (made + 1)).events ≡ so_far ++ more
      → (others : List Event) → (runs had how.turns).events ≡ (so_far ++ more) ++ others → (text : List ℕ)
      → StopsTelling (record it.shelf { old = mid }) (recorded more) text now last Unrecorded → StopsRecording runs how it first last
  stops asked fewer had rest agrees before next others is text (front, some, fails, same) = record {
    had = had;
    told = (rest, agrees);
    made = made;
    fewer = fewer;
    turn = more;
    next = next ∙ ap (λ (es : List Event). es ++ more) (sym before);
    more = others;
    events = is ∙ ap (λ (es : List Event). (es ++ more) ++ others) (sym before);
    asked = subst (λ (es : List Event). Asks (es ++ more) it.before it.after) (sym before) asked;
    front = front;
    some = some;
    failed =
        subst (λ (es : List Event). FailsRecording it.shelf.name (recorded es ++ front) it.shelf.old it.shelf.new) (sym before)
        (fails_on it.shelf.name (recorded so_far) front it.shelf.old mid it.shelf.new noted fails);
    wrote = same ∙ wrote ∙ ap (λ (es : List Event). took first (lines_of_events how.trace es)) (sym before);
  }

  agrees_all : (entries : List Entry) → Agrees it.before.left entries → Agrees it.before.left (entries ++ [])
  agrees_all entries agrees = subst (λ (es : List Entry). Agrees it.before.left es) (sym (append-nil entries)) agrees

  module _ {end : End} (here : EndsHere runs how made so_far it.before.left (so_far ++ more) end) (still : it.undisturbed)
      (asked : Asks (so_far ++ more) it.before it.after) where
    whole_run : Run
    whole_run = runs here.entries how.turns

    whole_events : whole_run.events ≡ so_far ++ more
    unfolding whole_run
    whole_events = ap (λ (r : Run). r.events) here.is

    may_end : Records it.shelf.name (recorded more) mid it.shelf.new → IsCaused it.before it.after end
        → MayTell runs how fault it (output_of how.trace whole_run)
    unfolding whole_run
    may_end records caused =
        inl (
          still,
          here.entries,
          here.agrees,
          refl,
          subst (TellsAll it) (sym whole_events) (told_all asked records),
          subst (IsCaused it.before it.after) (sym (ap (λ (r : Run). r.end) here.is)) caused,
        )

    may_end_early : (halt : Halt) → TellsUntil halt it whole_run.events
        → MayDrive runs how fault (wire_until halt it) (output_of how.trace whole_run)
    unfolding whole_run
    may_end_early halt known = inl (still, here.entries, here.agrees, refl, known, tt)

    whole_text : transcript how.trace whole_run ≡ shown ++ text_of end
    unfolding whole_run
    whole_text =
        text_is whole_run whole_events ∙ ap (λ (r : Run). shown ++ text_of r.end) here.is

    pub ends_whole : Records it.shelf.name (recorded more) mid it.shelf.new → IsCaused it.before it.after end → (status : ℕ) → status ≡ status_of end
        → last ≡ took now (text_of end)
        → WritesWhole (MayTell runs how fault it) first last status
    unfolding whole_run
    ends_whole records caused status is all = (
      output_of how.trace whole_run,
      may_end records caused,
      took_on first now last shown (text_of end) wrote all ∙ ap (took first) (sym whole_text),
      is ∙ ap (λ (r : Run). status_of r.end) (sym here.is),
    )

    pub ends_halted : (halt : Halt) → StopsTelling (record it.shelf { old = mid }) (recorded more) (text_of end) now last (Halted halt) → Early halt first last
    ends_halted halt stops =
        early_by (MayDrive runs how fault (wire_until halt it)) (IsUntold it) first now shown wrote
        (output_of how.trace whole_run)
        (may_end_early halt (until asked whole_run.events [] (whole_events ∙ sym (append-nil (so_far ++ more))) halt (text_of end) stops))
        (text_of end) [] (whole_text ∙ ap (λ (t : List ℕ). shown ++ t) (sym (append-nil (text_of end)))) last halt (stops_text halt (text_of end) stops)

    pub ends_early : made < how.turns → (cut : Cut) → StopsTelling (record it.shelf { old = mid }) (recorded more) (text_of end) now last cut
        → CutsShort runs how fault it first last cut
    unfolding whole_run
    ends_early fewer (Halted halt) stopped = ends_halted halt stopped
    ends_early fewer Unrecorded stopped =
        stops asked fewer here.entries [] (agrees_all here.entries here.agrees) here.before (here.next fewer) []
        (whole_events ∙ sym (append-nil (so_far ++ more))) (text_of end) stopped

  module _ (here : FailsHere runs how made so_far it.before.left (so_far ++ more)) (rose : Rose it.before.faults it.after.faults)
      (asked : Asks (so_far ++ more) it.before it.after) where
    failed_run : Run
    failed_run = record (runs here.had how.turns) { end = fault }

    failed_events : failed_run.events ≡ so_far ++ more
    unfolding failed_run
    failed_events = ap (λ (r : Run). r.events) here.is

    may_fail_by : (known : List Event → Type 0) (caused : End → Type 0) → known failed_run.events
        → MayDrive runs how fault (wire_by it known caused) (output_of how.trace failed_run)
    unfolding failed_run
    may_fail_by known caused holds = inr (rose, here.had, here.told, (here.call, ap (λ (r : Run). r.end) here.is), refl, holds)

    failed_text : transcript how.trace failed_run ≡ shown ++ text_of fault
    unfolding failed_run
    failed_text = text_is failed_run failed_events

    pub fails_whole : Records it.shelf.name (recorded more) mid it.shelf.new → (status : ℕ) → status ≡ status_of fault → last ≡ took now (text_of fault)
        → WritesWhole (MayTell runs how fault it) first last status
    unfolding failed_run
    fails_whole records status is all = (
      output_of how.trace failed_run,
      may_fail_by (TellsAll it) (IsCaused it.before it.after) (subst (TellsAll it) (sym failed_events) (told_all asked records)),
      took_on first now last shown (text_of fault) wrote all ∙ ap (took first) (sym failed_text),
      is,
    )

    fails_halted : (halt : Halt) → StopsTelling (record it.shelf { old = mid }) (recorded more) (text_of fault) now last (Halted halt) → Early halt first last
    unfolding failed_run
    fails_halted halt stops =
        early_by (MayDrive runs how fault (wire_until halt it)) (IsUntold it) first now shown wrote
        (output_of how.trace failed_run)
        (may_fail_by (TellsUntil halt it) (λ end. Unit {0})
        (until asked failed_run.events [] (failed_events ∙ sym (append-nil (so_far ++ more))) halt (text_of fault) stops))
        (text_of fault) [] (failed_text ∙ ap (λ (t : List ℕ). shown ++ t) (sym (append-nil (text_of fault)))) last halt
        (stops_text halt (text_of fault) stops)

    -- nothing of it was recorded or written, for want of memory
    pub fails_silent : Records it.shelf.name [] mid it.shelf.new → last ≡ now → Early Memory first last
    fails_silent none same =
        fails_halted Memory ([], (recorded more, refl), none, ([], (text_of fault, refl), same ∙ sym (took-nil now)))

    pub fails_early : made < how.turns → (cut : Cut) → StopsTelling (record it.shelf { old = mid }) (recorded more) (text_of fault) now last cut
        → CutsShort runs how fault it first last cut
    unfolding failed_run
    fails_early fewer (Halted halt) stopped = fails_halted halt stopped
    fails_early fewer Unrecorded stopped =
        stops asked fewer here.had here.told.0 here.told.1 here.before here.next []
        (failed_events ∙ sym (append-nil (so_far ++ more))) (text_of fault) stopped

  module _ (here : GoesOnHere runs how made so_far it.before.left (so_far ++ more)) (still : it.undisturbed) where
    further_text : (whole : Run) (others : List Event) → whole.events ≡ (so_far ++ more) ++ others
        → transcript how.trace whole
        ≡ shown ++ (lines_of_events how.trace more ++ (lines_of_events how.trace others ++ line (end_text whole.end)))
    further_text whole others is =
        ap (λ (es : List Event). lines_of_events how.trace es ++ line (end_text whole.end)) is
        ∙ ap (λ (t : List ℕ). t ++ line (end_text whole.end)) (lines-append how.trace (so_far ++ more) others)
        ∙ ap (λ (t : List ℕ). (t ++ lines_of_events how.trace others) ++ line (end_text whole.end)) (lines-append how.trace so_far more)
        ∙ regrouped shown (lines_of_events how.trace more) (lines_of_events how.trace others) (line (end_text whole.end))
      where
        regrouped : (a b c d : List ℕ) → ((a ++ b) ++ c) ++ d ≡ a ++ (b ++ (c ++ d))
        regrouped a b c d = simp append_assoc

    pub goes_early : (halt : Halt) → TellsUntil halt it (runs here.entries how.turns).events
        → StopsWriting (lines_of_events how.trace more) now last halt → Early halt first last
    goes_early halt known stops =
        let whole = runs here.entries how.turns in
        early_by (MayDrive runs how fault (wire_until halt it)) (IsUntold it) first now shown wrote
        (output_of how.trace whole) (inl (still, here.entries, here.agrees, refl, known, tt))
        (lines_of_events how.trace more) (lines_of_events how.trace here.more ++ line (end_text whole.end))
        (further_text whole here.more here.is) last halt stops

    pub goes_cut : Asks (so_far ++ more) it.before it.after → made < how.turns → (runs here.entries (made + 1)).events ≡ so_far ++ more → (cut : Cut)
        → StopsTelling (record it.shelf { old = mid }) (recorded more) (lines_of_events how.trace more) now last cut
        → CutsShort runs how fault it first last cut
    goes_cut asked fewer next (Halted halt) stopped =
        goes_early halt (until asked (runs here.entries how.turns).events here.more here.is halt (lines_of_events how.trace more) stopped)
        (stops_text halt (lines_of_events how.trace more) stopped)
    goes_cut asked fewer next Unrecorded stopped =
        stops asked fewer here.entries [] (agrees_all here.entries here.agrees) here.before next here.more here.is (lines_of_events how.trace more) stopped
