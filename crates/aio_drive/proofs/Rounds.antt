-- A round of the driver's loop: a turn was made of a run under way, and its lines are written.
use Rattle.std.proofs.Common.{◌≡◌, ◌==◌, ℕ, zero, suc, ◌+◌, ◌-◌, ◌^◌, ◌<◌, ◌≤◌, Bool, true, false, List, [], ◌++◌, Option, Some, None, Ok, Err, map, refl}
use Rattle.std.proofs.Common.{ap, sym, ◌∙◌, subst, arith}
use Rattle.model_tree.specs.Syntax.{Program}
use Rattle.model_wire.specs.declared.event.End.TheVariants as ends
use Rattle.model_wire.specs.Call.{Answer, Call}
use Rattle.model_wire.specs.Event.{Event}
use Rattle.model_wire.specs.Journal.{Entry, Answered}
use Rattle.model_wire.specs.Told.{Rose, ShelfSeen, SinkSeen, WireSeen, took}
use Rattle.model_wire.specs.Trace.{End, end_text, line, lines_of_events}
use Rattle.model_machine.specs.Outcomes.{end_of}
use Rattle.model_machine.specs.State.{State}
use Rattle.model_machine.specs.Turn.{is_stalled}
use Rattle.model_program.specs.Runs.{run_over}
use Rattle.model_program.specs.Written.{WritesWhole}
use Rattle.model_program.specs.Transcript.{status_of}
use Rattle.model_commands.specs.Causes.{IsCaused}
use Rattle.model_commands.specs.Recorded.{Records, recorded}
use Rattle.aio_wire.specs.Replied.{Stays}
use Rattle.aio_wire.specs.declared.stop.Stop.TheVariants as stop
use Rattle.aio_extra.specs.Added.{Added}
use Rattle.aio_core.specs.Asked.{Asks}
use Rattle.aio_core.specs.Turned.{Begins, KernelGoesOn, KernelStandsFor, TurnedBy, TurnsTo, ended as kernel_ended, untaken}
use Rattle.aio_core.specs.Turning.{AsksBy, OfFailing, Takes, UnlessFailed}
use Rattle.aio_core.specs.declared.kernel.Kernel.{Kernel}
use Rattle.aio_core.specs.declared.went.Went as code
use Rattle.aio_core.specs.declared.went.Went.TheVariants as went
use Rattle.aio_drive.specs.Drive.{CutsShort, Driven, LastOf, MayTell, Undisturbed, driven_over}
use Rattle.aio_drive.specs.Ending.{EndedSo, WroteLast, WroteTurn}
use Rattle.aio_drive.specs.Recording.{CutsMisfit, CutsTurn, Recording, StopsTelling, TellsTurn, is_refused, telling}
use Rattle.aio_drive.specs.Writing.{StopsWriting}
use Rattle.aio_drive.specs.declared.cut.Cut.{Cut}
use Rattle.aio_drive.specs.declared.cut.Cut.TheVariants.{Halted}
use Rattle.aio_drive.specs.declared.driver.Manner.{Manner}
use Rattle.aio_drive.specs.declared.halt.Halt.{Halt}
use Rattle.aio_drive.specs.declared.halt.Halt.TheVariants.{Memory}
use Rattle.aio_drive.proofs.Causes.{ended_caused, limit_caused}
use Rattle.aio_drive.proofs.Driving.{EndsHere, FailsHere, IsDriven, asked_all, ended, ends_last, fails, goes_further, rose_earlier}
use Rattle.aio_drive.proofs.Driving.{running_first, turned_on}
use Rattle.aio_drive.proofs.Exits.{alive, ended-quiet, ended-told, refused, said_as}
use Rattle.aio_drive.proofs.Fronts.{append-nil}
use Rattle.aio_drive.proofs.Telling.{records_events, records_none, stops_after}
use Rattle.aio_drive.proofs.Written.{ends_early, ends_halted, ends_whole, fails_early, fails_whole, goes_cut}

-- A run of a program is under way, in which so many turns were made: what was seen of the wire first and is now, what the sink had first
-- and has now, the file in which answers are recorded with what was seen of its shelf first and is now, that each call of the wire fails,
-- first and now, what stays of the wire while none does, and that the shelf is as it was.
pub record IsUnderWay {X : Type 0} {g : _} (a : Added X) (kept : a.Kept) (program : Program) (how : Manner) (made : ℕ) (kernel : Kernel X g)
    (first_seen now_seen : WireSeen)
    (first now : SinkSeen) (shelf : Recording) (fails_first fails_now quiet same : Type 0) : Type 0 where
  pub left : ℕ
  pub past : List Entry
  pub taken : List Event
  pub running : IsDriven a kept program how made left kernel past taken first_seen now_seen first now
  pub noted : Records shelf.name (recorded taken) shelf.old shelf.new
  pub fails : fails_first → (made ≡ 0) × fails_now
  pub unchanged : quiet
  pub unmade : made ≡ 0 → same

-- one that begins
pub under_way_first : {X : Type 0} {g : _} (a : Added X) (kept : a.Kept) (program : Program) (how : Manner) (kernel : Kernel X g) (seen : WireSeen)
    (sink : SinkSeen)
    (name : Option (List ℕ)) (files : ShelfSeen) (fails quiet same : Type 0) → Begins a kept program kernel → quiet → same
    → IsUnderWay a kept program how 0 kernel seen seen sink sink (record { name = name; old = files; new = files }) fails fails quiet same
under_way_first a kept program how kernel seen sink name files fails quiet same begins still unmade = record {
  left = how.turns;
  past = [];
  taken = [];
  running = running_first a kept program how kernel seen sink begins;
  noted = records_none name files;
  fails = λ all. (refl, all);
  unchanged = still;
  unmade = λ none. unmade;
}

-- its kernel goes on
pub still_goes : {X : Type 0} {g : _} {a : Added X} {kept : a.Kept} {program : Program} {how : Manner} {made : ℕ} {kernel : Kernel X g}
    {first_seen now_seen : WireSeen}
    {first now : SinkSeen} {shelf : Recording} {fails_first fails_now quiet same : Type 0}
    → IsUnderWay a kept program how made kernel first_seen now_seen first now shelf fails_first fails_now quiet same → kernel_ended kernel ≡ None
still_goes under = (under.running.at []).stands.goes

-- a turn is left
pub with_turn : {X : Type 0} {g : _} {a : Added X} {kept : a.Kept} {program : Program} {how : Manner} {made : ℕ} {kernel : Kernel X g} {past : List Entry}
    {taken : List Event}
    {seen now_seen : WireSeen} {first sink : SinkSeen} (left : ℕ) → IsDriven a kept program how made left kernel past taken seen now_seen first sink
    → made < how.turns → (fewer : ℕ) × IsDriven a kept program how made (suc fewer) kernel past taken seen now_seen first sink
with_turn zero running some = absurd (let turns = running.turns in omega arith)
with_turn (suc fewer) running some = (fewer, running)

-- none is
pub none_left : {X : Type 0} {g : _} {a : Added X} {kept : a.Kept} {program : Program} {how : Manner} {made left : ℕ} {kernel : Kernel X g}
    {past : List Entry} {taken : List Event}
    {seen now_seen : WireSeen} {first sink : SinkSeen} → IsDriven a kept program how made left kernel past taken seen now_seen first sink
    → how.turns ≤ made → left ≡ 0
none_left running most = let turns = running.turns in omega arith

some_is : {n m : ℕ} → Some n ≡ Some m → n ≡ m
some_is is = cc is

-- `seen` is the wire as the run began, `now` as the turn did, and `last` after it.
module _ {X : Type 0} {g : _} {a : Added X} {kept : a.Kept} {program : Program} {how : Manner} {made left : ℕ} {kernel new : Kernel X g}
    {past : List Entry} {taken : List Event}
    {now last : WireSeen} {first sink : SinkSeen} {fails_first fails_now quiet_now quiet : Type 0} {result said : code.Went} (seen : WireSeen)
    (running : IsDriven a kept program how made (suc left) kernel past taken seen now first sink)
    (fails_then : fails_first → (made ≡ 0) × fails_now) (stays : Stays seen now)
    (turned : TurnedBy a (record { before = now; after = last; fails = fails_now; quiet = quiet_now }) kernel new result said)
    (quietly : quiet_now → quiet) where
  -- what was asked in it
  asks_now : AsksBy (untaken kernel) (untaken new) now last said
  asks_now = let here = running.at [] in turned.asks taken [] here.s here.stands

  said_so : (w : code.Went) → result ≡ w → (w ≡ went.Stopped stop.Memory → ⊥) → said ≡ w
  said_so w is other = said_as result said turned.either (λ none. other (sym is ∙ none)) ∙ is

  -- and from the first on
  asked_at : (w : code.Went) → result ≡ w → (w ≡ went.Stopped stop.Memory → ⊥) → Asks (taken ++ untaken new) seen last
  asked_at w is other = asked_all new last running said asks_now (λ none. other (sym (said_so w is other) ∙ none))

  ends_at : (end : End) → EndedSo end said
      → EndsHere (run_over a.meaning kept program) how made taken seen.left (taken ++ untaken new) end × Undisturbed fails_first quiet
  ends_at end what = (
    ended new last running said turned.turns end what,
    (
      λ fails.
          let (none, here) = fails_then fails in
          alive new last running said turned.turns (ended-told said end what) (turned.failing here) none,
      quietly (ended-quiet said end quiet_now what turned.unchanged),
    ),
  )

  -- why it ended so
  caused_at : (end : End) → EndedSo end said → IsCaused seen last end
  caused_at end what = let here = running.at [] in ended_caused seen now last said end what (turned.caused taken [] here.s here.stands) stays.0

  fails_at : (call : Call) → said ≡ went.Stopped (stop.Failed call)
      → FailsHere (run_over a.meaning kept program) how made taken seen.left (taken ++ untaken new) × Rose seen.faults last.faults
  fails_at call is =
      let (here, rose) = fails new last running said turned.turns call is in
      (here, rose_earlier seen.faults now.faults last.faults stays.1 rose)

  pub goes_at : result ≡ went.Went
      → (had : List Answer) × (Takes now.left last.left had × (KernelGoesOn a had kernel new × Undisturbed fails_first quiet))
  goes_at is =
      let went = said_so went.Went is (λ e. cc e) in
      let (had, (takes, goes)) = subst (λ (w : code.Went). TurnsTo a now last kernel new w) went turned.turns in (
        had,
        (
          takes,
          (
            goes,
            (
              λ fails. subst OfFailing went (turned.failing (fails_then fails).1),
              quietly (subst (λ (w : code.Went). UnlessFailed quiet_now w) went turned.unchanged),
            ),
          ),
        ),
      )

  -- `shelf` is the shelf with the file in which answers are recorded, and `mid` what was seen of it as the turn began
  module _ (shelf : Recording) (same : Type 0) (mid : ShelfSeen) (noted : Records shelf.name (recorded taken) shelf.old mid) (fault : End) where
    abbrev it : Driven
    it = driven_over seen last fails_first quiet shelf same

    -- nothing more was recorded or written
    pub refused_at : mid ≡ shelf.new → (made ≡ 0 → same) → CutsShort (run_over a.meaning kept program) how fault it first sink (Halted Memory)
    refused_at unnoted unmade =
        refused new seen last fault fails_first fails_now quiet shelf same running (rose_earlier seen.faults now.faults last.faults stays.1) fails_then
        (subst (λ (s : ShelfSeen). Records shelf.name (recorded taken) shelf.old s) unnoted noted) unmade quiet_now said turned.turns
        (still_as said turned.unchanged) asks_now (let here = running.at [] in turned.starved taken [] here.s here.stands) turned.failing
      where
        still_as : (w : code.Went) → UnlessFailed quiet_now w → UnlessFailed quiet w
        still_as went.Went still = quietly still
        still_as (went.Finished outcome) still = quietly still
        still_as went.Stalled still = quietly still
        still_as (went.Runaway task) still = quietly still
        still_as (went.Stopped (stop.Over call)) still = quietly still
        still_as (went.Stopped (stop.Bad fault)) still = quietly still
        still_as (went.Stopped (stop.Mismatch count call)) still = quietly still
        still_as (went.Stopped (stop.Failed call)) still = tt
        still_as (went.Stopped stop.Memory) still = quietly still

    -- ---- what is recorded and written, where the events that were taken out are these
    module _ (final : SinkSeen) (events : List Event) (out : events ≡ untaken new) where
      abbrev lines : List ℕ
      lines = lines_of_events how.trace events

      abbrev here_on : Recording
      here_on = record shelf { old = mid }

      -- what is said of these events is said of those
      tells : (text : List ℕ → List ℕ) (cut : Cut)
          → StopsTelling here_on (recorded events) (text lines) sink final cut
          → StopsTelling here_on (recorded (untaken new)) (text (lines_of_events how.trace (untaken new))) sink final cut
      tells text cut stops =
          subst (λ (es : List Event). StopsTelling here_on (recorded es) (text (lines_of_events how.trace es)) sink final cut) out stops

      fewer : made < how.turns
      fewer = let turns = running.turns in omega arith

      records : Records shelf.name (recorded events) mid shelf.new → Records shelf.name (recorded (untaken new)) mid shelf.new
      records done = subst (λ (es : List Event). Records shelf.name (recorded es) mid shelf.new) out done

      ends_ok : (end : End) (w : code.Went) → result ≡ w → (w ≡ went.Stopped stop.Memory → ⊥) → EndedSo end w
          → Records shelf.name (recorded events) mid shelf.new → (status : ℕ) → WroteLast end lines sink final (Some status)
          → WritesWhole (MayTell (run_over a.meaning kept program) how fault it) first final status
      ends_ok end w is other so done status (said_status, wrote) =
          let ended_as = subst (λ (w : code.Went). EndedSo end w) (sym (said_so w is other)) so in
          let (here, still) = ends_at end ended_as in
          ends_whole (run_over a.meaning kept program) how fault it made first sink final mid taken (untaken new) running.sink noted here still
          (asked_at w is other) (records done) (caused_at end ended_as) status (some_is said_status)
          (wrote ∙ ap (λ (es : List Event). took sink (lines_of_events how.trace es ++ line (end_text end))) out)

      ends_err : (end : End) (w : code.Went) → result ≡ w → (w ≡ went.Stopped stop.Memory → ⊥) → EndedSo end w
          → (cut : Cut) → StopsTelling here_on (recorded events) (lines ++ line (end_text end)) sink final cut
          → CutsShort (run_over a.meaning kept program) how fault it first final cut
      ends_err end w is other so cut stops =
          let (here, still) = ends_at end (subst (λ (w : code.Went). EndedSo end w) (sym (said_so w is other)) so) in
          ends_early (run_over a.meaning kept program) how fault it made first sink final mid taken (untaken new) running.sink noted here still
          (asked_at w is other) fewer cut (tells (λ t. t ++ line (end_text end)) cut stops)

      ended_so : (w : code.Went) → result ≡ w → is_refused w ≡ false → Records shelf.name (recorded events) mid shelf.new → (status : ℕ)
          → WroteTurn fault lines sink final (Some status) w → WritesWhole (MayTell (run_over a.meaning kept program) how fault it) first final status
      ended_so went.Went is held done status (none, wrote) = absurd (cc none)
      ended_so (went.Finished outcome) is held done status written =
          ends_ok (end_of outcome) (went.Finished outcome) is (λ e. cc e) refl done status written
      ended_so went.Stalled is held done status written = ends_ok ends.Stalled went.Stalled is (λ e. cc e) refl done status written
      ended_so (went.Runaway task) is held done status written =
          ends_ok (ends.Runaway task) (went.Runaway task) is (λ e. cc e) refl done status written
      ended_so (went.Stopped (stop.Over call)) is held done status written =
          ends_ok (ends.Over call) (went.Stopped (stop.Over call)) is (λ e. cc e) refl done status written
      ended_so (went.Stopped (stop.Bad bad)) is held done status written =
          ends_ok (ends.JournalRefused bad.line bad.cause) (went.Stopped (stop.Bad bad)) is (λ e. cc e) refl done status written
      ended_so (went.Stopped (stop.Mismatch count call)) is held done status written =
          ends_ok (ends.Mismatch count call) (went.Stopped (stop.Mismatch count call)) is (λ e. cc e) (refl, held) done status written
      ended_so (went.Stopped (stop.Failed call)) is held done status (said_status, wrote) =
          let (here, rose) = fails_at call (said_so (went.Stopped (stop.Failed call)) is (λ e. cc e)) in
          fails_whole (run_over a.meaning kept program) how fault it made first sink final mid taken (untaken new) running.sink noted here rose
          (asked_at (went.Stopped (stop.Failed call)) is (λ e. cc e)) (records done) status (some_is said_status)
          (wrote ∙ ap (λ (es : List Event). took sink (lines_of_events how.trace es ++ line (end_text fault))) out)
      ended_so (went.Stopped stop.Memory) is held done status none = absurd none

      -- a run that ended with this turn
      pub turn_ok : is_refused result ≡ false → Records shelf.name (recorded events) mid shelf.new → (told : Option ℕ) (status : ℕ) → told ≡ Some status
          → WroteTurn fault lines sink final told result → WritesWhole (MayTell (run_over a.meaning kept program) how fault it) first final status
      turn_ok held done told status is written =
          ended_so result refl held done status (subst (λ (s : Option ℕ). WroteTurn fault lines sink final s result) is written)

      -- nothing was told of it
      refused_so : mid ≡ shelf.new → (made ≡ 0 → same) → (cut : Cut) → cut ≡ Halted Memory → final ≡ sink → CutsShort
          (run_over a.meaning kept program) how fault it first final cut
      refused_so unnoted unmade cut memory unwritten =
          subst (λ (c : Cut). CutsShort (run_over a.meaning kept program) how fault it first final c) (sym memory)
          (subst (λ (s : SinkSeen). CutsShort (run_over a.meaning kept program) how fault it first s (Halted Memory)) (sym unwritten)
          (refused_at unnoted unmade))

      -- one of which not all was told
      pub turn_err : (w : code.Went) → result ≡ w → (is_refused w ≡ true → mid ≡ shelf.new) → (made ≡ 0 → is_refused w ≡ true → same)
          → (cut : Cut) → CutsTurn here_on (telling how.trace fault events) sink final cut w → CutsShort
          (run_over a.meaning kept program) how fault it first final cut
      turn_err went.Went is unnoted unmade cut stops =
          let (had, (takes, (goes, still))) = goes_at is in
          let turns = goes_further new last running had takes goes in
          goes_cut (run_over a.meaning kept program) how fault it made first sink final mid taken (untaken new) running.sink noted turns.here still
          (asked_at went.Went is (λ e. cc e)) fewer turns.next cut (tells (λ t. t) cut stops)
      turn_err (went.Finished outcome) is unnoted unmade cut stops =
          ends_err (end_of outcome) (went.Finished outcome) is (λ e. cc e) refl cut stops
      turn_err went.Stalled is unnoted unmade cut stops = ends_err ends.Stalled went.Stalled is (λ e. cc e) refl cut stops
      turn_err (went.Runaway task) is unnoted unmade cut stops =
          ends_err (ends.Runaway task) (went.Runaway task) is (λ e. cc e) refl cut stops
      turn_err (went.Stopped (stop.Over call)) is unnoted unmade cut stops =
          ends_err (ends.Over call) (went.Stopped (stop.Over call)) is (λ e. cc e) refl cut stops
      turn_err (went.Stopped (stop.Bad bad)) is unnoted unmade cut stops =
          ends_err (ends.JournalRefused bad.line bad.cause) (went.Stopped (stop.Bad bad)) is (λ e. cc e) refl cut stops
      turn_err (went.Stopped (stop.Mismatch count call)) is unnoted unmade cut stops = by (count == 2 ^ 64 - 1) refl stops
        where
          by : (b : Bool) → (count == 2 ^ 64 - 1) ≡ b → CutsMisfit b here_on (telling how.trace fault events) (ends.Mismatch count call) sink final cut
              → CutsShort (run_over a.meaning kept program) how fault it first final cut
          by false held stops = ends_err (ends.Mismatch count call) (went.Stopped (stop.Mismatch count call)) is (λ e. cc e) (refl, held) cut stops
          by true past_it (memory, unwritten) = refused_so (unnoted past_it) (λ none. unmade none past_it) cut memory unwritten
      turn_err (went.Stopped (stop.Failed call)) is unnoted unmade cut stops =
          let (here, rose) = fails_at call (said_so (went.Stopped (stop.Failed call)) is (λ e. cc e)) in
          fails_early (run_over a.meaning kept program) how fault it made first sink final mid taken (untaken new) running.sink noted here rose
          (asked_at (went.Stopped (stop.Failed call)) is (λ e. cc e)) fewer cut (tells (λ t. t ++ line (end_text fault)) cut stops)
      turn_err (went.Stopped stop.Memory) is unnoted unmade cut (memory, unwritten) =
          refused_so (unnoted refl) (λ none. unmade none refl) cut memory unwritten

  -- ---- no run ended, where no status was answered
  module _ (fault : End) (final : SinkSeen) (events : List Event) (out : events ≡ untaken new) where
    goes_unless : (w : code.Went) → WroteTurn fault (lines_of_events how.trace events) sink final None w
        → (w ≡ went.Went) × (final ≡ took sink (lines_of_events how.trace events))
    goes_unless went.Went (none, wrote) = (refl, wrote)
    goes_unless (went.Finished outcome) (some, wrote) = absurd (cc some)
    goes_unless went.Stalled (some, wrote) = absurd (cc some)
    goes_unless (went.Runaway task) (some, wrote) = absurd (cc some)
    goes_unless (went.Stopped (stop.Over call)) (some, wrote) = absurd (cc some)
    goes_unless (went.Stopped (stop.Bad it)) (some, wrote) = absurd (cc some)
    goes_unless (went.Stopped (stop.Mismatch count call)) (some, wrote) = absurd (cc some)
    goes_unless (went.Stopped (stop.Failed call)) (some, wrote) = absurd (cc some)
    goes_unless (went.Stopped stop.Memory) none = absurd none

    goes_so : (told : Option ℕ) → told ≡ None → WroteTurn fault (lines_of_events how.trace events) sink final told result
        → (result ≡ went.Went) × (final ≡ took sink (lines_of_events how.trace events))
    goes_so told is written =
        goes_unless result (subst (λ (s : Option ℕ). WroteTurn fault (lines_of_events how.trace events) sink final s result) is written)

    pub turn_goes : (told : Option ℕ) → told ≡ None → WroteTurn fault (lines_of_events how.trace events) sink final told result → result ≡ went.Went
    turn_goes told is written = (goes_so told is written).0

    -- the run is under way after it
    pub goes_on : (told : Option ℕ) → told ≡ None → WroteTurn fault (lines_of_events how.trace events) sink final told result → (after : Kernel X g)
        → ((past : List Event) (answers : List Entry) (s : State a.Kept) → KernelStandsFor a past answers new s
        → KernelStandsFor a (past ++ untaken new) answers after s)
        → untaken after ≡ [] → (name : Option (List ℕ)) (old_shelf mid_shelf new_shelf : ShelfSeen)
        → Records name (recorded taken) old_shelf mid_shelf → Records name (recorded events) mid_shelf new_shelf
        → (left_then : ℕ) × (past_then : List Entry) × (taken_then : List Event)
        × (IsDriven a kept program how (made + 1) left_then after past_then taken_then seen last first final
        × Records name (recorded taken_then) old_shelf new_shelf)
    goes_on told unsaid written after takes_out none name old_shelf mid_shelf new_shelf noted done =
        let (is, wrote) = goes_so told unsaid written in
        let (had, (takes, (goes, still))) = goes_at is in (
          left,
          past ++ map Answered had,
          taken ++ untaken new,
          (
            turned_on new last running had takes goes after final takes_out none
                (wrote ∙ ap (λ (es : List Event). took sink (lines_of_events how.trace es)) out) (asked_at went.Went is (λ e. cc e)),
            records_events name taken (untaken new) old_shelf mid_shelf new_shelf noted
                (subst (λ (es : List Event). Records name (recorded es) mid_shelf new_shelf) out done),
          ),
        )

-- ---- a round, by what it told
module _ {X : Type 0} {g : _} {a : Added X} {kept : a.Kept} {program : Program} {how : Manner} {made : ℕ} {kernel new : Kernel X g} {now last : WireSeen}
    {first sink late : SinkSeen}
    {name : Option (List ℕ)} {old_files files new_files : ShelfSeen} {fails_first fails_now quiet_then quiet_now quiet same_then same_now : Type 0}
    {fault : End} (seen : WireSeen)
    (under : IsUnderWay a kept program how made kernel seen now first sink (record { name = name; old = old_files; new = files }) fails_first fails_now
    quiet_then same_then)
    (some : made < how.turns) (stays : Stays seen now) (quietly : quiet_now → quiet) (same : Type 0) where
  -- the run ended
  pub round_ok : (told : Option ℕ) (status : ℕ) → told ≡ Some status
      → TellsTurn a how.trace fault (record { before = now; after = last; fails = fails_now; quiet = quiet_now })
      (record { name = name; old = files; new = new_files }) same_now sink late kernel new (Ok told)
      → WritesWhole (MayTell (run_over a.meaning kept program) how fault
      (driven_over seen last fails_first quiet (record { name = name; old = old_files; new = new_files }) same)) first late status
  round_ok told status is it =
      let (fewer, running) = with_turn under.left under.running some in
      turn_ok seen running under.fails stays it.turned quietly (record { name = name; old = old_files; new = new_files }) same files under.noted
      fault late (untaken it.mid) refl it.told it.noted told status is it.ok

  -- not all was told
  pub round_err : (same_now → files ≡ new_files) → (same_now → same_then → same) → (cut : Cut)
      → TellsTurn a how.trace fault (record { before = now; after = last; fails = fails_now; quiet = quiet_now })
      (record { name = name; old = files; new = new_files }) same_now sink late kernel new (Err cut)
      → CutsShort (run_over a.meaning kept program) how fault
      (driven_over seen last fails_first quiet (record { name = name; old = old_files; new = new_files }) same) first late cut
  round_err seen_same same_on cut it =
      let (fewer, running) = with_turn under.left under.running some in
      turn_err seen running under.fails stays it.turned quietly (record { name = name; old = old_files; new = new_files }) same files under.noted
      fault late (untaken it.mid) refl it.went refl (λ none. seen_same (it.refused none))
      (λ first none. same_on (it.refused none) (under.unmade first)) cut it.err

  -- the run goes on
  pub round_on : (fails_then : Type 0) (told : Option ℕ) → told ≡ None
      → TellsTurn a how.trace fault (record { before = now; after = last; fails = fails_now; quiet = quiet_now })
      (record { name = name; old = files; new = new_files }) same_now sink late kernel new (Ok told)
      → IsUnderWay a kept program how (made + 1) new seen last first late (record { name = name; old = old_files; new = new_files }) fails_first fails_then
      quiet same
  round_on fails_then told is it =
      let (fewer, running) = with_turn under.left under.running some in
      let goes = turn_goes seen running under.fails stays it.turned quietly fault late (untaken it.mid) refl told is it.ok in
      let (had, (takes, (so, still))) = goes_at seen running under.fails stays it.turned quietly goes in
      let (left, past, taken, (running_then, noted)) =
      goes_on seen running under.fails stays it.turned quietly fault late (untaken it.mid) refl told is it.ok new it.stands it.left
      name old_files files new_files under.noted it.noted
      in
      record {
        left = left;
        past = past;
        taken = taken;
        running = running_then;
        noted = noted;
        fails = λ fails. absurd (still.0 fails);
        unchanged = still.1;
        unmade = λ none. absurd (omega arith);
      }

-- Where no turn is left. Nothing more is recorded.
module _ {X : Type 0} {g : _} {a : Added X} {kept : a.Kept} {program : Program} {how : Manner} {made : ℕ} {kernel : Kernel X g} {first sink : SinkSeen}
    {shelf : Recording}
    {fails_first fails_now quiet same : Type 0} (seen now : WireSeen)
    (under : IsUnderWay a kept program how made kernel seen now first sink shelf fails_first fails_now quiet same) (some : 1 ≤ how.turns)
    (most : how.turns ≤ made) (fault : End) (final : SinkSeen) where
  abbrev running : IsDriven a kept program how made under.left kernel under.past under.taken seen now first sink
  running = under.running

  abbrev taken : List Event
  taken = under.taken

  still : Undisturbed fails_first quiet
  still = (λ fails. absurd (let (none, here) = under.fails fails in omega arith), under.unchanged)

  abbrev last_it : Driven
  last_it = driven_over seen now fails_first quiet shelf same

  last_here : (end : End) → LastOf a kernel how.turns end → EndsHere (run_over a.meaning kept program) how made taken seen.left (taken ++ []) end
  last_here end is =
      subst (λ (es : List Event). EndsHere (run_over a.meaning kept program) how made taken seen.left es end) (sym (append-nil taken))
      (ends_last running (none_left running most) end is)

  last_caused : (end : End) → LastOf a kernel how.turns end → IsCaused seen now end
  last_caused end is =
      let here = running.at [] in
      subst (IsCaused seen now) (sym (is taken [] here.s here.stands)) (limit_caused seen now (is_stalled a.meaning here.s) how.turns)

  last_asked : Asks (taken ++ []) seen now
  last_asked = subst (λ (es : List Event). Asks es seen now) (sym (append-nil taken)) running.asked

  pub last_ok : (end : End) → LastOf a kernel how.turns end → (status : ℕ) → (status ≡ status_of end) × (final ≡ took sink (line (end_text end)))
      → WritesWhole (MayTell (run_over a.meaning kept program) how fault last_it) first final status
  last_ok end is status (said_so, wrote) =
      ends_whole (run_over a.meaning kept program) how fault last_it made first sink final shelf.new taken [] running.sink under.noted
      (last_here end is) still last_asked
      (records_none shelf.name shelf.new) (last_caused end is) status said_so wrote

  pub last_err : (end : End) → LastOf a kernel how.turns end → (halt : Halt) → StopsWriting (line (end_text end)) sink final halt
      → CutsShort (run_over a.meaning kept program) how fault last_it first final (Halted halt)
  last_err end is halt stops =
      ends_halted (run_over a.meaning kept program) how fault last_it made first sink final shelf.new taken [] running.sink under.noted
      (last_here end is) still last_asked halt
      (stops_after (record shelf { old = shelf.new }) [] (line (end_text end)) sink final halt (records_none shelf.name shelf.new) stops)
