-- What is known of a turn by what was said of it.
use Rattle.std.proofs.Common.{◌≡◌, ℕ, ◌≤◌, zero, suc, List, [], ◌∷◌, ◌++◌, ◌⊎◌, inl, inr, length, refl, ap, sym, ◌∙◌, subst, append_assoc, arith}
use Rattle.model_tree.specs.Syntax.{Program}
use Rattle.model_says.specs.Says.{step_limit}
use Rattle.model_wire.specs.declared.event.End.TheVariants as ends
use Rattle.model_wire.specs.Call.{Call}
use Rattle.model_wire.specs.Event.{Event, calls_in}
use Rattle.model_wire.specs.Journal.{Entry}
use Rattle.model_wire.specs.Told.{Rose, SinkSeen, WireSeen}
use Rattle.model_wire.specs.Trace.{End, lines_of_events}
use Rattle.model_machine.specs.Extra.{Extra}
use Rattle.model_machine.specs.Replies.{most_ids}
use Rattle.model_machine.specs.State.{State, start}
use Rattle.model_machine.specs.Turn.{turn}
use Rattle.model_machine.specs.Went.{Stops}
use Rattle.model_program.specs.Runs.{run_over}
use Rattle.aio_wire.specs.declared.stop.Stop.TheVariants as stop
use Rattle.aio_extra.specs.Added.{Added}
use Rattle.aio_core.specs.Asked.{Asks}
use Rattle.aio_core.specs.Turned.{TurnsTo, stood_for, untaken}
use Rattle.aio_core.specs.Turning.{AsksBy, IsStarved, OfFailing, StarvesAs, UnlessFailed, WireTurn}
use Rattle.aio_core.proofs.Asked.{asks_then}
use Rattle.aio_record.proofs.Growing.{recorded-append}
use Rattle.aio_core.specs.declared.kernel.Kernel.{Kernel}
use Rattle.aio_core.specs.declared.went.Went as code
use Rattle.aio_core.specs.declared.went.Went.TheVariants as went
use Rattle.model_commands.specs.Recorded.{Records, recorded}
use Rattle.aio_drive.specs.Drive.{Driven, IsUntold, MayDrive, driven_over, wire_until}
use Rattle.aio_drive.specs.Ending.{EndedSo}
use Rattle.aio_drive.specs.Outcome.{EndsEarly}
use Rattle.aio_drive.specs.Recording.{Recording}
use Rattle.aio_drive.specs.declared.driver.Manner.{Manner}
use Rattle.aio_drive.specs.declared.halt.Halt.TheVariants.{Memory}
use Rattle.aio_drive.proofs.Driving.{GoesOnHere, IsDriven, IsTold, asked_all, fails_so, starved_here, told_here}
use Rattle.aio_drive.proofs.Fronts.{append-nil, took-nil}
use Rattle.aio_drive.proofs.Telling.{records_none}
use Rattle.aio_drive.proofs.Written.{fails_silent, goes_early, nothing_at_all}

-- a run that begins asks
pub start-asks : {S : Type 0} (added : Extra S) (first : S) (program : Program) (last : State S)
    → turn step_limit added (start most_ids first program []) ≡ Stops ends.Stalled last → ⊥
unfolding turn
start-asks added first program last e = cc e

-- what was answered is what was said, unless memory was refused
pub said_as : (result said : code.Went) → (result ≡ said) ⊎ (result ≡ went.Stopped stop.Memory) → (result ≡ went.Stopped stop.Memory → ⊥)
    → said ≡ result
said_as result said (inl same) other = sym same
said_as result said (inr none) other = absurd (other none)

-- whether the wire failed in it
pub failed_or : (said : code.Went) (fact : Type 0) → UnlessFailed fact said → ((call : Call) × (said ≡ went.Stopped (stop.Failed call))) ⊎ fact
failed_or went.Went fact is = inr is
failed_or (went.Finished outcome) fact is = inr is
failed_or went.Stalled fact is = inr is
failed_or (went.Runaway task) fact is = inr is
failed_or (went.Stopped (stop.Over call)) fact is = inr is
failed_or (went.Stopped (stop.Bad fault)) fact is = inr is
failed_or (went.Stopped (stop.Mismatch count call)) fact is = inr is
failed_or (went.Stopped (stop.Failed call)) fact is = inl (call, refl)
failed_or (went.Stopped stop.Memory) fact is = inr is

-- it didn't where the run ended
pub ended-quiet : (said : code.Went) (end : End) (fact : Type 0) → EndedSo end said → UnlessFailed fact said → fact
ended-quiet said end fact is quiet = at (failed_or said fact quiet)
  where
    at : ((call : Call) × (said ≡ went.Stopped (stop.Failed call))) ⊎ fact → fact
    at (inl (call, failed)) = absurd (subst (λ (w : code.Went). EndedSo end w) failed is)
    at (inr holds) = holds

module _ {X : Type 0} {g : _} {a : Added X} {kept : a.Kept} {program : Program} {how : Manner} {made left : ℕ} {kernel : Kernel X g} {past : List Entry}
    {taken : List Event}
    {first_seen now_seen : WireSeen} {first sink : SinkSeen} (new : Kernel X g) (new_seen : WireSeen)
    (running : IsDriven a kept program how made (suc left) kernel past taken first_seen now_seen first sink) where
  -- nothing of a run is told in its first turn over a wire that fails at each call
  pub alive : (said : code.Went) → TurnsTo a now_seen new_seen kernel new said → IsTold said → OfFailing said → made ≡ 0 → ⊥
  alive went.Went comes told failing none = failing
  alive (went.Finished outcome) comes told failing none = failing
  alive went.Stalled (same, turns) told failing none =
      let here = running.at [] in
      let it = turns taken [] here.s tt here.stands in
      start-asks a.meaning kept program it.last
      (subst (λ (s : State a.Kept). turn step_limit a.meaning s ≡ Stops ends.Stalled it.last) (here.begun none)
      (it.stops ∙ ap (λ (e : End). Stops e it.last) it.way))
  alive (went.Runaway task) comes told failing none = failing
  alive (went.Stopped (stop.Over call)) comes told failing none = failing
  alive (went.Stopped (stop.Bad fault)) comes told failing none = failing
  alive (went.Stopped (stop.Mismatch count call)) comes told failing none = failing
  alive (went.Stopped (stop.Failed call)) comes told failing none = told
  alive (went.Stopped stop.Memory) comes told failing none = told

-- a turn with which the run ended tells of it
pub ended-told : (said : code.Went) (end : End) → EndedSo end said → IsTold said
ended-told went.Went end so = tt
ended-told (went.Finished outcome) end so = tt
ended-told went.Stalled end so = tt
ended-told (went.Runaway task) end so = tt
ended-told (went.Stopped (stop.Over call)) end so = tt
ended-told (went.Stopped (stop.Bad fault)) end so = tt
ended-told (went.Stopped (stop.Mismatch count call)) end so = tt
ended-told (went.Stopped (stop.Failed call)) end so = so
ended-told (went.Stopped stop.Memory) end so = so

-- Memory was refused in the turn, or after it: nothing more was recorded or written.
module _ {X : Type 0} {g : _} {a : Added X} {kept : a.Kept} {program : Program} {how : Manner} {made left : ℕ} {kernel : Kernel X g} {past : List Entry}
    {taken : List Event}
    {now : WireSeen} {first sink : SinkSeen} (new : Kernel X g) (seen last : WireSeen) (fault : End) (fails fails_now quiet : Type 0)
    (shelf : Recording) (same : Type 0) (running : IsDriven a kept program how made (suc left) kernel past taken seen now first sink)
    (rose : Rose now.faults last.faults → Rose seen.faults last.faults) (fails_then : fails → (made ≡ 0) × fails_now)
    (noted : Records shelf.name (recorded taken) shelf.old shelf.new) (unmade : made ≡ 0 → same) where
  abbrev it : Driven
  it = driven_over seen last fails quiet shelf same

  abbrev over : Type 0 → WireTurn
  over quiet_now = record { before = now; after = last; fails = fails_now; quiet = quiet_now }

  abbrev EndsUnsaid : SinkSeen → SinkSeen → Type 0
  EndsUnsaid old late = EndsEarly (MayDrive (run_over a.meaning kept program) how fault (wire_until Memory it)) (IsUntold it) old late Memory

  -- these events were told besides, and one call more was asked at most
  cut_there : (more besides : List Event) → GoesOnHere (run_over a.meaning kept program) how made taken seen.left (taken ++ more) → (fails → ⊥) → quiet
      → length (calls_in besides) ≤ 1 → Asks ((taken ++ more) ++ besides) seen last → EndsUnsaid first sink
  cut_there more besides here alive_ holds one asked =
      goes_early (run_over a.meaning kept program) how fault it made first sink sink shelf.new taken more running.sink noted here (alive_, holds) Memory (
        taken ++ more,
        here.more,
        here.is,
        (besides, one, asked),
        (recorded taken, (recorded more, sym (recorded-append taken more)), noted),
      ) ([], (lines_of_events how.trace more, refl), sym (took-nil sink))

  -- a turn that was made
  told_there : (said : code.Went) → IsTold said → TurnsTo a now last kernel new said → (fails_now → OfFailing said) → quiet
      → Asks (taken ++ untaken new) seen last → EndsUnsaid first sink
  told_there said told comes failing holds asked =
      cut_there (untaken new) [] (told_here new last running said told comes)
      (λ all. let (none, now_fails) = fails_then all in alive new last running said comes told (failing now_fails) none) holds (omega arith)
      (subst (λ es. Asks es seen last) (sym (append-nil (taken ++ untaken new))) asked)

  -- one in which memory was refused
  module _ (quiet_now : Type 0)
      (starved : IsStarved a.meaning (over quiet_now) (stood_for a kernel) (untaken kernel))
      (holds : quiet) where
    all_asked : Asks ((taken ++ starved.first) ++ starved.more) seen last
    all_asked =
        subst (λ es. Asks es seen last) (sym (append_assoc taken starved.first starved.more))
        (asks_then taken (starved.first ++ starved.more) seen now last running.asked starved.asks)

    hungry : (fails → ⊥) → EndsUnsaid first sink
    hungry alive_ =
        cut_there starved.first starved.more (starved_here new last running (over quiet_now) refl starved) alive_ holds starved.one all_asked

    -- nothing was asked but one call at most
    unbegun : made ≡ 0 → starved.first ≡ [] → EndsUnsaid first sink
    unbegun none empty =
        nothing_at_all (MayDrive (run_over a.meaning kept program) how fault (wire_until Memory it)) (IsUntold it) first sink
        (lines_of_events how.trace taken) running.sink (ap (lines_of_events how.trace) (running.begun none)) (
          (
            holds,
            (
              starved.more,
              starved.one,
              subst (λ es. Asks (es ++ starved.more) seen last) (ap (λ es. es ++ starved.first) (running.begun none) ∙ empty) all_asked,
            ),
          ),
          unmade none,
        )

    starves : EndsUnsaid first sink
    starves = by_turns made refl
      where
        some : (es : List Event) → starved.first ≡ es → made ≡ 0 → EndsUnsaid first sink
        some [] empty none = unbegun none empty
        some (e ∷ es) is none = hungry (λ all. absurd (let empty = sym is ∙ starved.failing (fails_then all).1 in cc empty))

        by_turns : (n : ℕ) → made ≡ n → EndsUnsaid first sink
        by_turns zero none = some starved.first refl none
        by_turns (suc n) is = hungry (λ all. absurd (let none = sym is ∙ (fails_then all).0 in cc none))

  pub refused : (quiet_now : Type 0) (said : code.Went) → TurnsTo a now last kernel new said → UnlessFailed quiet said
      → AsksBy (untaken kernel) (untaken new) now last said
      → StarvesAs a.meaning (over quiet_now) (stood_for a kernel) (untaken kernel) said
      → (fails_now → OfFailing said) → EndsUnsaid first sink
  refused quiet_now said comes still asks starved failing = at said comes still (λ other. asked_all new last running said asks other) starved failing
    where
      at : (said : code.Went) → TurnsTo a now last kernel new said → UnlessFailed quiet said
          → ((said ≡ went.Stopped stop.Memory → ⊥) → Asks (taken ++ untaken new) seen last)
          → StarvesAs a.meaning (over quiet_now) (stood_for a kernel) (untaken kernel) said
          → (fails_now → OfFailing said) → EndsUnsaid first sink
      at went.Went comes still asked starved failing = told_there went.Went tt comes failing still (asked (λ e. cc e))
      at (went.Finished outcome) comes still asked starved failing = told_there (went.Finished outcome) tt comes failing still (asked (λ e. cc e))
      at went.Stalled comes still asked starved failing = told_there went.Stalled tt comes failing still (asked (λ e. cc e))
      at (went.Runaway task) comes still asked starved failing = told_there (went.Runaway task) tt comes failing still (asked (λ e. cc e))
      at (went.Stopped (stop.Over call)) comes still asked starved failing =
          told_there (went.Stopped (stop.Over call)) tt comes failing still (asked (λ e. cc e))
      at (went.Stopped (stop.Bad bad)) comes still asked starved failing =
          told_there (went.Stopped (stop.Bad bad)) tt comes failing still (asked (λ e. cc e))
      at (went.Stopped (stop.Mismatch count call)) comes still asked starved failing =
          told_there (went.Stopped (stop.Mismatch count call)) tt comes failing still (asked (λ e. cc e))
      at (went.Stopped (stop.Failed call)) comes still asked starved failing =
          fails_silent (run_over a.meaning kept program) how fault it made first sink sink shelf.new taken (untaken new) running.sink noted
          (fails_so new last running call comes) (rose comes.1.2) (asked (λ e. cc e)) (records_none shelf.name shelf.new) refl
      at (went.Stopped stop.Memory) comes still asked starved failing = starves quiet_now starved still
