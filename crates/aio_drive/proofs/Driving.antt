-- A run under way: what was written, what is left, and each way out.
use Rattle.std.proofs.Common.{◌≡◌, ◌==◌, ◌⊎◌, inl, inr, ℕ, suc, ◌+◌, ◌-◌, ◌^◌, ◌<◌, ◌≤◌, false, List, [], ◌∷◌, ◌++◌, Option, Some, None, map, min}
use Rattle.std.proofs.lemmas.Bool.{cases_lt, eq-eqb, true≢false}
use Rattle.std.proofs.Common.{refl, ap, sym, ◌∙◌, subst, append_assoc, arith}
use Rattle.model_value.specs.Value.{Outcome}
use Rattle.model_tree.specs.Syntax.{Program}
use Rattle.model_says.specs.Says.{step_limit}
use Rattle.model_wire.specs.declared.event.End.TheVariants as ends
use Rattle.model_wire.specs.Call.{Answer, Call}
use Rattle.model_wire.specs.Event.{Event}
use Rattle.model_wire.specs.Journal.{Entry, Answered}
use Rattle.model_wire.specs.Told.{Agrees, Rose, SinkSeen, WireSeen, took}
use Rattle.model_wire.specs.Trace.{End, lines_of_events}
use Rattle.model_machine.specs.Replies.{most_ids}
use Rattle.model_machine.specs.Outcomes.{end_of}
use Rattle.model_machine.specs.Run.{Run, run_after, run_on, turns_over}
use Rattle.model_program.specs.Runs.{run_over}
use Rattle.model_machine.specs.State.{State, start}
use Rattle.model_machine.specs.Turn.{is_stalled, turn}
use Rattle.model_machine.specs.Went.{Went, Goes, Stops, answers_in, state_of}
use Rattle.law_runs.proofs.Turns.{run-grows}
use Rattle.aio_wire.specs.Told.{refused_of}
use Rattle.aio_wire.specs.declared.stop.Stop.TheVariants as stop
use Rattle.aio_extra.specs.Added.{Added}
use Rattle.law_runs.specs.Growth as growth
use Rattle.aio_core.specs.Turned.{Begins, Ends, EndsAs, KernelGoesOn, KernelStandsFor, TurnsTo, held_tasks, stood_for, untaken}
use Rattle.aio_core.specs.Asked.{Asks}
use Rattle.aio_core.specs.Turning.{AnyLeft, AsksBy, Is, IsFinished, IsMismatch, IsStarved, Takes, WireTurn}
use Rattle.aio_core.proofs.Asked.{asks_none, asks_then}
use Rattle.aio_core.specs.declared.kernel.Kernel.{Kernel}
use Rattle.aio_core.specs.declared.went.Went as code
use Rattle.aio_core.specs.declared.went.Went.TheVariants as went
use Rattle.aio_drive.specs.Drive.{Runs}
use Rattle.aio_drive.specs.Ending.{EndedSo}
use Rattle.aio_drive.specs.declared.driver.Manner.{Manner}
use Rattle.aio_drive.proofs.Fronts.{append-nil, took-nil, took_on}
use Rattle.aio_drive.proofs.Turns.{lines-append, run_on-last, run_on-turn}

-- The state of a run after some turns, over entries that are left: the kernel stands for it, and the run from the start is
-- the run from it.
pub record At {X : Type 0} {g : _} (a : Added X) (kept : a.Kept) (program : Program) (how : Manner) (made left : ℕ) (kernel : Kernel X g)
    (past : List Entry) (taken : List Event)
    (rest : List Entry) : Type 0 where
  pub s : State a.Kept
  pub stands : KernelStandsFor a taken rest kernel s
  pub on : (allowed more : ℕ)
      → run_on step_limit a.meaning allowed (made + more) (start most_ids kept program (past ++ rest))
      ≡ run_on step_limit a.meaning allowed more s
  pub begun : made ≡ 0 → s ≡ start most_ids kept program rest

-- A run of a program, driven in this manner, in which some turns were made and others are left: the answers so far, the
-- events that were taken out, what was seen of the wire first and is now, and what the sink took.
pub record IsDriven {X : Type 0} {g : _} (a : Added X) (kept : a.Kept) (program : Program) (how : Manner) (made left : ℕ) (kernel : Kernel X g)
    (past : List Entry) (taken : List Event)
    (first_seen now_seen : WireSeen) (first now : SinkSeen) : Type 0 where
  pub at : (rest : List Entry) → At a kept program how made left kernel past taken rest
  pub none : untaken kernel ≡ []
  pub turns : made + left ≡ how.turns
  pub told : (rest : List Entry) → Agrees now_seen.left rest → Agrees first_seen.left (past ++ rest)
  pub asked : Asks taken first_seen now_seen
  pub sink : now ≡ took first (lines_of_events how.trace taken)
  pub begun : made ≡ 0 → taken ≡ []

none-taken : {X S : Type 0} {g : _} (kernel : Kernel X g) (s : State S) → s.events ≡ [] → s.events ≡ [] ++ untaken kernel → untaken kernel ≡ []
none-taken kernel s none is = sym is ∙ none

-- a run that begins
pub running_first : {X : Type 0} {g : _} (a : Added X) (kept : a.Kept) (program : Program) (how : Manner) (kernel : Kernel X g) (seen : WireSeen)
    (sink : SinkSeen)
    → Begins a kept program kernel
    → IsDriven a kept program how 0 how.turns kernel [] [] seen seen sink sink
running_first a kept program how kernel seen sink begins =
    record {
      at = λ rest. record {
        s = start most_ids kept program rest;
        stands = begins rest;
        on = λ allowed more.
            let none : 0 + more ≡ more = omega arith in
            ap (λ n. run_on step_limit a.meaning allowed n (start most_ids kept program rest)) none;
        begun = λ none. refl;
      };
      none = none-taken kernel (start most_ids kept program []) refl (begins []).events;
      turns = omega arith;
      told = λ rest agrees. agrees;
      asked = asks_none seen;
      sink = sym (took-nil sink);
      begun = λ none. refl;
    }

-- entries that agree with what is told
pub agreed : (told : Option (List Entry)) → (entries : List Entry) × Agrees told entries
agreed None = ([], λ held e. absurd (cc e))
agreed (Some entries) = (entries, λ held e. cc)

pub rose_earlier : (first before now : ℕ) → first ≤ before → Rose before now → Rose first now
rose_earlier first before now earlier rose = omega arith

-- The run ends here: over entries that agree with what was told, it has these events and this end. `taken` are those of the turns before,
-- and those are of one turn more, where one was left.
pub record EndsHere (runs : Runs) (how : Manner) (made : ℕ) (taken : List Event) (first_told : Option (List Entry)) (events : List Event)
    (end : End) : Type 0 where
  pub entries : List Entry
  pub before : (runs entries made).events ≡ taken
  pub next : made < how.turns → (runs entries (made + 1)).events ≡ events
  pub agrees : Agrees first_told entries
  pub is : runs entries how.turns ≡ record { events = events; end = end }

-- It was over at a call that failed.
pub record FailsHere (runs : Runs) (how : Manner) (made : ℕ) (taken : List Event) (first_told : Option (List Entry)) (events : List Event) : Type 0 where
  pub had : List Entry
  pub before : (runs had made).events ≡ taken
  pub next : (runs had (made + 1)).events ≡ events
  pub told : (rest : List Entry) × Agrees first_told (had ++ rest)
  pub call : Call
  pub is : runs had how.turns ≡ record { events = events; end = ends.Over call }

-- the events go on from these, over entries that agree with what was told
pub record GoesOnHere (runs : Runs) (how : Manner) (made : ℕ) (taken : List Event) (first_told : Option (List Entry)) (events : List Event)
    : Type 0 where
  pub entries : List Entry
  pub before : (runs entries made).events ≡ taken
  pub agrees : Agrees first_told entries
  pub more : List Event
  pub is : (runs entries how.turns).events ≡ events ++ more

-- and these are the events of one turn more
pub record TurnsHere (runs : Runs) (how : Manner) (made : ℕ) (taken : List Event) (first_told : Option (List Entry)) (events : List Event)
    : Type 0 where
  pub here : GoesOnHere runs how made taken first_told events
  pub next : (runs here.entries (made + 1)).events ≡ events

module _ {X : Type 0} {g : _} {a : Added X} {kept : a.Kept} {program : Program} {how : Manner} {made left : ℕ} {kernel : Kernel X g} {past : List Entry}
    {taken : List Event}
    {first_seen now_seen : WireSeen} {first now : SinkSeen}
    (running : IsDriven a kept program how made left kernel past taken first_seen now_seen first now) where
  -- no event is in the kernel
  pub told_all : (rest : List Entry) → (running.at rest).s.events ≡ taken
  told_all rest =
      (running.at rest).stands.events ∙ ap (λ (es : List Event). taken ++ es) running.none ∙ append-nil taken

  -- the run from the start is the run from here
  pub ran : (rest : List Entry) → run_over a.meaning kept program (past ++ rest) how.turns ≡ run_on step_limit a.meaning how.turns left (running.at rest).s
  ran rest =
      ap (λ n. run_on step_limit a.meaning how.turns n (start most_ids kept program (past ++ rest))) (sym running.turns)
      ∙ (running.at rest).on how.turns left

  -- the turns so far are all that it makes where no more are allowed
  pub ran_so_far : (rest : List Entry) → (run_over a.meaning kept program (past ++ rest) made).events ≡ taken
  ran_so_far rest =
      let here = running.at rest in
      let all : made ≡ made + 0 = omega arith in
      ap (λ n. (run_on step_limit a.meaning made n (start most_ids kept program (past ++ rest))).events) all
      ∙ ap (λ (it : Run). it.events) (here.on made 0 ∙ run_on-last a.meaning made here.s) ∙ told_all rest

  -- what was written is a front of the run
  pub goes_on_here : GoesOnHere (run_over a.meaning kept program) how made taken first_seen.left taken
  goes_on_here =
      let (rest, agrees) = agreed now_seen.left in
      let here = running.at rest in
      let grew = run-grows step_limit a.meaning how.turns left here.s in
      record {
        entries = past ++ rest;
        before = ran_so_far rest;
        agrees = running.told rest agrees;
        more = grew.0;
        is = ap (λ (it : Run). it.events) (ran rest) ∙ grew.1 ∙ ap (λ (es : List Event). es ++ grew.0) (told_all rest);
      }

  -- where no turn is left
  pub ends_last : left ≡ 0 → (end : End)
      → ((past : List Event) (answers : List Entry) (s : State a.Kept) → KernelStandsFor a past answers kernel s
      → end ≡ turns_over (is_stalled a.meaning s) how.turns)
      → EndsHere (run_over a.meaning kept program) how made taken first_seen.left taken end
  ends_last none end is =
      let (rest, agrees) = agreed now_seen.left in
      let here = running.at rest in
      record {
        entries = past ++ rest;
        before = ran_so_far rest;
        next = λ some. absurd (let turns = running.turns in omega arith);
        agrees = running.told rest agrees;
        is =
            ran rest ∙ ap (λ n. run_on step_limit a.meaning how.turns n here.s) none ∙ run_on-last a.meaning how.turns here.s
            ∙ ap (λ (e : End). record { events = here.s.events; end = e }) (sym (is taken rest here.s here.stands))
            ∙ ap (λ (es : List Event). record { events = es; end = end }) (told_all rest);
      }

-- it is no want of memory, and the wire didn't fail
abbrev pub IsTold : code.Went → Type 0
IsTold (went.Stopped (stop.Failed call)) = ⊥
IsTold (went.Stopped stop.Memory) = ⊥
IsTold _ = Unit {0}

-- a turn, by what was said of it
module _ {X : Type 0} {g : _} {a : Added X} {kept : a.Kept} {program : Program} {how : Manner} {made left : ℕ} {kernel : Kernel X g} {past : List Entry}
    {taken : List Event}
    {first_seen now_seen : WireSeen} {first sink : SinkSeen} (new : Kernel X g) (new_seen : WireSeen)
    (running : IsDriven a kept program how made (suc left) kernel past taken first_seen now_seen first sink) where
  -- what happened so far
  abbrev so_far : List Event
  so_far = taken ++ untaken new

  on_turn : (entries : List Entry) (went : Went a.Kept) → turn step_limit a.meaning (running.at entries).s ≡ went
      → run_over a.meaning kept program (past ++ entries) how.turns ≡ run_after (run_on step_limit a.meaning how.turns left) went
  on_turn entries went e = ran running entries ∙ run_on-turn a.meaning how.turns left (running.at entries).s went e

  -- what happened in the turns so far and in this one
  next_turn : (entries : List Entry) (went : Went a.Kept) → turn step_limit a.meaning (running.at entries).s ≡ went
      → (run_over a.meaning kept program (past ++ entries) (made + 1)).events ≡ (state_of went).events
  next_turn entries went e =
      ap (λ (it : Run). it.events)
      ((running.at entries).on (made + 1) 1 ∙ run_on-turn a.meaning (made + 1) 0 (running.at entries).s went e) ∙ last_turn went
    where
      last_turn : (went : Went a.Kept) → (run_after (run_on step_limit a.meaning (made + 1) 0) went).events ≡ (state_of went).events
      last_turn (Goes now) = ap (λ (it : Run). it.events) (run_on-last a.meaning (made + 1) now)
      last_turn (Stops end last) = refl

  ends_with : (entries : List Entry) (ways : End → State a.Kept → Type 0) → (it : Ends a ways taken new (running.at entries).s)
      → run_over a.meaning kept program (past ++ entries) how.turns ≡ record { events = so_far; end = it.end }
  ends_with entries ways it =
      on_turn entries (Stops it.end it.last) it.stops ∙ ap (λ (es : List Event). record { events = es; end = it.end }) it.told

  -- over entries that agree with what is told
  ends_over : (entries : List Entry) (ways : End → State a.Kept → Type 0) → Agrees now_seen.left entries
      → (it : Ends a ways taken new (running.at entries).s) → (end : End) → end ≡ it.end
      → EndsHere (run_over a.meaning kept program) how made taken first_seen.left so_far end
  ends_over entries ways agrees it end is =
      record {
        entries = past ++ entries;
        before = ran_so_far running entries;
        next = λ some. next_turn entries (Stops it.end it.last) it.stops ∙ it.told;
        agrees = running.told entries agrees;
        is = ends_with entries ways it ∙ ap (λ (e : End). record { events = so_far; end = e }) (sym is);
      }

  ends_after : (had : List Answer) (ways : End → State a.Kept → Type 0) → Takes now_seen.left new_seen.left had
      → EndsAs a had AnyLeft ways kernel new
      → (rest : List Entry) → Agrees new_seen.left rest → Ends a ways taken new (running.at (map Answered had ++ rest)).s
  ends_after had ways takes turns rest agrees =
      let here = running.at (map Answered had ++ rest) in turns taken rest here.s tt here.stands

  ends_so : (had : List Answer) (wanted : End) → Takes now_seen.left new_seen.left had → EndsAs a had AnyLeft (Is wanted) kernel new
      → (end : End) → end ≡ wanted → EndsHere (run_over a.meaning kept program) how made taken first_seen.left so_far end
  ends_so had wanted takes turns end is =
      let (rest, agrees) = agreed new_seen.left in
      let it = ends_after had (Is wanted) takes turns rest agrees in
      ends_over (map Answered had ++ rest) (Is wanted) (takes rest agrees) it end (is ∙ sym it.way)

  ends_finished : (had : List Answer) (outcome : Outcome) → Takes now_seen.left new_seen.left had
      → EndsAs a had AnyLeft (IsFinished outcome (held_tasks new)) kernel new
      → (end : End) → end ≡ end_of outcome → EndsHere (run_over a.meaning kept program) how made taken first_seen.left so_far end
  ends_finished had outcome takes turns end is =
      let (rest, agrees) = agreed new_seen.left in
      let it = ends_after had (IsFinished outcome (held_tasks new)) takes turns rest agrees in
      ends_over (map Answered had ++ rest) (IsFinished outcome (held_tasks new)) (takes rest agrees) it end (is ∙ sym it.way.0)

  -- a number that is held is the answer's
  is_held : (count many : ℕ) → count ≡ min many (2 ^ 64 - 1) → (count == 2 ^ 64 - 1) ≡ false → count ≡ many
  is_held count many is other = at (cases_lt many (2 ^ 64 - 1))
    where
      never : count ≡ 2 ^ 64 - 1 → ⊥
      never same = true≢false (sym (eq-eqb count (2 ^ 64 - 1) same) ∙ other)

      at : (many < 2 ^ 64 - 1) ⊎ (2 ^ 64 - 1 ≤ many) → count ≡ many
      at (inl less) = omega (arith, is, less)
      at (inr more) = let most : count ≡ 2 ^ 64 - 1 = omega (arith, is, more) in absurd (never most)

  ends_misfit : (had : List Answer) (count : ℕ) (call : Call) → (count == 2 ^ 64 - 1) ≡ false → Takes now_seen.left new_seen.left had
      → EndsAs a had AnyLeft (IsMismatch count call) kernel new
      → (end : End) → end ≡ ends.Mismatch count call → EndsHere (run_over a.meaning kept program) how made taken first_seen.left so_far end
  ends_misfit had count call held takes turns end is =
      let (rest, agrees) = agreed new_seen.left in
      let it = ends_after had (IsMismatch count call) takes turns rest agrees in
      ends_over (map Answered had ++ rest) (IsMismatch count call) (takes rest agrees) it end
      (is ∙ ap (λ n. ends.Mismatch n call) (is_held count (answers_in it.last.events) it.way.1 held) ∙ sym it.way.0)

  pub ended : (said : code.Went) → TurnsTo a now_seen new_seen kernel new said
      → (end : End) → EndedSo end said → EndsHere (run_over a.meaning kept program) how made taken first_seen.left so_far end
  ended went.Went comes end is = absurd is
  ended (went.Finished outcome) (had, (takes, turns)) end is = ends_finished had outcome takes turns end is
  ended went.Stalled (same, turns) end is =
      let (rest, agrees) = agreed now_seen.left in
      let it = turns taken rest (running.at rest).s tt (running.at rest).stands in
      ends_over rest (Is ends.Stalled) agrees it end (is ∙ sym it.way)
  ended (went.Runaway task) (had, (takes, turns)) end is = ends_so had (ends.Runaway task) takes turns end is
  ended (went.Stopped (stop.Mismatch count call)) (had, (takes, turns)) end (is, held) = ends_misfit had count call held takes turns end is
  ended (went.Stopped (stop.Over call)) (had, (agrees, turns)) end is =
      let entries = map Answered had ++ [] in
      let it = turns taken [] (running.at entries).s refl (running.at entries).stands in
      ends_over entries (Is (ends.Over call))
      (subst (λ (es : List Entry). Agrees now_seen.left es) (sym (append-nil (map Answered had))) agrees) it end (is ∙ sym it.way)
  ended (went.Stopped (stop.Bad fault)) (had, ((rest, agrees), turns)) end is =
      let entries = map Answered had ++ refused_of fault ∷ rest in
      let it = turns taken (refused_of fault ∷ rest) (running.at entries).s (rest, refl) (running.at entries).stands in
      ends_over entries (Is (ends.JournalRefused fault.line fault.cause)) agrees it end (is ∙ sym it.way)
  ended (went.Stopped (stop.Failed call)) comes end is = absurd is
  ended (went.Stopped stop.Memory) comes end is = absurd is

  had_so_far : (had : List Answer) (rest : List Entry) → past ++ (map Answered had ++ rest) ≡ (past ++ (map Answered had ++ [])) ++ rest
  had_so_far had rest = simp (append_assoc, append-nil)

  pub fails_so : (call : Call) → TurnsTo a now_seen new_seen kernel new (went.Stopped (stop.Failed call))
      → FailsHere (run_over a.meaning kept program) how made taken first_seen.left so_far
  fails_so call (had, (takes, turns, rose)) =
      let entries = map Answered had ++ [] in
      let it = turns taken [] (running.at entries).s refl (running.at entries).stands in
      let (rest, agrees) = agreed new_seen.left in
      record {
        had = past ++ entries;
        before = ran_so_far running entries;
        next = next_turn entries (Stops it.end it.last) it.stops ∙ it.told;
        told = (
          rest,
          subst (λ (es : List Entry). Agrees first_seen.left es) (had_so_far had rest) (running.told (map Answered had ++ rest) (takes rest agrees)),
        );
        call = call;
        is = ends_with entries (Is (ends.Over call)) it ∙ ap (λ (e : End). record { events = so_far; end = e }) it.way;
      }

  pub fails : (said : code.Went) → TurnsTo a now_seen new_seen kernel new said → (call : Call)
      → said ≡ went.Stopped (stop.Failed call) → FailsHere
      (run_over a.meaning kept program) how made taken first_seen.left so_far × Rose now_seen.faults new_seen.faults
  fails said comes call is =
      let so = subst (λ (w : code.Went). TurnsTo a now_seen new_seen kernel new w) is comes in
      (fails_so call so, so.1.2)

  module _ (had : List Answer) (takes : Takes now_seen.left new_seen.left had) (goes : KernelGoesOn a had kernel new) where
    goes_over : (rest : List Entry)
        → (now : State a.Kept) × ((turn step_limit a.meaning (running.at (map Answered had ++ rest)).s ≡ Goes now)
        × KernelStandsFor a taken rest new now)
    goes_over rest = let here = running.at (map Answered had ++ rest) in goes taken rest here.s here.stands

    -- the run goes on after it
    pub goes_further : TurnsHere (run_over a.meaning kept program) how made taken first_seen.left so_far
    goes_further =
        let (rest, agrees) = agreed new_seen.left in
        let (now, (went, stands)) = goes_over rest in
        let grew = run-grows step_limit a.meaning how.turns left now in
        record {
          here = record {
            entries = past ++ (map Answered had ++ rest);
            before = ran_so_far running (map Answered had ++ rest);
            agrees = running.told (map Answered had ++ rest) (takes rest agrees);
            more = grew.0;
            is =
                ap (λ (it : Run). it.events) (on_turn (map Answered had ++ rest) (Goes now) went) ∙ grew.1
                ∙ ap (λ (es : List Event). es ++ grew.0) stands.events;
          };
          next = next_turn (map Answered had ++ rest) (Goes now) went ∙ stands.events;
        }

    regrouped : (rest : List Entry) → past ++ (map Answered had ++ rest) ≡ (past ++ map Answered had) ++ rest
    regrouped rest = sym (append_assoc past (map Answered had) rest)

    pub turned_on : (after : Kernel X g) (sink_after : SinkSeen)
        → ((past : List Event) (answers : List Entry) (s : State a.Kept) → KernelStandsFor a past answers new s
        → KernelStandsFor a (past ++ untaken new) answers after s)
        → untaken after ≡ [] → sink_after ≡ took sink (lines_of_events how.trace (untaken new))
        → Asks so_far first_seen new_seen
        → IsDriven a kept program how (made + 1) left after (past ++ map Answered had) so_far first_seen new_seen first sink_after
    turned_on after sink_after takes_out none wrote asked =
        record {
          at = λ rest.
              let (now, (went, stands)) = goes_over rest in
              record {
                s = now;
                stands = takes_out taken rest now stands;
                on = λ allowed more.
                    let one : (made + 1) + more ≡ made + suc more = omega arith in
                    ap (λ n. run_on step_limit a.meaning allowed n (start most_ids kept program ((past ++ map Answered had) ++ rest))) one
                    ∙ ap (λ (es : List Entry). run_on step_limit a.meaning allowed (made + suc more) (start most_ids kept program es))
                    (sym (regrouped rest))
                    ∙ (running.at (map Answered had ++ rest)).on allowed (suc more)
                    ∙ run_on-turn a.meaning allowed more (running.at (map Answered had ++ rest)).s (Goes now) went;
                begun = λ none. absurd (omega arith);
              };
          none = none;
          turns = let turns = running.turns in omega arith;
          told = λ rest agrees.
              subst (λ (es : List Entry). Agrees first_seen.left es) (regrouped rest) (running.told (map Answered had ++ rest) (takes rest agrees));
          asked = asked;
          sink =
              took_on first sink sink_after (lines_of_events how.trace taken) (lines_of_events how.trace (untaken new)) running.sink wrote
              ∙ ap (took first) (sym (lines-append how.trace taken (untaken new)));
          begun = λ none. absurd (omega arith);
        }

  -- ---- the first of the run, whatever came of the turn
  here_of : (end : End) → EndsHere (run_over a.meaning kept program) how made taken first_seen.left so_far end → GoesOnHere
      (run_over a.meaning kept program) how made taken first_seen.left so_far
  here_of end here = record {
    entries = here.entries;
    before = here.before;
    agrees = here.agrees;
    more = [];
    is = ap (λ (it : Run). it.events) here.is ∙ sym (append-nil so_far);
  }

  -- all that was told is the first of it
  pub told_here : (said : code.Went) → IsTold said → TurnsTo a now_seen new_seen kernel new said
      → GoesOnHere (run_over a.meaning kept program) how made taken first_seen.left so_far
  told_here went.Went told (had, (takes, goes)) = (goes_further had takes goes).here
  told_here (went.Finished outcome) told comes = here_of (end_of outcome) (ended (went.Finished outcome) comes (end_of outcome) refl)
  told_here went.Stalled told comes = here_of ends.Stalled (ended went.Stalled comes ends.Stalled refl)
  told_here (went.Runaway task) told comes = here_of (ends.Runaway task) (ended (went.Runaway task) comes (ends.Runaway task) refl)
  told_here (went.Stopped (stop.Over call)) told comes =
      here_of (ends.Over call) (ended (went.Stopped (stop.Over call)) comes (ends.Over call) refl)
  told_here (went.Stopped (stop.Bad fault)) told comes =
      here_of (ends.JournalRefused fault.line fault.cause) (ended (went.Stopped (stop.Bad fault)) comes (ends.JournalRefused fault.line fault.cause) refl)
  told_here (went.Stopped (stop.Mismatch count call)) told (had, (takes, turns)) =
      let (rest, agrees) = agreed new_seen.left in
      let it = ends_after had (IsMismatch count call) takes turns rest agrees in
      here_of it.end (ends_over (map Answered had ++ rest) (IsMismatch count call) (takes rest agrees) it it.end refl)
  told_here (went.Stopped (stop.Failed call)) told comes = absurd told
  told_here (went.Stopped stop.Memory) told comes = absurd told

  -- where memory was refused in it, what was asked by then is
  after_grows : (went : Went a.Kept) → growth.EventsGrow (state_of went).events (run_after (run_on step_limit a.meaning how.turns left) went).events
  after_grows (Goes now) = run-grows step_limit a.meaning how.turns left now
  after_grows (Stops end last) = ([], sym (append-nil last.events))

  pub starved_here : (wire : WireTurn) → wire.before ≡ now_seen
      → (it : IsStarved a.meaning wire (stood_for a kernel) (untaken kernel)) → GoesOnHere (run_over a.meaning kept program) how made taken first_seen.left
      (taken ++ it.first)
  starved_here wire same it =
      let entries = map Answered it.had ++ it.left.0 in
      let here = running.at entries in
      let begun = it.begins taken it.left.0 here.s here.stands in
      let grown = after_grows (turn step_limit a.meaning here.s) in
      record {
        entries = past ++ entries;
        before = ran_so_far running entries;
        agrees = running.told entries (subst (λ (w : WireSeen). Agrees w.left entries) same it.left.1);
        more = begun.0 ++ grown.0;
        is =
            ap (λ (r : Run). r.events) (on_turn entries (turn step_limit a.meaning here.s) refl) ∙ grown.1
            ∙ ap (λ (es : List Event). es ++ grown.0) begun.1 ∙ append_assoc (taken ++ (untaken kernel ++ it.first)) begun.0 grown.0
            ∙ ap (λ (es : List Event). (taken ++ (es ++ it.first)) ++ (begun.0 ++ grown.0)) running.none;
      }

  -- ---- what the wire was asked
  pub asked_all : (said : code.Went) → AsksBy (untaken kernel) (untaken new) now_seen new_seen said → (said ≡ went.Stopped stop.Memory → ⊥)
      → Asks so_far first_seen new_seen
  asked_all said asks goes =
      asks_then taken (untaken new) first_seen now_seen new_seen running.asked (at said goes asks)
    where
      told : (told : List Event) × ((untaken new ≡ untaken kernel ++ told) × Asks told now_seen new_seen) → Asks (untaken new) now_seen new_seen
      told (events, (is, asked)) =
          subst (λ es. Asks es now_seen new_seen) (sym (is ∙ ap (λ es. es ++ events) running.none)) asked

      at : (it : code.Went) → (it ≡ went.Stopped stop.Memory → ⊥) → AsksBy (untaken kernel) (untaken new) now_seen new_seen it
          → Asks (untaken new) now_seen new_seen
      at went.Went goes asked = told asked
      at (went.Finished outcome) goes asked = told asked
      at went.Stalled goes asked = told asked
      at (went.Runaway task) goes asked = told asked
      at (went.Stopped (stop.Over call)) goes asked = told asked
      at (went.Stopped (stop.Bad fault)) goes asked = told asked
      at (went.Stopped (stop.Mismatch count call)) goes asked = told asked
      at (went.Stopped (stop.Failed call)) goes asked = told asked
      at (went.Stopped stop.Memory) goes asked = absurd (goes refl)
