-- A run under way that is counted, and each way out.
use Rattle.std.proofs.Common.{◌≡◌, ◌⊎◌, inl, inr, ℕ, zero, suc, ◌+◌, ◌^◌, ◌<◌, ◌≤◌, Bool, true, false, List, [], ◌∷◌, ◌++◌, Option, Some, None}
use Rattle.std.proofs.Common.{Result, Ok, map, cond, refl, ap, sym, ◌∙◌, subst, append_assoc, append-nil, arith}
use Rattle.std.proofs.lemmas.List.Sums.{sum_by-append}
use Rattle.std.specs.List.{count_by}
use Rattle.std.specs.Prelude.{if◌then◌else◌}
use Rattle.model_value.specs.declared.outcome.Outcome.TheVariants.{Value as Returned, Failed, Cancelled}
use Rattle.model_value.specs.Value.{Outcome}
use Rattle.model_tree.specs.Syntax.{Program}
use Rattle.model_says.specs.Says.{step_limit}
use Rattle.model_wire.specs.declared.event.End.TheVariants as ends
use Rattle.model_wire.specs.Event.{Event}
use Rattle.model_wire.specs.Journal.{Entry, Answered}
use Rattle.model_wire.specs.Told.{Agrees, WireSeen}
use Rattle.model_wire.specs.Trace.{End}
use Rattle.model_machine.specs.Extra.{Extra}
use Rattle.model_machine.specs.Outcomes.{end_of}
use Rattle.model_machine.specs.Replies.{most_ids}
use Rattle.model_machine.specs.Run.{Run, run_after, run_on, turns_over}
use Rattle.model_machine.specs.Run as machine
use Rattle.model_machine.specs.State.{State, start}
use Rattle.model_machine.specs.Turn.{is_stalled, turn}
use Rattle.model_machine.specs.Went.{Went, Goes, Stops, answers_in}
use Rattle.model_program.specs.Runs.{run_over}
use Rattle.model_program.specs.Transcript.{status_of}
use Rattle.model_commands.specs.Works.{counted, counts_over, is_call, is_outcome, is_said, tasks_after, tasks_in, tasks_on}
use Rattle.aio_wire.specs.Told.{refused_of}
use Rattle.aio_wire.specs.declared.stop.Stop.TheVariants as stop
use Rattle.aio_extra.specs.Added.{Added}
use Rattle.aio_core.specs.Turned.{Begins, Ends, KernelStandsFor, TurnsTo, ended, held_tasks, untaken}
use Rattle.aio_core.specs.Turning.{Is, IsFinished, IsMismatch}
use Rattle.aio_core.specs.declared.kernel.Kernel.{Kernel}
use Rattle.aio_core.specs.declared.went.Went as code
use Rattle.aio_core.specs.declared.went.Went.TheVariants as went
use Rattle.aio_tally.specs.Ending.{status_by, tasks_by}
use Rattle.aio_tally.specs.Tallied.{CountsTurn, EndsAtLimit, Tallies}
use Rattle.aio_tally.specs.declared.counts.Counts.{Counts}
use Rattle.aio_tally.specs.declared.ending.Uncounted.{Uncounted}

-- ---- a run makes a turn, or none
runs-turn : {S : Type 0} (added : Extra S) (allowed left : ℕ) (s : State S) (went : Went S) → turn step_limit added s ≡ went
    → run_on step_limit added allowed (suc left) s ≡ run_after (run_on step_limit added allowed left) went
unfolding run_on
runs-turn added allowed left s went e = ap (run_after (run_on step_limit added allowed left)) e

runs-last : {S : Type 0} (added : Extra S) (allowed : ℕ) (s : State S)
    → run_on step_limit added allowed 0 s ≡ machine.ends (turns_over (is_stalled added s) allowed) s
unfolding run_on
runs-last added allowed s = refl

makes-turn : {S : Type 0} (added : Extra S) (left : ℕ) (s : State S) (went : Went S) → turn step_limit added s ≡ went
    → tasks_on step_limit added (suc left) s ≡ tasks_after (tasks_on step_limit added left) (tasks_in s) went
unfolding tasks_on
makes-turn added left s went e = ap (tasks_after (tasks_on step_limit added left) (tasks_in s)) e

makes-last : {S : Type 0} (added : Extra S) (s : State S) → tasks_on step_limit added 0 s ≡ tasks_in s
unfolding tasks_on
makes-last added s = refl

-- ---- counts
-- what was counted, and more
counted_on : (p : Event → Bool) (xs ys : List Event) (was is : ℕ) → was ≡ counted (count_by p xs) → is ≡ counted (was + count_by p ys)
    → is ≡ counted (count_by p (xs ++ ys))
counted_on p xs ys was is before after = omega (arith, before, after, sum_by-append (λ x. cond (p x) 1 0) xs ys)

-- main's outcome ends a run
ends_run : (outcome : Outcome) → is_outcome (end_of outcome) ≡ true
ends_run (Returned value) = refl
ends_run (Failed fault) = refl
ends_run Cancelled = refl

-- the tasks of a turn that stopped, by what ended it
tasks_then : {S : Type 0} (go_on : State S → ℕ) (before : ℕ) (end wanted : End) (last : State S) (b : Bool) → end ≡ wanted → is_outcome wanted ≡ b
    → (if b then tasks_in last else before) ≡ tasks_after go_on before (Stops end last)
tasks_then go_on before end wanted last b is outcome =
    ap (λ (b : Bool). if b then tasks_in last else before) (sym (ap is_outcome is ∙ outcome))

-- ---- entries that agree with what is told
agreed : (told : Option (List Entry)) → (entries : List Entry) × Agrees told entries
agreed None = ([], λ held e. absurd (cc e))
agreed (Some entries) = (entries, λ held e. cc)

-- ---- under way
-- The state of a run after some turns, over entries that are left: the kernel stands for it, and the run from the start is the run from
-- it, and makes as many tasks.
pub record At {X : Type 0} {g : _} (a : Added X) (kept : a.Kept) (program : Program) (turns left : ℕ) (kernel : Kernel X g) (past : List Entry)
    (taken : List Event)
    (rest : List Entry) : Type 0 where
  pub s : State a.Kept
  pub stands : KernelStandsFor a taken rest kernel s
  pub runs : run_over a.meaning kept program (past ++ rest) turns ≡ run_on step_limit a.meaning turns left s
  pub makes : (counts_over a.meaning kept program (past ++ rest) turns).tasks ≡ tasks_on step_limit a.meaning left s

-- A run of a program is under way, in which so many turns were made: what was seen of the wire first and is now, and what was counted.
pub record IsUnderWay {X : Type 0} {g : _} (a : Added X) (kept : a.Kept) (program : Program) (turns made : ℕ) (kernel : Kernel X g) (first now : WireSeen)
    (counts : Counts) : Type 0 where
  pub left : ℕ
  pub past : List Entry
  pub taken : List Event
  pub at : (rest : List Entry) → At a kept program turns left kernel past taken rest
  pub none : untaken kernel ≡ []
  pub all : made + left ≡ turns
  pub told : (rest : List Entry) → Agrees now.left rest → Agrees first.left (past ++ rest)
  pub calls : counts.calls ≡ counted (count_by is_call taken)
  pub said : counts.said ≡ counted (count_by is_said taken)

-- one that begins
pub under_way_first : {X : Type 0} {g : _} (a : Added X) (kept : a.Kept) (program : Program) (turns : ℕ) (kernel : Kernel X g) (seen : WireSeen)
    (counts : Counts) → counts.calls ≡ 0
    → counts.said ≡ 0 → Begins a kept program kernel → IsUnderWay a kept program turns 0 kernel seen seen counts
under_way_first a kept program turns kernel seen counts calls said begins = record {
  left = turns;
  past = [];
  taken = [];
  at = λ rest. record { s = start most_ids kept program rest; stands = begins rest; runs = refl; makes = refl };
  none = sym (begins []).events;
  all = omega arith;
  told = λ rest agrees. agrees;
  calls = calls;
  said = said;
}

-- its kernel goes on
pub still_goes : {X : Type 0} {g : _} {a : Added X} {kept : a.Kept} {program : Program} {turns made : ℕ} {kernel : Kernel X g} {first now : WireSeen}
    {counts : Counts}
    → IsUnderWay a kept program turns made kernel first now counts → ended kernel ≡ None
still_goes under = (under.at []).stands.goes

-- a turn is left
a_turn : {X : Type 0} {g : _} {a : Added X} {kept : a.Kept} {program : Program} {turns made : ℕ} {kernel : Kernel X g} {past : List Entry}
    {taken : List Event} (left : ℕ)
    → ((rest : List Entry) → At a kept program turns left kernel past taken rest) → made + left ≡ turns → made < turns
    → (fewer : ℕ) × (made + suc fewer ≡ turns) × ((rest : List Entry) → At a kept program turns (suc fewer) kernel past taken rest)
a_turn zero at all some = absurd (omega (arith, all, some))
a_turn (suc fewer) at all some = (fewer, all, at)

abbrev answered : Option ℕ → Result (Option ℕ) Uncounted
answered status = Ok status

inner : {n m : ℕ} → answered (Some n) ≡ answered (Some m) → n ≡ m
inner is = cc is

-- a turn, by what was said of it
module _ {X : Type 0} {g : _} {a : Added X} {kept : a.Kept} {program : Program} {turns left : ℕ} {kernel : Kernel X g} {past : List Entry}
    {taken : List Event} (first now last : WireSeen)
    (mid : Kernel X g) (counts : Counts) (at : (rest : List Entry) → At a kept program turns (suc left) kernel past taken rest)
    (told : (rest : List Entry) → Agrees now.left rest → Agrees first.left (past ++ rest))
    (calls : counts.calls ≡ counted (count_by is_call (taken ++ untaken mid)))
    (lines : counts.said ≡ counted (count_by is_said (taken ++ untaken mid))) where
  ends_with : (entries : List Entry) (ways : End → State a.Kept → Type 0) → (it : Ends a ways taken mid (at entries).s)
      → run_over a.meaning kept program (past ++ entries) turns ≡ record { events = taken ++ untaken mid; end = it.end }
  ends_with entries ways it =
      (at entries).runs ∙ runs-turn a.meaning turns left (at entries).s (Stops it.end it.last) it.stops
      ∙ ap (λ (es : List Event). record { events = es; end = it.end }) it.told

  -- over entries that agree with what is told
  ends_over : (entries : List Entry) (ways : End → State a.Kept → Type 0) → Agrees now.left entries
      → (it : Ends a ways taken mid (at entries).s) → (status : ℕ) → status ≡ status_of it.end
      → counts.tasks ≡ tasks_after (tasks_on step_limit a.meaning left) (tasks_in (at entries).s) (Stops it.end it.last)
      → Tallies a.meaning kept program turns first (record { status = status; counts = counts })
  ends_over entries ways agrees it status so tasks =
      let here = at entries in
      let is = sym (ends_with entries ways it) in
      let made : counts.tasks ≡ (counts_over a.meaning kept program (past ++ entries) turns).tasks =
      tasks ∙ sym (makes-turn a.meaning left here.s (Stops it.end it.last) it.stops) ∙ sym here.makes in
      let asked = calls ∙ ap (λ (r : Run). counted (count_by is_call r.events)) is in
      let printed = lines ∙ ap (λ (r : Run). counted (count_by is_said r.events)) is in (
        past ++ entries,
        told entries agrees,
        (λ i. record { tasks = made i; calls = asked i; said = printed i }),
        so ∙ ap (λ (r : Run). status_of r.end) is,
      )

  -- one that main's outcome didn't end
  ends_so : (entries : List Entry) (ways : End → State a.Kept → Type 0) → Agrees now.left entries
      → (it : Ends a ways taken mid (at entries).s) → (wanted : End) → it.end ≡ wanted → is_outcome wanted ≡ false → (status : ℕ)
      → status ≡ status_of wanted → (before : ℕ) → ((s : State a.Kept) → KernelStandsFor a taken entries kernel s → before ≡ tasks_in s)
      → counts.tasks ≡ before → Tallies a.meaning kept program turns first (record { status = status; counts = counts })
  ends_so entries ways agrees it wanted is other status so before made tasks =
      let here = at entries in
      ends_over entries ways agrees it status (so ∙ ap status_of (sym is))
      (tasks ∙ made here.s here.stands
      ∙ tasks_then (tasks_on step_limit a.meaning left) (tasks_in here.s) it.end wanted it.last false is other)

  pub tallied : (said : code.Went) → TurnsTo a now last kernel mid said → (status : ℕ) → status_by said ≡ Ok (Some status)
      → (before after : ℕ) → ((past : List Event) (answers : List Entry) (s : State a.Kept) → KernelStandsFor a past answers kernel s
      → before ≡ tasks_in s)
      → (held_tasks mid < 2 ^ 32 → after ≡ held_tasks mid) → counts.tasks ≡ tasks_by said before after
      → Tallies a.meaning kept program turns first (record { status = status; counts = counts })
  tallied went.Went comes status is before after made held tasks = absurd (cc is)
  tallied (went.Finished outcome) (had, (takes, turned)) status is before after made held tasks =
      let (rest, agrees) = agreed last.left in
      let entries = map Answered had ++ rest in
      let here = at entries in
      let it = turned taken rest here.s tt here.stands in
      ends_over entries (IsFinished outcome (held_tasks mid)) (takes rest agrees) it status (sym (inner is) ∙ ap status_of (sym it.way.0))
      (tasks ∙ held it.way.1.1 ∙ it.way.1.0
      ∙ tasks_then (tasks_on step_limit a.meaning left) (tasks_in here.s) it.end (end_of outcome) it.last true it.way.0 (ends_run outcome))
  tallied went.Stalled (same, turned) status is before after made held tasks =
      let (rest, agrees) = agreed now.left in
      let it = turned taken rest (at rest).s tt (at rest).stands in
      ends_so rest (Is ends.Stalled) agrees it ends.Stalled it.way refl status (sym (inner is)) before (made taken rest) tasks
  tallied (went.Runaway task) (had, (takes, turned)) status is before after made held tasks =
      let (rest, agrees) = agreed last.left in
      let entries = map Answered had ++ rest in
      let it = turned taken rest (at entries).s tt (at entries).stands in
      ends_so entries (Is (ends.Runaway task)) (takes rest agrees) it (ends.Runaway task) it.way refl status (sym (inner is)) before
      (made taken entries) tasks
  tallied (went.Stopped (stop.Over call)) (had, (agrees, turned)) status is before after made held tasks =
      let entries = map Answered had ++ [] in
      let it = turned taken [] (at entries).s refl (at entries).stands in
      ends_so entries (Is (ends.Over call)) (subst (λ (es : List Entry). Agrees now.left es) (sym (append-nil (map Answered had))) agrees) it
      (ends.Over call) it.way refl status (sym (inner is)) before (made taken entries) tasks
  tallied (went.Stopped (stop.Bad fault)) (had, ((rest, agrees), turned)) status is before after made held tasks =
      let entries = map Answered had ++ refused_of fault ∷ rest in
      let it = turned taken (refused_of fault ∷ rest) (at entries).s (rest, refl) (at entries).stands in
      ends_so entries (Is (ends.JournalRefused fault.line fault.cause)) agrees it (ends.JournalRefused fault.line fault.cause) it.way refl status
      (sym (inner is)) before (made taken entries) tasks
  tallied (went.Stopped (stop.Mismatch count call)) (had, (takes, turned)) status is before after made held tasks =
      let (rest, agrees) = agreed last.left in
      let entries = map Answered had ++ rest in
      let it = turned taken rest (at entries).s tt (at entries).stands in
      ends_so entries (IsMismatch count call) (takes rest agrees) it (ends.Mismatch (answers_in it.last.events) call) it.way.0 refl status
      (sym (inner is)) before (made taken entries) tasks
  tallied (went.Stopped (stop.Failed call)) comes status is before after made held tasks = absurd (cc is)
  tallied (went.Stopped stop.Memory) comes status is before after made held tasks = absurd (cc is)

-- ---- a round
-- a turn after which the run goes on
goes_unless : (w : code.Went) → status_by w ≡ Ok None → w ≡ went.Went
goes_unless went.Went is = refl
goes_unless (went.Finished outcome) is = absurd (cc is)
goes_unless went.Stalled is = absurd (cc is)
goes_unless (went.Runaway task) is = absurd (cc is)
goes_unless (went.Stopped (stop.Over call)) is = absurd (cc is)
goes_unless (went.Stopped (stop.Bad fault)) is = absurd (cc is)
goes_unless (went.Stopped (stop.Mismatch count call)) is = absurd (cc is)
goes_unless (went.Stopped (stop.Failed call)) is = absurd (cc is)
goes_unless (went.Stopped stop.Memory) is = absurd (cc is)

-- what was answered is what the turn came to, where it has a status or goes on
said_as : (result said : code.Went) (status : Option ℕ) → (result ≡ said) ⊎ (result ≡ went.Stopped stop.Memory) → status_by result ≡ Ok status
    → said ≡ result
said_as result said status (inl same) is = sym same
said_as result said status (inr none) is = absurd (let e = sym is ∙ ap status_by none in cc e)

module _ {X : Type 0} {g : _} {a : Added X} {kept : a.Kept} {program : Program} {turns made : ℕ} {kernel new : Kernel X g} {first now last : WireSeen}
    {fails quiet : Type 0}
    {was is : Counts} {ended_as : Option ℕ} (under : IsUnderWay a kept program turns made kernel first now was) (some : made < turns)
    (it : CountsTurn a (record { before = now; after = last; fails = fails; quiet = quiet }) kernel new was is (Ok ended_as)) where
  calls_now : is.calls ≡ counted (count_by is_call (under.taken ++ untaken it.mid))
  calls_now = counted_on is_call under.taken (untaken it.mid) was.calls is.calls under.calls it.calls

  lines_now : is.said ≡ counted (count_by is_said (under.taken ++ untaken it.mid))
  lines_now = counted_on is_said under.taken (untaken it.mid) was.said is.said under.said it.lines

  same_said : it.said ≡ it.went
  same_said = said_as it.went it.said ended_as it.turned.either (sym it.status)

  -- the run ended
  pub round_ok : (status : ℕ) → ended_as ≡ Some status → Tallies a.meaning kept program turns first (record { status = status; counts = is })
  round_ok status e =
      let (fewer, sum, at) = a_turn under.left under.at under.all some in
      tallied first now last it.mid is at under.told calls_now lines_now it.said it.turned.turns status
      (ap status_by same_said ∙ sym it.status ∙ ap (λ (o : Option ℕ). answered o) e) it.before it.after it.made it.held
      (it.tasks ∙ ap (λ (w : code.Went). tasks_by w it.before it.after) (sym same_said))

  -- it goes on
  pub round_on : ended_as ≡ None → IsUnderWay a kept program turns (made + 1) new first last is
  round_on e =
      let (fewer, sum, at) = a_turn under.left under.at under.all some in
      let goes = same_said ∙ goes_unless it.went (sym it.status ∙ ap (λ (o : Option ℕ). answered o) e) in
      let (had, (takes, turned)) = subst (λ (w : code.Went). TurnsTo a now last kernel it.mid w) goes it.turned.turns in
      record {
        left = fewer;
        past = under.past ++ map Answered had;
        taken = under.taken ++ untaken it.mid;
        at = λ rest.
            let here = at (map Answered had ++ rest) in
            let (next, (gone, stands)) = turned under.taken rest here.s here.stands in
            let grouped = append_assoc under.past (map Answered had) rest in
            record {
              s = next;
              stands = it.stands under.taken rest next stands;
              runs = ap (λ (es : List Entry). run_over a.meaning kept program es turns) grouped ∙ here.runs ∙ runs-turn a.meaning turns fewer here.s
                  (Goes next) gone;
              makes = ap (λ (es : List Entry). (counts_over a.meaning kept program es turns).tasks) grouped ∙ here.makes
                  ∙ makes-turn a.meaning fewer here.s (Goes next) gone;
            };
        none = it.left;
        all = omega (arith, sum);
        told = λ rest agrees.
            subst (λ (es : List Entry). Agrees first.left es) (sym (append_assoc under.past (map Answered had) rest))
            (under.told (map Answered had ++ rest) (takes rest agrees));
        calls = calls_now;
        said = lines_now;
      }

-- ---- no turn is left
pub at_limit : {X : Type 0} {g : _} {a : Added X} {kept : a.Kept} {program : Program} {turns made : ℕ} {kernel : Kernel X g} {first now : WireSeen}
    {was : Counts}
    → IsUnderWay a kept program turns made kernel first now was → turns ≤ made → (status tasks : ℕ) → EndsAtLimit a kernel status
    → ((past : List Event) (answers : List Entry) (s : State a.Kept) → KernelStandsFor a past answers kernel s → tasks ≡ tasks_in s)
    → Tallies a.meaning kept program turns first (record { status = status; counts = record was { tasks = tasks } })
at_limit {a = a} {kept = kept} {program = program} {turns = turns} {kernel = kernel} {now = now} {was = was} under most status tasks ends_there made =
    let (rest, agrees) = agreed now.left in
    let here = under.at rest in
    let none : under.left ≡ 0 = omega (arith, under.all, most) in
    let events = here.stands.events ∙ ap (λ (es : List Event). under.taken ++ es) under.none ∙ append-nil under.taken in
    let ran : run_over a.meaning kept program (under.past ++ rest) turns ≡ machine.ends (turns_over (is_stalled a.meaning here.s) turns) here.s =
    here.runs ∙ ap (λ n. run_on step_limit a.meaning turns n here.s) none ∙ runs-last a.meaning turns here.s in
    let is = sym ran in
    let all_tasks : tasks ≡ (counts_over a.meaning kept program (under.past ++ rest) turns).tasks =
    made under.taken rest here.s here.stands ∙ sym (makes-last a.meaning here.s)
    ∙ ap (λ n. tasks_on step_limit a.meaning n here.s) (sym none) ∙ sym here.makes in
    let asked = under.calls ∙ ap (λ (es : List Event). counted (count_by is_call es)) (sym events)
    ∙ ap (λ (r : Run). counted (count_by is_call r.events)) is in
    let printed = under.said ∙ ap (λ (es : List Event). counted (count_by is_said es)) (sym events)
    ∙ ap (λ (r : Run). counted (count_by is_said r.events)) is in (
      under.past ++ rest,
      under.told rest agrees,
      (λ i. record { tasks = all_tasks i; calls = asked i; said = printed i }),
      ends_there turns under.taken rest here.s here.stands ∙ ap (λ (r : Run). status_of r.end) is,
    )
