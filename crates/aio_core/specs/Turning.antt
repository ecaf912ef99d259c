-- A turn, piece by piece, and what a whole one comes to, by what is seen of the wire before and after.
use Rattle.std.specs.Prelude.{◌≡◌, ℕ, ◌-◌, ◌^◌, ◌<◌, ◌≤◌, Bool, true, false, List, [], ◌∷◌, ◌++◌, Option, Some, None, Result, Ok, Err, length, map, min}
use Rattle.model_value.specs.Number.{most}
use Rattle.model_value.specs.Value.{Outcome}
use Rattle.model_says.specs.Says.{step_limit}
use Rattle.model_wire.specs.declared.answer.Answer.TheVariants as answer
use Rattle.model_wire.specs.declared.event.End.TheVariants as end
use Rattle.model_wire.specs.declared.watch.Watch.{Watch}
use Rattle.model_wire.specs.Call.{Answer, Call}
use Rattle.model_wire.specs.Event.{Event, calls_in}
use Rattle.model_wire.specs.Journal.{Entry, Answered}
use Rattle.model_wire.specs.Told.{Agrees, AtRefused, OutOfAnswers, Rose, WireSeen}
use Rattle.model_wire.specs.Trace.{End}
use Rattle.model_loop.specs.Tasks.{next_task}
use Rattle.model_machine.specs.Extra.{Extra}
use Rattle.model_machine.specs.Outcomes.{end_of}
use Rattle.model_machine.specs.Outside.{select}
use Rattle.model_machine.specs.State.{State}
use Rattle.model_machine.specs.Turn.{is_stalled, turn, turned_by}
use Rattle.model_machine.specs.Went.{Went, Goes, Stops, answers_in, state_of}
use Rattle.aio_wire.specs.Outside.{Outside}
use Rattle.aio_wire.specs.Replied.{Stays}
use Rattle.aio_wire.specs.Told.{refused_of}
use Rattle.aio_wire.specs.declared.stop.Stop.{Stop}
use Rattle.aio_wire.specs.declared.stop.Stop.TheVariants as stop
use Rattle.aio_extra.specs.Added.{Added}
use Rattle.aio_body.specs.declared.run_state.RunState.{RunState}
use Rattle.aio_core.specs.declared.went.Went as code
use Rattle.aio_core.specs.declared.went.Went.TheVariants as went
use Rattle.aio_body.specs.Asking.{EventsGrow, Piece, WentBegins}
use Rattle.aio_body.specs.Stands.{Context, IsBetween, Possible}
use Rattle.aio_core.specs.Asked.{Asks}

-- none stands before the bar any more
abbrev pub at_bar : {X : Type 0} {a : Added X} → Context a → Context a
at_bar c = record c { left = 0 }

-- ---- between two turns
-- these events were taken out before, and the outside has these answers left
abbrev pub resting : {X : Type 0} → (a : Added X) → List Event → List Entry → (bar : ℕ) → Context a
resting a past answers bar = record { past = past; answers = answers; left = 0; bar = bar; coroutine = None }

abbrev pub IsAtRest : {X : Type 0} → (a : Added X) → List Event → List Entry → RunState X → State a.Kept → Type 0
IsAtRest a past answers body s = (bar : ℕ) × IsBetween (resting a past answers bar) body s

-- ---- what a turn asks
abbrev pub IsSelect : Call → Type 0
IsSelect it = (wait : Option ℕ) × ((watched : List Watch) × (it ≡ select wait watched))

-- the answer is a time, with news or without
abbrev pub IsTime : Answer → Type 0
IsTime (answer.Turn now items) = now ≤ most
IsTime _ = ⊥

-- all that is pending stands before the bar
abbrev pub all_below : {X : Type 0} {a : Added X} → Context a → State a.Kept → Context a
all_below c s = record c { left = length s.loop.parts.pending; bar = s.loop.parts.next_stamp }

-- ---- the end of a turn
-- so many tasks were made, main among them
abbrev pub HasMade : {S : Type 0} → (tasks : ℕ) → State S → Type 0
HasMade tasks s = (tasks ≡ next_task s.loop.parts) × (tasks < 2 ^ 32)

-- The run goes on, or it ended in this way, and what happened is told. Where it finished, each task that was made has its slot.
abbrev pub Turned : {X : Type 0} {a : Added X} → Context a → RunState X → code.Went → Went a.Kept → Type 0
Turned c body went.Went (Goes now) = IsBetween c body now
Turned c body (went.Finished outcome) (Stops it last) =
    (it ≡ end_of outcome) × ((last.events ≡ c.past ++ body.events.events) × HasMade (length body.slots.items) last)
Turned c body (went.Runaway task) (Stops it last) = (it ≡ end.Runaway task) × (last.events ≡ c.past ++ body.events.events)
Turned c body _ _ = ⊥

-- As pieces of the machine: what comes once the turn has its answer, and the whole.
abbrev pub turning_by : {X : Type 0} → (a : Added X) → Answer → (old new : RunState X) → Piece a (State a.Kept) (Went a.Kept) code.Went
turning_by a answer old new =
    record {
      from = λ c s. IsBetween c old s;
      does = turned_by step_limit a.meaning answer;
      ends = Stops;
      says = λ c said it. (bar : ℕ) × Turned (record c { left = 0; bar = bar }) new said it;
      begins = WentBegins;
    }

abbrev pub turning : {X : Type 0} → (a : Added X) → (old new : RunState X) → Piece a (State a.Kept) (Went a.Kept) code.Went
turning a old new =
    record {
      from = λ c s. IsBetween c old s;
      does = turn step_limit a.meaning;
      ends = Stops;
      says = λ c said it. (bar : ℕ) × Turned (record c { left = 0; bar = bar }) new said it;
      begins = WentBegins;
    }

-- ---- a whole turn
-- what a turn said, where it stopped or went on
abbrev pub said_by : Result code.Went Stop → code.Went
said_by (Ok said) = said
said_by (Err stop) = went.Stopped stop

-- these answers were taken of what was told
abbrev pub Takes : (before after : Option (List Entry)) → List Answer → Type 0
Takes before after had = (rest : List Entry) → Agrees after rest → Agrees before (map Answered had ++ rest)

-- Which states are stood for, after events that were taken out before, and over answers that the outside has left.
abbrev pub Stood : Type 0 → Type 1
Stood S = List Event → List Entry → State S → Type 0

abbrev pub stood_by : {X : Type 0} → (a : Added X) → RunState X → Stood a.Kept
stood_by a body past answers s = IsAtRest a past answers body s

-- The machine's turn goes on, and is stood for, whatever the outside has left.
abbrev pub GoesOnFrom : {S : Type 0} → Extra S → List Answer → (old new : Stood S) → Type 0
GoesOnFrom {S} added had old new =
    (past : List Event) (rest : List Entry) (s : State S) → old past (map Answered had ++ rest) s
    → (now : State S) × ((turn step_limit added s ≡ Goes now) × new past rest now)

-- It ends the run in such a way, and what happened is told: what was taken out before, and these events.
pub record EndsTelling {S : Type 0} (added : Extra S) (ways : End → State S → Type 0) (past untaken : List Event) (s : State S) : Type 0 where
  pub end : End
  pub last : State S
  pub way : ways end last
  pub stops : turn step_limit added s ≡ Stops end last
  pub told : last.events ≡ past ++ untaken

abbrev pub EndsFrom : {S : Type 0} → Extra S → List Answer → (left : List Entry → Type 0) → (ways : End → State S → Type 0)
    → (old : Stood S) → (untaken : List Event) → Type 0
EndsFrom {S} added had left ways old untaken =
    (past : List Event) (rest : List Entry) (s : State S) → left rest → old past (map Answered had ++ rest) s
    → EndsTelling added ways past untaken s

abbrev pub Is : {S : Type 0} → End → End → State S → Type 0
Is wanted it last = it ≡ wanted

-- main's outcome, after so many tasks were made
abbrev pub IsFinished : {S : Type 0} → Outcome → (tasks : ℕ) → End → State S → Type 0
IsFinished outcome tasks it last = (it ≡ end_of outcome) × HasMade tasks last

-- the number is the answer's, or the greatest of its type
abbrev pub IsMismatch : {S : Type 0} → ℕ → Call → End → State S → Type 0
IsMismatch count call it last =
    (it ≡ end.Mismatch (answers_in last.events) call) × (count ≡ min (answers_in last.events) (2 ^ 64 - 1))

abbrev pub AnyLeft : List Entry → Type 0
AnyLeft rest = Unit {0}

abbrev pub NoneLeft : List Entry → Type 0
NoneLeft rest = rest ≡ []

abbrev pub NextIs : Entry → List Entry → Type 0
NextIs entry rest = (others : List Entry) × (rest ≡ entry ∷ others)

-- What a turn changes: which states were stood for before it, and which are then; and after it the events that weren't taken out yet,
-- and how many tasks have a slot.
pub record Change (S : Type 0) : Type 1 where
  pub old : Stood S
  pub new : Stood S
  pub untaken : List Event
  pub tasks : ℕ

abbrev pub changed_by : {X : Type 0} → (a : Added X) → (old new : RunState X) → Change a.Kept
changed_by a old new =
    record { old = stood_by a old; new = stood_by a new; untaken = new.events.events; tasks = length new.slots.items }

-- What a turn comes to, by what is seen of the wire before and after it, and by what it changes.
abbrev pub ComesTo : {S : Type 0} → Extra S → (before after : WireSeen) → Change S → code.Went → Type 0
ComesTo added before after it went.Went =
    (had : List Answer) × (Takes before.left after.left had × GoesOnFrom added had it.old it.new)
ComesTo added before after it (went.Finished outcome) =
    (had : List Answer)
    × (Takes before.left after.left had × EndsFrom added had AnyLeft (IsFinished outcome it.tasks) it.old it.untaken)
ComesTo added before after it went.Stalled =
    (before.left ≡ after.left) × EndsFrom added [] AnyLeft (Is end.Stalled) it.old it.untaken
ComesTo added before after it (went.Runaway task) =
    (had : List Answer) × (Takes before.left after.left had × EndsFrom added had AnyLeft (Is (end.Runaway task)) it.old it.untaken)
ComesTo added before after it (went.Stopped (stop.Over call)) =
    (had : List Answer) × (Agrees before.left (map Answered had) × EndsFrom added had NoneLeft (Is (end.Over call)) it.old it.untaken)
ComesTo added before after it (went.Stopped (stop.Bad fault)) =
    (had : List Answer) × (((rest : List Entry) × Agrees before.left (map Answered had ++ refused_of fault ∷ rest))
    × EndsFrom added had (NextIs (refused_of fault)) (Is (end.JournalRefused fault.line fault.cause)) it.old it.untaken)
ComesTo added before after it (went.Stopped (stop.Mismatch count call)) =
    (had : List Answer) × (Takes before.left after.left had × EndsFrom added had AnyLeft (IsMismatch count call) it.old it.untaken)
ComesTo added before after it (went.Stopped (stop.Failed call)) =
    (had : List Answer) × (Takes before.left after.left had × EndsFrom added had NoneLeft (Is (end.Over call)) it.old it.untaken
    × Rose before.faults after.faults)
ComesTo added before after it (went.Stopped stop.Memory) = Unit {0}

-- What a turn asked: what was noted in it, in order, and nothing besides. `was` are the events that weren't taken out before it, and
-- `is` those after it. Where memory was refused, `StarvesAs` says it.
abbrev pub AsksBy : (was is : List Event) → (before after : WireSeen) → code.Went → Type 0
AsksBy was is before after (went.Stopped stop.Memory) = Unit {0}
AsksBy was is before after _ = (told : List Event) × ((is ≡ was ++ told) × Asks told before after)

-- Why a turn stopped: at a refused line only where the wire stands at it, for want of answers only where it has none left, and by an
-- answer that doesn't fit only where not each answer of the wire fits.
abbrev pub HasCause : (before after : WireSeen) → code.Went → Type 0
HasCause before after (went.Stopped (stop.Over call)) = after.end ≡ OutOfAnswers
HasCause before after (went.Stopped (stop.Bad fault)) = after.end ≡ AtRefused fault.line fault.cause
HasCause before after (went.Stopped (stop.Mismatch count call)) = before.fitting ≡ false
HasCause before after _ = Unit {0}

-- What clauses say of a wire over a turn: what is seen of it before and after, that each call of it fails, and what stays of it as
-- long as none does.
pub record WireTurn : Type 1 where
  pub before : WireSeen
  pub after : WireSeen
  pub fails : Type 0
  pub quiet : Type 0

abbrev pub wire_turn : {W : Type 0} → Outside W → (was is : W) → WireTurn
wire_turn o was is = record { before = o.seen was; after = o.seen is; fails = o.fails was; quiet = o.quiet was is }

-- Memory was refused in a turn. With these events the machine's turn begins, over the answers that were had by then: the wire was asked
-- what they tell, and one call besides at most. Where each call fails they are none. `untaken` are those that weren't taken out before.
pub record IsStarved {S : Type 0} (added : Extra S) (wire : WireTurn) (old : Stood S) (untaken : List Event) : Type 0 where
  pub had : List Answer
  pub left : (rest : List Entry) × Agrees wire.before.left (map Answered had ++ rest)
  pub first : List Event
  pub begins : (past : List Event) (rest : List Entry) (s : State S) → old past (map Answered had ++ rest) s
      → EventsGrow (past ++ (untaken ++ first)) (state_of (turn step_limit added s)).events
  pub more : List Event
  pub one : length (calls_in more) ≤ 1
  pub asks : Asks (first ++ more) wire.before wire.after
  pub failing : wire.fails → first ≡ []

abbrev pub StarvesAs : {S : Type 0} → Extra S → WireTurn → (old : Stood S) → (untaken : List Event) → code.Went → Type 0
StarvesAs added wire old untaken (went.Stopped stop.Memory) = IsStarved added wire old untaken
StarvesAs added wire old untaken _ = Unit {0}

-- where the run goes on there is a state that is stood for
abbrev pub AliveIfWent : {X : Type 0} → Added X → code.Went → RunState X → Type 0
AliveIfWent a went.Went body = Possible a IsBetween body
AliveIfWent a _ body = Unit {0}

-- between two turns there is such a state, unless the run ended
abbrev pub AliveUnless : {X : Type 0} → Added X → (ended : Option code.Went) → RunState X → Type 0
AliveUnless a None body = Possible a IsBetween body
AliveUnless a (Some _) body = Unit {0}

-- whether a state is stalled, by what was said
abbrev pub StallsAs : Bool → code.Went → Type 0
StallsAs stalled went.Stalled = stalled ≡ true
StallsAs stalled (went.Stopped stop.Memory) = Unit {0}
StallsAs stalled _ = stalled ≡ false

-- ---- the wire
-- a fact that holds unless it failed in the turn
abbrev pub UnlessFailed : Type 0 → code.Went → Type 0
UnlessFailed fact (went.Stopped (stop.Failed call)) = Unit {0}
UnlessFailed fact _ = fact

-- what may come of a turn over a wire that fails at each call
abbrev pub OfFailing : code.Went → Type 0
OfFailing (went.Stopped (stop.Failed call)) = Unit {0}
OfFailing (went.Stopped stop.Memory) = Unit {0}
OfFailing went.Stalled = Unit {0}
OfFailing _ = ⊥

-- ---- the turn of a body
-- A turn was made over a wire, which `was` so before it and `is` so after it, and this was said.
pub record TurnMade {X W : Type 0} (a : Added X) (o : Outside W) (was is : W) (old new : RunState X) (said : code.Went) : Type 0 where
  -- what it comes to
  pub comes : ComesTo a.meaning (o.seen was) (o.seen is) (changed_by a old new) said
  -- it is stalled where the state was
  pub stalls : (past : List Event) (answers : List Entry) (s : State a.Kept) → IsAtRest a past answers old s
      → StallsAs (is_stalled a.meaning s) said
  -- what it asked, and what it asked where memory was refused
  pub asked : (past : List Event) (answers : List Entry) (s : State a.Kept) → IsAtRest a past answers old s
      → AsksBy old.events.events new.events.events (o.seen was) (o.seen is) said
  pub starved : (past : List Event) (answers : List Entry) (s : State a.Kept) → IsAtRest a past answers old s
      → StarvesAs a.meaning (wire_turn o was is) (stood_by a old) old.events.events said
  -- why it stopped
  pub caused : (past : List Event) (answers : List Entry) (s : State a.Kept) → IsAtRest a past answers old s
      → HasCause (o.seen was) (o.seen is) said
  -- where the run goes on there is a state that is stood for
  pub alive : AliveIfWent a said new
  -- of the wire: what may come where each call fails, what stays from call to call, and what stays unless it failed
  pub fails : o.fails was → OfFailing said
  pub keeps : o.keeps was is
  pub quiet : UnlessFailed (o.quiet was is) said
  -- whether its answers fit stays, and its count of faults didn't fall
  pub stays : Stays (o.seen was) (o.seen is)
