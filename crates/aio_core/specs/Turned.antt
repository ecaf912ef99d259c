-- What a turn of a kernel comes to, by the states of the machine that it stands for.
use Rattle.std.specs.Prelude.{◌≡◌, ℕ, List, [], ◌++◌, Option, Some, None, ◌⊎◌, IfSome, length}
use Rattle.model_tree.specs.Syntax.{Program}
use Rattle.model_wire.specs.Call.{Answer}
use Rattle.model_wire.specs.Event.{Event}
use Rattle.model_wire.specs.Journal.{Entry}
use Rattle.model_wire.specs.Told.{WireSeen}
use Rattle.model_wire.specs.Trace.{End}
use Rattle.model_machine.specs.Replies.{most_ids}
use Rattle.model_machine.specs.State.{State, start}
use Rattle.model_machine.specs.Turn.{is_stalled}
use Rattle.aio_extra.specs.Added.{Added}
use Rattle.aio_wire.specs.Outside.{Outside}
use Rattle.aio_wire.specs.Replied.{Stays}
use Rattle.aio_wire.specs.declared.stop.Stop.TheVariants as stop
use Rattle.aio_core.specs.declared.kernel.Kernel.{Kernel}
use Rattle.aio_core.specs.declared.went.Went as code
use Rattle.aio_core.specs.declared.went.Went.TheVariants as went
use Rattle.aio_core.specs.Turning.{AsksBy, Change, ComesTo, EndsFrom, EndsTelling, GoesOnFrom, HasCause, IsAtRest}
use Rattle.aio_core.specs.Turning.{OfFailing, StallsAs, StarvesAs, Stood, UnlessFailed, WireTurn, wire_turn}
use Rattle.aio_core.specs.Again.{Again}
use Rattle.aio_core.specs.Sound.{IsTurnSound}

-- the events that weren't taken out yet
abbrev pub untaken : {X : Type 0} {g : _} → Kernel X g → List Event
untaken kernel = kernel.body.events.events

-- how many tasks have a slot
abbrev pub held_tasks : {X : Type 0} {g : _} → Kernel X g → ℕ
held_tasks kernel = length kernel.body.slots.items

-- how the run ended, if it did
abbrev pub ended : {X : Type 0} {g : _} → Kernel X g → Option code.Went
ended kernel = kernel.ended

-- A kernel stands for a state between two turns, where these events were taken out before and the outside has these left
-- to answer. The run hasn't ended.
pub record KernelStandsFor {X : Type 0} {g : _} (a : Added X) (past : List Event) (left : List Entry) (kernel : Kernel X g)
    (s : State a.Kept) : Type 0 where
  pub events : s.events ≡ past ++ untaken kernel
  pub answers : s.answers ≡ left
  pub goes : ended kernel ≡ None
  pub rests : IsAtRest a past left kernel.body s

-- a run begins, in which what is added keeps nothing so far
abbrev pub Begins : {X : Type 0} {g : _} → (a : Added X) → a.Kept → Program → Kernel X g → Type 0
Begins a kept program kernel = (answers : List Entry) → KernelStandsFor a [] answers kernel (start most_ids kept program answers)

-- ---- a turn
abbrev pub stood_for : {X : Type 0} {g : _} → (a : Added X) → Kernel X g → Stood a.Kept
stood_for a kernel past left s = KernelStandsFor a past left kernel s

abbrev pub KernelGoesOn : {X : Type 0} {g : _} → Added X → List Answer → (old new : Kernel X g) → Type 0
KernelGoesOn a had old new = GoesOnFrom a.meaning had (stood_for a old) (stood_for a new)

abbrev pub Ends : {X : Type 0} {g : _} → (a : Added X) → (ways : End → State a.Kept → Type 0) → (past : List Event)
    → (new : Kernel X g) → State a.Kept → Type 0
Ends a ways past new s = EndsTelling a.meaning ways past (untaken new) s

abbrev pub EndsAs : {X : Type 0} {g : _} → (a : Added X) → List Answer → (left : List Entry → Type 0)
    → (ways : End → State a.Kept → Type 0) → (old new : Kernel X g) → Type 0
EndsAs a had left ways old new = EndsFrom a.meaning had left ways (stood_for a old) (untaken new)

-- what a turn changes
abbrev pub change_of : {X : Type 0} {g : _} → (a : Added X) → (old new : Kernel X g) → Change a.Kept
change_of a old new =
    record { old = stood_for a old; new = stood_for a new; untaken = untaken new; tasks = held_tasks new }

-- what a turn comes to, by what is seen of the wire before and after it
abbrev pub TurnsTo : {X : Type 0} {g : _} → Added X → (before after : WireSeen) → (old new : Kernel X g) → code.Went → Type 0
TurnsTo a before after old new said = ComesTo a.meaning before after (change_of a old new) said

-- A turn of a run that hasn't ended. `said` is what it came to; memory may have been refused after it.
pub record TurnedBy {X : Type 0} {g : _} (a : Added X) (wire : WireTurn) (old new : Kernel X g) (result said : code.Went) : Type 0 where
  pub turns : TurnsTo a wire.before wire.after old new said
  pub stalls : (past : List Event) (answers : List Entry) (s : State a.Kept) → KernelStandsFor a past answers old s
      → StallsAs (is_stalled a.meaning s) said
  pub asks : (past : List Event) (answers : List Entry) (s : State a.Kept) → KernelStandsFor a past answers old s
      → AsksBy (untaken old) (untaken new) wire.before wire.after said
  pub caused : (past : List Event) (answers : List Entry) (s : State a.Kept) → KernelStandsFor a past answers old s
      → HasCause wire.before wire.after said
  pub starved : (past : List Event) (answers : List Entry) (s : State a.Kept) → KernelStandsFor a past answers old s
      → StarvesAs a.meaning wire (stood_for a old) (untaken old) said
  pub unchanged : UnlessFailed wire.quiet said
  pub failing : wire.fails → OfFailing said
  pub either : (result ≡ said) ⊎ (result ≡ went.Stopped stop.Memory)

-- Each answer is kept but `Went`.
abbrev pub KeepsEnd : (result : code.Went) → (kept : Option code.Went) → Type 0
KeepsEnd went.Went kept = Unit {0}
KeepsEnd result kept = kept ≡ Some result

-- A kernel was to make a turn over a wire, which `was` so before it and `is` so after it.
pub record KernelTurned {X W : Type 0} {g : _} (a : Added X) (o : Outside W) (was is : W) (old new : Kernel X g) (result : code.Went) : Type 0 where
  -- where the run hadn't ended it made one
  pub turned : ended old ≡ None → (said : code.Went) × TurnedBy a (wire_turn o was is) old new result said
  -- which is sound all along
  pub sound : (past : List Event) (answers : List Entry) (s : State a.Kept) → KernelStandsFor a past answers old s → IsTurnSound a s
  -- of the wire: what stays from call to call, and whether its answers fit, which stays, with its count of faults, which didn't fall
  pub keeps : o.keeps was is
  pub stays : Stays (o.seen was) (o.seen is)
  -- the end is kept, and after it nothing is asked
  pub kept : KeepsEnd result (ended new)
  pub again : IfSome (ended old) (λ went. Again went result)
  pub unchanged : IfSome (ended old) (λ went. is ≡ was)
