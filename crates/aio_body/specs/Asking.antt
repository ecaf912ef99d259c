-- What a call comes to that may ask the outside in the middle of a step. The answers that it had stand before those that are left
-- then; a call that asks nothing has none.
use Rattle.std.specs.Prelude.{◌≡◌, ℕ, ◌-◌, ◌^◌, List, [], ◌∷◌, ◌++◌, Result, Ok, Err, min}
use Rattle.model_value.specs.Request.{Request}
use Rattle.model_wire.specs.declared.event.End.TheVariants as end
use Rattle.model_wire.specs.Event.{Event}
use Rattle.model_wire.specs.Journal.{Entry, Answered}
use Rattle.model_wire.specs.Trace.{End}
use Rattle.model_machine.specs.Replies as plain
use Rattle.model_machine.specs.Replies.{reply}
use Rattle.model_machine.specs.State.{State}
use Rattle.model_machine.specs.Went.{Went, answers_in, state_of}
use Rattle.aio_wire.specs.EventList.{EventList}
use Rattle.aio_wire.specs.Outside.{Outside}
use Rattle.aio_wire.specs.Port.{Ported}
use Rattle.aio_wire.specs.Told.{refused_of}
use Rattle.aio_wire.specs.declared.stop.Stop.{Stop}
use Rattle.aio_wire.specs.declared.stop.Stop.TheVariants as stop
use Rattle.aio_wire.specs.declared.wire.Reply.TheVariants as reply
use Rattle.aio_exchange.specs.Among.{AreTold, ExchangedOn}
use Rattle.aio_exchange.specs.Exchanged.{Exchange, Last, All, Met, Starved, StopsAs, entries_of}
use Rattle.aio_base.specs.declared.memory.Memory.{Memory}
use Rattle.aio_extra.specs.Added.{Added}
use Rattle.aio_body.specs.declared.run_state.RunState.{RunState}
use Rattle.aio_body.specs.declared.reply.RequestReply.{RequestReply}
use Rattle.aio_body.specs.Asked.{IsAskingFor, Says}
use Rattle.aio_body.specs.Stands.{Context}

-- these answers were left, and were had
abbrev pub before : {X : Type 0} {a : Added X} → List Exchange → Context a → Context a
before had c = record c { answers = entries_of had ++ c.answers }

-- ---- the machine ends the run there
-- what the outside has left after the answers that were had
abbrev pub RestFits : Last → List Entry → Type 0
RestFits All rest = Unit {0}
RestFits (Met call (reply.Got answer)) rest = (more : List Entry) × (rest ≡ Answered answer ∷ more)
RestFits (Met call reply.Over) rest = rest ≡ []
RestFits (Met call (reply.Bad fault)) rest = (more : List Entry) × (rest ≡ refused_of fault ∷ more)
RestFits (Met call reply.Failed) rest = rest ≡ []
RestFits Starved rest = ⊥

-- the end that such a stop is
abbrev pub EndsAs : {S : Type 0} → Stop → End → State S → Type 0
EndsAs (stop.Over call) it last = it ≡ end.Over call
EndsAs (stop.Bad fault) it last = it ≡ end.JournalRefused fault.line fault.cause
EndsAs (stop.Mismatch count call) it last =
    (it ≡ end.Mismatch (answers_in last.events) call) × (count ≡ min (answers_in last.events) (2 ^ 64 - 1))
EndsAs (stop.Failed call) it last = it ≡ end.Over call
EndsAs stop.Memory it last = ⊥

-- it ends the run so, and what happened is told: what was taken out before, and what wasn't yet
pub record StopsWith {S M : Type 0} (ends : End → State S → M) (why : Stop) (past untaken : List Event) (machine : M) : Type 0 where
  pub end : End
  pub last : State S
  pub way : EndsAs why end last
  pub stops : machine ≡ ends end last
  pub told : last.events ≡ past ++ untaken

-- ---- memory was refused there
-- events go on with more
abbrev pub EventsGrow : List Event → List Event → Type 0
EventsGrow was is = (more : List Event) × (is ≡ was ++ more)

-- the events of the state that is left begin with these
abbrev pub ReplyBegins : {S : Type 0} → List Event → plain.RequestReply S → Type 0
ReplyBegins events (plain.Answers value now) = EventsGrow events now.events
ReplyBegins events (plain.Raises fault now) = EventsGrow events now.events
ReplyBegins events (plain.Suspends now) = EventsGrow events now.events
ReplyBegins events (plain.Halts end last) = EventsGrow events last.events

abbrev pub WentBegins : {S : Type 0} → List Event → Went S → Type 0
WentBegins events it = EventsGrow events (state_of it).events

-- ---- a call
-- A piece of the machine that a call does: where it may begin, what the machine does from there, how it ends a run in it, what
-- the call says of it, and with which events that begins which it leaves. `At` is mostly a state.
pub record Piece {X : Type 0} (a : Added X) (At M R : Type 0) : Type 1 where
  pub from : Context a → At → Type 0
  pub does : At → M
  pub ends : End → State a.Kept → M
  pub says : Context a → R → M → Type 0
  pub begins : List Event → M → Type 0

-- The machine does the same, from wherever it began; or it ends the run where the outside has no answer that fits. Where memory was
-- refused, what was asked by then is among the first that it does.
abbrev pub ComesBy : {X At M R : Type 0} {a : Added X} → Piece a At M R → List Exchange → Last → (old new : EventList) → Result R Stop → Type 0
ComesBy {At = At} {a = a} it had All old new (Ok said) =
    (c : Context a) (at : At) → it.from (before had c) at → AreTold had All old.events new.events × it.says c said (it.does at)
ComesBy {At = At} {a = a} it had (Met call reply) old new (Err why) =
    StopsAs (Met call reply) new.answers why
    × ((c : Context a) (at : At) → it.from (before had c) at → RestFits (Met call reply) c.answers
    → AreTold had (Met call reply) old.events new.events × StopsWith it.ends why c.past new.events (it.does at))
ComesBy {At = At} {a = a} it had Starved old new (Err why) =
    (why ≡ stop.Memory)
    × ((mid : List Event) × ((c : Context a) (at : At) → it.from (before had c) at
    → AreTold had All old.events mid × it.begins (c.past ++ mid) (it.does at)))
ComesBy it had _ old new _ = ⊥

-- What a call comes to that may ask: `had` are the calls that had an answer that fits, and `last` is how they ended.
pub record Comes {X W At M R : Type 0} {a : Added X} (o : Outside W) (it : Piece a At M R) (old new : Ported W) (result : Result R Stop) : Type 0 where
  pub had : List Exchange
  pub last : Last
  pub exchanged : ExchangedOn o had last old.wire new.wire
  pub comes : ComesBy it had last old.events new.events result

-- the result of a call that asks nothing, among those that may
abbrev pub or_stop : {R : Type 0} → Result R Memory → Result R Stop
or_stop (Ok said) = Ok said
or_stop (Err memory) = Err stop.Memory

-- ---- a request that was asked is served as the table of requests says
abbrev pub serving : {X : Type 0} → (a : Added X) → ℕ → Request → (old new : RunState X) → Piece a (State a.Kept) (plain.RequestReply a.Kept) RequestReply
serving a task request old new =
    record {
      from = λ c s. IsAskingFor task request c old s;
      does = reply a.meaning task request;
      ends = plain.Halts;
      says = λ c said it. Says task c new said it;
      begins = ReplyBegins;
    }
