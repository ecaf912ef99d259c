-- What several asks through one port did: which calls had an answer that fits, in order, and how the last one ended.
use Rattle.std.specs.Prelude.{◌≡◌, ℕ, ◌≤◌, true, false, List, [], ◌∷◌, ◌++◌, Option, Some, None, Result, Ok, Err, length, map}
use Rattle.std.specs.List.{AllByRecursion as Each}
use Rattle.model_wire.specs.declared.event.Handed.{Handed}
use Rattle.model_wire.specs.Call.{Call, Answer}
use Rattle.model_wire.specs.Event.{Event, calls_in, handed_by, handed_in}
use Rattle.model_wire.specs.Fits.{fits}
use Rattle.model_wire.specs.Journal.{Entry, Answered}
use Rattle.model_wire.specs.Told.{Agrees, Rose, WireSeen}
use Rattle.aio_wire.specs.EventList.{EventList}
use Rattle.aio_wire.specs.Outside.{Outside}
use Rattle.aio_wire.specs.Port.{Ported, events_after}
use Rattle.aio_wire.specs.Replied.{EndsAs, Stays}
use Rattle.aio_wire.specs.Told.{refused_of}
use Rattle.aio_wire.specs.declared.stop.Stop.{Stop}
use Rattle.aio_wire.specs.declared.stop.Stop.TheVariants as stop
use Rattle.aio_wire.specs.declared.wire.Reply.{Reply}
use Rattle.aio_wire.specs.declared.wire.Reply.TheVariants as reply

-- a call that had an answer, which fits
pub record Exchange : Type 0 where
  pub call : Call
  pub answer : Answer

-- How the asks ended: each had its answer; or one more was asked, whose reply is no answer that fits; or memory was refused.
pub data Last : Type 0 where
  All : Last
  Met : (call : Call) (reply : Reply) → Last
  Starved : Last

-- ---- of the calls that had their answers
abbrev pub calls_of : List Exchange → List Call
calls_of = map (λ (it : Exchange). it.call)

abbrev pub answers_of : List Exchange → List Answer
answers_of = map (λ (it : Exchange). it.answer)

-- what the outside had left before them
abbrev pub entries_of : List Exchange → List Entry
entries_of [] = []
entries_of (it ∷ had) = Answered it.answer ∷ entries_of had

abbrev pub AllFit : List Exchange → Type 0
AllFit = Each (λ (it : Exchange). fits it.call it.answer ≡ true)

abbrev pub noted_by : List Exchange → EventList → EventList
noted_by [] events = events
noted_by (it ∷ had) events = noted_by had (events_after events it.call (reply.Got it.answer))

abbrev pub bytes_to : List Exchange → Handed → List ℕ
bytes_to [] to = []
bytes_to (it ∷ had) to = handed_by to it.call it.answer ++ bytes_to had to

-- ---- of all that were asked
-- a reply that is no answer that fits
abbrev pub IsNoAnswer : Call → Reply → Type 0
IsNoAnswer call (reply.Got answer) = fits call answer ≡ false
IsNoAnswer call _ = Unit {0}

abbrev pub IsLast : Last → Type 0
IsLast All = Unit {0}
IsLast (Met call said) = IsNoAnswer call said
IsLast Starved = Unit {0}

abbrev pub called_last : Last → List Call
called_last All = []
called_last (Met call said) = call ∷ []
called_last Starved = []

-- what is told of the calls that were asked, after these
abbrev pub asked_by : List Call → Option (List Call) → Option (List Call)
asked_by calls None = None
asked_by calls (Some before) = Some (before ++ calls)

-- what is told of the bytes that were handed, after these
abbrev pub handed_to : (Handed → List ℕ) → Option (Handed → List ℕ) → Option (Handed → List ℕ)
handed_to more None = None
handed_to more (Some held) = Some (λ to. held to ++ more to)

-- an answer that doesn't fit is taken by the wire as any other
abbrev pub bytes_by : Call → Reply → Handed → List ℕ
bytes_by call (reply.Got answer) to = handed_by to call answer
bytes_by call reply.Over to = []
bytes_by call (reply.Bad fault) to = []
bytes_by call reply.Failed to = []

abbrev pub bytes_last : Last → Handed → List ℕ
bytes_last (Met call said) to = bytes_by call said to
bytes_last All to = []
bytes_last Starved to = []

-- what was noted
abbrev pub Notes : List Exchange → Last → EventList → EventList → Type 0
Notes had All old new = new ≡ noted_by had old
Notes had (Met call said) old new = new ≡ events_after (noted_by had old) call said
Notes had Starved old new = (more : List Event) × (new.events ≡ old.events ++ more)

-- these answers were the next ones, and what is left then stood after them
abbrev pub Takes : List Exchange → Option (List Entry) → Option (List Entry) → Type 0
Takes had old new = (rest : List Entry) → Agrees new rest → Agrees old (entries_of had ++ rest)

abbrev pub LeavesAfter : List Exchange → Call → Reply → Option (List Entry) → Option (List Entry) → Type 0
LeavesAfter had call (reply.Got answer) old new = (rest : List Entry) → Agrees new rest → Agrees old (entries_of had ++ Answered answer ∷ rest)
LeavesAfter had call reply.Over old new = Agrees old (entries_of had) × Takes had old new
LeavesAfter had call (reply.Bad fault) old new =
    ((rest : List Entry) × Agrees old (entries_of had ++ refused_of fault ∷ rest)) × Takes had old new
LeavesAfter had call reply.Failed old new = Takes had old new

-- where memory was refused the answers stood first, and nothing is said of what is left
abbrev pub AsksLeave : List Exchange → Last → Option (List Entry) → Option (List Entry) → Type 0
AsksLeave had All old new = Takes had old new
AsksLeave had (Met call said) old new = LeavesAfter had call said old new
AsksLeave had Starved old new = (rest : List Entry) × Agrees old (entries_of had ++ rest)

abbrev pub TellsCalls : List Exchange → Last → Option (List Call) → Option (List Call) → Type 0
TellsCalls had Starved old new = Unit {0}
TellsCalls had last old new = new ≡ asked_by (calls_of had ++ called_last last) old

abbrev pub TellsBytes : List Exchange → Last → Option (Handed → List ℕ) → Option (Handed → List ℕ) → Type 0
TellsBytes had Starved old new = Unit {0}
TellsBytes had last old new = new ≡ handed_to (λ to. bytes_to had to ++ bytes_last last to) old

-- One call more at most was asked after them, with its answer or without: these events tell of it.
pub record IsOneMore (had : List Exchange) (old new : WireSeen) : Type 0 where
  pub more : List Event
  pub one : length (calls_in more) ≤ 1
  pub asks : new.asked ≡ asked_by (calls_of had ++ calls_in more) old.asked
  pub hands : (called : Option Call) → new.handed ≡ handed_to (λ to. bytes_to had to ++ handed_in more called to) old.handed

-- so it is where memory was refused
abbrev pub Besides : List Exchange → Last → WireSeen → WireSeen → Type 0
Besides had All old new = Unit {0}
Besides had (Met call said) old new = Unit {0}
Besides had Starved old new = IsOneMore had old new

-- a wire fails only where its count of faults rose
abbrev pub FailsIfRose : Last → ℕ → ℕ → Type 0
FailsIfRose (Met call reply.Failed) was is = Rose was is
FailsIfRose _ was is = Unit {0}

-- the wire's end, where it replied that
abbrev pub EndsSo : Last → WireSeen → Type 0
EndsSo (Met call said) new = EndsAs new.end said
EndsSo _ new = Unit {0}

-- a fitting wire gives no answer that doesn't fit
abbrev pub IsFitting : Last → Type 0
IsFitting (Met call (reply.Got answer)) = ⊥
IsFitting _ = Unit {0}

abbrev pub UnlessFailed : Type 0 → Last → Type 0
UnlessFailed fact (Met call reply.Failed) = Unit {0}
UnlessFailed fact _ = fact

-- the first call fails, where each does
abbrev pub IsFailing : Last → Type 0
IsFailing (Met call reply.Failed) = Unit {0}
IsFailing Starved = Unit {0}
IsFailing All = Unit {0}
IsFailing _ = ⊥

-- where nothing was asked nothing changed
abbrev pub Unasked : {A : Type 0} → List Exchange → Last → (old new : A) → Type 0
Unasked [] All old new = new ≡ old
Unasked _ _ old new = Unit {0}

pub record Exchanged {W : Type 0} (o : Outside W) (had : List Exchange) (last : Last) (old new : Ported W) : Type 0 where
  pub unasked : Unasked had last old new
  pub fit : AllFit had
  pub is_last : IsLast last
  pub notes : Notes had last old.events new.events
  pub leaves : AsksLeave had last (o.seen old.wire).left (o.seen new.wire).left
  pub asks : TellsCalls had last (o.seen old.wire).asked (o.seen new.wire).asked
  pub hands : TellsBytes had last (o.seen old.wire).handed (o.seen new.wire).handed
  pub besides : Besides had last (o.seen old.wire) (o.seen new.wire)
  pub ends : EndsSo last (o.seen new.wire)
  pub fitting : (o.seen old.wire).fitting ≡ true → IsFitting last
  pub failed : FailsIfRose last (o.seen old.wire).faults (o.seen new.wire).faults
  pub stays : Stays (o.seen old.wire) (o.seen new.wire)
  pub failing : o.fails old.wire → (had ≡ []) × IsFailing last
  pub keeps : o.keeps old.wire new.wire
  pub unchanged : UnlessFailed (o.quiet old.wire new.wire) last

-- the stop that such an end is; `count` is how many answers the run had
abbrev pub StopsAs : Last → (count : ℕ) → Stop → Type 0
StopsAs All count why = ⊥
StopsAs (Met call (reply.Got answer)) count why = why ≡ stop.Mismatch count call
StopsAs (Met call reply.Over) count why = why ≡ stop.Over call
StopsAs (Met call (reply.Bad fault)) count why = why ≡ stop.Bad fault
StopsAs (Met call reply.Failed) count why = why ≡ stop.Failed call
StopsAs Starved count why = why ≡ stop.Memory

-- ---- one ask
abbrev pub IsOf : Call → Last → Type 0
IsOf call All = ⊥
IsOf call (Met other said) = other ≡ call
IsOf call Starved = Unit {0}

-- what one ask comes to
abbrev pub AsksOne : {W : Type 0} → Outside W → Call → (old new : Ported W) → Result Answer Stop → Type 0
AsksOne o call old new (Ok answer) = Exchanged o (record { call = call; answer = answer } ∷ []) All old new
AsksOne o call old new (Err why) = (last : Last) × (IsOf call last × StopsAs last new.events.answers why × Exchanged o [] last old new)
