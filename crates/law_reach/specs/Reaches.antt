-- Rows of changes of the machine's state, and what a request and a callback come to.
use Rattle.std.specs.Prelude.{ℕ, Option, ◌⊎◌}
use Rattle.model_wire.specs.declared.event.End.TheVariants as end
use Rattle.model_wire.specs.Trace.{End}
use Rattle.model_machine.specs.Extra.{Extra}
use Rattle.model_machine.specs.Replies.{RequestReply, Answers, Raises, Suspends, Halts}
use Rattle.model_machine.specs.State.{State}
use Rattle.model_machine.specs.Went.{Went, Goes, Stops, state_of}
use Rattle.law_changes.specs.Reaches.{Reaches}
use Rattle.law_reach.specs.Asked.{ReplyAsks, WentAsks}
use Rattle.law_reach.specs.Changes.{MayAsk, MayInAnswer, MayInCallback, MayInRun, MayInTurn, made}

abbrev pub InAnswer : {S : Type 0} → Extra S → (runner : Option ℕ) → State S → State S → Type 0
InAnswer added runner = Reaches made (MayInAnswer added runner)

abbrev pub InCallback : {S : Type 0} → Extra S → (runner : Option ℕ) → State S → State S → Type 0
InCallback added runner = Reaches made (MayInCallback added runner)

abbrev pub InTurn : {S : Type 0} → Extra S → State S → State S → Type 0
InTurn added = Reaches made (MayInTurn added)

abbrev pub InRun : {S : Type 0} → State S → State S → Type 0
InRun = Reaches made MayInRun

-- ---- how a run ends in the middle of a turn
abbrev pub IsRunaway : End → Type 0
IsRunaway (end.Runaway task) = Unit {0}
IsRunaway _ = ⊥

-- a call has no answer that fits
abbrev pub IsUnmet : End → Type 0
IsUnmet (end.Over call) = Unit {0}
IsUnmet (end.JournalRefused line cause) = Unit {0}
IsUnmet (end.Mismatch answer call) = Unit {0}
IsUnmet _ = ⊥

-- by a task that runs away, and where the outside may be asked also by a call
abbrev pub EndsIn : {S : Type 0} → Extra S → State S → End → Type 0
EndsIn added s how = IsRunaway how ⊎ (MayAsk added s × IsUnmet how)

abbrev pub HaltsIn : {S : Type 0} → Extra S → State S → RequestReply S → Type 0
HaltsIn added s (Halts how last) = EndsIn added s how
HaltsIn added s _ = Unit {0}

abbrev pub StopsIn : {S : Type 0} → Extra S → State S → Went S → Type 0
StopsIn added s (Goes now) = Unit {0}
StopsIn added s (Stops how last) = EndsIn added s how

-- ---- what a request, a callback and a turn come to
abbrev pub left_by : {S : Type 0} → RequestReply S → State S
left_by (Answers value now) = now
left_by (Raises fault now) = now
left_by (Suspends now) = now
left_by (Halts how last) = last

pub record ComesTo {S : Type 0} (added : Extra S) (runner : Option ℕ) (s : State S) (it : RequestReply S) : Type 0 where
  pub reaches : InAnswer added runner s (left_by it)
  pub ends : HaltsIn added s it
  pub asks : ReplyAsks s it

pub record GoesTo {S : Type 0} (added : Extra S) (runner : Option ℕ) (s : State S) (went : Went S) : Type 0 where
  pub reaches : InCallback added runner s (state_of went)
  pub ends : StopsIn added s went
  pub asks : WentAsks s went

-- callbacks of a turn, once its select was answered
pub record TurnsTo {S : Type 0} (added : Extra S) (s : State S) (went : Went S) : Type 0 where
  pub reaches : InTurn added s (state_of went)
  pub ends : StopsIn added s went
  pub asks : WentAsks s went
