-- How often the outside was asked, and how that goes with the answers that it has left: each call takes one, but a last one, at
-- which the run ends.
use Rattle.std.specs.Prelude.{◌≡◌, ℕ, suc, ◌+◌, ◌≤◌, List, [], ◌∷◌, length}
use Rattle.model_wire.specs.declared.event.Event.TheVariants as event
use Rattle.model_wire.specs.Event.{Event}
use Rattle.model_machine.specs.Replies.{RequestReply, Answers, Raises, Suspends, Halts}
use Rattle.model_machine.specs.State.{State}
use Rattle.model_machine.specs.Went.{Went, Goes, Stops}

abbrev pub asks_in : List Event → ℕ
asks_in [] = 0
asks_in (event.Called call ∷ events) = suc (asks_in events)
asks_in (event.Got answer ∷ events) = asks_in events
asks_in (event.Ran action ∷ events) = asks_in events
asks_in (event.Said task text ∷ events) = asks_in events

-- each call from one state to another took an answer
abbrev pub IsAnswered : {S : Type 0} → State S → State S → Type 0
IsAnswered s t = asks_in t.events + length t.answers ≡ asks_in s.events + length s.answers

-- but perhaps the last
abbrev pub IsAnsweredBefore : {S : Type 0} → State S → State S → Type 0
IsAnsweredBefore s t = asks_in t.events + length t.answers ≤ asks_in s.events + length s.answers + 1

-- what a request and a callback come to
abbrev pub ReplyAsks : {S : Type 0} → State S → RequestReply S → Type 0
ReplyAsks s (Answers value now) = IsAnswered s now
ReplyAsks s (Raises fault now) = IsAnswered s now
ReplyAsks s (Suspends now) = IsAnswered s now
ReplyAsks s (Halts how last) = IsAnsweredBefore s last

abbrev pub WentAsks : {S : Type 0} → State S → Went S → Type 0
WentAsks s (Goes now) = IsAnswered s now
WentAsks s (Stops how last) = IsAnsweredBefore s last
