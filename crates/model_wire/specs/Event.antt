-- What happens in a run, in order; and which bytes a connection or a child is handed by it.
use Rattle.std.specs.Prelude.{ℕ, Bool, ◌&&◌, ◌==◌, List, [], ◌∷◌, ◌++◌, Option, Some, None, length, take, if◌then◌else◌}
use Rattle.model_value.specs.declared.action.Action as action
use Rattle.model_wire.specs.declared.answer.Answer.TheVariants as answer
use Rattle.model_wire.specs.declared.call.Call.TheVariants as call
use Rattle.model_wire.specs.declared.event.Event as event
use Rattle.model_wire.specs.declared.event.Event.TheVariants as happened
use Rattle.model_wire.specs.declared.event.Handed.{Handed}
use Rattle.model_wire.specs.declared.event.Handed.TheVariants as to
use Rattle.model_wire.specs.Call.{Call, Answer}
use Rattle.model_wire.specs.Fits.{is_some_within}

-- what a handle runs, over plain bytes
abbrev pub Action : Type 0
Action = action.Action (List ℕ)

abbrev pub Event : Type 0
Event = event.Event Call Answer Action (List ℕ)

-- the front of a piece that an answer says was taken, where it can be
abbrev pub taken_of : Bool → List ℕ → ℕ → List ℕ
taken_of same bytes count = if same && is_some_within (length bytes) count then take count bytes else []

-- what a call with its answer hands to a connection or a child: the bytes of a send or a feed to it that were taken
abbrev pub handed_by : Handed → Call → Answer → List ℕ
handed_by (to.Conn conn) (call.Send other bytes) (answer.Took count) = taken_of (conn == other) bytes count
handed_by (to.Child child) (call.Feed other bytes) (answer.Took count) = taken_of (child == other) bytes count
handed_by _ _ _ = []

-- the calls of events, in order
abbrev pub calls_in : List Event → List Call
calls_in [] = []
calls_in (happened.Called call ∷ events) = call ∷ calls_in events
calls_in (happened.Got answer ∷ events) = calls_in events
calls_in (happened.Ran action ∷ events) = calls_in events
calls_in (happened.Said task text ∷ events) = calls_in events

-- what an answer hands to a connection or a child, by the call before it
abbrev pub handed_after : Option Call → Answer → Handed → List ℕ
handed_after None answer to = []
handed_after (Some call) answer to = handed_by to call answer

-- The bytes that events hand to a connection or a child. An answer is that of the call before it; before them all came `last`.
abbrev pub handed_in : List Event → (last : Option Call) → Handed → List ℕ
handed_in [] last to = []
handed_in (happened.Called call ∷ events) last to = handed_in events (Some call) to
handed_in (happened.Got answer ∷ events) last to = handed_after last answer to ++ handed_in events last to
handed_in (happened.Ran action ∷ events) last to = handed_in events last to
handed_in (happened.Said task text ∷ events) last to = handed_in events last to
