-- What was written to a connection or a child's standard input so far, and what it was handed: the first by the pieces that
-- were noted, the second by the events.
use Rattle.std.specs.Prelude.{ℕ, Bool, false, ◌==◌, if◌then◌else◌, List, [], ◌∷◌, ◌++◌, Option, Some, None}
use Rattle.model_wire.specs.declared.event.Event.TheVariants as event
use Rattle.model_wire.specs.declared.event.Handed.{Handed}
use Rattle.model_wire.specs.declared.event.Handed.TheVariants as to
use Rattle.model_wire.specs.Call.{Call, Answer}
use Rattle.model_wire.specs.Event.{Event, handed_by}
use Rattle.model_stream.specs.Streams.{Written}

abbrev pub is_same : Handed → Handed → Bool
is_same (to.Conn id) (to.Conn other) = id == other
is_same (to.Conn id) (to.Child other) = false
is_same (to.Child id) (to.Conn other) = false
is_same (to.Child id) (to.Child other) = id == other

-- all that was written, in order
abbrev pub written_to : Handed → List Written → List ℕ
written_to whom [] = []
written_to whom (one ∷ more) = (if is_same whom one.to then one.piece else []) ++ written_to whom more

-- the bytes of the last call that its answer says were taken
abbrev pub handed_in : Handed → Option Call → Answer → List ℕ
handed_in whom None answer = []
handed_in whom (Some call) answer = handed_by whom call answer

-- all that was handed on by events, in order; `last` is the call that they answer first
abbrev pub handed_after : Handed → (last : Option Call) → List Event → List ℕ
handed_after whom last [] = []
handed_after whom last (event.Called call ∷ events) = handed_after whom (Some call) events
handed_after whom last (event.Got answer ∷ events) = handed_in whom last answer ++ handed_after whom None events
handed_after whom last (event.Ran action ∷ events) = handed_after whom last events
handed_after whom last (event.Said task text ∷ events) = handed_after whom last events

abbrev pub handed : Handed → List Event → List ℕ
handed whom events = handed_after whom None events
