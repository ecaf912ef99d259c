-- The machine's state after a way: the loop's parts are changed, the calls and their answers are noted, and the outside has
-- this left to answer. The streams are still those from which the tree began.
use Rattle.std.specs.Prelude.{List, ◌++◌}
use Rattle.model_wire.specs.declared.event.Event.TheVariants as event
use Rattle.model_wire.specs.Call.{Answer, Call}
use Rattle.model_wire.specs.Journal.{Entry}
use Rattle.model_loop.specs.Loop.{in_parts}
use Rattle.model_machine.specs.Does.{changed}
use Rattle.model_machine.specs.State.{State, noted}
use Rattle.aio_exchange.specs.Among.{told_by}
use Rattle.aio_exchange.specs.Ways.{Move, had_on, changed_on}

abbrev pub along : {S : Type 0} → List Move → (left : List Entry) → State S → State S
along way left s =
    record s { loop = in_parts (changed_on changed way) s.loop; events = s.events ++ told_by (had_on way); answers = left }

-- and after one call more, which has no answer, or this one, which doesn't fit
abbrev pub called_on : {S : Type 0} → List Move → Call → (left : List Entry) → State S → State S
called_on way call left s = noted (event.Called call) (along way left s)

abbrev pub heard_on : {S : Type 0} → List Move → Call → Answer → (left : List Entry) → State S → State S
heard_on way call answer left s = noted (event.Got answer) (called_on way call left s)
