-- What is kept of a child, and what is asked of it.
use Rattle.std.specs.Prelude.{ℕ, Bool, true, false, ◌&&◌, ◌==◌, ◌-◌, Option, Some, None, nat_le, if◌then◌else◌}
use Rattle.model_pump.specs.declared.stream.Stream.{Stream}
use Rattle.model_pump.specs.declared.stream.Stream.TheVariants as stream
use Rattle.model_hub.specs.declared.child.Child.{Child}
use Rattle.model_hub.specs.declared.child.Closing.{Closing}
use Rattle.model_hub.specs.declared.child.Closing.TheVariants.{Open, Owed, Closed, Unclosable}
use Rattle.model_hub.specs.declared.child.Flow.{Flow}
use Rattle.model_hub.specs.declared.child.Seats.{Seats}
use Rattle.model_hub.specs.declared.child.Stay.{Stay}
use Rattle.model_hub.specs.declared.child.Stay.TheVariants.{Running, Holding, Gone}
use Rattle.model_hub.specs.declared.pump.Pump.{Pump}
use Rattle.model_hub.specs.declared.pump.Pump.TheVariants as pump

abbrev pub new_flow : Flow
new_flow = record { gos = 0; pieces = 0; ended = false; owes = false }

abbrev pub new_child : ℕ → Seats → Child
new_child number seats =
    record {
      number = number;
      seats = seats;
      stay = Running;
      out = new_flow;
      errs = new_flow;
      writes = 0;
      rooms = 0;
      broken = false;
      closing = Open;
      exited = false;
    }

abbrev pub runs : Stay → Bool
runs Running = true
runs Holding = false
runs Gone = false

abbrev pub holds : Stay → Bool
holds Running = true
holds Holding = true
holds Gone = false

abbrev pub was_given : Closing → Bool
was_given Open = false
was_given Owed = false
was_given Closed = true
was_given Unclosable = false

abbrev pub is_owed : Closing → Bool
is_owed Open = false
is_owed Owed = true
is_owed Closed = false
is_owed Unclosable = false

abbrev pub is_unasked : Closing → Bool
is_unasked Open = true
is_unasked Owed = false
is_unasked Closed = false
is_unasked Unclosable = false

-- how many Writes to it have no Room post taken
abbrev pub waiting : Child → ℕ
waiting child = child.writes - child.rooms

-- its standard input is over: closed, with a Room post for each Write; or broken
abbrev pub is_stdin_over : Child → Bool
is_stdin_over child = if child.broken then true else was_given child.closing && nat_le child.writes child.rooms

-- its pipes are over
abbrev pub is_over : Child → Bool
is_over child = child.out.ended && child.errs.ended && child.exited && is_stdin_over child

abbrev pub flow_of : Stream → Child → Flow
flow_of stream.Out child = child.out
flow_of stream.Errs child = child.errs

abbrev pub with_flow : Stream → Flow → Child → Child
with_flow stream.Out flow child = record child { out = flow }
with_flow stream.Errs flow child = record child { errs = flow }

-- whose pump has this seat of these four
abbrev pub pump_at : ℕ → Seats → Option Pump
pump_at seat seats =
    if seat == seats.stdin then Some pump.Stdin
    else if seat == seats.out then Some pump.Out
    else if seat == seats.errs then Some pump.Errs
    else if seat == seats.exit then Some pump.Exit
    else None

-- the pump of this child to which the seat is lent
abbrev pub pump_of : ℕ → Child → Option Pump
pump_of seat child = if holds child.stay then pump_at seat child.seats else None
