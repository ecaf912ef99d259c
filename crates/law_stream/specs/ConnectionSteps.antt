-- What happens to a connection that stands, step by step.
use Rattle.std.specs.Prelude.{ℕ, ◌+◌, ℤ, Bool, List, [], ◌++◌, Option}
use Rattle.model_stream.specs.Connections.{Connection, close, drain_of, handler_done, its_receiver, limits_of, lose, readable, writable, write_eof, write_to}
use Rattle.model_stream.specs.Doing.{Doing, Ends, and_then, on}
use Rattle.model_stream.specs.Sending.{put_answer, written_of}
use Rattle.law_stream.specs.SenderSteps.{Leads}
use Rattle.law_stream.specs.SoundSenders.{MayLose}
use Rattle.law_stream.specs.Ways.{Move}
use Rattle.law_stream.specs.SoundReceivers as receivers

pub data ConnectionStep : Type 0 where
  -- the outside is ready to give, or to take
  IsReadable : ConnectionStep
  IsWritable : ConnectionStep
  -- the loss is done, by the callback that was scheduled (1) or with the last send (0)
  Loses : (ran : ℕ) (broken : Bool) → ConnectionStep
  Closes : ConnectionStep
  HandlerEnds : (returned : Bool) → ConnectionStep
  WritesEnd : ConnectionStep
  Writes : (piece : List ℕ) → ConnectionStep
  Drains : (yielded : Bool) (next : ℕ) → ConnectionStep
  SetsLimits : (high low : Option ℤ) → ConnectionStep
  -- what is done with its receiving side alone, as a read
  Takes : (step : receivers.ReceiverStep) → ConnectionStep

abbrev pub connection_of : {R : Type 0} → Doing (Connection × R) → Doing Connection
connection_of doing = and_then doing (λ done. Ends done.0)

abbrev pub done : (id : ℕ) → ConnectionStep → Connection → Doing Connection
done id IsReadable c = readable id c
done id IsWritable c = writable id c
done id (Loses ran broken) c = lose id broken c
done id Closes c = close id c
done id (HandlerEnds returned) c = handler_done id returned c
done id WritesEnd c = write_eof id c
done id (Writes piece) c = connection_of (write_to id piece c)
done id (Drains yielded next) c = connection_of (drain_of yielded next c)
done id (SetsLimits high low) c = connection_of (limits_of high low c)
done id (Takes step) c = on its_receiver (receivers.done step) c

-- the loss is done once
abbrev pub May : ConnectionStep → Connection → Type 0
May IsReadable c = Unit {0}
May IsWritable c = Unit {0}
May (Loses ran broken) c = MayLose ran broken c.sender
May Closes c = Unit {0}
May (HandlerEnds returned) c = Unit {0}
May WritesEnd c = Unit {0}
May (Writes piece) c = Unit {0}
May (Drains yielded next) c = Unit {0}
May (SetsLimits high low) c = Unit {0}
May (Takes step) c = Unit {0}

abbrev pub written_in : ConnectionStep → Connection → List ℕ
written_in IsReadable c = []
written_in IsWritable c = []
written_in (Loses ran broken) c = []
written_in Closes c = []
written_in (HandlerEnds returned) c = []
written_in WritesEnd c = []
written_in (Writes piece) c = written_of (put_answer piece c.sender.writer) piece
written_in (Drains yielded next) c = []
written_in (SetsLimits high low) c = []
written_in (Takes step) c = []

abbrev pub ran_in : ConnectionStep → ℕ
ran_in IsReadable = 0
ran_in IsWritable = 0
ran_in (Loses ran broken) = ran
ran_in Closes = 0
ran_in (HandlerEnds returned) = 0
ran_in WritesEnd = 0
ran_in (Writes piece) = 0
ran_in (Drains yielded next) = 0
ran_in (SetsLimits high low) = 0
ran_in (Takes step) = 0

-- In steps, `ran` of which were callbacks of a loss, this was written, and these moves were made.
pub data ConnectionComes (id : ℕ) : (from : Connection) (ran : ℕ) (written : List ℕ) (moves : List Move) (to : Connection) → Type 0 where
  Rests : (c : Connection) → ConnectionComes id c 0 [] [] c
  Steps : (step : ConnectionStep) (c mid after : Connection) (moves more : List Move) (ran : ℕ) (written : List ℕ) → May step c
      → Leads (done id step c) moves mid → ConnectionComes id mid ran written more after
      → ConnectionComes id c (ran_in step + ran) (written_in step c ++ written) (moves ++ more) after
