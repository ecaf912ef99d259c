-- What happens to a child, step by step, and what it keeps of its standard input.
use Rattle.std.specs.Prelude.{ℕ, ◌+◌, ℤ, Bool, if◌then◌else◌, List, [], ◌++◌, Option}
use Rattle.model_pump.specs.declared.stream.Stream.{Stream}
use Rattle.model_value.specs.declared.action.ChildItem.{ChildItem}
use Rattle.model_wire.specs.declared.event.Handed.TheVariants as to
use Rattle.model_stream.specs.Children.{Child, close_child, drain_child, feed_more, its_pipe, kill, limits_child, lose_child}
use Rattle.model_stream.specs.Children.{tell_child, wait_child, write_child}
use Rattle.model_stream.specs.Doing.{Doing, Ends, and_then, on}
use Rattle.model_stream.specs.Senders.{is_closing}
use Rattle.model_stream.specs.Sending.{put_answer, written_of}
use Rattle.law_stream.specs.SenderSteps.{Leads}
use Rattle.law_stream.specs.SoundSenders.{KeepsSender, MayLose}
use Rattle.law_stream.specs.Ways.{Move}
use Rattle.law_stream.specs.SoundReceivers as receivers

pub data ChildStep : Type 0 where
  -- its standard input takes more
  IsWritable : ChildStep
  -- the loss of its standard input is done, by the callback that was scheduled (1) or with the last piece (0)
  Loses : (ran : ℕ) (broken : Bool) → ChildStep
  IsTold : (item : ChildItem (List ℕ)) → ChildStep
  Closes : ChildStep
  Writes : (piece : List ℕ) → ChildStep
  Drains : (yielded : Bool) (next : ℕ) → ChildStep
  SetsLimits : (high low : Option ℤ) → ChildStep
  WaitsFor : (next : ℕ) → ChildStep
  IsKilled : ChildStep
  -- what is done with a pipe that it writes, as a read
  Takes : (from : Stream) (step : receivers.ReceiverStep) → ChildStep

abbrev pub child_of : {R : Type 0} → Doing (Child × R) → Doing Child
child_of doing = and_then doing (λ done. Ends done.0)

abbrev pub done : (id : ℕ) → ChildStep → Child → Doing Child
done id IsWritable p = feed_more id p
done id (Loses ran broken) p = lose_child id broken p
done id (IsTold item) p = tell_child id item p
done id Closes p = close_child id p
done id (Writes piece) p = child_of (write_child id piece p)
done id (Drains yielded next) p = child_of (drain_child yielded next p)
done id (SetsLimits high low) p = child_of (limits_child high low p)
done id (WaitsFor next) p = child_of (wait_child next p)
done id IsKilled p = kill id p
done id (Takes from step) p = on (its_pipe from) (receivers.done step) p

-- the loss is done once
abbrev pub May : ChildStep → Child → Type 0
May IsWritable p = Unit {0}
May (Loses ran broken) p = MayLose ran broken p.stdin
May (IsTold item) p = Unit {0}
May Closes p = Unit {0}
May (Writes piece) p = Unit {0}
May (Drains yielded next) p = Unit {0}
May (SetsLimits high low) p = Unit {0}
May (WaitsFor next) p = Unit {0}
May IsKilled p = Unit {0}
May (Takes from step) p = Unit {0}

-- what is written to a closing input is dropped
abbrev pub written_to : List ℕ → Child → List ℕ
written_to piece p = if is_closing p.stdin then [] else written_of (put_answer piece p.stdin.writer) piece

abbrev pub written_in : ChildStep → Child → List ℕ
written_in IsWritable p = []
written_in (Loses ran broken) p = []
written_in (IsTold item) p = []
written_in Closes p = []
written_in (Writes piece) p = written_to piece p
written_in (Drains yielded next) p = []
written_in (SetsLimits high low) p = []
written_in (WaitsFor next) p = []
written_in IsKilled p = []
written_in (Takes from step) p = []

abbrev pub ran_in : ChildStep → ℕ
ran_in IsWritable = 0
ran_in (Loses ran broken) = ran
ran_in (IsTold item) = 0
ran_in Closes = 0
ran_in (Writes piece) = 0
ran_in (Drains yielded next) = 0
ran_in (SetsLimits high low) = 0
ran_in (WaitsFor next) = 0
ran_in IsKilled = 0
ran_in (Takes from step) = 0

abbrev pub KeepsChild : (id ran : ℕ) (piece : List ℕ) (p : Child) → List Move → Child → Type 0
KeepsChild id ran piece p moves after = KeepsSender (to.Child id) ran piece p.stdin moves after.stdin

-- In steps, `ran` of which were callbacks of a loss, this was written, and these moves were made.
pub data ChildComes (id : ℕ) : (from : Child) (ran : ℕ) (written : List ℕ) (moves : List Move) (to : Child) → Type 0 where
  Rests : (p : Child) → ChildComes id p 0 [] [] p
  Steps : (step : ChildStep) (p mid after : Child) (moves more : List Move) (ran : ℕ) (written : List ℕ) → May step p
      → Leads (done id step p) moves mid → ChildComes id mid ran written more after
      → ChildComes id p (ran_in step + ran) (written_in step p ++ written) (moves ++ more) after
