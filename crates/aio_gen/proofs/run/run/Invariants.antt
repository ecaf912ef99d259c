use Rattle.std.proofs.Common.{ℕ, List}
use Rattle.model_value.specs.Value.{Value}
use Rattle.model_tree.specs.Syntax.{Program}
use Rattle.model_says.specs.Tape.{Tape}
use Rattle.algorithm_flat.specs.Nearer.{distance}
use Rattle.algorithm_flat.specs.Stands.{AllLaidOut}
use Rattle.algorithm_flat.specs.Tapes.{MovesFor}
use Rattle.aio_flat.specs.Code.{codes_of}
use Rattle.aio_gen.specs.Plain.{plain_frames}
use Rattle.aio_gen.proofs.Running.{size_of}
use Rattle.aio_gen.proofs.run.run.Given as goal

-- the frames stand for each tape that they stood for
abbrev pub invariant-loop-frames : goal.invariant-loop-frames
invariant-loop-frames l =
    (limit : ℕ) (program : Program) (coroutine : ℕ) (arguments : List Value) (tape : Tape) →
    AllLaidOut program (codes_of l.fn.code) →
    MovesFor limit program (codes_of l.fn.code) coroutine arguments tape l.fn.entry (plain_frames l.fn.frames) →
    MovesFor limit program (codes_of l.code) coroutine arguments tape l.way (plain_frames l.frames)

abbrev pub decreases-loop-frames : goal.decreases-loop-frames
decreases-loop-frames l = distance (size_of l.code.bodies.items) (plain_frames l.frames)
