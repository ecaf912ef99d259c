-- What a stepper stands for.
use Rattle.std.specs.Prelude.{◌≡◌, ℕ, List, Option, Some, None}
use Rattle.model_value.specs.Request.{Request}
use Rattle.model_value.specs.Value.{Value}
use Rattle.model_tree.specs.Syntax.{Program}
use Rattle.model_says.specs.Tape.{Tape}
use Rattle.model_says.specs.Endings as endings
use Rattle.model_says.specs.Says.{step_limit}
use Rattle.algorithm_locals.specs.Numbered.{numbered_program}
use Rattle.algorithm_flat.specs.Tapes as plain
use Rattle.algorithm_flat.specs.Moves.{Says}
use Rattle.algorithm_flat.specs.Ops.{CoroutineCode}
use Rattle.algorithm_flat.specs.Tapes.{ComesTo, WaitsFor}
use Rattle.aio_flat.specs.declared.code.Code.{Code}
use Rattle.aio_flat.specs.Code.{codes_of}
use Rattle.aio_gen.specs.declared.generator.GenOut.{GenOut}
use Rattle.aio_gen.specs.declared.generator.GenOut.TheVariants.{Asks, Returns, Raises, Runaway}
use Rattle.aio_gen.specs.declared.generator.Waiting.{Waiting}
use Rattle.aio_gen.specs.declared.generator.Gen.{Gen}
use Rattle.aio_gen.specs.Plain.{plain_frames}

abbrev pub saying_of_out : GenOut → endings.Saying
saying_of_out (Asks request) = endings.Asks request
saying_of_out (Returns value) = endings.Returns value
saying_of_out (Raises fault) = endings.Raises fault
saying_of_out Runaway = endings.Runaway

abbrev pub plain_waiting : Waiting → plain.Waiting
plain_waiting waiting = record { frames = plain_frames waiting.frames; use_of = waiting.use_of }

-- What waits stands for a coroutine, its arguments and its tape: whatever comes after, it goes on as the coroutine does.
-- Code is that of the program over numbers, which says the same.
abbrev pub StandsAt : Program → Code → (coroutine : ℕ) → (arguments : List Value) → Tape → Option Waiting → Type 0
StandsAt program code coroutine arguments tape None = ⊥
StandsAt program code coroutine arguments tape (Some waiting) =
    (request : Request)
    × WaitsFor step_limit (numbered_program program) (codes_of code) coroutine arguments tape request
    (plain_waiting waiting)

abbrev pub GenStandsFor : Program → Code → (coroutine : ℕ) → (arguments : List Value) → Tape → Gen → Type 0
GenStandsFor program code coroutine arguments tape gen = StandsAt program code coroutine arguments tape gen.waiting.value

-- What is said after moves, and what waits then, is what the coroutine says after its tape, whatever comes after.
abbrev pub SaysAfter : (limit : ℕ) → Program → (codes : ℕ → CoroutineCode) → (coroutine : ℕ) → (arguments : List Value) → Tape → GenOut
    → Option Waiting → Type 0
SaysAfter limit program codes coroutine arguments tape (Asks request) (Some waiting) =
    WaitsFor limit program codes coroutine arguments tape request (plain_waiting waiting)
SaysAfter limit program codes coroutine arguments tape (Asks request) None = ⊥
SaysAfter limit program codes coroutine arguments tape (Returns value) next =
    ComesTo limit program codes coroutine arguments tape (Says (endings.Returns value))
SaysAfter limit program codes coroutine arguments tape (Raises fault) next =
    ComesTo limit program codes coroutine arguments tape (Says (endings.Raises fault))
SaysAfter limit program codes coroutine arguments tape Runaway next = ComesTo limit program codes coroutine arguments tape (Says endings.Runaway)

-- memory was refused, or the coroutine has returned, raised or run away
abbrev pub IsOver : Gen → Type 0
IsOver gen = gen.waiting.value ≡ None
