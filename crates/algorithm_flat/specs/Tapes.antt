-- What a coroutine's frames stand for along its tape: whatever comes after it, they go on as the coroutine does.
-- Source: PEP 342 for `send` and `throw`.
use Rattle.std.specs.Prelude.{◌≡◌, ℕ, List, [], ◌++◌, None, if◌then◌else◌}
use Rattle.model_value.specs.declared.input.Input.TheVariants.{Send, Throw}
use Rattle.model_value.specs.Input.{Input}
use Rattle.model_value.specs.Request.{Request}
use Rattle.model_value.specs.Value.{Value}
use Rattle.model_tree.specs.Syntax.{Program}
use Rattle.model_says.specs.Tape.{Resumed, Tape}
use Rattle.model_says.specs.Endings.{Saying, Exchange, saying_of}
use Rattle.model_says.specs.Says.{course}
use Rattle.algorithm_flat.specs.declared.way.Way.TheVariants.{Passing, Raising}
use Rattle.algorithm_flat.specs.declared.answer_use.AnswerUse.TheVariants.{Ignored}
use Rattle.algorithm_flat.specs.Ops.{CoroutineCode}
use Rattle.algorithm_flat.specs.Rests.{Way, ending_by, Rest, Wait}
use Rattle.algorithm_flat.specs.Moves.{AnswerUse, Frames, new_frame, after_answer, Move, Goes, Asks, Says}
use Rattle.algorithm_flat.specs.Stands.{Stand, StandAt, meaning, meaning_of_request, progress_at}

-- frames that wait for the answer of a request
pub record Waiting : Type 0 where
  pub frames : Frames
  pub use_of : AnswerUse

-- Before its first input a coroutine waits as after a bare `yield`. It may open 63 frames more.
abbrev pub unbegun_frames : (limit : ℕ) → (ℕ → CoroutineCode) → ℕ → List Value → Frames
unbegun_frames limit codes coroutine arguments =
    record { frame = new_frame codes None coroutine arguments; callers = []; room = 63; left = limit }

abbrev pub unbegun_waiting : (limit : ℕ) → (ℕ → CoroutineCode) → ℕ → List Value → Waiting
unbegun_waiting limit codes coroutine arguments =
    record { frames = unbegun_frames limit codes coroutine arguments; use_of = Ignored }

abbrev pub way_of : Input → Way
way_of (Send value) = Passing
way_of (Throw fault) = Raising fault

-- what is sent is the answer
abbrev pub after_input : Input → AnswerUse → Frames → Frames
after_input (Send value) use_of frames = after_answer use_of value frames
after_input (Throw fault) use_of frames = frames

-- the first input of a step gives it as many statements as it may have
abbrev pub renewed_by : (limit : ℕ) → Resumed → Frames → Frames
renewed_by limit entry frames = record frames { left = if entry.fresh then limit else frames.left }

module _ (limit : ℕ) (program : Program) (codes : ℕ → CoroutineCode) (coroutine : ℕ) (arguments : List Value) where
  -- what the coroutine says along a tape
  abbrev pub said : Tape → Saying
  said tape = saying_of (course limit program coroutine arguments tape)

  -- frames that go on one way after these inputs
  pub record MovesFor (tape : Tape) (way : Way) (frames : Frames) : Type 0 where
    pub rest : Rest
    pub rests : List Rest
    pub stand : Stand program codes way frames rest rests
    pub history : List Exchange
    pub goes_on : (more : Tape) →
        said (tape ++ more) ≡ saying_of (meaning limit program frames rest rests (ending_by way (progress_at frames more history)))

  -- frames that wait for the answer of this request after these inputs
  pub record WaitsFor (tape : Tape) (request : Request) (waiting : Waiting) : Type 0 where
    pub rest : Rest
    pub rests : List Rest
    pub wait : Wait
    pub stand : StandAt program codes waiting.use_of wait waiting.frames rest rests
    pub history : List Exchange
    pub goes_on : (more : Tape) →
        said (tape ++ more) ≡ saying_of (meaning_of_request limit program request wait waiting.frames rest rests more history)

  -- what a move comes to after these inputs
  abbrev pub ComesTo : Tape → Move → Type 0
  ComesTo tape (Goes way frames) = MovesFor tape way frames
  ComesTo tape (Asks request use_of frames) = WaitsFor tape request (record { frames = frames; use_of = use_of })
  ComesTo tape (Says saying) = (more : Tape) → said (tape ++ more) ≡ saying
