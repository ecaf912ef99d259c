-- Frames of flat code, and one move: an operation, or one open handler less.
-- Source: CPython's `ceval.c` and its exception tables; PEP 380 for frames that wait for the one they called.
use Rattle.std.specs.Prelude.{ℕ, zero, suc, ◌+◌, true, false, List, [], ◌∷◌, Option, Some, None, Result, Ok, Err, slice_get, if◌then◌else◌}
use Rattle.model_value.specs.Kinds.{matches}
use Rattle.model_value.specs.declared.request.Request.TheVariants as request
use Rattle.model_value.specs.Request.{Request}
use Rattle.model_value.specs.Value.{Value, Nothing, Truth, Exception, Exc, kind_of}
use Rattle.model_tree.specs.Syntax.{Name, Expr, exprs}
use Rattle.model_says.specs.Variables.{Env, held, assigned, bound}
use Rattle.model_says.specs.Operations.{bad_operand}
use Rattle.model_says.specs.Requests.{requested}
use Rattle.model_says.specs.Expressions.{value_of, values_of}
use Rattle.model_says.specs.Endings.{Saying, Runaway, Returns, Raises}
use Rattle.model_says.specs.Says.{too_many_frames}
use Rattle.algorithm_flat.specs.declared.way.Way.TheVariants.{Passing, Returning, Raising}
use Rattle.algorithm_flat.specs.declared.op.Op.TheVariants as op
use Rattle.algorithm_flat.specs.declared.open_handler.OpenHandler as open_handler
use Rattle.algorithm_flat.specs.declared.open_handler.OpenHandler.TheVariants.{InTry, InClause, InFinally, InWith, AtExit}
use Rattle.algorithm_flat.specs.declared.answer_use.AnswerUse as answer_use
use Rattle.algorithm_flat.specs.declared.answer_use.AnswerUse.TheVariants.{Ignored, AssignedTo, Entered}
use Rattle.algorithm_flat.specs.Rests.{Way, fault_of}
use Rattle.algorithm_flat.specs.Ops.{Op, Clause, Range, CoroutineCode}

abbrev pub OpenHandler : Type 0
OpenHandler = open_handler.OpenHandler Value Exc

abbrev pub AnswerUse : Type 0
AnswerUse = answer_use.AnswerUse Name

-- a call of a coroutine: where it stands, which handlers are open, the innermost first, and its variables
pub record Frame : Type 0 where
  pub coroutine : ℕ
  pub place : ℕ
  pub handlers : List OpenHandler
  pub env : Env
  -- the caller's variable for what this one returns
  pub into : Option Name

-- The frame that runs and those that wait for it, the innermost first; how many frames may yet be opened, and how many
-- statements may yet begin in this step.
pub record Frames : Type 0 where
  pub frame : Frame
  pub callers : List Frame
  pub room : ℕ
  pub left : ℕ

-- what a move comes to
pub data Move : Type 0 where
  Goes : (way : Way) (frames : Frames) → Move
  Asks : (request : Request) (use_of : AnswerUse) (frames : Frames) → Move
  Says : (saying : Saying) → Move

abbrev pub at_place : ℕ → Frames → Frames
at_place place frames = record frames { frame = record frames.frame { place = place } }

abbrev pub at_next : Frames → Frames
at_next frames = at_place (frames.frame.place + 1) frames

abbrev pub with_handlers : List OpenHandler → Frames → Frames
with_handlers handlers frames = record frames { frame = record frames.frame { handlers = handlers } }

abbrev pub with_variable : Option Name → Value → Frames → Frames
with_variable None value frames = frames
with_variable (Some name) value frames =
    record frames { frame = record frames.frame { env = assigned name value frames.frame.env } }

-- ---- ways out
-- the frame is closed, and its caller goes on
abbrev pub in_caller : Frame → List Frame → Frames → Frames
in_caller caller callers frames = record frames { frame = caller; callers = callers; room = suc frames.room }

abbrev pub return_to : List Frame → Value → Frames → Move
return_to [] value frames = Says (Returns value)
return_to (caller ∷ callers) value frames =
    Goes Passing (with_variable frames.frame.into value (in_caller caller callers frames))

abbrev pub raise_in : List Frame → Exc → Frames → Move
raise_in [] fault frames = Says (Raises fault)
raise_in (caller ∷ callers) fault frames = Goes (Raising fault) (in_caller caller callers frames)

abbrev pub out_of_frame : Way → Frames → Move
out_of_frame Passing frames = return_to frames.callers Nothing frames
out_of_frame (Returning value) frames = return_to frames.callers value frames
out_of_frame (Raising fault) frames = raise_in frames.callers fault frames

-- the first clause that takes the exception
abbrev pub clause_for : Exc → List Clause → Option Clause
clause_for fault [] = None
clause_for fault (clause ∷ clauses) = if matches clause.kind (kind_of fault) then Some clause else clause_for fault clauses

abbrev pub clauses_in : Option Range → List Clause
clauses_in None = []
clauses_in (Some range) = range.clauses

-- into the `finally`, which keeps the way out
abbrev pub into_finally : Way → List OpenHandler → Option Range → Frames → Move
into_finally way outer None frames = Says Runaway
into_finally way outer (Some range) frames =
    Goes Passing (at_place range.finally (with_handlers (InFinally way ∷ outer) frames))

-- into the clause, or past all clauses
abbrev pub into_clause : Exc → ℕ → List OpenHandler → Option Clause → Frames → Move
into_clause fault number outer None frames = Goes (Raising fault) (with_handlers (InClause number ∷ outer) frames)
into_clause fault number outer (Some clause) frames =
    Goes Passing
    (with_variable clause.name (Exception fault) (at_place clause.at (with_handlers (InClause number ∷ outer) frames)))

-- to the exit of a `with`, which keeps the way out
abbrev pub to_exit : Way → Value → List OpenHandler → Option Range → Frames → Move
to_exit way entered outer None frames = Says Runaway
to_exit way entered outer (Some range) frames =
    Goes Passing (at_place range.finally (with_handlers (AtExit entered way ∷ outer) frames))

-- out through the innermost of these handlers, or out of the frame
abbrev pub way_out : CoroutineCode → Way → List OpenHandler → Frames → Move
way_out code way [] frames = out_of_frame way frames
way_out code (Raising fault) (InTry number ∷ outer) frames =
    into_clause fault number outer (clause_for fault (clauses_in (slice_get code.ranges number))) frames
way_out code way (InTry number ∷ outer) frames = into_finally way outer (slice_get code.ranges number) frames
way_out code way (InClause number ∷ outer) frames = into_finally way outer (slice_get code.ranges number) frames
way_out code way (InFinally other ∷ outer) frames = Goes way (with_handlers outer frames)
way_out code way (InWith number entered ∷ outer) frames = to_exit way entered outer (slice_get code.ranges number) frames
way_out code way (AtExit entered other ∷ outer) frames = Goes way (with_handlers outer frames)

-- ---- operations
-- a statement begins, if the step may have one more
abbrev pub counted : ℕ → (Frames → Move) → Frames → Move
counted zero go frames = Says Runaway
counted (suc left) go frames = go (record frames { left = left })

-- with a value, or raising the exception that stands in its place
abbrev pub with_given : {A : Type 0} → Result A Exc → (A → Frames → Move) → Frames → Move
with_given (Ok value) go frames = go value frames
with_given (Err fault) go frames = Goes (Raising fault) frames

abbrev pub with_value : Expr → (Value → Frames → Move) → Frames → Move
with_value expr go frames = with_given (value_of expr frames.frame.env) go frames

abbrev pub with_values : List Expr → (List Value → Frames → Move) → Frames → Move
with_values list go frames = with_given (values_of (exprs list) frames.frame.env) go frames

-- a request whose answer is assigned
abbrev pub ask_into : Option Name → Request → Frames → Move
ask_into into request frames = Asks request (AssignedTo into) (at_next frames)

-- to one place where the test is True, and to the other where it is False
abbrev pub by_test : (on off : ℕ) → Value → Frames → Move
by_test on off (Truth true) frames = Goes Passing (at_place on frames)
by_test on off (Truth false) frames = Goes Passing (at_place off frames)
by_test on off _ frames = Goes (Raising bad_operand) frames

abbrev pub raise_value : Value → Frames → Move
raise_value (Exception fault) frames = Goes (Raising fault) frames
raise_value _ frames = Goes (Raising bad_operand) frames

-- the way out that the `finally` kept
abbrev pub after_finally : List OpenHandler → Frames → Move
after_finally (InFinally way ∷ outer) frames = Goes way (at_next (with_handlers outer frames))
after_finally _ frames = Says Runaway

-- The request of an exit. Its answer is ignored, and then the way out is taken as after a `finally`.
abbrev pub ask_exit : (Value → Option Exc → Request) → List OpenHandler → Frames → Move
ask_exit exit (AtExit entered way ∷ outer) frames =
    Asks (exit entered (fault_of way)) Ignored (at_next (with_handlers (InFinally way ∷ outer) frames))
ask_exit exit _ frames = Says Runaway

abbrev pub after_answer : AnswerUse → Value → Frames → Frames
after_answer Ignored value frames = frames
after_answer (AssignedTo into) value frames = with_variable into value frames
after_answer (Entered name number) value frames =
    with_variable (Some name) value (with_handlers (InWith number value ∷ frames.frame.handlers) frames)

-- the code of the program's coroutines, by their places
module _ (codes : ℕ → CoroutineCode) where
  -- the frame of a call of a coroutine, for these arguments
  abbrev pub new_frame : Option Name → ℕ → List Value → Frame
  new_frame into coroutine arguments = record {
    coroutine = coroutine;
    place = 0;
    handlers = [];
    env = bound (codes coroutine).variables arguments;
    into = into;
  }

  -- a call, while so many frames may yet be opened
  abbrev pub call : (room : ℕ) → Option Name → ℕ → List Value → Frames → Move
  call zero into coroutine arguments frames = Goes (Raising too_many_frames) (at_next frames)
  call (suc room) into coroutine arguments frames =
      Goes Passing (record frames {
        frame = new_frame into coroutine arguments;
        callers = (at_next frames).frame ∷ frames.callers;
        room = room;
      })

  -- a statement that was counted, and what begins it
  abbrev pub after_statement : Op → Frames → Move
  after_statement (op.Assign name value) frames =
      with_value value (λ v f. Goes Passing (at_next (with_variable (Some name) v f))) frames
  after_statement (op.Print items) frames =
      with_values items (λ vs f. Asks (request.Print vs) Ignored (at_next f)) frames
  after_statement (op.Raise fault) frames = with_value fault raise_value frames
  after_statement (op.Return None) frames = Goes (Returning Nothing) frames
  after_statement (op.Return (Some value)) frames = with_value value (λ v f. Goes (Returning v) f) frames
  after_statement op.Pass frames = Goes Passing (at_next frames)
  after_statement op.Pause frames = Asks request.Pause Ignored (at_next frames)
  after_statement (op.Await into name) frames = ask_into into (request.Await (held frames.frame.env name)) frames
  after_statement (op.Ask into name arguments) frames =
      with_values arguments (λ vs f. with_given (requested name vs) (ask_into into) f) frames
  after_statement (op.Spawn into coroutine arguments) frames =
      with_values arguments (λ vs f. ask_into into (request.Spawn coroutine vs) f) frames
  after_statement (op.Create into group coroutine arguments) frames =
      with_value group (λ g f. with_values arguments (λ vs h. ask_into into (request.Create g coroutine vs) h) f) frames
  after_statement (op.Listen into port coroutine) frames =
      with_value port (λ p f. ask_into into (request.Listen p coroutine) f) frames
  after_statement (op.Call into coroutine arguments) frames =
      with_values arguments (λ vs f. call f.room into coroutine vs f) frames
  after_statement (op.Test test otherwise) frames =
      with_value test (by_test (frames.frame.place + 1) otherwise) frames
  after_statement (op.Repeat test body) frames = with_value test (by_test body (frames.frame.place + 1)) frames
  after_statement (op.Guard number) frames =
      Goes Passing (at_next (with_handlers (InTry number ∷ frames.frame.handlers) frames))
  after_statement (op.EnterGroup name number) frames = Asks request.GroupEnter (Entered name number) (at_next frames)
  after_statement (op.EnterTimeout delay name number) frames =
      with_value delay (λ d f. Asks (request.TimeoutEnter d) (Entered name number) (at_next f)) frames
  after_statement _ frames = Says Runaway

  module _ (code : CoroutineCode) where
    -- past the last operation the body passes
    abbrev pub after_op : Option Op → Frames → Move
    after_op None frames = way_out code Passing frames.frame.handlers frames
    after_op (Some (op.Jump to)) frames = Goes Passing (at_place to frames)
    after_op (Some op.Leave) frames = way_out code Passing frames.frame.handlers frames
    after_op (Some op.Resume) frames = after_finally frames.frame.handlers frames
    after_op (Some op.ExitGroup) frames = ask_exit request.GroupExit frames.frame.handlers frames
    after_op (Some op.ExitTimeout) frames = ask_exit request.TimeoutExit frames.frame.handlers frames
    after_op (Some operation) frames = counted frames.left (after_statement operation) frames

    abbrev pub move_of : Way → Frames → Move
    move_of Passing frames = after_op (slice_get code.ops frames.frame.place) frames
    move_of way frames = way_out code way frames.frame.handlers frames
