-- What a coroutine says after its inputs. A coroutine has no frame here: it is its tape. Its body runs from the start,
-- and each request takes the next input as its answer; the first that finds none is what the coroutine asks.
-- Source: PEP 342; PEP 380: a coroutine that another one calls by `yield from` runs in the place of the call; the language
-- reference, "Compound statements".
use Rattle.std.specs.Prelude.{ℕ, zero, suc, ◌+◌, ◌*◌, List, [], Option, Some, None, codes, length, if◌then◌else◌}
use Rattle.model_value.specs.declared.kind.Kind.TheVariants.{RecursionError}
use Rattle.model_value.specs.declared.request.Request.TheVariants as request
use Rattle.model_value.specs.Kinds.{matches}
use Rattle.model_value.specs.Request.{Request}
use Rattle.model_value.specs.Value.{Value, Nothing, Exception, Exc, exception_of, kind_of}
use Rattle.model_tree.specs.Syntax.{Expr, Target, Await, Call, Ask, SpawnTask, CreateTask, ListenAt, Manager, GroupBlock, TimeoutBlock, Statement, Assign}
use Rattle.model_tree.specs.Syntax.{Yield, YieldFrom, Print, Raise, Return, Pass, If, While, Try, With, Statements, no_statements, statement_then, Branch}
use Rattle.model_tree.specs.Syntax.{no_branch, branch, Handlers, no_handlers, handler_then, Program}
use Rattle.model_says.specs.Variables.{Env, held, entered}
use Rattle.model_says.specs.Operations.{bad_operand}
use Rattle.model_says.specs.Requests.{requested, place_of, coroutine_at}
use Rattle.model_says.specs.Tape.{Tape}
use Rattle.model_says.specs.Endings.{Saying, Runaway, Exchange, Progress, Ending, Passes, Returned, Raised, Stopped, saying_of, progress_of, Next, routed}
use Rattle.model_says.specs.Endings.{then_next, given, valued, all_valued, decided, assign, assign_to, begun, ask}

abbrev pub too_many_frames : Exc
too_many_frames = exception_of RecursionError (codes "too many frames")

-- `raise` of a value that is no exception raises TypeError
abbrev pub raised : Value → Next
raised (Exception exception) = Raised exception
raised _ = Raised bad_operand

-- `except` clauses take an exception, and nothing else
abbrev pub handled : (Exc → Next) → Ending → Ending
handled handlers = routed Passes Returned handlers

-- `finally` runs on every way out. Where it passes, the way out is the one that was taken.
abbrev pub finished : Next → Ending → Ending
finished finally =
    routed finally (λ value now. then_next (Returned value) (finally now)) (λ exception now. then_next (Raised exception) (finally now))

-- Whoever called a coroutine goes on with its own variables, and with the value that the body returned.
abbrev pub back_in : Env → Progress → Progress
back_in env now = record now { env = env }

abbrev pub came_back : Env → (Value → Next) → Ending → Ending
came_back env next =
    routed (λ now. next Nothing (back_in env now)) (λ value now. next value (back_in env now)) (λ exception now. Raised exception (back_in env now))

-- a call of the coroutine with this place, for these arguments
abbrev pub Calls : Type 0
Calls = ℕ → List Value → Next

abbrev pub exit_of : Manager → Value → Option Exc → Request
exit_of GroupBlock group exception = request.GroupExit group exception
exit_of (TimeoutBlock delay) timeout exception = request.TimeoutExit timeout exception

-- The limit is how many statements a step may begin.
module _ (limit : ℕ) where
  -- ---- `with`: enter, run the body, exit with the body's exception or none
  abbrev pub managed : Manager → (Value → Next) → Next
  managed GroupBlock body = ask limit request.GroupEnter body
  managed (TimeoutBlock delay) body = valued delay (λ d. ask limit (request.TimeoutEnter d) body)

  -- an exception out of the exit replaces the way out that was taken
  abbrev pub exited : Manager → Value → Ending → Ending
  exited manager entered =
      routed (ask limit (exit_of manager entered None) (λ answer. Passes))
      (λ value. ask limit (exit_of manager entered None) (λ answer. Returned value))
      (λ exception. ask limit (exit_of manager entered (Some exception)) (λ answer. Raised exception))

  -- ---- `while`
  -- how many statements may yet begin, in this step and in those that inputs can begin
  abbrev pub to_come : Progress → ℕ
  to_come now = now.left + limit * length now.tape

  -- so many turns at most; a turn more would begin a statement more than may begin
  abbrev pub turns : ℕ → Expr → Next → Next
  turns zero test body = Stopped Runaway
  turns (suc more) test body = begun (decided test (λ now. then_next (turns more test body) (body now)) Passes)

  -- Each test begins a statement, so a loop makes no more turns than statements may yet begin.
  abbrev pub looped : Expr → Next → Next
  looped test body now = turns (to_come now) test body now

module _ (limit : ℕ) (program : Program) where
  -- ---- `yield from`
  abbrev pub delegated : Calls → Target → (Value → Next) → Next
  delegated call (Await name) next = λ now. ask limit (request.Await (held now.env name)) next now
  delegated call (Call coroutine arguments) next =
      all_valued arguments (λ values now. came_back now.env next (call (place_of program coroutine) values now))
  delegated call (Ask name arguments) next =
      all_valued arguments (λ values. given (λ asked. ask limit asked next) (requested name values))
  delegated call (SpawnTask coroutine arguments) next =
      all_valued arguments (λ values. ask limit (request.Spawn (place_of program coroutine) values) next)
  delegated call (CreateTask group coroutine arguments) next =
      valued group (λ g. all_valued arguments (λ values. ask limit (request.Create g (place_of program coroutine) values) next))
  delegated call (ListenAt port handler) next =
      valued port (λ p. ask limit (request.Listen p (place_of program handler)) next)

  -- ---- statements
  abbrev mutual
    pub run : Calls → Statement → Next
    run call (Assign name value) = begun (valued value (λ v now. Passes (assign name v now)))
    run call Yield = begun (ask limit request.Pause (λ answer. Passes))
    run call (YieldFrom into target) = begun (delegated call target (λ answer now. Passes (assign_to into answer now)))
    run call (Print items) = begun (all_valued items (λ values. ask limit (request.Print values) (λ answer. Passes)))
    run call (Raise exception) = begun (valued exception raised)
    run call (Return None) = begun (Returned Nothing)
    run call (Return (Some value)) = begun (valued value Returned)
    run call Pass = begun Passes
    run call (If test body otherwise) = begun (decided test (run_all call body) (run_branch call otherwise))
    run call (While test body) = looped limit test (run_all call body)
    run call (Try body handlers finally) =
        begun (λ now. finished (run_branch call finally) (handled (run_handlers call handlers) (run_all call body now)))
    run call (With manager name body) =
        begun (managed limit manager (λ entered now. exited limit manager entered (run_all call body (assign name entered now))))

    pub run_all : Calls → Statements → Next
    run_all call no_statements = Passes
    run_all call (statement_then first others) = λ now. then_next (run_all call others) (run call first now)

    -- one that is left out does nothing
    pub run_branch : Calls → Branch → Next
    run_branch call no_branch = Passes
    run_branch call (branch body) = run_all call body

    -- the first clause whose kind is the exception's, or an ancestor of it, handles it; its variable holds the exception
    pub run_handlers : Calls → Handlers → Exc → Next
    run_handlers call no_handlers exception = Raised exception
    run_handlers call (handler_then kind name body others) exception =
        if matches kind (kind_of exception) then (λ now. run_all call body (assign_to name (Exception exception) now))
        else run_handlers call others exception

  -- ---- calls, while so many frames may yet be opened
  abbrev pub call_within : (frames : ℕ) → Calls
  call_within zero place arguments = Raised too_many_frames
  call_within (suc frames) place arguments =
      λ now. run_all (call_within frames) (coroutine_at program place).body (back_in (entered (coroutine_at program place) arguments) now)

-- how many frames a task has at most
abbrev pub frame_limit : ℕ
frame_limit = 64

-- how many statements a step begins at most
abbrev pub step_limit : ℕ
step_limit = 100000

-- before any input
abbrev pub unbegun : (limit : ℕ) → Tape → Progress
unbegun limit tape = record { env = []; tape = tape; left = limit; exchanges = [] }

-- A coroutine that was made and not begun waits as after a bare `yield`: its first input begins the body, or is raised.
unfoldable pub course : (limit : ℕ) → Program → (place : ℕ) → List Value → Tape → Ending
course limit program place arguments tape =
    ask limit request.Pause (λ answer. call_within limit program frame_limit place arguments) (unbegun limit tape)

abbrev pub says : Program → (place : ℕ) → List Value → Tape → Saying
says program place arguments tape = saying_of (course step_limit program place arguments tape)

-- the requests that were answered along a tape, with their answers
abbrev pub exchanges_along : Program → (place : ℕ) → List Value → Tape → List Exchange
exchanges_along program place arguments tape = (progress_of (course step_limit program place arguments tape)).exchanges
