-- How far a coroutine has come, and how a piece of its body ends.
-- Source: the language reference, "Simple statements", "Compound statements"; PEP 342 for requests and their answers.
use Rattle.std.specs.Prelude.{ℕ, zero, suc, true, false, List, [], ◌∷◌, ◌++◌, Option, Some, None, Result, Ok, Err, if◌then◌else◌}
use Rattle.model_value.specs.Input.{Input}
use Rattle.model_value.specs.declared.input.Input.TheVariants.{Send, Throw}
use Rattle.model_value.specs.Request.{Request}
use Rattle.model_value.specs.Value.{Value, Nothing, Truth, Exc}
use Rattle.model_tree.specs.Syntax.{Name, Expr, Exprs}
use Rattle.model_says.specs.Operations.{bad_operand}
use Rattle.model_says.specs.Variables.{Env, assigned}
use Rattle.model_says.specs.Expressions.{value_of, values_of}
use Rattle.model_says.specs.Tape.{Resumed, Tape}

-- what a coroutine says
pub data Saying : Type 0 where
  Asks : (request : Request) → Saying
  Returns : (value : Value) → Saying
  Raises : (exception : Exc) → Saying
  -- one statement more would begin in a step than a step may have
  Runaway : Saying

-- a request that was answered, and its answer
pub record Exchange : Type 0 where
  pub request : Request
  pub answer : Input

-- How far a coroutine has come: the variables of the body that runs, the inputs that are left, how many statements may
-- yet begin in this step, and the requests that were answered, in order.
pub record Progress : Type 0 where
  pub env : Env
  pub tape : Tape
  pub left : ℕ
  pub exchanges : List Exchange

-- how statements end
pub data Ending : Type 0 where
  -- what stands behind them is next
  Passes : (now : Progress) → Ending
  Returned : (value : Value) (now : Progress) → Ending
  Raised : (exception : Exc) (now : Progress) → Ending
  -- nothing more is run: a request that finds no answer, or a runaway
  Stopped : (saying : Saying) (now : Progress) → Ending

-- what a coroutine says whose body ends so
abbrev pub saying_of : Ending → Saying
saying_of (Passes now) = Returns Nothing
saying_of (Returned value now) = Returns value
saying_of (Raised exception now) = Raises exception
saying_of (Stopped saying now) = saying

abbrev pub progress_of : Ending → Progress
progress_of (Passes now) = now
progress_of (Returned value now) = now
progress_of (Raised exception now) = now
progress_of (Stopped saying now) = now

-- ---- one thing after another. What comes next is a function of how far things have come.
abbrev pub Next : Type 0
Next = Progress → Ending

-- what comes next after each of the ways out
abbrev pub routed : (pass : Next) (return : Value → Next) (raise : Exc → Next) → Ending → Ending
routed pass return raise (Passes now) = pass now
routed pass return raise (Returned value now) = return value now
routed pass return raise (Raised exception now) = raise exception now
routed pass return raise (Stopped saying now) = Stopped saying now

abbrev pub then_next : Next → Ending → Ending
then_next next = routed next Returned Raised

-- the exception of an expression is raised at its place
abbrev pub given : {A : Type 0} → (A → Next) → Result A Exc → Next
given next (Ok value) now = next value now
given next (Err exception) now = Raised exception now

abbrev pub valued : Expr → (Value → Next) → Next
valued expr next now = given next (value_of expr now.env) now

abbrev pub all_valued : Exprs → (List Value → Next) → Next
all_valued exprs next now = given next (values_of exprs now.env) now

abbrev pub chosen : Next → Next → Value → Next
chosen on_true on_false (Truth true) = on_true
chosen on_true on_false (Truth false) = on_false
chosen on_true on_false _ = Raised bad_operand

-- a test is True or False
abbrev pub decided : Expr → Next → Next → Next
decided test on_true on_false = valued test (chosen on_true on_false)

abbrev pub assign : Name → Value → Progress → Progress
assign name value now = record now { env = assigned name value now.env }

abbrev pub assign_to : Option Name → Value → Progress → Progress
assign_to None value now = now
assign_to (Some name) value now = assign name value now

-- ---- a statement begins, if the step may have one more
abbrev pub begun_with : ℕ → Next → Next
begun_with zero next now = Stopped Runaway now
begun_with (suc left) next now = next (record now { left = left })

abbrev pub begun : Next → Next
begun next now = begun_with now.left next now

-- ---- a request takes the next input: what is sent is its value, what is thrown is raised at its place
abbrev pub resumed_by : Input → (Value → Next) → Next
resumed_by (Send value) next = next value
resumed_by (Throw exception) next = Raised exception

-- The first input of a step gives the step as many statements as it may have.
abbrev pub taken : (limit : ℕ) → Request → Resumed → Tape → Progress → Progress
taken limit request entry tape now =
    record now {
      tape = tape;
      left = if entry.fresh then limit else now.left;
      exchanges = now.exchanges ++ record { request = request; answer = entry.input } ∷ [];
    }

abbrev pub asked_of : (limit : ℕ) → Request → (Value → Next) → Tape → Next
asked_of limit request next [] now = Stopped (Asks request) now
asked_of limit request next (entry ∷ tape) now =
    resumed_by entry.input next (taken limit request entry tape now)

abbrev pub ask : (limit : ℕ) → Request → (Value → Next) → Next
ask limit request next now = asked_of limit request next now.tape now
