-- What is left of a coroutine at the place that it has come to, and what an ending there leads to.
-- Source: continuations, from the inside out (Reynolds, "Definitional interpreters"); the language reference, "Compound
-- statements"; PEP 380 for callers.
use Rattle.std.specs.Prelude.{ℕ, suc, List, [], ◌∷◌, Option, Some, None}
use Rattle.model_value.specs.Value.{Value, Exc}
use Rattle.model_tree.specs.Syntax.{Name, Expr, Manager, Statements, no_statements, Branch, no_branch, branch, Handlers, Program}
use Rattle.model_says.specs.Variables.{Env}
use Rattle.model_says.specs.Endings.{Ending, Passes, Returned, Raised, Next, then_next, assign, assign_to, ask}
use Rattle.model_says.specs.Says.{Calls, handled, finished, came_back, exit_of, exited, looped, run_all, run_branch, run_handlers, call_within}
use Rattle.algorithm_flat.specs.declared.way.Way as way
use Rattle.algorithm_flat.specs.declared.way.Way.TheVariants.{Passing, Returning, Raising}

abbrev pub Way : Type 0
Way = way.Way Value Exc

-- the ending of statements that are left so
abbrev pub ending_by : Way → Next
ending_by Passing = Passes
ending_by (Returning value) = Returned value
ending_by (Raising fault) = Raised fault

abbrev pub fault_of : Way → Option Exc
fault_of (Raising fault) = Some fault
fault_of _ = None

abbrev pub body_of : Branch → Statements
body_of no_branch = no_statements
body_of (branch body) = body

-- what is left of one body, the innermost first
pub data Rest : Type 0 where
  at_end : Rest
  then_all : (others : Statements) (rest : Rest) → Rest
  -- the test of a loop is next, after its body
  then_loop : (test : Expr) (body : Statements) (rest : Rest) → Rest
  then_jump : (rest : Rest) → Rest
  in_try : (handlers : Handlers) (finally : Branch) (rest : Rest) → Rest
  in_clause : (finally : Branch) (rest : Rest) → Rest
  -- in a `finally`, which keeps the way out that it takes at its end
  in_finally : (way : Way) (rest : Rest) → Rest
  -- in the body of a `with`, which was entered with this answer
  in_with : (manager : Manager) (entered : Value) (rest : Rest) → Rest
  -- the exit of a `with` is next, which keeps the way out
  at_exit : (manager : Manager) (entered : Value) (way : Way) (rest : Rest) → Rest

-- what an answer is to what is left
pub data Wait : Type 0 where
  ignored : Wait
  assigned_to : (into : Option Name) → Wait
  -- a `with` is entered
  entering : (manager : Manager) (name : Name) (body : Statements) → Wait

-- one that waits for a coroutine that it called
pub record Caller : Type 0 where
  pub env : Env
  pub into : Option Name
  pub rest : Rest

module _ (limit : ℕ) (program : Program) where
  -- the ending of a body of which this was left when a part of it ended so
  abbrev pub ending_after : Calls → Rest → Ending → Ending
  ending_after call at_end ending = ending
  ending_after call (then_all others rest) ending =
      ending_after call rest (then_next (run_all limit program call others) ending)
  ending_after call (then_loop test body rest) ending =
      ending_after call rest (then_next (looped limit test (run_all limit program call body)) ending)
  ending_after call (then_jump rest) ending = ending_after call rest ending
  ending_after call (in_try handlers finally rest) ending =
      ending_after call rest
      (finished (run_branch limit program call finally) (handled (run_handlers limit program call handlers) ending))
  ending_after call (in_clause finally rest) ending =
      ending_after call rest (finished (run_branch limit program call finally) ending)
  ending_after call (in_finally way rest) ending = ending_after call rest (then_next (ending_by way) ending)
  ending_after call (in_with manager entered rest) ending = ending_after call rest (exited limit manager entered ending)
  ending_after call (at_exit manager entered way rest) ending =
      ending_after call rest
      (then_next (ask limit (exit_of manager entered (fault_of way)) (λ answer. ending_by way)) ending)

  abbrev pub after_answer : Calls → Wait → Value → Next
  after_answer call ignored value now = Passes now
  after_answer call (assigned_to into) value now = Passes (assign_to into value now)
  after_answer call (entering manager name body) value now =
      exited limit manager value (run_all limit program call body (assign name value now))

  -- The callers, the innermost first. The coroutine that was called last may open so many frames more.
  abbrev pub ending_of_callers : (frames : ℕ) → List Caller → Ending → Ending
  ending_of_callers frames [] ending = ending
  ending_of_callers frames (caller ∷ callers) ending =
      ending_of_callers (suc frames) callers
      (ending_after (call_within limit program (suc frames)) caller.rest
      (came_back caller.env (λ value now. Passes (assign_to caller.into value now)) ending))

  abbrev pub ending_of_all : (frames : ℕ) → Rest → List Caller → Ending → Ending
  ending_of_all frames rest callers ending =
      ending_of_callers frames callers (ending_after (call_within limit program frames) rest ending)
