-- What is left does with each way out what the body does.
use Rattle.std.proofs.Common.{◌≡◌, ℕ, suc, List, [], ◌∷◌, refl, ◌∙◌, ap}
use Rattle.model_value.specs.Value.{Value}
use Rattle.model_value.specs.Request.{Request}
use Rattle.model_value.specs.Input.{Input}
use Rattle.model_value.specs.declared.input.Input.TheVariants.{Send, Throw}
use Rattle.model_tree.specs.Syntax.{Manager, Branch, no_branch, branch, Program}
use Rattle.model_says.specs.Tape.{Tape}
use Rattle.model_says.specs.Endings.{Saying, Progress, Ending, Passes, Returned, Raised, Stopped, Next, then_next, ask, asked_of, resumed_by, taken}
use Rattle.model_says.specs.Says.{Calls, exit_of, exited, finished, run_all, run_branch, call_within}
use Rattle.algorithm_flat.specs.declared.way.Way.TheVariants.{Passing, Returning, Raising}
use Rattle.algorithm_flat.specs.Rests.{Way, ending_by, body_of, Rest, at_end, then_all, then_loop, then_jump, in_try, in_clause, in_finally, in_with, at_exit}
use Rattle.algorithm_flat.specs.Rests.{fault_of, Caller, ending_after, ending_of_callers, ending_of_all}

passes-on : (ending : Ending) → ending ≡ then_next Passes ending
passes-on (Passes now) = refl
passes-on _ = refl

module _ (limit : ℕ) (program : Program) where
  -- nothing catches a stop
  ending_after-stop : (call : Calls) (rest : Rest) (saying : Saying) (now : Progress) →
      ending_after limit program call rest (Stopped saying now) ≡ Stopped saying now
  ending_after-stop call at_end saying now = refl
  ending_after-stop call (then_all others rest) saying now = ending_after-stop call rest saying now
  ending_after-stop call (then_loop test body rest) saying now = ending_after-stop call rest saying now
  ending_after-stop call (then_jump rest) saying now = ending_after-stop call rest saying now
  ending_after-stop call (in_try clauses finally rest) saying now = ending_after-stop call rest saying now
  ending_after-stop call (in_clause finally rest) saying now = ending_after-stop call rest saying now
  ending_after-stop call (in_finally way rest) saying now = ending_after-stop call rest saying now
  ending_after-stop call (in_with manager entered rest) saying now = ending_after-stop call rest saying now
  ending_after-stop call (at_exit manager entered way rest) saying now = ending_after-stop call rest saying now

  ending_of_callers-stop : (frames : ℕ) (callers : List Caller) (saying : Saying) (now : Progress) →
      ending_of_callers limit program frames callers (Stopped saying now) ≡ Stopped saying now
  ending_of_callers-stop frames [] saying now = refl
  ending_of_callers-stop frames (caller ∷ callers) saying now =
      ap (ending_of_callers limit program (suc frames) callers)
      (ending_after-stop (call_within limit program (suc frames)) caller.rest saying now)
      ∙ ending_of_callers-stop (suc frames) callers saying now

  pub ending_of_all-stop : (frames : ℕ) (rest : Rest) (callers : List Caller) (saying : Saying) (now : Progress) →
      ending_of_all limit program frames rest callers (Stopped saying now) ≡ Stopped saying now
  ending_of_all-stop frames rest callers saying now =
      ap (ending_of_callers limit program frames callers)
      (ending_after-stop (call_within limit program frames) rest saying now)
      ∙ ending_of_callers-stop frames callers saying now

  pub run_branch-body : (call : Calls) (finally : Branch) (now : Progress) →
      run_branch limit program call finally now ≡ run_all limit program call (body_of finally) now
  run_branch-body call no_branch now = refl
  run_branch-body call (branch body) now = refl

  -- a `finally` keeps the way out
  pub finished-by : (call : Calls) (finally : Branch) (way : Way) (now : Progress) →
      finished (run_branch limit program call finally) (ending_by way now)
      ≡ then_next (ending_by way) (run_all limit program call (body_of finally) now)
  finished-by call finally Passing now =
      run_branch-body call finally now ∙ passes-on (run_all limit program call (body_of finally) now)
  finished-by call finally (Returning value) now = ap (then_next (Returned value)) (run_branch-body call finally now)
  finished-by call finally (Raising fault) now = ap (then_next (Raised fault)) (run_branch-body call finally now)

  -- so does the exit of a `with`
  pub exited-by : (manager : Manager) (entered : Value) (way : Way) (now : Progress) →
      exited limit manager entered (ending_by way now)
      ≡ ask limit (exit_of manager entered (fault_of way)) (λ answer. ending_by way) now
  exited-by manager entered Passing now = refl
  exited-by manager entered (Returning value) now = refl
  exited-by manager entered (Raising fault) now = refl

  -- what comes after a request whose answer is ignored
  pub ask-then : (request : Request) (after : Next) (now : Progress) →
      ask limit request (λ answer. after) now ≡ then_next after (ask limit request (λ answer. Passes) now)
  ask-then request after now = by_tape now.tape
    where
      by_input : (input : Input) (now : Progress) →
          resumed_by input (λ answer. after) now ≡ then_next after (resumed_by input (λ answer. Passes) now)
      by_input (Send value) now = refl
      by_input (Throw fault) now = refl

      by_tape : (tape : Tape) →
          asked_of limit request (λ answer. after) tape now
          ≡ then_next after (asked_of limit request (λ answer. Passes) tape now)
      by_tape [] = refl
      by_tape (entry ∷ tape) = by_input entry.input (taken limit request entry tape now)
