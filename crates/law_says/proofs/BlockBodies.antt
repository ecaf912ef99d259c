-- Every statement, every call and every coroutine leaves the blocks that were open before it, and uses what it was given.
use Rattle.std.proofs.Common.{ℕ, zero, suc, List, [], ◌∷◌, Option, Some, None, refl, subst}
use Rattle.model_value.specs.Kinds.{matches}
use Rattle.model_value.specs.declared.request.Request.TheVariants as request
use Rattle.model_value.specs.Value.{Value, Nothing, Exception, Exc, kind_of}
use Rattle.model_tree.specs.declared.request_name.RequestName.{RequestName}
use Rattle.model_tree.specs.declared.request_name.RequestName.TheVariants as named
use Rattle.model_tree.specs.Syntax.{Name, Expr, Target, Await, Call, Ask, SpawnTask, CreateTask, ListenAt, Statement, Assign, Yield, YieldFrom, Print, Raise}
use Rattle.model_tree.specs.Syntax.{Return, Pass, If, While, Try, With, Statements, no_statements, statement_then, Branch, no_branch, branch, Handlers}
use Rattle.model_tree.specs.Syntax.{no_handlers, handler_then, Program}
use Rattle.model_says.specs.Operations.{bad_operand}
use Rattle.model_says.specs.Variables.{Env, held, entered, variables_of}
use Rattle.model_says.specs.Requests.{requested, place_of, coroutine_at, bad_argument}
use Rattle.model_says.specs.Tape.{Tape}
use Rattle.model_says.specs.Endings.{Progress, Ending, Passes, Returned, Raised, Next, then_next, given, valued, all_valued, decided, assign, assign_to, ask}
use Rattle.model_says.specs.Says.{too_many_frames, raised, handled, finished, back_in, came_back, Calls, managed, exited, to_come, turns, looped, delegated}
use Rattle.model_says.specs.Says.{run, run_all, run_branch, run_handlers, call_within, frame_limit, unbegun, course}
use Rattle.law_says.specs.Given.{AllOf, IsClosed, InTape}
use Rattle.law_says.specs.Opened.{EnteredBlock, opened_after}
use Rattle.law_says.proofs.Values.{InEnv, in_held, in_assigned, in_bound}
use Rattle.law_says.proofs.Nesting.{Clean, Well, IsWell, well_passes, well_returned, well_raised, well_valued, well_all_valued, well_decided, well_if}
use Rattle.law_says.proofs.Nesting.{well_ask, well_exited, well_managed, well_begun, well_routed}

module _ (P : Value → Type 0) (closed : IsClosed P) where
  well_then : (next : Next) → IsWell P closed next → (blocks : List EnteredBlock) (ending : Ending) → Well P closed blocks ending
      → Well P closed blocks (then_next next ending)
  well_then next well =
      well_routed P closed next Returned Raised well (λ value good. well_returned P closed value good) (λ fault. well_raised P closed fault)

  well_raised_value : (value : Value) → IsWell P closed (raised value)
  well_raised_value (Exception fault) = well_raised P closed fault
  well_raised_value _ = well_raised P closed bad_operand

  assigned_clean : (name : Option Name) (value : Value) → P value → (now : Progress) → Clean P closed now → Clean P closed (assign_to name value now)
  assigned_clean None value good now clean = clean
  assigned_clean (Some name) value good now clean = (in_assigned P closed name value now.env good clean.0, clean.1)

  -- what goes on with a variable assigned
  well_assigned : (name : Option Name) (value : Value) → P value → (next : Next) → IsWell P closed next
      → (now : Progress) → Clean P closed now → Well P closed (opened_after now.exchanges) (next (assign_to name value now))
  well_assigned None value good next well now clean = well now clean
  well_assigned (Some name) value good next well now clean = well (assign name value now) (assigned_clean (Some name) value good now clean)

  -- ---- loops
  module _ (limit : ℕ) (test : Expr) (body : Next) (well : IsWell P closed body) where
    well_turns : (count : ℕ) → IsWell P closed (turns limit count test body)
    well_turns zero = λ now clean. tt
    well_turns (suc more) =
        well_begun P closed _ (well_decided P closed test _ Passes
        (λ now clean. well_then (turns limit more test body) (well_turns more) (opened_after now.exchanges) (body now) (well now clean))
        (well_passes P closed))

    well_looped : IsWell P closed (looped limit test body)
    well_looped now clean = well_turns (to_come limit now) now clean

  -- ---- requests by their names, none of which enters or leaves a block
  module _ (limit : ℕ) (next : Value → Next) (each : (value : Value) → P value → IsWell P closed (next value)) where
    well_requested : (name : RequestName) (values : List Value) → AllOf P values
        → IsWell P closed (given (λ it. ask limit it next) (requested name values))
    well_requested named.MakeFuture [] all = well_ask P closed limit request.MakeFuture next (λ b i. refl) tt tt each
    well_requested named.Set (future ∷ value ∷ []) all = well_ask P closed limit (request.Set future value) next (λ b i. refl) tt (all.1).0 each
    well_requested named.Fail (future ∷ fault ∷ []) all = well_ask P closed limit (request.Fail future fault) next (λ b i. refl) tt tt each
    well_requested named.IsDone (x ∷ []) all = well_ask P closed limit (request.IsDone x) next (λ b i. refl) tt tt each
    well_requested named.IsCancelled (x ∷ []) all = well_ask P closed limit (request.IsCancelled x) next (λ b i. refl) tt tt each
    well_requested named.ResultOf (x ∷ []) all = well_ask P closed limit (request.ResultOf x) next (λ b i. refl) tt tt each
    well_requested named.Cancel (x ∷ []) all = well_ask P closed limit (request.Cancel x) next (λ b i. refl) tt tt each
    well_requested named.Cancelling (task ∷ []) all = well_ask P closed limit (request.Cancelling task) next (λ b i. refl) tt tt each
    well_requested named.Uncancel (task ∷ []) all = well_ask P closed limit (request.Uncancel task) next (λ b i. refl) tt tt each
    well_requested named.Current [] all = well_ask P closed limit request.Current next (λ b i. refl) tt tt each
    well_requested named.Time [] all = well_ask P closed limit request.Time next (λ b i. refl) tt tt each
    well_requested named.Sleep (delay ∷ []) all = well_ask P closed limit (request.Sleep delay) next (λ b i. refl) tt tt each
    well_requested named.Reschedule (timeout ∷ when ∷ []) all = well_ask P closed limit (request.Reschedule timeout when) next (λ b i. refl) tt tt each
    well_requested named.Expired (timeout ∷ []) all = well_ask P closed limit (request.Expired timeout) next (λ b i. refl) tt tt each
    well_requested named.Connect (port ∷ []) all = well_ask P closed limit (request.Connect port) next (λ b i. refl) tt tt each
    well_requested named.Write (stream ∷ bytes ∷ []) all = well_ask P closed limit (request.Write stream bytes) next (λ b i. refl) tt tt each
    well_requested named.WriteEof (stream ∷ []) all = well_ask P closed limit (request.WriteEof stream) next (λ b i. refl) tt tt each
    well_requested named.Close (x ∷ []) all = well_ask P closed limit (request.Close x) next (λ b i. refl) tt tt each
    well_requested named.WaitClosed (stream ∷ []) all = well_ask P closed limit (request.WaitClosed stream) next (λ b i. refl) tt tt each
    well_requested named.Drain (stream ∷ []) all = well_ask P closed limit (request.Drain stream) next (λ b i. refl) tt tt each
    well_requested named.Limits (stream ∷ high ∷ low ∷ []) all = well_ask P closed limit (request.Limits stream high low) next (λ b i. refl) tt tt each
    well_requested named.Read (stream ∷ count ∷ []) all = well_ask P closed limit (request.Read stream count) next (λ b i. refl) tt tt each
    well_requested named.ReadExactly (stream ∷ count ∷ []) all = well_ask P closed limit (request.ReadExactly stream count) next (λ b i. refl) tt tt each
    well_requested named.ReadUntil (stream ∷ separator ∷ []) all = well_ask P closed limit (request.ReadUntil stream separator) next (λ b i. refl) tt tt each
    well_requested named.ReadLine (stream ∷ []) all = well_ask P closed limit (request.ReadLine stream) next (λ b i. refl) tt tt each
    well_requested named.Launch (words ∷ []) all = well_ask P closed limit (request.Launch words) next (λ b i. refl) tt tt each
    well_requested named.StandardError (child ∷ []) all = well_ask P closed limit (request.StandardError child) next (λ b i. refl) tt tt each
    well_requested named.WaitChild (child ∷ []) all = well_ask P closed limit (request.WaitChild child) next (λ b i. refl) tt tt each
    well_requested named.ReturnCode (child ∷ []) all = well_ask P closed limit (request.ReturnCode child) next (λ b i. refl) tt tt each
    well_requested named.Kill (child ∷ []) all = well_ask P closed limit (request.Kill child) next (λ b i. refl) tt tt each
    well_requested named.Extra (code ∷ arguments ∷ []) all = well_ask P closed limit (request.Extra code arguments) next (λ b i. refl) tt (all.1).0 each
    well_requested _ _ all = well_raised P closed bad_argument

  -- ---- `try`, `yield from`
  well_finished : (finally : Next) → IsWell P closed finally → (blocks : List EnteredBlock) (ending : Ending) → Well P closed blocks ending
      → Well P closed blocks (finished finally ending)
  well_finished finally well =
      well_routed P closed finally (λ value now. then_next (Returned value) (finally now)) (λ fault now. then_next (Raised fault) (finally now)) well
      (λ value good now clean. well_then (Returned value) (well_returned P closed value good) (opened_after now.exchanges) (finally now) (well now clean))
      (λ fault now clean. well_then (Raised fault) (well_raised P closed fault) (opened_after now.exchanges) (finally now) (well now clean))

  well_handled : (handlers : Exc → Next) → ((fault : Exc) → IsWell P closed (handlers fault)) → (blocks : List EnteredBlock) (ending : Ending)
      → Well P closed blocks ending → Well P closed blocks (handled handlers ending)
  well_handled handlers well =
      well_routed P closed Passes Returned handlers (well_passes P closed) (λ value good. well_returned P closed value good) well

  well_came_back : (env : Env) → InEnv P closed env → (next : Value → Next) → ((value : Value) → P value → IsWell P closed (next value))
      → (blocks : List EnteredBlock) (ending : Ending) → Well P closed blocks ending → Well P closed blocks (came_back env next ending)
  well_came_back env inside next each =
      well_routed P closed (λ now. next Nothing (back_in env now)) (λ value now. next value (back_in env now)) (λ fault now. Raised fault (back_in env now))
      (λ now clean. each Nothing closed.nothing (back_in env now) (inside, clean.1))
      (λ value good now clean. each value good (back_in env now) (inside, clean.1))
      (λ fault now clean. (refl, (inside, clean.1)))

  module _ (limit : ℕ) (program : Program) (call : Calls)
      (well_call : (place : ℕ) (arguments : List Value) → AllOf P arguments → IsWell P closed (call place arguments)) where
    well_delegated : (target : Target) (next : Value → Next) → ((value : Value) → P value → IsWell P closed (next value))
        → IsWell P closed (delegated limit program call target next)
    well_delegated (Await name) next each = λ now clean.
        well_ask P closed limit (request.Await (held now.env name)) next (λ b i. refl) tt (in_held P closed now.env name clean.0) each now clean
    well_delegated (Call coroutine arguments) next each =
        well_all_valued P closed arguments (λ values now. came_back now.env next (call (place_of program coroutine) values now))
        (λ values all now clean. well_came_back now.env clean.0 next each (opened_after now.exchanges) (call (place_of program coroutine) values now)
        (well_call (place_of program coroutine) values all now clean))
    well_delegated (Ask name arguments) next each =
        well_all_valued P closed arguments (λ values. given (λ asked. ask limit asked next) (requested name values))
        (λ values all. well_requested limit next each name values all)
    well_delegated (SpawnTask coroutine arguments) next each =
        well_all_valued P closed arguments (λ values. ask limit (request.Spawn (place_of program coroutine) values) next)
        (λ values all. well_ask P closed limit (request.Spawn (place_of program coroutine) values) next (λ b i. refl) tt all each)
    well_delegated (CreateTask group coroutine arguments) next each =
        well_valued P closed (λ g. all_valued arguments (λ values. ask limit (request.Create g (place_of program coroutine) values) next))
        (λ g good. well_all_valued P closed arguments (λ values. ask limit (request.Create g (place_of program coroutine) values) next)
        (λ values all. well_ask P closed limit (request.Create g (place_of program coroutine) values) next (λ b i. refl) tt all each)) group
    well_delegated (ListenAt port handler) next each =
        well_valued P closed (λ p. ask limit (request.Listen p (place_of program handler)) next)
        (λ p good. well_ask P closed limit (request.Listen p (place_of program handler)) next (λ b i. refl) tt tt each) port

    -- ---- statements
    mutual
      pub well_run : (statement : Statement) → IsWell P closed (run limit program call statement)
      well_run (Assign name value) =
          well_begun P closed (valued value (λ v now. Passes (assign name v now)))
          (well_valued P closed (λ v now. Passes (assign name v now)) (λ v good now clean. (refl, assigned_clean (Some name) v good now clean)) value)
      well_run Yield =
          well_begun P closed (ask limit request.Pause (λ answer. Passes))
          (well_ask P closed limit request.Pause (λ answer. Passes) (λ b i. refl) tt tt (λ v good. well_passes P closed))
      well_run (YieldFrom into target) =
          well_begun P closed (delegated limit program call target (λ answer now. Passes (assign_to into answer now)))
          (well_delegated target (λ answer now. Passes (assign_to into answer now)) (λ v good. well_assigned into v good Passes (well_passes P closed)))
      well_run (Print items) =
          well_begun P closed (all_valued items (λ values. ask limit (request.Print values) (λ answer. Passes)))
          (well_all_valued P closed items (λ values. ask limit (request.Print values) (λ answer. Passes))
          (λ values all. well_ask P closed limit (request.Print values) (λ answer. Passes) (λ b i. refl) tt tt (λ v good. well_passes P closed)))
      well_run (Raise fault) =
          well_begun P closed (valued fault raised) (well_valued P closed raised (λ v good. well_raised_value v) fault)
      well_run (Return None) = well_begun P closed (Returned Nothing) (well_returned P closed Nothing closed.nothing)
      well_run (Return (Some value)) =
          well_begun P closed (valued value Returned) (well_valued P closed Returned (λ v good. well_returned P closed v good) value)
      well_run Pass = well_begun P closed Passes (well_passes P closed)
      well_run (If test body otherwise) =
          well_begun P closed (decided test (run_all limit program call body) (run_branch limit program call otherwise))
          (well_decided P closed test (run_all limit program call body) (run_branch limit program call otherwise) (well_run_all body)
          (well_run_branch otherwise))
      well_run (While test body) = well_looped limit test (run_all limit program call body) (well_run_all body)
      well_run (Try body handlers finally) =
          well_begun P closed (λ now. finished (run_branch limit program call finally) (handled (run_handlers limit program call handlers)
          (run_all limit program call body now)))
          (λ now clean. well_finished (run_branch limit program call finally) (well_run_branch finally) (opened_after now.exchanges)
          (handled (run_handlers limit program call handlers) (run_all limit program call body now))
          (well_handled (run_handlers limit program call handlers) (well_run_handlers handlers) (opened_after now.exchanges)
          (run_all limit program call body now) (well_run_all body now clean)))
      well_run (With manager name body) =
          well_begun P closed (managed limit manager (λ entered now. exited limit manager entered (run_all limit program call body (assign name entered now))))
          (well_managed P closed limit manager (λ entered now. exited limit manager entered (run_all limit program call body (assign name entered now)))
          (λ v good now clean blocks opened. well_exited P closed limit manager v blocks (run_all limit program call body (assign name v now))
          (subst (λ b. Well P closed b (run_all limit program call body (assign name v now))) opened
          (well_run_all body (assign name v now) (assigned_clean (Some name) v good now clean)))))

      pub well_run_all : (statements : Statements) → IsWell P closed (run_all limit program call statements)
      well_run_all no_statements = well_passes P closed
      well_run_all (statement_then first others) = λ now clean.
          well_then (run_all limit program call others) (well_run_all others) (opened_after now.exchanges) (run limit program call first now)
          (well_run first now clean)

      well_run_branch : (branch : Branch) → IsWell P closed (run_branch limit program call branch)
      well_run_branch no_branch = well_passes P closed
      well_run_branch (branch body) = well_run_all body

      well_run_handlers : (handlers : Handlers) (fault : Exc) → IsWell P closed (run_handlers limit program call handlers fault)
      well_run_handlers no_handlers fault = well_raised P closed fault
      well_run_handlers (handler_then kind name body others) fault =
          well_if P closed (matches kind (kind_of fault)) (λ now. run_all limit program call body (assign_to name (Exception fault) now))
          (run_handlers limit program call others fault)
          (λ now clean. well_assigned name (Exception fault) (closed.exception fault) (run_all limit program call body) (well_run_all body) now clean)
          (well_run_handlers others fault)

  -- ---- calls and coroutines
  pub well_call_within : (limit : ℕ) (program : Program) (frames place : ℕ) (arguments : List Value) → AllOf P arguments
      → IsWell P closed (call_within limit program frames place arguments)
  well_call_within limit program zero place arguments all = well_raised P closed too_many_frames
  well_call_within limit program (suc frames) place arguments all = λ now clean.
      well_run_all limit program (call_within limit program frames) (well_call_within limit program frames)
      (coroutine_at program place).body (back_in (entered (coroutine_at program place) arguments) now)
      (in_bound P closed (variables_of (coroutine_at program place)) arguments all, clean.1)

  pub course_well : (limit : ℕ) (program : Program) (place : ℕ) (arguments : List Value) (tape : Tape) → AllOf P arguments → InTape P tape
      → Well P closed [] (course limit program place arguments tape)
  unfolding course
  course_well limit program place arguments tape all given_ =
      well_ask P closed limit request.Pause (λ answer. call_within limit program frame_limit place arguments) (λ b i. refl) tt tt
      (λ v good. well_call_within limit program frame_limit place arguments all) (unbegun limit tape) (tt, given_)
