-- Every statement, every call and every coroutine by numbers is as by names.
use Rattle.std.proofs.Common.{◌≡◌, ℕ, zero, suc, Bool, true, false, if◌then◌else◌, List, [], ◌∷◌, Some, None, refl, sym, ◌∙◌, ap, subst}
use Rattle.model_value.specs.Input.{Input}
use Rattle.model_value.specs.declared.input.Input.TheVariants.{Send, Throw}
use Rattle.model_value.specs.Kinds.{matches}
use Rattle.model_value.specs.declared.request.Request.TheVariants as request
use Rattle.model_value.specs.Value.{Value, Nothing, Exception, Exc, kind_of}
use Rattle.model_tree.specs.Syntax.{Name, Expr, Target, Await, Call, Ask, SpawnTask, CreateTask, ListenAt, Manager, GroupBlock, TimeoutBlock, Statement, Assign}
use Rattle.model_tree.specs.Syntax.{Yield, YieldFrom, Print, Raise, Return, Pass, If, While, Try, With, Statements, no_statements, statement_then, Branch}
use Rattle.model_tree.specs.Syntax.{no_branch, branch, Handlers, no_handlers, handler_then, Coroutine, Program}
use Rattle.model_says.specs.Operations.{bad_operand}
use Rattle.model_says.specs.Variables.{Env, held, entered, bound, variables_of}
use Rattle.model_says.specs.Requests.{requested, place_of, coroutine_at}
use Rattle.model_says.specs.Tape.{Tape}
use Rattle.model_says.specs.Endings.{Progress, Ending, Passes, Returned, Raised, Stopped, saying_of, Next, then_next, given, all_valued, decided, assign}
use Rattle.model_says.specs.Endings.{assign_to, ask, resumed_by, taken}
use Rattle.model_says.specs.Says.{raised, handled, finished, back_in, came_back, Calls, managed, exited, to_come, turns, looped, delegated, run, run_all}
use Rattle.model_says.specs.Says.{run_branch, run_handlers, call_within, frame_limit, unbegun, course, says, step_limit}
use Rattle.algorithm_locals.specs.Numbered.{holding, numbered_name, numbered_option, numbered_expr, numbered_exprs, numbered_target, numbered_manager}
use Rattle.algorithm_locals.specs.Numbered.{numbered_statement, numbered_statements, numbered_branch, numbered_handlers, numbered_coroutine, numbered_program}
use Rattle.algorithm_locals.proofs.Environments.{names_in, values_in, held-first, bound-same, names-bound}
use Rattle.algorithm_locals.proofs.Coroutines.{variables-same, coroutine-same, place-same}
use Rattle.algorithm_locals.proofs.Agreeing.{by_number, Ends, Alike, ends-alike, Agree, passes-agree, returned-agree, raised-agree, routed-ends, then_next-ends}
use Rattle.algorithm_locals.proofs.Agreeing.{given-agree, valued-agree, all_valued-agree, decided-agree, begun-agree, ask-agree, assigned-agree}
use Rattle.algorithm_locals.proofs.Agreeing.{assigned_to-agree}
use Rattle.algorithm_locals.proofs.Agreeing.{came_back-ends}

module _ (limit : ℕ) (names : List Name) where
  raised_value-agree : (value : Value) → Agree names (raised value) (raised value)
  raised_value-agree (Exception fault) = raised-agree names fault
  raised_value-agree _ = raised-agree names bad_operand

  -- ---- loops
  turns-agree : (most : ℕ) (test : Expr) (body body' : Next) → Agree names body body' →
      Agree names (turns limit most test body) (turns limit most (numbered_expr names test) body')
  turns-agree zero test body body' agree = λ now named. (by_number now, refl)
  turns-agree (suc most) test body body' agree =
      let again = turns limit most test body in
      let again' = turns limit most (numbered_expr names test) body' in
      begun-agree names (decided test (λ now. then_next again (body now)) Passes)
      (decided (numbered_expr names test) (λ now. then_next again' (body' now)) Passes)
      (decided-agree names test (λ now. then_next again (body now)) (λ now. then_next again' (body' now)) Passes Passes
      (λ now named.
      then_next-ends names again again' (turns-agree most test body body' agree) (body now) (body' (by_number now)) (agree now named))
      (passes-agree names))

  looped-agree : (test : Expr) (body body' : Next) → Agree names body body' →
      Agree names (looped limit test body) (looped limit (numbered_expr names test) body')
  looped-agree test body body' agree now named = turns-agree (to_come limit now) test body body' agree now named

  -- ---- `try` and `with`
  finished-ends : (finally finally' : Next) → Agree names finally finally' → (ending other : Ending) → Ends names ending other →
      Ends names (finished finally ending) (finished finally' other)
  finished-ends finally finally' agree ending other ends =
      routed-ends names finally finally' (λ value now. then_next (Returned value) (finally now))
      (λ value now. then_next (Returned value) (finally' now)) (λ fault now. then_next (Raised fault) (finally now))
      (λ fault now. then_next (Raised fault) (finally' now)) agree
      (λ value now named.
      then_next-ends names (Returned value) (Returned value) (returned-agree names value) (finally now) (finally' (by_number now))
      (agree now named))
      (λ fault now named.
      then_next-ends names (Raised fault) (Raised fault) (raised-agree names fault) (finally now) (finally' (by_number now))
      (agree now named))
      ending other ends

  handled-ends : (handlers handlers' : Exc → Next) → ((fault : Exc) → Agree names (handlers fault) (handlers' fault)) →
      (ending other : Ending) → Ends names ending other → Ends names (handled handlers ending) (handled handlers' other)
  handled-ends handlers handlers' agree ending other ends =
      routed-ends names Passes Passes Returned Returned handlers handlers' (passes-agree names) (returned-agree names) agree ending other
      ends

  managed-agree : (manager : Manager) (body body' : Value → Next) → ((value : Value) → Agree names (body value) (body' value)) →
      Agree names (managed limit manager body) (managed limit (numbered_manager names manager) body')
  managed-agree GroupBlock body body' agree = ask-agree names limit request.GroupEnter body body' agree
  managed-agree (TimeoutBlock delay) body body' agree =
      valued-agree names delay (λ d. ask limit (request.TimeoutEnter d) body) (λ d. ask limit (request.TimeoutEnter d) body')
      (λ d. ask-agree names limit (request.TimeoutEnter d) body body' agree)

  exited-ends : (manager : Manager) (entered : Value) (ending other : Ending) → Ends names ending other →
      Ends names (exited limit manager entered ending) (exited limit (numbered_manager names manager) entered other)
  exited-ends GroupBlock entered ending other ends = routed-ends names _ _ _ _ _ _
      (ask-agree names limit (request.GroupExit entered None) (λ answer. Passes) (λ answer. Passes) (λ answer. passes-agree names))
      (λ value. ask-agree names limit (request.GroupExit entered None) (λ answer. Returned value) (λ answer. Returned value)
      (λ answer. returned-agree names value))
      (λ fault. ask-agree names limit (request.GroupExit entered (Some fault)) (λ answer. Raised fault) (λ answer. Raised fault)
      (λ answer. raised-agree names fault))
      ending other ends
  exited-ends (TimeoutBlock delay) entered ending other ends = routed-ends names _ _ _ _ _ _
      (ask-agree names limit (request.TimeoutExit entered None) (λ answer. Passes) (λ answer. Passes) (λ answer. passes-agree names))
      (λ value. ask-agree names limit (request.TimeoutExit entered None) (λ answer. Returned value) (λ answer. Returned value)
      (λ answer. returned-agree names value))
      (λ fault. ask-agree names limit (request.TimeoutExit entered (Some fault)) (λ answer. Raised fault) (λ answer. Raised fault)
      (λ answer. raised-agree names fault))
      ending other ends

  -- ---- what a variable holds
  held-there : (name : Name) (env : Env) → names_in env ≡ names →
      held (holding 0 (values_in env)) (numbered_name names name) ≡ held env name
  held-there name env named =
      subst (λ n. held (holding 0 (values_in env)) (numbered_name n name) ≡ held env name) named
      (held-first env name)

-- how a call ends by names, and how by numbers
abbrev CallsAlike : Calls → Calls → Type 0
CallsAlike call call' =
    (place : ℕ) (arguments : List Value) (now : Progress) → Alike (call place arguments now) (call' place arguments (by_number now))

module _ (limit : ℕ) (program : Program) (call call' : Calls) (alike : CallsAlike call call') (names : List Name) where
  abbrev other : Program
  other = numbered_program program

  -- ---- `yield from`
  call-agree : (place place' : ℕ) (values : List Value) (next next' : Value → Next) → place' ≡ place →
      ((value : Value) → Agree names (next value) (next' value)) →
      Agree names (λ now. came_back now.env next (call place values now)) (λ now. came_back now.env next' (call' place' values now))
  call-agree place place' values next next' same agree now named =
      subst (λ p. Ends names (came_back now.env next (call place values now))
      (came_back (holding 0 (values_in now.env)) next' (call' p values (by_number now))))
      (sym same)
      (came_back-ends names now.env next next' named agree (call place values now) (call' place values (by_number now))
      (alike place values now))

  delegated-agree : (target : Target) (next next' : Value → Next) → ((value : Value) → Agree names (next value) (next' value)) →
      Agree names (delegated limit program call target next) (delegated limit other call' (numbered_target names target) next')
  delegated-agree (Await name) next next' agree = λ now named.
      subst (λ v. Ends names (ask limit (request.Await (held now.env name)) next now) (ask limit (request.Await v) next' (by_number now)))
      (sym (held-there limit names name now.env named))
      (ask-agree names limit (request.Await (held now.env name)) next next' agree now named)
  delegated-agree (Call coroutine arguments) next next' agree =
      all_valued-agree names arguments (λ values now. came_back now.env next (call (place_of program coroutine) values now))
      (λ values now. came_back now.env next' (call' (place_of other coroutine) values now))
      (λ values. call-agree (place_of program coroutine) (place_of other coroutine) values next next' (place-same program coroutine) agree)
  delegated-agree (Ask name arguments) next next' agree =
      all_valued-agree names arguments (λ values. given (λ asked. ask limit asked next) (requested name values))
      (λ values. given (λ asked. ask limit asked next') (requested name values))
      (λ values. given-agree names (λ asked. ask limit asked next) (λ asked. ask limit asked next')
      (λ asked. ask-agree names limit asked next next' agree) (requested name values))
  delegated-agree (SpawnTask coroutine arguments) next next' agree =
      all_valued-agree names arguments (λ values. ask limit (request.Spawn (place_of program coroutine) values) next)
      (λ values. ask limit (request.Spawn (place_of other coroutine) values) next')
      (λ values.
      subst (λ p. Agree names (ask limit (request.Spawn (place_of program coroutine) values) next) (ask limit (request.Spawn p values) next'))
      (sym (place-same program coroutine))
      (ask-agree names limit (request.Spawn (place_of program coroutine) values) next next' agree))
  delegated-agree (CreateTask group coroutine arguments) next next' agree =
      valued-agree names group
      (λ g. all_valued arguments (λ values. ask limit (request.Create g (place_of program coroutine) values) next))
      (λ g. all_valued (numbered_exprs names arguments) (λ values. ask limit (request.Create g (place_of other coroutine) values) next'))
      (λ g.
      all_valued-agree names arguments (λ values. ask limit (request.Create g (place_of program coroutine) values) next)
      (λ values. ask limit (request.Create g (place_of other coroutine) values) next')
      (λ values.
      subst (λ p. Agree names (ask limit (request.Create g (place_of program coroutine) values) next) (ask limit (request.Create g p values) next'))
      (sym (place-same program coroutine))
      (ask-agree names limit (request.Create g (place_of program coroutine) values) next next' agree)))
  delegated-agree (ListenAt port handler) next next' agree =
      valued-agree names port (λ p. ask limit (request.Listen p (place_of program handler)) next)
      (λ p. ask limit (request.Listen p (place_of other handler)) next')
      (λ p.
      subst (λ h. Agree names (ask limit (request.Listen p (place_of program handler)) next) (ask limit (request.Listen p h) next'))
      (sym (place-same program handler))
      (ask-agree names limit (request.Listen p (place_of program handler)) next next' agree))

  -- ---- statements
  abbrev Same : Statement → Type 0
  Same statement =
      Agree names (run limit program call statement) (run limit other call' (numbered_statement names statement))

  abbrev AllSame : Statements → Type 0
  AllSame statements =
      Agree names (run_all limit program call statements) (run_all limit other call' (numbered_statements names statements))

  mutual
    run-agree : (statement : Statement) → Same statement
    run-agree (Assign name value) =
        begun-agree names _ _ (valued-agree names value (λ v now. Passes (assign name v now))
        (λ v now. Passes (assign (numbered_name names name) v now))
        (λ v. assigned-agree names name v Passes Passes (passes-agree names)))
    run-agree Yield =
        begun-agree names _ _ (ask-agree names limit request.Pause (λ answer. Passes) (λ answer. Passes) (λ answer. passes-agree names))
    run-agree (YieldFrom into target) =
        begun-agree names _ _ (delegated-agree target (λ answer now. Passes (assign_to into answer now))
        (λ answer now. Passes (assign_to (numbered_option names into) answer now))
        (λ answer. assigned_to-agree names into answer Passes Passes (passes-agree names)))
    run-agree (Print items) =
        begun-agree names _ _ (all_valued-agree names items (λ values. ask limit (request.Print values) (λ answer. Passes))
        (λ values. ask limit (request.Print values) (λ answer. Passes))
        (λ values. ask-agree names limit (request.Print values) (λ answer. Passes) (λ answer. Passes) (λ answer. passes-agree names)))
    run-agree (Raise fault) =
        begun-agree names _ _ (valued-agree names fault raised raised (raised_value-agree limit names))
    run-agree (Return None) = begun-agree names _ _ (returned-agree names Nothing)
    run-agree (Return (Some value)) = begun-agree names _ _ (valued-agree names value Returned Returned (returned-agree names))
    run-agree Pass = begun-agree names _ _ (passes-agree names)
    run-agree (If test body otherwise) =
        begun-agree names _ _ (decided-agree names test _ _ _ _ (run_all-agree body) (run_branch-agree otherwise))
    run-agree (While test body) = looped-agree limit names test _ _ (run_all-agree body)
    run-agree (Try body handlers finally) =
        begun-agree names _ _ (λ now named.
        finished-ends limit names _ _ (run_branch-agree finally) _ _
        (handled-ends limit names _ _ (run_handlers-agree handlers) _ _ (run_all-agree body now named)))
    run-agree (With manager name body) =
        begun-agree names _ _ (managed-agree limit names manager _ _
        (λ entered now named. exited-ends limit names manager entered _ _
        (assigned-agree names name entered (run_all limit program call body)
        (run_all limit other call' (numbered_statements names body)) (run_all-agree body) now named)))

    pub run_all-agree : (statements : Statements) → AllSame statements
    run_all-agree no_statements = passes-agree names
    run_all-agree (statement_then first others) = λ now named.
        then_next-ends names _ _ (run_all-agree others) _ _ (run-agree first now named)

    run_branch-agree : (statements : Branch) →
        Agree names (run_branch limit program call statements) (run_branch limit other call' (numbered_branch names statements))
    run_branch-agree no_branch = passes-agree names
    run_branch-agree (branch body) = run_all-agree body

    run_handlers-agree : (handlers : Handlers) (fault : Exc) →
        Agree names (run_handlers limit program call handlers fault) (run_handlers limit other call' (numbered_handlers names handlers) fault)
    run_handlers-agree no_handlers fault = raised-agree names fault
    run_handlers-agree (handler_then kind name body others) fault =
        by_test (matches kind (kind_of fault)) (λ now. run_all limit program call body (assign_to name (Exception fault) now))
        (λ now. run_all limit other call' (numbered_statements names body) (assign_to (numbered_option names name) (Exception fault) now))
        (run_handlers limit program call others fault) (run_handlers limit other call' (numbered_handlers names others) fault)
        (assigned_to-agree names name (Exception fault) (run_all limit program call body)
        (run_all limit other call' (numbered_statements names body)) (run_all-agree body))
        (run_handlers-agree others fault)
      where
        by_test : (test : Bool) (on on' off off' : Next) → Agree names on on' → Agree names off off' →
            Agree names (if test then on else off) (if test then on' else off')
        by_test true on on' off off' agree agree' = agree
        by_test false on on' off off' agree agree' = agree'

-- ---- calls
module _ (limit : ℕ) (program : Program) where
  entered-same : (coroutine : Coroutine) (arguments : List Value) →
      entered (numbered_coroutine coroutine) arguments ≡ holding 0 (values_in (entered coroutine arguments))
  entered-same coroutine arguments =
      ap (λ names. bound names arguments) (variables-same coroutine) ∙ bound-same (variables_of coroutine) arguments 0

  calls-alike : (frames : ℕ) → CallsAlike (call_within limit program frames) (call_within limit (numbered_program program) frames)
  calls-alike zero place arguments now = (holding 0 (values_in now.env), refl)
  calls-alike (suc frames) place arguments now =
      let coroutine = coroutine_at program place in
      let there = call_within limit (numbered_program program) frames in
      let inside = back_in (entered coroutine arguments) now in
      let here = call_within limit program (suc frames) place arguments now in
      subst (λ (c : Coroutine). Alike here (run_all limit (numbered_program program) there c.body (back_in (entered c arguments) now)))
      (sym (coroutine-same program place))
      (subst (λ env. Alike here (run_all limit (numbered_program program) there (numbered_coroutine coroutine).body (back_in env now)))
      (sym (entered-same coroutine arguments))
      (ends-alike (variables_of coroutine) here _
      (run_all-agree limit program (call_within limit program frames) there (calls-alike frames) (variables_of coroutine) coroutine.body
      inside (names-bound (variables_of coroutine) arguments))))

  alike-says : (ending numbered : Ending) → Alike ending numbered → saying_of numbered ≡ saying_of ending
  alike-says (Passes now) numbered alike = ap saying_of alike.1
  alike-says (Returned value now) numbered alike = ap saying_of alike.1
  alike-says (Raised fault now) numbered alike = ap saying_of alike.1
  alike-says (Stopped saying now) numbered alike = ap saying_of alike.1

  pub course-says : (place : ℕ) (arguments : List Value) (tape : Tape) →
      saying_of (course limit (numbered_program program) place arguments tape) ≡ saying_of (course limit program place arguments tape)
  unfolding course
  course-says place arguments [] = refl
  course-says place arguments (entry ∷ tape) = by_input entry.input
    where
      begins : Progress
      begins = taken limit request.Pause entry tape (unbegun limit (entry ∷ tape))

      by_input : (input : Input) →
          saying_of (resumed_by input (λ answer. call_within limit (numbered_program program) frame_limit place arguments) begins)
          ≡ saying_of (resumed_by input (λ answer. call_within limit program frame_limit place arguments) begins)
      by_input (Send value) =
          alike-says (call_within limit program frame_limit place arguments begins) _ (calls-alike frame_limit place arguments begins)
      by_input (Throw fault) = refl

pub says-same : (program : Program) (place : ℕ) (arguments : List Value) (tape : Tape) →
    says (numbered_program program) place arguments tape ≡ says program place arguments tape
says-same program = course-says step_limit program
