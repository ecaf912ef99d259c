-- Each statement asks twice at most, so what is asked along a tape is bounded by the statements that may begin.
use Rattle.std.proofs.Common.{◌≡◌, ℕ, zero, suc, ◌+◌, ◌*◌, ◌≤◌, Bool, true, false, if◌then◌else◌, List, [], ◌∷◌, ◌++◌, length, Option, Some, None, Result, Ok}
use Rattle.std.proofs.Common.{Err, refl, ap, sym, ◌∙◌, length-append, arith}
use Rattle.std.proofs.lemmas.List.{length-map}
use Rattle.std.proofs.lemmas.List.Sums.{sum_by-cons}
use Rattle.model_value.specs.declared.input.Input.TheVariants.{Send, Throw}
use Rattle.model_value.specs.declared.request.Request.TheVariants as request
use Rattle.model_value.specs.Input.{Input}
use Rattle.model_value.specs.Kinds.{matches}
use Rattle.model_value.specs.Request.{Request}
use Rattle.model_value.specs.Value.{Value, Nothing, Truth, Exception, Exc, kind_of}
use Rattle.model_tree.specs.Syntax.{Name, Expr, Exprs, Target, Await, Call, Ask, SpawnTask, CreateTask, ListenAt, Manager, GroupBlock, TimeoutBlock, Statement}
use Rattle.model_tree.specs.Syntax.{Assign, Yield, YieldFrom, Print, Raise, Return, Pass, If, While, Try, With, Statements, no_statements, statement_then}
use Rattle.model_tree.specs.Syntax.{Branch, no_branch, branch, Handlers, no_handlers, handler_then, Program}
use Rattle.model_says.specs.Expressions.{value_of, values_of}
use Rattle.model_says.specs.Variables.{held, entered}
use Rattle.model_says.specs.Requests.{requested, place_of, coroutine_at}
use Rattle.model_says.specs.Tape.{Resumed, Tape}
use Rattle.model_says.specs.Asked.{answers_of, inputs_of}
use Rattle.model_says.specs.Endings.{Asks, Exchange, Progress, Ending, Passes, Returned, Raised, Stopped, saying_of, progress_of, Next, routed, then_next}
use Rattle.model_says.specs.Endings.{given, valued, all_valued, chosen, decided, assign, assign_to, begun, begun_with, resumed_by, taken, asked_of, ask}
use Rattle.model_says.specs.Says.{too_many_frames, raised, handled, finished, back_in, came_back, Calls, exit_of, managed, exited, turns, looped, to_come}
use Rattle.model_says.specs.Says.{delegated, run, run_all, run_branch, run_handlers, call_within, frame_limit, unbegun, course}
use Rattle.law_says.specs.Steps.{steps_in}
use Rattle.law_says.proofs.Bodies.{course_here}
use Rattle.law_says.proofs.Ends.{all_answered}

-- how many statements inputs allow that are yet to come
abbrev pub allowed : (limit : ℕ) → Tape → ℕ
allowed limit [] = 0
allowed limit (entry ∷ tape) = (if entry.fresh then limit else 0) + allowed limit tape

-- what was asked, and twice what may yet begin
abbrev pub potential : (limit : ℕ) → Progress → ℕ
potential limit now = length now.exchanges + 2 * (now.left + allowed limit now.tape)

-- a piece of a body raises that by no more than this
abbrev pub Costs : (limit cost : ℕ) → Next → Type 0
Costs limit cost next = (now : Progress) → potential limit (progress_of (next now)) ≤ potential limit now + cost

more : (limit few many : ℕ) (next : Next) → few ≤ many → Costs limit few next → Costs limit many next
more limit few many next h costs now = let c = costs now in omega arith

passes : (limit : ℕ) → Costs limit 0 Passes
passes limit now = omega arith

returned : (limit : ℕ) (value : Value) → Costs limit 0 (Returned value)
returned limit value now = omega arith

raises : (limit : ℕ) (fault : Exc) → Costs limit 0 (Raised fault)
raises limit fault now = omega arith

-- ---- one thing after another
routed_costs : (limit cost later : ℕ) (pass : Next) (return : Value → Next) (raise : Exc → Next)
    → Costs limit later pass → ((value : Value) → Costs limit later (return value)) → ((fault : Exc) → Costs limit later (raise fault))
    → (first : Next) → Costs limit cost first → Costs limit (cost + later) (λ now. routed pass return raise (first now))
routed_costs limit cost later pass return raise p r f first costs now = at (first now) (costs now)
  where
    at : (ending : Ending) → potential limit (progress_of ending) ≤ potential limit now + cost
        → potential limit (progress_of (routed pass return raise ending)) ≤ potential limit now + (cost + later)
    at (Passes next) h = let c = p next in omega arith
    at (Returned value next) h = let c = r value next in omega arith
    at (Raised fault next) h = let c = f fault next in omega arith
    at (Stopped saying next) h = omega arith

then_costs : (limit cost later : ℕ) (first next : Next) → Costs limit cost first → Costs limit later next
    → Costs limit (cost + later) (λ now. then_next next (first now))
then_costs limit cost later first next c d =
    routed_costs limit cost later next Returned Raised d
    (λ value. more limit 0 later (Returned value) (omega arith) (returned limit value))
    (λ fault. more limit 0 later (Raised fault) (omega arith) (raises limit fault)) first c

given_costs : {A : Type 0} (limit cost : ℕ) (next : A → Next) (result : Result A Exc) → ((value : A) → Costs limit cost (next value))
    → Costs limit cost (given next result)
given_costs limit cost next (Ok value) costs now = costs value now
given_costs limit cost next (Err fault) costs now = omega arith

valued_costs : (limit cost : ℕ) (expr : Expr) (next : Value → Next) → ((value : Value) → Costs limit cost (next value)) → Costs limit cost (valued expr next)
valued_costs limit cost expr next costs now = given_costs limit cost next (value_of expr now.env) costs now

all_valued_costs : (limit cost : ℕ) (exprs : Exprs) (next : List Value → Next) → ((values : List Value) → Costs limit cost (next values))
    → Costs limit cost (all_valued exprs next)
all_valued_costs limit cost exprs next costs now = given_costs limit cost next (values_of exprs now.env) costs now

chosen_costs : (limit cost : ℕ) (first second : Next) → Costs limit cost first → Costs limit cost second → (value : Value)
    → Costs limit cost (chosen first second value)
chosen_costs limit cost first second c d (Truth true) now = c now
chosen_costs limit cost first second c d (Truth false) now = d now
chosen_costs limit cost first second c d _ now = omega arith

decided_costs : (limit cost : ℕ) (test : Expr) (first second : Next) → Costs limit cost first → Costs limit cost second
    → Costs limit cost (decided test first second)
decided_costs limit cost test first second c d = valued_costs limit cost test (chosen first second) (chosen_costs limit cost first second c d)

-- a statement that begins pays for two requests
begun_costs : (limit : ℕ) (next : Next) → Costs limit 2 next → Costs limit 0 (begun next)
begun_costs limit next costs now = at now.left refl
  where
    at : (left : ℕ) → now.left ≡ left → potential limit (progress_of (begun_with left next now)) ≤ potential limit now + 0
    at zero e = omega arith
    at (suc left) e = let c = costs (record now { left = left }) in omega arith

-- ---- requests
resumed_costs : (limit cost : ℕ) (input : Input) (next : Value → Next) → ((value : Value) → Costs limit cost (next value))
    → Costs limit cost (resumed_by input next)
resumed_costs limit cost (Send value) next costs now = costs value now
resumed_costs limit cost (Throw fault) next costs now = omega arith

taken_costs : (limit : ℕ) (asked : Request) (entry : Resumed) (tape : Tape) (now : Progress) → now.tape ≡ entry ∷ tape
    → potential limit (taken limit asked entry tape now) ≤ potential limit now + 1
taken_costs limit asked entry tape now e = at entry.fresh refl
  where
    exchange : Exchange
    exchange = record { request = asked; answer = entry.input }

    longer : length (now.exchanges ++ exchange ∷ []) ≡ length now.exchanges + 1
    longer = length-append now.exchanges (exchange ∷ [])

    before : allowed limit now.tape ≡ (if entry.fresh then limit else 0) + allowed limit tape
    before = ap (allowed limit) e

    at : (fresh : Bool) → entry.fresh ≡ fresh
        → length (now.exchanges ++ exchange ∷ []) + 2 * ((if fresh then limit else now.left) + allowed limit tape) ≤ potential limit now + 1
    at true f = let b : allowed limit now.tape ≡ limit + allowed limit tape = before ∙ ap (λ b.
        (if b then limit else 0) + allowed limit tape) f in omega (arith, longer)
    at false f =
        let b : allowed limit now.tape ≡ 0 + allowed limit tape = before ∙ ap (λ b. (if b then limit else 0) + allowed limit tape) f in omega (arith, longer)

ask_costs : (limit cost : ℕ) (asked : Request) (next : Value → Next) → ((value : Value) → Costs limit cost (next value))
    → Costs limit (cost + 1) (ask limit asked next)
ask_costs limit cost asked next costs now = at now.tape refl
  where
    at : (tape : Tape) → now.tape ≡ tape → potential limit (progress_of (asked_of limit asked next tape now)) ≤ potential limit now + (cost + 1)
    at [] e = omega arith
    at (entry ∷ tape) e =
        let t = taken_costs limit asked entry tape now e in
        let c = resumed_costs limit cost entry.input next costs (taken limit asked entry tape now) in
        omega arith

-- ---- loops
turns_costs : (limit : ℕ) (count : ℕ) (test : Expr) (body : Next) → Costs limit 0 body → Costs limit 0 (turns limit count test body)
turns_costs limit zero test body costs = λ now. omega arith
turns_costs limit (suc count) test body costs =
    begun_costs limit (decided test (λ now. then_next (turns limit count test body) (body now)) Passes)
    (decided_costs limit 2 test (λ now. then_next (turns limit count test body) (body now)) Passes
    (more limit 0 2 (λ now. then_next (turns limit count test body) (body now)) (omega arith)
    (then_costs limit 0 0 body (turns limit count test body) costs (turns_costs limit count test body costs)))
    (more limit 0 2 Passes (omega arith) (passes limit)))

looped_costs : (limit : ℕ) (test : Expr) (body : Next) → Costs limit 0 body → Costs limit 0 (looped limit test body)
looped_costs limit test body costs now = turns_costs limit (to_come limit now) test body costs now

-- ---- `raise`, `try`, `with`
raised_costs : (limit : ℕ) (value : Value) → Costs limit 0 (raised value)
raised_costs limit (Exception fault) now = omega arith
raised_costs limit _ now = omega arith

finished_costs : (limit : ℕ) (first finally : Next) → Costs limit 0 first → Costs limit 0 finally → Costs limit 0 (λ now. finished finally (first now))
finished_costs limit first finally c d =
    routed_costs limit 0 0 finally (λ value now. then_next (Returned value) (finally now)) (λ fault now. then_next (Raised fault) (finally now)) d
    (λ value. then_costs limit 0 0 finally (Returned value) d (returned limit value))
    (λ fault. then_costs limit 0 0 finally (Raised fault) d (raises limit fault))
    first c

handled_costs : (limit : ℕ) (first : Next) (handlers : Exc → Next) → Costs limit 0 first → ((fault : Exc) → Costs limit 0 (handlers fault))
    → Costs limit 0 (λ now. handled handlers (first now))
handled_costs limit first handlers c d = routed_costs limit 0 0 Passes Returned handlers (passes limit) (returned limit) d first c

exited_costs : (limit : ℕ) (manager : Manager) (block : Value) (first : Next) → Costs limit 0 first
    → Costs limit 1 (λ now. exited limit manager block (first now))
exited_costs limit manager block first c =
    routed_costs limit 0 1
    (ask limit (exit_of manager block None) (λ answer. Passes))
    (λ value. ask limit (exit_of manager block None) (λ answer. Returned value))
    (λ fault. ask limit (exit_of manager block (Some fault)) (λ answer. Raised fault))
    (ask_costs limit 0 (exit_of manager block None) (λ answer. Passes) (λ answer. passes limit))
    (λ value. ask_costs limit 0 (exit_of manager block None) (λ answer. Returned value) (λ answer. returned limit value))
    (λ fault. ask_costs limit 0 (exit_of manager block (Some fault)) (λ answer. Raised fault) (λ answer. raises limit fault))
    first c

managed_costs : (limit cost : ℕ) (manager : Manager) (body : Value → Next) → ((value : Value) → Costs limit cost (body value))
    → Costs limit (cost + 1) (managed limit manager body)
managed_costs limit cost GroupBlock body costs = ask_costs limit cost request.GroupEnter body costs
managed_costs limit cost (TimeoutBlock delay) body costs =
    valued_costs limit (cost + 1) delay (λ d. ask limit (request.TimeoutEnter d) body) (λ d. ask_costs limit cost (request.TimeoutEnter d) body costs)

module _ (limit : ℕ) (program : Program) (call : Calls) (call_costs : (place : ℕ) (arguments : List Value) → Costs limit 0 (call place arguments)) where
  delegated_costs : (target : Target) (next : Value → Next) → ((value : Value) → Costs limit 0 (next value))
      → Costs limit 1 (delegated limit program call target next)
  delegated_costs (Await name) next costs = λ now. ask_costs limit 0 (request.Await (held now.env name)) next costs now
  delegated_costs (Call coroutine arguments) next costs =
      all_valued_costs limit 1 arguments (λ values now. came_back now.env next (call (place_of program coroutine) values now))
      (λ values now. more limit 0 1 (λ here. came_back now.env next (call (place_of program coroutine) values here)) (omega arith)
      (routed_costs limit 0 0 (λ here. next Nothing (back_in now.env here)) (λ value here. next value (back_in now.env here))
      (λ fault here. Raised fault (back_in now.env here))
      (λ here. costs Nothing (back_in now.env here)) (λ value here. costs value (back_in now.env here)) (λ fault here. omega arith)
      (call (place_of program coroutine) values) (call_costs (place_of program coroutine) values)) now)
  delegated_costs (Ask name arguments) next costs =
      all_valued_costs limit 1 arguments (λ values. given (λ asked. ask limit asked next) (requested name values))
      (λ values. given_costs limit 1 (λ asked. ask limit asked next) (requested name values) (λ asked. ask_costs limit 0 asked next costs))
  delegated_costs (SpawnTask coroutine arguments) next costs =
      all_valued_costs limit 1 arguments (λ values. ask limit (request.Spawn (place_of program coroutine) values) next)
      (λ values. ask_costs limit 0 (request.Spawn (place_of program coroutine) values) next costs)
  delegated_costs (CreateTask group coroutine arguments) next costs =
      valued_costs limit 1 group (λ g. all_valued arguments (λ values. ask limit (request.Create g (place_of program coroutine) values) next))
      (λ g. all_valued_costs limit 1 arguments (λ values. ask limit (request.Create g (place_of program coroutine) values) next)
      (λ values. ask_costs limit 0 (request.Create g (place_of program coroutine) values) next costs))
  delegated_costs (ListenAt port handler) next costs =
      valued_costs limit 1 port (λ p. ask limit (request.Listen p (place_of program handler)) next)
      (λ p. ask_costs limit 0 (request.Listen p (place_of program handler)) next costs)

  assigned_to : (into : Option Name) (value : Value) → Costs limit 0 (λ now. Passes (assign_to into value now))
  assigned_to None value now = omega arith
  assigned_to (Some name) value now = omega arith

  -- ---- statements
  mutual
    pub run_costs : (statement : Statement) → Costs limit 0 (run limit program call statement)
    run_costs (Assign name value) =
        begun_costs limit (valued value (λ v now. Passes (assign name v now)))
        (valued_costs limit 2 value (λ v now. Passes (assign name v now)) (λ v now. omega arith))
    run_costs Yield =
        begun_costs limit (ask limit request.Pause (λ answer. Passes))
        (more limit 1 2 (ask limit request.Pause (λ answer. Passes)) (omega arith) (ask_costs limit 0 request.Pause (λ answer. Passes)
        (λ answer. passes limit)))
    run_costs (YieldFrom into target) =
        begun_costs limit (delegated limit program call target (λ answer now. Passes (assign_to into answer now)))
        (more limit 1 2 (delegated limit program call target (λ answer now. Passes (assign_to into answer now))) (omega arith)
        (delegated_costs target (λ answer now. Passes (assign_to into answer now)) (assigned_to into)))
    run_costs (Print items) =
        begun_costs limit (all_valued items (λ values. ask limit (request.Print values) (λ answer. Passes)))
        (all_valued_costs limit 2 items (λ values. ask limit (request.Print values) (λ answer. Passes))
        (λ values. more limit 1 2 (ask limit (request.Print values) (λ answer. Passes)) (omega arith) (ask_costs limit 0 (request.Print values)
        (λ answer. Passes) (λ answer. passes limit))))
    run_costs (Raise fault) =
        begun_costs limit (valued fault raised) (valued_costs limit 2 fault raised (λ v. more limit 0 2 (raised v) (omega arith) (raised_costs limit v)))
    run_costs (Return None) = begun_costs limit (Returned Nothing) (more limit 0 2 (Returned Nothing) (omega arith) (returned limit Nothing))
    run_costs (Return (Some value)) =
        begun_costs limit (valued value Returned) (valued_costs limit 2 value Returned (λ v. more limit 0 2 (Returned v) (omega arith) (returned limit v)))
    run_costs Pass = begun_costs limit Passes (more limit 0 2 Passes (omega arith) (passes limit))
    run_costs (If test body otherwise) =
        begun_costs limit (decided test (run_all limit program call body) (run_branch limit program call otherwise))
        (decided_costs limit 2 test (run_all limit program call body) (run_branch limit program call otherwise)
        (more limit 0 2 (run_all limit program call body) (omega arith) (run_all_costs body))
        (more limit 0 2 (run_branch limit program call otherwise) (omega arith) (run_branch_costs otherwise)))
    run_costs (While test body) = looped_costs limit test (run_all limit program call body) (run_all_costs body)
    run_costs (Try body handlers finally) =
        let whole : Next =
        λ now. finished (run_branch limit program call finally) (handled (run_handlers limit program call handlers)
        (run_all limit program call body now)) in
        begun_costs limit whole
        (more limit 0 2 whole (omega arith)
        (finished_costs limit (λ now. handled (run_handlers limit program call handlers) (run_all limit program call body now))
        (run_branch limit program call finally)
        (handled_costs limit (run_all limit program call body) (run_handlers limit program call handlers) (run_all_costs body) (run_handlers_costs handlers))
        (run_branch_costs finally)))
    run_costs (With manager name body) =
        begun_costs limit (managed limit manager (λ block now. exited limit manager block (run_all limit program call body (assign name block now))))
        (managed_costs limit 1 manager (λ block now. exited limit manager block (run_all limit program call body (assign name block now)))
        (λ block. exited_costs limit manager block (λ now. run_all limit program call body (assign name block now)) (λ now. run_all_costs body
        (assign name block now))))

    pub run_all_costs : (statements : Statements) → Costs limit 0 (run_all limit program call statements)
    run_all_costs no_statements = passes limit
    run_all_costs (statement_then first others) =
        then_costs limit 0 0 (run limit program call first) (run_all limit program call others) (run_costs first) (run_all_costs others)

    run_branch_costs : (branch : Branch) → Costs limit 0 (run_branch limit program call branch)
    run_branch_costs no_branch = passes limit
    run_branch_costs (branch body) = run_all_costs body

    run_handlers_costs : (handlers : Handlers) (fault : Exc) → Costs limit 0 (run_handlers limit program call handlers fault)
    run_handlers_costs no_handlers fault = raises limit fault
    run_handlers_costs (handler_then kind name body others) fault = at (matches kind (kind_of fault)) (run_all_costs body) (run_handlers_costs others fault)
      where
        at : (b : Bool) → Costs limit 0 (run_all limit program call body) → Costs limit 0 (run_handlers limit program call others fault)
            → Costs limit 0 (if b then (λ now. run_all limit program call body (assign_to name
            (Exception fault) now)) else run_handlers limit program call others fault)
        at true c d = caught name c
          where
            caught : (into : Option Name) → Costs limit 0 (run_all limit program call body)
                → Costs limit 0 (λ now. run_all limit program call body (assign_to into (Exception fault) now))
            caught None costs now = costs now
            caught (Some it) costs now = costs (assign it (Exception fault) now)
        at false c d = d

-- ---- calls and whole coroutines
calls_cost : (limit : ℕ) (program : Program) (frames place : ℕ) (arguments : List Value) → Costs limit 0 (call_within limit program frames place arguments)
calls_cost limit program zero place arguments = raises limit too_many_frames
calls_cost limit program (suc frames) place arguments = λ now.
    run_all_costs limit program (call_within limit program frames) (calls_cost limit program frames) (coroutine_at program place).body
    (back_in (entered (coroutine_at program place) arguments) now)

pub course_costs : (limit : ℕ) (program : Program) (place : ℕ) (arguments : List Value) (tape : Tape)
    → length (progress_of (course limit program place arguments tape)).exchanges ≤ 1 + 2 * (limit + allowed limit tape)
unfolding course
course_costs limit program place arguments tape =
    let c = ask_costs limit 0 request.Pause (λ answer. call_within limit program frame_limit place arguments)
    (λ answer. calls_cost limit program frame_limit place arguments) (unbegun limit tape) in
    omega arith

-- ---- a request that waits, of a tape with so many steps
allowed-steps : (limit : ℕ) (tape : Tape) → allowed limit tape ≡ limit * steps_in tape
allowed-steps limit [] = omega arith
allowed-steps limit (entry ∷ tape) =
    at entry.fresh (allowed-steps limit tape) ∙ ap (λ n. limit * n) (sym (sum_by-cons (λ (e : Resumed). if e.fresh then 1 else 0) entry tape))
  where
    at : (b : Bool) → allowed limit tape ≡ limit * steps_in tape
        → (if b then limit else 0) + allowed limit tape ≡ limit * ((if b then 1 else 0) + steps_in tape)
    at true e = omega (arith, e)
    at false e = omega (arith, e)

pub asked_at_most : (limit : ℕ) (program : Program) (place : ℕ) (arguments : List Value) (tape : Tape) (asked : Request)
    → saying_of (course limit program place arguments tape) ≡ Asks asked → length tape ≤ 1 + 2 * (limit * (steps_in tape + 1))
asked_at_most limit program place arguments tape asked is =
    let ending = course limit program place arguments tape in
    let here = course_here limit program place arguments tape in
    let all : answers_of (progress_of ending).exchanges ≡ inputs_of tape = all_answered ending asked (inputs_of tape) here.empties is here.takes in
    let a = length-map (progress_of ending).exchanges (λ (exchange : Exchange). exchange.answer) in
    let b = length-map tape (λ (resumed : Resumed). resumed.input) in
    let c = course_costs limit program place arguments tape in
    let d = allowed-steps limit tape in
    let e = ap length all in
    omega arith
