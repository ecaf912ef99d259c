-- Which statements stand in flat code from one place to another.
-- Source: the language reference, "Compound statements"; CPython's `compile.c` for how blocks are laid.
use Rattle.std.specs.Prelude.{◌≡◌, ℕ, ◌+◌, List, [], ◌∷◌, Option}
use Rattle.model_tree.specs.Syntax.{Name, exprs_of, Target, Await, Call, Ask, SpawnTask, CreateTask, ListenAt, Manager, GroupBlock, TimeoutBlock, Statement}
use Rattle.model_tree.specs.Syntax.{Assign, Yield, YieldFrom, Print, Raise, Return, Pass, If, While, Try, With, Statements, no_statements, statement_then}
use Rattle.model_tree.specs.Syntax.{Branch, no_branch, branch, Handlers, no_handlers, handler_then, Program}
use Rattle.model_says.specs.Requests.{place_of}
use Rattle.algorithm_flat.specs.declared.op.Op.TheVariants as op
use Rattle.algorithm_flat.specs.Ops.{Op, Clause, Range, CoroutineCode, Has, Covers}

-- the operation of a `yield from`
abbrev pub target_op : Program → Option Name → Target → Op
target_op program into (Await name) = op.Await into name
target_op program into (Call coroutine arguments) = op.Call into (place_of program coroutine) (exprs_of arguments)
target_op program into (Ask request arguments) = op.Ask into request (exprs_of arguments)
target_op program into (SpawnTask coroutine arguments) = op.Spawn into (place_of program coroutine) (exprs_of arguments)
target_op program into (CreateTask group coroutine arguments) =
    op.Create into group (place_of program coroutine) (exprs_of arguments)
target_op program into (ListenAt port handler) = op.Listen into port (place_of program handler)

abbrev pub enter_op : Manager → Name → ℕ → Op
enter_op GroupBlock name number = op.EnterGroup name number
enter_op (TimeoutBlock delay) name number = op.EnterTimeout delay name number

abbrev pub exit_op : Manager → Op
exit_op GroupBlock = op.ExitGroup
exit_op (TimeoutBlock delay) = op.ExitTimeout

module _ (program : Program) (code : CoroutineCode) where
  -- one operation alone
  abbrev pub LaidOne : Op → ℕ → ℕ → Type 0
  LaidOne operation from to = Has code from operation × (to ≡ from + 1)

  abbrev mutual
    pub Laid : Statement → ℕ → ℕ → Type 0
    Laid (Assign name value) from to = LaidOne (op.Assign name value) from to
    Laid Yield from to = LaidOne op.Pause from to
    Laid (YieldFrom into target) from to = LaidOne (target_op program into target) from to
    Laid (Print items) from to = LaidOne (op.Print (exprs_of items)) from to
    Laid (Raise fault) from to = LaidOne (op.Raise fault) from to
    Laid (Return value) from to = LaidOne (op.Return value) from to
    Laid Pass from to = LaidOne op.Pass from to
    -- the test, the body, a jump past the `else`, the `else`
    Laid (If test body otherwise) from to =
        (jump : ℕ) × Has code from (op.Test test (jump + 1)) × LaidAll body (from + 1) jump
        × Has code jump (op.Jump to) × LaidBranch otherwise (jump + 1) to
    -- a jump to the test, the body, the test
    Laid (While test body) from to =
        (last : ℕ) × Has code from (op.Jump last) × LaidAll body (from + 1) last
        × Has code last (op.Repeat test (from + 1)) × (to ≡ last + 1)
    -- the body, and somewhere the clauses; after the `finally` stands what is next
    Laid (Try body handlers finally) from to =
        (number : ℕ) × (last : ℕ) × (range : Range) × Has code from (op.Guard number) × LaidAll body (from + 1) last
        × Has code last op.Leave
        × (Covers code number range × LaidHandlers range.clauses handlers
        × ((end : ℕ) × LaidBranch finally range.finally end × Has code end op.Resume × (to ≡ end + 1)))
    Laid (With manager name body) from to =
        (number : ℕ) × (last : ℕ) × (range : Range) × Has code from (enter_op manager name number) × LaidAll body (from + 1) last
        × Has code last op.Leave
        × (Covers code number range × Has code range.finally (exit_op manager)
        × Has code (range.finally + 1) op.Resume × (to ≡ range.finally + 1 + 1))

    pub LaidAll : Statements → ℕ → ℕ → Type 0
    LaidAll no_statements from to = to ≡ from
    LaidAll (statement_then first others) from to = (next : ℕ) × Laid first from next × LaidAll others next to

    pub LaidBranch : Branch → ℕ → ℕ → Type 0
    LaidBranch no_branch from to = to ≡ from
    LaidBranch (branch body) from to = LaidAll body from to

    -- the clauses in order, each with its body somewhere
    pub LaidHandlers : List Clause → Handlers → Type 0
    LaidHandlers clauses no_handlers = clauses ≡ []
    LaidHandlers clauses (handler_then kind name body others) =
        (at : ℕ) × (last : ℕ) × (more : List Clause) × (clauses ≡ record { kind = kind; name = name; at = at } ∷ more)
        × LaidAll body at last × Has code last op.Leave × LaidHandlers more others

  abbrev pub LaidFinally : Range → Branch → ℕ → Type 0
  LaidFinally range finally to =
      (end : ℕ) × LaidBranch finally range.finally end × Has code end op.Resume × (to ≡ end + 1)

  -- what stands after the body of a `try`
  abbrev pub LaidTry : ℕ → Range → Handlers → Branch → ℕ → Type 0
  LaidTry number range handlers finally to =
      Covers code number range × LaidHandlers range.clauses handlers × LaidFinally range finally to

  -- what stands after the body of a `with`
  abbrev pub LaidExit : ℕ → Range → Manager → ℕ → Type 0
  LaidExit number range manager to =
      Covers code number range × Has code range.finally (exit_op manager)
      × Has code (range.finally + 1) op.Resume × (to ≡ range.finally + 1 + 1)
