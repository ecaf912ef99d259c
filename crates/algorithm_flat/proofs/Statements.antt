-- The first move of each statement keeps what is meant.
use Rattle.std.proofs.Common.{◌≡◌, ℕ, zero, suc, ◌+◌, true, false, List, [], ◌∷◌, Option, Some, None, Result, Ok, Err, refl, sym, ap, subst}
use Rattle.model_value.specs.declared.request.Request.TheVariants as request
use Rattle.model_value.specs.Request.{Request}
use Rattle.model_value.specs.Value.{Value, Truth, Exception, Exc}
use Rattle.model_tree.specs.Syntax.{Name, Expr, Exprs, no_exprs, expr_then, exprs, exprs_of, Target, Await, Call, Ask, SpawnTask, CreateTask, ListenAt, Manager}
use Rattle.model_tree.specs.Syntax.{GroupBlock, TimeoutBlock, Statement, Assign, Yield, YieldFrom, Print, Raise, Return, Pass, If, While, Try, With, Statements}
use Rattle.model_tree.specs.Syntax.{statement_then, Branch, Handlers, Program}
use Rattle.model_says.specs.Variables.{held, bound}
use Rattle.model_says.specs.Requests.{requested, place_of, coroutine_at}
use Rattle.model_says.specs.Expressions.{value_of, values_of}
use Rattle.model_says.specs.Endings.{Runaway, Passes, Next, saying_of, given, all_valued, chosen, begun, begun_with, assign_to, ask}
use Rattle.model_says.specs.Says.{raised, came_back, run_all, run_branch, call_within}
use Rattle.algorithm_flat.specs.declared.way.Way.TheVariants.{Passing}
use Rattle.algorithm_flat.specs.declared.op.Op.TheVariants as op
use Rattle.algorithm_flat.specs.Ops.{Op, CoroutineCode, Has}
use Rattle.algorithm_flat.specs.Laid.{target_op, Laid}
use Rattle.algorithm_flat.specs.Rests.{body_of, Rest, at_end, then_all, then_loop, then_jump, in_try, ignored, assigned_to, entering}
use Rattle.algorithm_flat.specs.Moves.{Frames, Move, Goes, counted, with_given, with_values, ask_into, by_test, raise_value, call, at_next, after_op, move_of}
use Rattle.algorithm_flat.specs.Stands.{LaidOut, AllLaidOut, callers_of, progress_at, meaning}
use Rattle.algorithm_flat.proofs.Endings.{run_branch-body, ending_of_all-stop}
use Rattle.algorithm_flat.proofs.WaysOut.{code_of, calls_of, StandsIn, AllStand, Meant, KeepsIt, meant_by, meant_next, branch-laid}

exprs-again : (items : Exprs) → exprs (exprs_of items) ≡ items
exprs-again no_exprs = refl
exprs-again (expr_then first others) = ap (expr_then first) (exprs-again others)

module _ (limit : ℕ) (program : Program) (codes : ℕ → CoroutineCode) where
  abbrev Code : Frames → CoroutineCode
  Code frames = code_of limit program codes frames

  -- the statements that are next, and what is left after them, stand at a place
  abbrev Next_at : Frames → ℕ → Statements → Rest → Type 0
  Next_at frames place others rest =
      StandsIn limit program codes frames place frames.frame.handlers (then_all others rest)

  -- a move keeps what is meant of what comes next
  abbrev Means : Next → Frames → Rest → List Rest → Move → Type 0
  Means next frames rest rests move =
      KeepsIt limit program codes (meant_next limit program codes next frames rest rests) move

  -- the operation at the place is done
  pub op-keeps : (frames : Frames) (operation : Op) (before : Meant limit program codes) →
      Has (Code frames) frames.frame.place operation →
      KeepsIt limit program codes before (after_op codes (Code frames) (Some operation) frames) →
      KeepsIt limit program codes before (move_of codes (Code frames) Passing frames)
  op-keeps frames operation before has keeps =
      subst (λ o. KeepsIt limit program codes before (after_op codes (Code frames) o frames)) (sym has) keeps

  -- ---- counts, values and answers
  module _ (rest : Rest) (rests : List Rest) where
    pub counted-keeps : (frames : Frames) (go : Frames → Move) (next : Next) →
        ((left : ℕ) → let f = record frames { left = left } in Means next f rest rests (go f)) →
        Means (begun next) frames rest rests (counted frames.left go frames)
    counted-keeps frames go next each = by_left frames.left
      where
        by_left : (left : ℕ) → Means (begun_with left next) frames rest rests (counted left go frames)
        by_left zero = λ tape exchanges.
            ap saying_of
            (ending_of_all-stop limit program frames.room rest (callers_of frames.frame.into frames.callers rests) Runaway
            (progress_at frames tape exchanges))
        by_left (suc left) = each left

    module _ (frames : Frames) (place : ℕ) (stands : StandsIn limit program codes frames place frames.frame.handlers rest)
        (callers : AllStand limit program codes frames rests) where
      pub given-keeps : {A : Type 0} (go : A → Frames → Move) (next : A → Next) →
          ((a : A) → Means (next a) frames rest rests (go a frames)) →
          (result : Result A Exc) → Means (given next result) frames rest rests (with_given result go frames)
      given-keeps go next each (Ok a) = each a
      given-keeps go next each (Err fault) =
          (rest, rests, record { here = (place, stands); callers = callers }, λ tape exchanges. refl)

      pub listed-keeps : (items : Exprs) (go : List Value → Frames → Move) (next : List Value → Next) →
          ((values : List Value) → Means (next values) frames rest rests (go values frames)) →
          Means (all_valued items next) frames rest rests (with_values (exprs_of items) go frames)
      listed-keeps items go next each =
          subst
          (λ es. Means (all_valued items next) frames rest rests (with_given (values_of es frames.frame.env) go frames))
          (sym (exprs-again items)) (given-keeps go next each (values_of items frames.frame.env))

  -- ---- statements
  module _ (frames : Frames) (others : Statements) (rest : Rest) (rests : List Rest)
      (callers : AllStand limit program codes frames rests) where
    abbrev behind : Rest
    behind = then_all others rest

    -- what is meant where a statement is next, and what its first move keeps
    abbrev StatementKeeps : Statement → Type 0
    StatementKeeps statement =
        KeepsIt limit program codes
        (meant_by limit program codes Passing frames (then_all (statement_then statement others) rest) rests)
        (move_of codes (Code frames) Passing frames)

    statement-keeps : (operation : Op) (statement : Statement) → Has (Code frames) frames.frame.place operation →
        KeepsIt limit program codes
        (meant_by limit program codes Passing frames (then_all (statement_then statement others) rest) rests)
        (after_op codes (Code frames) (Some operation) frames) → StatementKeeps statement
    statement-keeps operation statement has keeps =
        op-keeps frames operation
        (meant_by limit program codes Passing frames (then_all (statement_then statement others) rest) rests) has keeps

    -- one that is a single operation, after which the others stand
    module _ (next : Next_at frames (frames.frame.place + 1) others rest) where
      assign-keeps : (name : Name) (value : Expr) → Has (Code frames) frames.frame.place (op.Assign name value) →
          StatementKeeps (Assign name value)
      assign-keeps name value has =
          statement-keeps (op.Assign name value) (Assign name value) has
          (counted-keeps behind rests frames _ _ (λ left.
          let f : Frames = record frames { left = left } in
          given-keeps behind rests f (frames.frame.place + 1) next callers _ _
          (λ v. (behind, rests, record { here = next; callers = callers }, λ tape exchanges. refl))
          (value_of value f.frame.env)))

      pass-keeps : Has (Code frames) frames.frame.place op.Pass → StatementKeeps Pass
      pass-keeps has =
          statement-keeps op.Pass Pass has
          (counted-keeps behind rests frames _ _ (λ left.
          (behind, rests, record { here = next; callers = callers }, λ tape exchanges. refl)))

      pause-keeps : Has (Code frames) frames.frame.place op.Pause → StatementKeeps Yield
      pause-keeps has =
          statement-keeps op.Pause Yield has
          (counted-keeps behind rests frames _ _ (λ left.
          (behind, rests, ignored, record { here = next; callers = callers }, λ tape exchanges. refl)))

      print-keeps : (items : Exprs) → Has (Code frames) frames.frame.place (op.Print (exprs_of items)) →
          StatementKeeps (Print items)
      print-keeps items has =
          statement-keeps (op.Print (exprs_of items)) (Print items) has
          (counted-keeps behind rests frames _ _ (λ left.
          let f : Frames = record frames { left = left } in
          listed-keeps behind rests f (frames.frame.place + 1) next callers items _ _
          (λ vs. (behind, rests, ignored, record { here = next; callers = callers }, λ tape exchanges. refl))))

      raise-keeps : (fault : Expr) → Has (Code frames) frames.frame.place (op.Raise fault) → StatementKeeps (Raise fault)
      raise-keeps fault has =
          statement-keeps (op.Raise fault) (Raise fault) has
          (counted-keeps behind rests frames _ _ (λ left.
          let f : Frames = record frames { left = left } in
          given-keeps behind rests f (frames.frame.place + 1) next callers _ _ (by_value left) (value_of fault f.frame.env)))
        where
          by_value : (left : ℕ) (v : Value) →
              let f = record frames { left = left } in Means (raised v) f behind rests (raise_value v f)
          by_value left (Exception fault) =
              (behind, rests, record { here = (frames.frame.place + 1, next); callers = callers }, λ tape exchanges. refl)
          by_value left _ =
              (behind, rests, record { here = (frames.frame.place + 1, next); callers = callers }, λ tape exchanges. refl)

      return-keeps : (value : Option Expr) → Has (Code frames) frames.frame.place (op.Return value) →
          StatementKeeps (Return value)
      return-keeps None has =
          statement-keeps (op.Return None) (Return None) has
          (counted-keeps behind rests frames _ _ (λ left.
          (behind, rests, record { here = (frames.frame.place + 1, next); callers = callers }, λ tape exchanges. refl)))
      return-keeps (Some value) has =
          statement-keeps (op.Return (Some value)) (Return (Some value)) has
          (counted-keeps behind rests frames _ _ (λ left.
          let f : Frames = record frames { left = left } in
          given-keeps behind rests f (frames.frame.place + 1) next callers _ _
          (λ v. (behind, rests, record { here = (frames.frame.place + 1, next); callers = callers }, λ tape exchanges. refl))
          (value_of value f.frame.env)))

      -- ---- `yield from`
      module _ (into : Option Name) where
        abbrev Assigned : Value → Next
        Assigned value now = Passes (assign_to into value now)

        ask_into-keeps : (left : ℕ) (request : Request) →
            let f = record frames { left = left } in Means (ask limit request Assigned) f behind rests (ask_into into request f)
        ask_into-keeps left request =
            (behind, rests, assigned_to into, record { here = (refl, next); callers = callers }, λ tape exchanges. refl)

        call-keeps : (coroutine : ℕ) → LaidOut program codes coroutine → (room left : ℕ) (values : List Value) →
            let f = record frames { left = left; room = room } in
            Means (λ now. came_back frames.frame.env Assigned (call_within limit program room coroutine values now)) f behind rests
            (call codes room into coroutine values f)
        call-keeps coroutine laid_out zero left values =
            (behind, rests, record { here = (frames.frame.place + 1, next); callers = callers }, λ tape exchanges. refl)
        call-keeps coroutine laid_out (suc room) left values =
            subst
            (λ (variables : List Name).
            let f = record frames { left = left; room = suc room } in
            Means (λ now. came_back frames.frame.env Assigned (call_within limit program (suc room) coroutine values now)) f behind rests
            (Goes Passing (record f {
              frame = record { coroutine = coroutine; place = 0; handlers = []; env = bound variables values; into = into };
              callers = (at_next f).frame ∷ f.callers;
              room = room;
            })))
            (sym laid_out.variables) (
              then_all (coroutine_at program coroutine).body at_end,
              behind ∷ rests,
              record { here = (laid_out.end, laid_out.body, (laid_out.ends, refl)); callers = (next, callers) },
              λ tape exchanges. refl,
            )

        target-keeps : AllLaidOut program codes → (target : Target) →
            Has (Code frames) frames.frame.place (target_op program into target) → StatementKeeps (YieldFrom into target)
        target-keeps laid_out (Await name) has =
            statement-keeps (op.Await into name) (YieldFrom into (Await name)) has
            (counted-keeps behind rests frames _ _ (λ left. ask_into-keeps left (request.Await (held frames.frame.env name))))
        target-keeps laid_out (Call coroutine arguments) has =
            statement-keeps (op.Call into (place_of program coroutine) (exprs_of arguments))
            (YieldFrom into (Call coroutine arguments)) has
            (counted-keeps behind rests frames _ _ (λ left.
            let f : Frames = record frames { left = left } in
            listed-keeps behind rests f (frames.frame.place + 1) next callers arguments _ _
            (λ vs.
            call-keeps (place_of program coroutine) (laid_out (place_of program coroutine)) frames.room left vs)))
        target-keeps laid_out (Ask name arguments) has =
            statement-keeps (op.Ask into name (exprs_of arguments)) (YieldFrom into (Ask name arguments)) has
            (counted-keeps behind rests frames _ _ (λ left.
            let f : Frames = record frames { left = left } in
            listed-keeps behind rests f (frames.frame.place + 1) next callers arguments _ _
            (λ vs.
            given-keeps behind rests f (frames.frame.place + 1) next callers _ _ (ask_into-keeps left) (requested name vs))))
        target-keeps laid_out (SpawnTask coroutine arguments) has =
            statement-keeps (op.Spawn into (place_of program coroutine) (exprs_of arguments))
            (YieldFrom into (SpawnTask coroutine arguments)) has
            (counted-keeps behind rests frames _ _ (λ left.
            let f : Frames = record frames { left = left } in
            listed-keeps behind rests f (frames.frame.place + 1) next callers arguments _ _
            (λ vs. ask_into-keeps left (request.Spawn (place_of program coroutine) vs))))
        target-keeps laid_out (CreateTask group coroutine arguments) has =
            statement-keeps (op.Create into group (place_of program coroutine) (exprs_of arguments))
            (YieldFrom into (CreateTask group coroutine arguments)) has
            (counted-keeps behind rests frames _ _ (λ left.
            let f : Frames = record frames { left = left } in
            given-keeps behind rests f (frames.frame.place + 1) next callers _ _
            (λ g.
            listed-keeps behind rests f (frames.frame.place + 1) next callers arguments _ _
            (λ vs. ask_into-keeps left (request.Create g (place_of program coroutine) vs)))
            (value_of group f.frame.env)))
        target-keeps laid_out (ListenAt port handler) has =
            statement-keeps (op.Listen into port (place_of program handler)) (YieldFrom into (ListenAt port handler)) has
            (counted-keeps behind rests frames _ _ (λ left.
            let f : Frames = record frames { left = left } in
            given-keeps behind rests f (frames.frame.place + 1) next callers _ _
            (λ p. ask_into-keeps left (request.Listen p (place_of program handler))) (value_of port f.frame.env)))

    -- ---- blocks, after which the others stand
    module _ (to : ℕ) (next : Next_at frames to others rest) where
      if-keeps : (test : Expr) (body : Statements) (otherwise : Branch) →
          Laid program (Code frames) (If test body otherwise) frames.frame.place to → StatementKeeps (If test body otherwise)
      if-keeps test body otherwise laid =
          statement-keeps (op.Test test (laid.0 + 1)) (If test body otherwise) laid.1
          (counted-keeps behind rests frames _ _ (λ left.
          let f : Frames = record frames { left = left } in
          given-keeps behind rests f to next callers _ _ (by_truth left) (value_of test f.frame.env)))
        where
          by_truth : (left : ℕ) (v : Value) →
              let f = record frames { left = left } in
              let calls = calls_of limit program codes frames in
              Means (chosen (run_all limit program calls body) (run_branch limit program calls otherwise) v) f behind rests
              (by_test (frames.frame.place + 1) (laid.0 + 1) v f)
          by_truth left (Truth true) = (
            then_all body (then_jump behind),
            rests,
            record { here = (laid.0, laid.2, (to, laid.3, next)); callers = callers },
            λ tape exchanges. refl,
          )
          by_truth left (Truth false) = (
            then_all (body_of otherwise) behind,
            rests,
            record {
              here = (to, branch-laid limit program codes (Code frames) otherwise (laid.0 + 1) to laid.4, next);
              callers = callers;
            },
            λ tape exchanges.
                ap (meaning limit program frames behind rests)
                (run_branch-body limit program (calls_of limit program codes frames) otherwise
                (progress_at (record frames { left = left }) tape exchanges)),
          )
          by_truth left _ = (behind, rests, record { here = (to, next); callers = callers }, λ tape exchanges. refl)

      while-keeps : (test : Expr) (body : Statements) →
          Laid program (Code frames) (While test body) frames.frame.place to → StatementKeeps (While test body)
      while-keeps test body laid =
          statement-keeps (op.Jump laid.0) (While test body) laid.1 (
            then_loop test body behind,
            rests,
            record {
              here = (
                frames.frame.place + 1,
                laid.2,
                laid.3,
                subst (λ n. StandsIn limit program codes frames n frames.frame.handlers behind) laid.4 next,
              );
              callers = callers;
            },
            λ tape exchanges. refl,
          )

      try-keeps : (body : Statements) (clauses : Handlers) (finally : Branch) →
          Laid program (Code frames) (Try body clauses finally) frames.frame.place to → StatementKeeps (Try body clauses finally)
      try-keeps body clauses finally laid =
          statement-keeps (op.Guard laid.0) (Try body clauses finally) laid.3
          (counted-keeps behind rests frames _ _ (λ left. (
            then_all body (in_try clauses finally behind),
            rests,
            record {
              here = (laid.1, laid.4, (laid.0, laid.2, frames.frame.handlers, to, refl, laid.5, laid.6, next));
              callers = callers;
            },
            λ tape exchanges. refl,
          )))

      with-keeps : (manager : Manager) (name : Name) (body : Statements) →
          Laid program (Code frames) (With manager name body) frames.frame.place to → StatementKeeps (With manager name body)
      with-keeps GroupBlock name body laid =
          statement-keeps (op.EnterGroup name laid.0) (With GroupBlock name body) laid.3
          (counted-keeps behind rests frames _ _ (λ left. (
            behind,
            rests,
            entering GroupBlock name body,
            record { here = (laid.1, laid.2, to, refl, laid.4, laid.5, laid.6, next); callers = callers },
            λ tape exchanges. refl,
          )))
      with-keeps (TimeoutBlock delay) name body laid =
          statement-keeps (op.EnterTimeout delay name laid.0) (With (TimeoutBlock delay) name body) laid.3
          (counted-keeps behind rests frames _ _ (λ left.
          let f : Frames = record frames { left = left } in
          given-keeps behind rests f to next callers _ _
          (λ d. (
            behind,
            rests,
            entering (TimeoutBlock delay) name body,
            record { here = (laid.1, laid.2, to, refl, laid.4, laid.5, laid.6, next); callers = callers },
            λ tape exchanges. refl,
          ))
          (value_of delay f.frame.env)))

    -- ---- whatever the statement
    module _ (laid_out : AllLaidOut program codes) where
      abbrev Next_to : ℕ → Type 0
      Next_to to = Next_at frames to others rest

      pub first-keeps : (first : Statement) (to : ℕ) → Laid program (Code frames) first frames.frame.place to →
          Next_to to → StatementKeeps first
      first-keeps (Assign name value) to laid next = assign-keeps (subst Next_to laid.1 next) name value laid.0
      first-keeps Yield to laid next = pause-keeps (subst Next_to laid.1 next) laid.0
      first-keeps (YieldFrom into target) to laid next =
          target-keeps (subst Next_to laid.1 next) into laid_out target laid.0
      first-keeps (Print items) to laid next = print-keeps (subst Next_to laid.1 next) items laid.0
      first-keeps (Raise fault) to laid next = raise-keeps (subst Next_to laid.1 next) fault laid.0
      first-keeps (Return value) to laid next = return-keeps (subst Next_to laid.1 next) value laid.0
      first-keeps Pass to laid next = pass-keeps (subst Next_to laid.1 next) laid.0
      first-keeps (If test body otherwise) to laid next = if-keeps to next test body otherwise laid
      first-keeps (While test body) to laid next = while-keeps to next test body laid
      first-keeps (Try body clauses finally) to laid next = try-keeps to next body clauses finally laid
      first-keeps (With manager name body) to laid next = with-keeps to next manager name body laid
