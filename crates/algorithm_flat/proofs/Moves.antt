-- A move keeps what is meant, whatever the way; so does an answer.
use Rattle.std.proofs.Common.{◌≡◌, ℕ, ◌+◌, true, false, List, ◌∷◌, Option, Some, None, refl, sym, ◌∙◌, ap, subst}
use Rattle.model_value.specs.declared.request.Request.TheVariants as request
use Rattle.model_value.specs.Value.{Value, Truth}
use Rattle.model_tree.specs.Syntax.{Name, Expr, Manager, GroupBlock, TimeoutBlock, Statements, no_statements, statement_then, Program}
use Rattle.model_says.specs.Tape.{Tape}
use Rattle.model_says.specs.Expressions.{value_of}
use Rattle.model_says.specs.Endings.{Exchange, Passes, Next, then_next, saying_of, decided, chosen, begun}
use Rattle.model_says.specs.Says.{exit_of, looped, run_all}
use Rattle.law_says.proofs.Loops.{loop_again}
use Rattle.law_says.proofs.Bodies.{sound_call_within, sound_run_all, spends}
use Rattle.algorithm_flat.specs.declared.way.Way.TheVariants.{Passing, Returning, Raising}
use Rattle.algorithm_flat.specs.declared.op.Op.TheVariants as op
use Rattle.algorithm_flat.specs.declared.open_handler.OpenHandler.TheVariants.{InTry, InClause, InFinally, InWith, AtExit}
use Rattle.algorithm_flat.specs.declared.answer_use.AnswerUse.TheVariants.{Ignored, AssignedTo, Entered}
use Rattle.algorithm_flat.specs.Ops.{CoroutineCode, Has}
use Rattle.algorithm_flat.specs.Laid.{exit_op}
use Rattle.algorithm_flat.specs.Rests.{Way, ending_by, Rest, at_end, then_all, then_loop, then_jump, in_try, in_clause, in_finally, in_with, at_exit, fault_of}
use Rattle.algorithm_flat.specs.Rests.{Wait}
use Rattle.algorithm_flat.specs.Rests.{ignored, assigned_to, entering, after_answer as ending_by_answer}
use Rattle.algorithm_flat.specs.Moves.{OpenHandler, AnswerUse, Frames, Move, Goes, Asks, Says, at_next, with_handlers, with_variable, by_test, after_finally}
use Rattle.algorithm_flat.specs.Moves.{ask_exit, after_answer, way_out, after_op, move_of}
use Rattle.algorithm_flat.specs.Stands.{StandsAt, Stand, AllLaidOut, progress_at, meaning}
use Rattle.algorithm_flat.proofs.Endings.{ask-then}
use Rattle.algorithm_flat.proofs.WaysOut.{code_of, calls_of, StandsIn, AllStand, Meant, KeepsIt, meant_by, meant_next, into_finally-keeps, to_exit-keeps}
use Rattle.algorithm_flat.proofs.WaysOut.{raising-keeps, returning-keeps, ending-keeps}
use Rattle.algorithm_flat.proofs.Statements.{op-keeps, counted-keeps, given-keeps, first-keeps}

module _ (limit : ℕ) (program : Program) (codes : ℕ → CoroutineCode) where
  abbrev Code : Frames → CoroutineCode
  Code frames = code_of limit program codes frames

  abbrev Stands : Frames → ℕ → List OpenHandler → Rest → Type 0
  Stands frames place handlers rest = StandsIn limit program codes frames place handlers rest

  abbrev Callers : Frames → List Rest → Type 0
  Callers frames rests = AllStand limit program codes frames rests

  abbrev Keeping : Meant limit program codes → Move → Type 0
  Keeping before move = KeepsIt limit program codes before move

  abbrev before_way : Way → Frames → Rest → List Rest → Meant limit program codes
  before_way way frames rest rests = meant_by limit program codes way frames rest rests

  -- what keeps one meaning keeps another that is the same
  same-keeps : (before other : Meant limit program codes) (move : Move) →
      ((tape : Tape) (exchanges : List Exchange) → before tape exchanges ≡ other tape exchanges) →
      Keeping other move → Keeping before move
  same-keeps before other (Goes way frames) same keeps =
      (keeps.0, keeps.1, keeps.2, λ tape exchanges. same tape exchanges ∙ keeps.3 tape exchanges)
  same-keeps before other (Asks request use_of frames) same keeps =
      (keeps.0, keeps.1, keeps.2, keeps.3, λ tape exchanges. same tape exchanges ∙ keeps.4 tape exchanges)
  same-keeps before other (Says saying) same keeps =
      λ tape exchanges. ap saying_of (same tape exchanges) ∙ keeps tape exchanges

  -- ---- the test of a loop
  module _ (frames : Frames) (test : Expr) (body : Statements) (rest : Rest) (rests : List Rest)
      (stands : Stands frames frames.frame.place frames.frame.handlers (then_loop test body rest))
      (callers : Callers frames rests) where
    abbrev run_body : Next
    run_body = run_all limit program (calls_of limit program codes frames) body

    abbrev again : Next
    again now = then_next (looped limit test run_body) (run_body now)

    loop-spends : (now : _) → looped limit test run_body now ≡ begun (decided test again Passes) now
    loop-spends =
        loop_again limit test run_body
        (spends limit test run_body
        (sound_run_all limit program (calls_of limit program codes frames) (sound_call_within limit program frames.room) body))

    by_truth : (left : ℕ) (v : Value) →
        let f = record frames { left = left } in
        Keeping (meant_next limit program codes (chosen again Passes v) f rest rests)
        (by_test stands.0 (frames.frame.place + 1) v f)
    by_truth left (Truth true) = (
      then_all body (then_loop test body rest),
      rests,
      record { here = (frames.frame.place, stands.1, stands); callers = callers },
      λ tape exchanges. refl,
    )
    by_truth left (Truth false) = (rest, rests, record { here = stands.3; callers = callers }, λ tape exchanges. refl)
    by_truth left _ =
        (rest, rests, record { here = (frames.frame.place + 1, stands.3); callers = callers }, λ tape exchanges. refl)

    loop-keeps : Keeping (before_way Passing frames (then_loop test body rest) rests) (move_of codes (Code frames) Passing frames)
    loop-keeps =
        op-keeps limit program codes frames (op.Repeat test stands.0) (before_way Passing frames (then_loop test body rest) rests)
        stands.2
        (same-keeps _ (meant_next limit program codes (begun (decided test again Passes)) frames rest rests) _
        (λ tape exchanges. ap (meaning limit program frames rest rests) (loop-spends (progress_at frames tape exchanges)))
        (counted-keeps limit program codes rest rests frames _ _ (λ left.
        let f : Frames = record frames { left = left } in
        given-keeps limit program codes rest rests f (frames.frame.place + 1) stands.3 callers _ _ (by_truth left)
        (value_of test f.frame.env))))

  -- ---- the ends of handlers
  -- at the end of what a handler covers, its way out is taken
  leave-keeps : (frames : Frames) (handlers : List OpenHandler) (before : Meant limit program codes) →
      frames.frame.handlers ≡ handlers → Has (Code frames) frames.frame.place op.Leave →
      Keeping before (way_out (Code frames) Passing handlers frames) → Keeping before (move_of codes (Code frames) Passing frames)
  leave-keeps frames handlers before are leaves keeps =
      op-keeps limit program codes frames op.Leave before leaves
      (subst (λ hs. Keeping before (way_out (Code frames) Passing hs frames)) (sym are) keeps)

  resume-keeps : (frames : Frames) (way : Way) (rest : Rest) (rests : List Rest) (outer : List OpenHandler) →
      Stands frames (frames.frame.place + 1) outer rest → Callers frames rests →
      Keeping (before_way Passing frames (in_finally way rest) rests) (Goes way (at_next (with_handlers outer frames)))
  resume-keeps frames Passing rest rests outer further callers =
      (rest, rests, record { here = further; callers = callers }, λ tape exchanges. refl)
  resume-keeps frames (Returning value) rest rests outer further callers =
      (rest, rests, record { here = (frames.frame.place + 1, further); callers = callers }, λ tape exchanges. refl)
  resume-keeps frames (Raising fault) rest rests outer further callers =
      (rest, rests, record { here = (frames.frame.place + 1, further); callers = callers }, λ tape exchanges. refl)

  -- ---- the exit of a `with`
  module _ (frames : Frames) (entered : Value) (way : Way) (rest : Rest) (rests : List Rest) (outer : List OpenHandler)
      (resumes : Has (Code frames) (frames.frame.place + 1) op.Resume)
      (further : Stands frames (frames.frame.place + 1 + 1) outer rest) (callers : Callers frames rests) where
    abbrev before_exit : Manager → Meant limit program codes
    before_exit manager = before_way Passing frames (at_exit manager entered way rest) rests

    ask_exit-keeps : (manager : Manager) →
        Keeping (before_exit manager)
        (Asks (exit_of manager entered (fault_of way)) Ignored (at_next (with_handlers (InFinally way ∷ outer) frames)))
    ask_exit-keeps manager = (
      in_finally way rest,
      rests,
      ignored,
      record { here = (outer, refl, resumes, further); callers = callers },
      λ tape exchanges.
          ap (meaning limit program frames rest rests)
          (ask-then limit program (exit_of manager entered (fault_of way)) (ending_by way) (progress_at frames tape exchanges)),
    )

    exit-keeps : (manager : Manager) → frames.frame.handlers ≡ AtExit entered way ∷ outer →
        Has (Code frames) frames.frame.place (exit_op manager) →
        Keeping (before_exit manager) (move_of codes (Code frames) Passing frames)
    exit-keeps GroupBlock are has =
        op-keeps limit program codes frames op.ExitGroup (before_exit GroupBlock) has
        (subst (λ hs. Keeping (before_exit GroupBlock) (ask_exit request.GroupExit hs frames)) (sym are) (ask_exit-keeps GroupBlock))
    exit-keeps (TimeoutBlock delay) are has =
        op-keeps limit program codes frames op.ExitTimeout (before_exit (TimeoutBlock delay)) has
        (subst (λ hs. Keeping (before_exit (TimeoutBlock delay)) (ask_exit request.TimeoutExit hs frames)) (sym are)
        (ask_exit-keeps (TimeoutBlock delay)))

  -- ---- a move
  module _ (laid_out : AllLaidOut program codes) where
    passing-keeps : (frames : Frames) (rest : Rest) (rests : List Rest) →
        Stands frames frames.frame.place frames.frame.handlers rest → Callers frames rests →
        Keeping (before_way Passing frames rest rests) (move_of codes (Code frames) Passing frames)
    passing-keeps frames at_end rests stands callers =
        subst (λ o. Keeping (before_way Passing frames at_end rests) (after_op codes (Code frames) o frames)) (sym stands.0)
        (ending-keeps limit program codes frames rests frames.frame.handlers stands.1 callers)
    passing-keeps frames (then_all no_statements rest) rests stands callers =
        passing-keeps frames rest rests (subst (λ n. Stands frames n frames.frame.handlers rest) stands.1 stands.2) callers
    passing-keeps frames (then_all (statement_then first others) rest) rests stands callers =
        first-keeps limit program codes frames others rest rests callers laid_out first stands.1.0 stands.1.1
        (stands.0, stands.1.2, stands.2)
    passing-keeps frames (then_loop test body rest) rests stands callers =
        loop-keeps frames test body rest rests stands callers
    passing-keeps frames (then_jump rest) rests stands callers =
        op-keeps limit program codes frames (op.Jump stands.0) (before_way Passing frames (then_jump rest) rests) stands.1
        (rest, rests, record { here = stands.2; callers = callers }, λ tape exchanges. refl)
    passing-keeps frames (in_try clauses finally rest) rests stands callers =
        let (number, range, outer, to, are, leaves, laid, further) = stands in
        leave-keeps frames (InTry number ∷ outer) (before_way Passing frames (in_try clauses finally rest) rests) are leaves
        (into_finally-keeps limit program codes Passing frames outer to rest rests further callers number range finally laid.0 laid.2)
    passing-keeps frames (in_clause finally rest) rests stands callers =
        let (number, range, outer, to, are, leaves, covers, laid, further) = stands in
        leave-keeps frames (InClause number ∷ outer) (before_way Passing frames (in_clause finally rest) rests) are leaves
        (into_finally-keeps limit program codes Passing frames outer to rest rests further callers number range finally covers laid)
    passing-keeps frames (in_with manager entered rest) rests stands callers =
        let (number, range, outer, to, are, leaves, laid, further) = stands in
        leave-keeps frames (InWith number entered ∷ outer) (before_way Passing frames (in_with manager entered rest) rests) are leaves
        (to_exit-keeps limit program codes Passing frames outer to rest rests further callers manager entered number range laid)
    passing-keeps frames (at_exit manager entered way rest) rests stands callers =
        let (outer, are, exits, resumes, further) = stands in
        exit-keeps frames entered way rest rests outer resumes further callers manager are exits
    passing-keeps frames (in_finally way rest) rests stands callers =
        let (outer, are, resumes, further) = stands in
        op-keeps limit program codes frames op.Resume (before_way Passing frames (in_finally way rest) rests) resumes
        (subst (λ hs. Keeping (before_way Passing frames (in_finally way rest) rests) (after_finally hs frames)) (sym are)
        (resume-keeps frames way rest rests outer further callers))

    -- whatever the way
    pub move-keeps : (way : Way) (frames : Frames) (rest : Rest) (rests : List Rest) → Stand program codes way frames rest rests →
        Keeping (before_way way frames rest rests) (move_of codes (Code frames) way frames)
    move-keeps Passing frames rest rests stand = passing-keeps frames rest rests stand.here stand.callers
    move-keeps (Returning value) frames rest rests stand =
        returning-keeps limit program codes value frames rest rests stand.here.0 frames.frame.handlers stand.here.1 stand.callers
    move-keeps (Raising fault) frames rest rests stand =
        raising-keeps limit program codes fault frames rest rests stand.here.0 frames.frame.handlers stand.here.1 stand.callers

  -- ---- an answer
  -- on the way out the place is no matter
  pub waits-somewhere : (frames : Frames) (use_of : AnswerUse) (wait : Wait) (place : ℕ) (handlers : List OpenHandler)
      (rest : Rest) → StandsAt program (Code frames) use_of wait place handlers rest →
      (somewhere : ℕ) × Stands frames somewhere handlers rest
  waits-somewhere frames Ignored ignored place handlers rest h = (place, h)
  waits-somewhere frames (AssignedTo into) (assigned_to other) place handlers rest h = (place, h.1)
  waits-somewhere frames (Entered name number) (entering manager other body) place handlers rest h = (h.2, h.7)
  waits-somewhere frames _ _ place handlers rest h = absurd h

  module _ (value : Value) (frames : Frames) (rest : Rest) (rests : List Rest) (callers : Callers frames rests) where
    abbrev before_answer : Wait → Meant limit program codes
    before_answer wait =
        meant_next limit program codes (ending_by_answer limit program (calls_of limit program codes frames) wait value) frames rest rests

    assigned-keeps : (into : Option Name) → Stands frames frames.frame.place frames.frame.handlers rest →
        Keeping (before_answer (assigned_to into)) (Goes Passing (with_variable into value frames))
    assigned-keeps None stands = (rest, rests, record { here = stands; callers = callers }, λ tape exchanges. refl)
    assigned-keeps (Some name) stands = (rest, rests, record { here = stands; callers = callers }, λ tape exchanges. refl)

    pub answer-keeps : (use_of : AnswerUse) (wait : Wait) →
        StandsAt program (Code frames) use_of wait frames.frame.place frames.frame.handlers rest →
        Keeping (before_answer wait) (Goes Passing (after_answer use_of value frames))
    answer-keeps Ignored ignored here = (rest, rests, record { here = here; callers = callers }, λ tape exchanges. refl)
    answer-keeps (AssignedTo into) (assigned_to other) here =
        subst (λ (o : Option Name). Keeping (before_answer (assigned_to o)) (Goes Passing (with_variable into value frames))) here.0
        (assigned-keeps into here.1)
    answer-keeps (Entered name number) (entering manager other body) here =
        let (last, range, to, is, laid, leaves, exit, further) = here in
        subst
        (λ (n : Name). Keeping (before_answer (entering manager n body)) (Goes Passing (after_answer (Entered name number) value frames)))
        is (
          then_all body (in_with manager value rest),
          rests,
          record {
            here = (last, laid, (number, range, frames.frame.handlers, to, refl, leaves, exit, further));
            callers = callers;
          },
          λ tape exchanges. refl,
        )
    answer-keeps Ignored (assigned_to other) here = absurd here
    answer-keeps Ignored (entering manager other body) here = absurd here
    answer-keeps (AssignedTo into) ignored here = absurd here
    answer-keeps (AssignedTo into) (entering manager other body) here = absurd here
    answer-keeps (Entered name number) ignored here = absurd here
    answer-keeps (Entered name number) (assigned_to other) here = absurd here
