-- Each move comes nearer to the end.
use Rattle.std.proofs.Common.{◌≡◌, ℕ, zero, suc, ◌+◌, ◌<◌, ◌≤◌, List, [], ◌∷◌, Option, Some, None, Result, Ok, Err, length, slice_get, refl, ap, subst, arith}
use Rattle.std.proofs.Common.{true, false}
use Rattle.std.specs.Prelude.{⊤}
use Rattle.std.proofs.lemmas.Option.{slice_get_within}
use Rattle.std.proofs.Math.Nat.{mul-le-mul_right}
use Rattle.model_value.specs.declared.request.Request.TheVariants as request
use Rattle.model_value.specs.Value.{Value, Truth, Nothing, Exception, Exc}
use Rattle.model_tree.specs.Syntax.{Name, exprs}
use Rattle.model_says.specs.Requests.{requested}
use Rattle.model_says.specs.Expressions.{value_of, values_of}
use Rattle.algorithm_flat.specs.declared.way.Way.TheVariants.{Passing, Returning, Raising}
use Rattle.algorithm_flat.specs.declared.op.Op.TheVariants as op
use Rattle.algorithm_flat.specs.declared.open_handler.OpenHandler.TheVariants.{InTry, InClause, InFinally, InWith, AtExit}
use Rattle.algorithm_flat.specs.Ops.{Op, Clause, Range, CoroutineCode}
use Rattle.algorithm_flat.specs.Rests.{Way}
use Rattle.algorithm_flat.specs.Moves.{OpenHandler, Frame, Frames, Move, Goes, Asks, Says, at_place, with_handlers, with_variable, in_caller, return_to}
use Rattle.algorithm_flat.specs.Moves.{raise_in}
use Rattle.algorithm_flat.specs.Moves.{out_of_frame, clause_for, clauses_in, into_finally, into_clause, to_exit, way_out, counted, with_given, by_test}
use Rattle.algorithm_flat.specs.Moves.{raise_value}
use Rattle.algorithm_flat.specs.Moves.{after_finally, ask_exit, call, after_statement, after_op, move_of}
use Rattle.algorithm_flat.specs.Nearer.{JumpsForward, handlers_weight, callers_weight, frames_weight, distance}

-- where it goes on, the frames weigh less than these
abbrev pub Lighter : Frames → Move → Type 0
Lighter before (Goes way frames) = frames_weight frames < frames_weight before
Lighter before _ = ⊤

-- where it goes on, it is nearer to the end
abbrev pub Nearer : ℕ → Frames → Move → Type 0
Nearer size before (Goes way frames) = distance size frames < distance size before
Nearer size before _ = ⊤

lighter-nearer : (size : ℕ) (before : Frames) (move : Move) → Lighter before move → Nearer size before move
lighter-nearer size before (Goes way frames) h =
    let product = mul-le-mul_right (size + 1) h in
    omega (arith, product)
lighter-nearer size before (Asks request use_of frames) h = tt
lighter-nearer size before (Says saying) h = tt

-- ---- ways out
variable-weight : (into : Option Name) (value : Value) (frames : Frames) →
    frames_weight (with_variable into value frames) ≡ frames_weight frames
variable-weight None value frames = refl
variable-weight (Some name) value frames = refl

return_to-lighter : (callers : List Frame) (value : Value) (frames : Frames) → frames.callers ≡ callers →
    Lighter frames (return_to callers value frames)
return_to-lighter [] value frames h = tt
return_to-lighter (caller ∷ callers) value frames h =
    omega (arith, ap callers_weight h, variable-weight frames.frame.into value (in_caller caller callers frames))

raise_in-lighter : (callers : List Frame) (fault : Exc) (frames : Frames) → frames.callers ≡ callers →
    Lighter frames (raise_in callers fault frames)
raise_in-lighter [] fault frames h = tt
raise_in-lighter (caller ∷ callers) fault frames h = omega (arith, ap callers_weight h)

out_of_frame-lighter : (way : Way) (frames : Frames) → Lighter frames (out_of_frame way frames)
out_of_frame-lighter Passing frames = return_to-lighter frames.callers Nothing frames refl
out_of_frame-lighter (Returning value) frames = return_to-lighter frames.callers value frames refl
out_of_frame-lighter (Raising fault) frames = raise_in-lighter frames.callers fault frames refl

into_finally-lighter : (way : Way) (outer : List OpenHandler) (range : Option Range) (frames : Frames) →
    1 + handlers_weight outer < handlers_weight frames.frame.handlers → Lighter frames (into_finally way outer range frames)
into_finally-lighter way outer None frames h = tt
into_finally-lighter way outer (Some range) frames h = omega (arith, h)

to_exit-lighter : (way : Way) (entered : Value) (outer : List OpenHandler) (range : Option Range) (frames : Frames) →
    2 + handlers_weight outer < handlers_weight frames.frame.handlers → Lighter frames (to_exit way entered outer range frames)
to_exit-lighter way entered outer None frames h = tt
to_exit-lighter way entered outer (Some range) frames h = omega (arith, h)

into_clause-lighter : (fault : Exc) (number : ℕ) (outer : List OpenHandler) (clause : Option Clause) (frames : Frames) →
    2 + handlers_weight outer < handlers_weight frames.frame.handlers →
    Lighter frames (into_clause fault number outer clause frames)
into_clause-lighter fault number outer None frames h = omega (arith, h)
into_clause-lighter fault number outer (Some clause) frames h =
    omega (
      arith,
      h,
      variable-weight clause.name (Exception fault) (at_place clause.at (with_handlers (InClause number ∷ outer) frames)),
    )

way_out-lighter : (code : CoroutineCode) (way : Way) (frames : Frames) (handlers : List OpenHandler) → frames.frame.handlers ≡ handlers →
    Lighter frames (way_out code way handlers frames)
way_out-lighter code way frames [] h = out_of_frame-lighter way frames
way_out-lighter code (Raising fault) frames (InTry number ∷ outer) h =
    into_clause-lighter fault number outer (clause_for fault (clauses_in (slice_get code.ranges number))) frames
    (omega (arith, ap handlers_weight h))
way_out-lighter code Passing frames (InTry number ∷ outer) h =
    into_finally-lighter Passing outer (slice_get code.ranges number) frames (omega (arith, ap handlers_weight h))
way_out-lighter code (Returning value) frames (InTry number ∷ outer) h =
    into_finally-lighter (Returning value) outer (slice_get code.ranges number) frames (omega (arith, ap handlers_weight h))
way_out-lighter code way frames (InClause number ∷ outer) h =
    into_finally-lighter way outer (slice_get code.ranges number) frames (omega (arith, ap handlers_weight h))
way_out-lighter code way frames (InFinally other ∷ outer) h = omega (arith, ap handlers_weight h)
way_out-lighter code way frames (InWith number entered ∷ outer) h =
    to_exit-lighter way entered outer (slice_get code.ranges number) frames (omega (arith, ap handlers_weight h))
way_out-lighter code way frames (AtExit entered other ∷ outer) h = omega (arith, ap handlers_weight h)

-- ---- operations
given-lighter : {A : Type 0} (result : Result A Exc) (go : A → Frames → Move) (before frames : Frames) →
    frames_weight frames < frames_weight before → ((a : A) → Lighter before (go a frames)) →
    Lighter before (with_given result go frames)
given-lighter (Ok a) go before frames h each = each a
given-lighter (Err fault) go before frames h each = h

by_test-lighter : (on off : ℕ) (before frames : Frames) → frames_weight frames < frames_weight before → (value : Value) →
    Lighter before (by_test on off value frames)
by_test-lighter on off before frames h (Truth true) = h
by_test-lighter on off before frames h (Truth false) = h
by_test-lighter on off before frames h _ = h

raise_value-lighter : (before frames : Frames) → frames_weight frames < frames_weight before → (value : Value) →
    Lighter before (raise_value value frames)
raise_value-lighter before frames h (Exception fault) = h
raise_value-lighter before frames h _ = h

after_finally-lighter : (frames : Frames) (handlers : List OpenHandler) → frames.frame.handlers ≡ handlers →
    Lighter frames (after_finally handlers frames)
after_finally-lighter frames (InFinally way ∷ outer) h = omega (arith, ap handlers_weight h)
after_finally-lighter frames _ h = tt

ask_exit-lighter : (exit : _) (handlers : List OpenHandler) (before frames : Frames) →
    Lighter before (ask_exit exit handlers frames)
ask_exit-lighter exit (AtExit entered way ∷ outer) before frames = tt
ask_exit-lighter exit _ before frames = tt

module _ (codes : ℕ → CoroutineCode) (before : Frames) (left : ℕ) (fewer : before.left ≡ suc left) where
  abbrev begun : Frames
  begun = record before { left = left }

  counted-less : frames_weight begun < frames_weight before
  counted-less = omega (arith, fewer)

  call-lighter : (room : ℕ) (into : Option Name) (coroutine : ℕ) (arguments : List Value) →
      Lighter before (call codes room into coroutine arguments begun)
  call-lighter zero into coroutine arguments = omega (arith, fewer)
  call-lighter (suc room) into coroutine arguments = omega (arith, fewer)

  statement-lighter : (operation : Op) → Lighter before (after_statement codes operation begun)
  statement-lighter (op.Assign name value) =
      given-lighter (value_of value before.frame.env) _ before begun counted-less
      (λ v. omega (arith, fewer))
  statement-lighter (op.Print items) =
      given-lighter (values_of (exprs items) before.frame.env) _ before begun counted-less (λ vs. tt)
  statement-lighter (op.Raise fault) =
      given-lighter (value_of fault before.frame.env) _ before begun counted-less
      (raise_value-lighter before begun counted-less)
  statement-lighter (op.Return None) = counted-less
  statement-lighter (op.Return (Some value)) =
      given-lighter (value_of value before.frame.env) _ before begun counted-less (λ v. counted-less)
  statement-lighter op.Pass = counted-less
  statement-lighter op.Pause = tt
  statement-lighter (op.Await into name) = tt
  statement-lighter (op.Ask into name arguments) =
      given-lighter (values_of (exprs arguments) before.frame.env) _ before begun counted-less
      (λ vs. given-lighter (requested name vs) _ before begun counted-less (λ request. tt))
  statement-lighter (op.Spawn into coroutine arguments) =
      given-lighter (values_of (exprs arguments) before.frame.env) _ before begun counted-less (λ vs. tt)
  statement-lighter (op.Create into group coroutine arguments) =
      given-lighter (value_of group before.frame.env) _ before begun counted-less
      (λ g. given-lighter (values_of (exprs arguments) before.frame.env) _ before begun counted-less (λ vs. tt))
  statement-lighter (op.Listen into port coroutine) =
      given-lighter (value_of port before.frame.env) _ before begun counted-less (λ p. tt)
  statement-lighter (op.Call into coroutine arguments) =
      given-lighter (values_of (exprs arguments) before.frame.env) _ before begun counted-less
      (λ vs. call-lighter before.room into coroutine vs)
  statement-lighter (op.Test test otherwise) =
      given-lighter (value_of test before.frame.env) _ before begun counted-less
      (by_test-lighter _ _ before begun counted-less)
  statement-lighter (op.Repeat test body) =
      given-lighter (value_of test before.frame.env) _ before begun counted-less
      (by_test-lighter _ _ before begun counted-less)
  statement-lighter (op.Guard number) = omega (arith, fewer)
  statement-lighter (op.EnterGroup name number) = tt
  statement-lighter (op.EnterTimeout delay name number) =
      given-lighter (value_of delay before.frame.env) _ before begun counted-less (λ d. tt)
  statement-lighter _ = tt

module _ (codes : ℕ → CoroutineCode) (code : CoroutineCode) (forward : JumpsForward code) (size : ℕ) (within : length code.ops ≤ size) where
  counted-lighter : (operation : Op) (frames : Frames) (left : ℕ) → frames.left ≡ left →
      Lighter frames (counted left (after_statement codes operation) frames)
  counted-lighter operation frames zero h = tt
  counted-lighter operation frames (suc left) h = statement-lighter codes frames left h operation

  after_op-nearer : (operation : Option Op) (frames : Frames) → slice_get code.ops frames.frame.place ≡ operation →
      Nearer size frames (after_op codes code operation frames)
  after_op-nearer None frames is =
      lighter-nearer size frames _ (way_out-lighter code Passing frames frames.frame.handlers refl)
  after_op-nearer (Some (op.Jump to)) frames is =
      omega (arith, forward frames.frame.place to is, slice_get_within code.ops frames.frame.place (op.Jump to) is, within)
  after_op-nearer (Some op.Leave) frames is =
      lighter-nearer size frames _ (way_out-lighter code Passing frames frames.frame.handlers refl)
  after_op-nearer (Some op.Resume) frames is =
      lighter-nearer size frames _ (after_finally-lighter frames frames.frame.handlers refl)
  after_op-nearer (Some op.ExitGroup) frames is =
      lighter-nearer size frames _ (ask_exit-lighter request.GroupExit frames.frame.handlers frames frames)
  after_op-nearer (Some op.ExitTimeout) frames is =
      lighter-nearer size frames _ (ask_exit-lighter request.TimeoutExit frames.frame.handlers frames frames)
  after_op-nearer (Some operation) frames is =
      lighter-nearer size frames _ (counted-lighter operation frames frames.left refl)

  move-nearer : (way : Way) (frames : Frames) → Nearer size frames (move_of codes code way frames)
  move-nearer Passing frames = after_op-nearer (slice_get code.ops frames.frame.place) frames refl
  move-nearer (Returning value) frames =
      lighter-nearer size frames _ (way_out-lighter code (Returning value) frames frames.frame.handlers refl)
  move-nearer (Raising fault) frames =
      lighter-nearer size frames _ (way_out-lighter code (Raising fault) frames frames.frame.handlers refl)

  pub goes-nearer : (way next : Way) (frames after : Frames) → move_of codes code way frames ≡ Goes next after →
      distance size after < distance size frames
  goes-nearer way next frames after h = subst (Nearer size frames) h (move-nearer way frames)
