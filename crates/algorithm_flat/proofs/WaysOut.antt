-- A way out through the innermost open handler, or out of the frame, keeps what is meant.
use Rattle.std.proofs.Common.{◌≡◌, ℕ, suc, ◌+◌, Bool, true, false, List, [], ◌∷◌, Option, Some, None, refl, sym, ap, subst}
use Rattle.std.specs.Prelude.{slice_get, if◌then◌else◌}
use Rattle.model_value.specs.Kinds.{matches}
use Rattle.model_value.specs.Value.{Value, Nothing, Exception, Exc, kind_of}
use Rattle.model_tree.specs.Syntax.{Name, Manager, Statements, Branch, no_branch, branch, Handlers, no_handlers, handler_then, Program}
use Rattle.model_says.specs.Tape.{Tape}
use Rattle.model_says.specs.Endings.{Exchange, Ending, Passes, Returned, Raised, Next, assign_to}
use Rattle.model_says.specs.Says.{Calls, run_all, run_handlers, call_within}
use Rattle.algorithm_flat.specs.declared.way.Way.TheVariants.{Passing, Returning, Raising}
use Rattle.algorithm_flat.specs.declared.op.Op.TheVariants as op
use Rattle.algorithm_flat.specs.declared.open_handler.OpenHandler.TheVariants.{InClause}
use Rattle.algorithm_flat.specs.Ops.{Clause, Range, CoroutineCode, Has, Covers}
use Rattle.algorithm_flat.specs.Laid.{LaidAll, LaidBranch, LaidHandlers, LaidFinally, LaidExit}
use Rattle.algorithm_flat.specs.Rests.{Way, ending_by, body_of, Rest, at_end, then_all, then_loop, then_jump, in_try, in_clause, in_finally, in_with, at_exit}
use Rattle.algorithm_flat.specs.Rests.{ending_of_callers, ending_of_all}
use Rattle.algorithm_flat.specs.Moves.{OpenHandler, Frame, Frames, Move, Goes, at_place, with_handlers, with_variable, in_caller, return_to, raise_in}
use Rattle.algorithm_flat.specs.Moves.{out_of_frame}
use Rattle.algorithm_flat.specs.Moves.{clause_for, clauses_in, into_finally, into_clause, to_exit, way_out}
use Rattle.algorithm_flat.specs.Stands.{PlaceStands, StandAll, callers_of, progress_at, meaning, MoveKeeps}
use Rattle.algorithm_flat.proofs.Endings.{finished-by, exited-by}

module _ (limit : ℕ) (program : Program) (codes : ℕ → CoroutineCode) where
  abbrev pub code_of : Frames → CoroutineCode
  code_of frames = codes frames.frame.coroutine

  abbrev pub calls_of : Frames → Calls
  calls_of frames = call_within limit program frames.room

  abbrev pub StandsIn : Frames → ℕ → List OpenHandler → Rest → Type 0
  StandsIn frames place handlers rest = PlaceStands program (code_of frames) place handlers rest

  abbrev pub AllStand : Frames → List Rest → Type 0
  AllStand frames rests = StandAll program codes frames.callers rests

  abbrev pub Meant : Type 0
  Meant = Tape → List Exchange → Ending

  abbrev pub KeepsIt : Meant → Move → Type 0
  KeepsIt before move = MoveKeeps limit program codes before move

  -- what is meant of an ending of one way, and of what comes next
  abbrev pub meant_by : Way → Frames → Rest → List Rest → Meant
  meant_by way frames rest rests tape exchanges =
      meaning limit program frames rest rests (ending_by way (progress_at frames tape exchanges))

  abbrev pub meant_next : Next → Frames → Rest → List Rest → Meant
  meant_next next frames rest rests tape exchanges =
      meaning limit program frames rest rests (next (progress_at frames tape exchanges))

  pub branch-laid : (code : CoroutineCode) (finally : Branch) (from to : ℕ) →
      LaidBranch program code finally from to → LaidAll program code (body_of finally) from to
  branch-laid code no_branch from to h = h
  branch-laid code (branch body) from to h = h

  -- ---- into the `finally` of a range, and to the exit of a `with`
  module _ (way : Way) (frames : Frames) (outer : List OpenHandler) (to : ℕ) (rest : Rest) (rests : List Rest)
      (stands : StandsIn frames to outer rest) (callers : AllStand frames rests) where
    finally-keeps : (range : Range) (finally : Branch) → LaidFinally program (code_of frames) range finally to →
        KeepsIt (meant_by way frames (in_clause finally rest) rests) (into_finally way outer (Some range) frames)
    finally-keeps range finally laid = (
      then_all (body_of finally) (in_finally way rest),
      rests,
      record {
        here = (
          laid.0,
          branch-laid (code_of frames) finally range.finally laid.0 laid.1,
          (outer, refl, laid.2, subst (λ n. StandsIn frames n outer rest) laid.3 stands),
        );
        callers = callers;
      },
      λ tape exchanges.
          ap (meaning limit program frames rest rests)
          (finished-by limit program (calls_of frames) finally way (progress_at frames tape exchanges)),
    )

    pub into_finally-keeps : (number : ℕ) (range : Range) (finally : Branch) → Covers (code_of frames) number range →
        LaidFinally program (code_of frames) range finally to →
        KeepsIt (meant_by way frames (in_clause finally rest) rests)
        (into_finally way outer (slice_get (code_of frames).ranges number) frames)
    into_finally-keeps number range finally covers laid =
        subst
        (λ found. KeepsIt (meant_by way frames (in_clause finally rest) rests) (into_finally way outer found frames))
        (sym covers) (finally-keeps range finally laid)

    pub to_exit-keeps : (manager : Manager) (entered : Value) (number : ℕ) (range : Range) →
        LaidExit program (code_of frames) number range manager to →
        KeepsIt (meant_by way frames (in_with manager entered rest) rests)
        (to_exit way entered outer (slice_get (code_of frames).ranges number) frames)
    to_exit-keeps manager entered number range laid =
        subst
        (λ found. KeepsIt (meant_by way frames (in_with manager entered rest) rests) (to_exit way entered outer found frames))
        (sym laid.0) (
          at_exit manager entered way rest,
          rests,
          record {
            here = (outer, refl, laid.1, laid.2, subst (λ n. StandsIn frames n outer rest) laid.3 stands);
            callers = callers;
          },
          λ tape exchanges.
              ap (meaning limit program frames rest rests)
              (exited-by limit program manager entered way (progress_at frames tape exchanges)),
        )

  -- ---- into a clause
  -- where its body begins
  clause-keeps : (name : Option Name) (fault : Exc) (frames : Frames) (body : Statements) (place : ℕ)
      (handlers : List OpenHandler) (rest : Rest) (rests : List Rest) →
      StandsIn frames place handlers (then_all body rest) → AllStand frames rests →
      KeepsIt
      (meant_next (λ now. run_all limit program (calls_of frames) body (assign_to name (Exception fault) now)) frames rest rests)
      (Goes Passing (with_variable name (Exception fault) (at_place place (with_handlers handlers frames))))
  clause-keeps None fault frames body place handlers rest rests stands callers =
      (then_all body rest, rests, record { here = stands; callers = callers }, λ tape exchanges. refl)
  clause-keeps (Some name) fault frames body place handlers rest rests stands callers =
      (then_all body rest, rests, record { here = stands; callers = callers }, λ tape exchanges. refl)

  module _ (fault : Exc) (frames : Frames) (number place to : ℕ) (range : Range) (outer : List OpenHandler)
      (finally : Branch) (rest : Rest) (rests : List Rest) (leaves : Has (code_of frames) place op.Leave)
      (covers : Covers (code_of frames) number range) (laid : LaidFinally program (code_of frames) range finally to)
      (stands : StandsIn frames to outer rest) (callers : AllStand frames rests) where
    abbrev handling : Handlers → Meant
    handling handlers =
        meant_next (run_handlers limit program (calls_of frames) handlers fault) frames (in_clause finally rest) rests

    in_clause-stands : (place : ℕ) → Has (code_of frames) place op.Leave →
        StandsIn frames place (InClause number ∷ outer) (in_clause finally rest)
    in_clause-stands place leaves = (number, range, outer, to, refl, leaves, covers, laid, stands)

    pub into_clause-keeps : (handlers : Handlers) (clauses : List Clause) →
        LaidHandlers program (code_of frames) clauses handlers →
        KeepsIt (handling handlers) (into_clause fault number outer (clause_for fault clauses) frames)
    into_clause-keeps no_handlers clauses none =
        subst
        (λ cs. KeepsIt (handling no_handlers) (into_clause fault number outer (clause_for fault cs) frames)) (sym none) (
          in_clause finally rest,
          rests,
          record { here = (place, in_clause-stands place leaves); callers = callers },
          λ tape exchanges. refl,
        )
    into_clause-keeps (handler_then kind name body others) clauses all =
        subst
        (λ cs.
        KeepsIt (handling (handler_then kind name body others)) (into_clause fault number outer (clause_for fault cs) frames))
        (sym all.3) (by_match (matches kind (kind_of fault)) (into_clause-keeps others all.2 all.6))
      where
        by_match : (taken : Bool) → KeepsIt (handling others) (into_clause fault number outer (clause_for fault all.2) frames) →
            KeepsIt
            (meant_next
            (if taken then (λ now. run_all limit program (calls_of frames) body (assign_to name (Exception fault) now))
            else run_handlers limit program (calls_of frames) others fault) frames (in_clause finally rest) rests)
            (into_clause fault number outer
            (if taken then Some (record { kind = kind; name = name; at = all.0 }) else clause_for fault all.2) frames)
        by_match true further =
            clause-keeps name fault frames body all.0 (InClause number ∷ outer) (in_clause finally rest) rests
            (all.1, all.4, in_clause-stands all.1 all.5) callers
        by_match false further = further

  -- ---- out of the frame
  raise_in-keeps : (fault : Exc) (frames : Frames) (callers : List Frame) (rests : List Rest) → StandAll program codes callers rests →
      KeepsIt
      (λ tape exchanges.
      ending_of_callers limit program frames.room (callers_of frames.frame.into callers rests)
      (Raised fault (progress_at frames tape exchanges)))
      (raise_in callers fault frames)
  raise_in-keeps fault frames [] [] all = λ tape exchanges. refl
  raise_in-keeps fault frames (frame ∷ callers) (rest ∷ rests) all =
      (rest, rests, record { here = (frame.place, all.0); callers = all.1 }, λ tape exchanges. refl)
  raise_in-keeps fault frames [] (rest ∷ rests) all = absurd all
  raise_in-keeps fault frames (frame ∷ callers) [] all = absurd all

  -- the caller goes on with a value
  caller-keeps : (into : Option Name) (value : Value) (frames : Frames) (frame : Frame) (callers : List Frame) (rest : Rest)
      (rests : List Rest) → PlaceStands program (codes frame.coroutine) frame.place frame.handlers rest →
      StandAll program codes callers rests →
      KeepsIt
      (λ tape exchanges.
      ending_of_all limit program (suc frames.room) rest (callers_of frame.into callers rests)
      (Passes (assign_to into value (progress_at (in_caller frame callers frames) tape exchanges))))
      (Goes Passing (with_variable into value (in_caller frame callers frames)))
  caller-keeps None value frames frame callers rest rests stands all =
      (rest, rests, record { here = stands; callers = all }, λ tape exchanges. refl)
  caller-keeps (Some name) value frames frame callers rest rests stands all =
      (rest, rests, record { here = stands; callers = all }, λ tape exchanges. refl)

  return_to-keeps : (value : Value) (ended : Next) (frames : Frames) (into : Option Name) (callers : List Frame)
      (rests : List Rest) → frames.frame.into ≡ into → StandAll program codes callers rests →
      ((frame : Frame) (callers : List Frame) (rest : Rest) (rests : List Rest) →
      PlaceStands program (codes frame.coroutine) frame.place frame.handlers rest → StandAll program codes callers rests →
      KeepsIt
      (λ tape exchanges.
      ending_of_callers limit program frames.room (callers_of into (frame ∷ callers) (rest ∷ rests))
      (ended (progress_at frames tape exchanges)))
      (Goes Passing (with_variable into value (in_caller frame callers frames)))) →
      KeepsIt
      (λ tape exchanges.
      ending_of_callers limit program frames.room [] (ended (progress_at frames tape exchanges)))
      (return_to [] value frames) →
      KeepsIt
      (λ tape exchanges.
      ending_of_callers limit program frames.room (callers_of into callers rests) (ended (progress_at frames tape exchanges)))
      (return_to callers value frames)
  return_to-keeps value ended frames into [] [] is all goes says = says
  return_to-keeps value ended frames into (frame ∷ callers) (rest ∷ rests) is all goes says =
      subst
      (λ i.
      KeepsIt
      (λ tape exchanges.
      ending_of_callers limit program frames.room (callers_of into (frame ∷ callers) (rest ∷ rests))
      (ended (progress_at frames tape exchanges)))
      (Goes Passing (with_variable i value (in_caller frame callers frames)))) (sym is)
      (goes frame callers rest rests all.0 all.1)
  return_to-keeps value ended frames into [] (rest ∷ rests) is all goes says = absurd all
  return_to-keeps value ended frames into (frame ∷ callers) [] is all goes says = absurd all

  out_of_frame-keeps : (way : Way) (frames : Frames) (rests : List Rest) → AllStand frames rests →
      KeepsIt (meant_by way frames at_end rests) (out_of_frame way frames)
  out_of_frame-keeps Passing frames rests all =
      return_to-keeps Nothing Passes frames frames.frame.into frames.callers rests refl all
      (λ frame callers rest rests. caller-keeps frames.frame.into Nothing frames frame callers rest rests)
      (λ tape exchanges. refl)
  out_of_frame-keeps (Returning value) frames rests all =
      return_to-keeps value (Returned value) frames frames.frame.into frames.callers rests refl all
      (λ frame callers rest rests. caller-keeps frames.frame.into value frames frame callers rest rests)
      (λ tape exchanges. refl)
  out_of_frame-keeps (Raising fault) frames rests all = raise_in-keeps fault frames frames.callers rests all

  -- ---- through what is left
  abbrev out_by : Way → Frames → List OpenHandler → Move
  out_by way frames handlers = way_out (code_of frames) way handlers frames

  pub raising-keeps : (fault : Exc) (frames : Frames) (rest : Rest) (rests : List Rest) (place : ℕ)
      (handlers : List OpenHandler) → StandsIn frames place handlers rest → AllStand frames rests →
      KeepsIt (meant_by (Raising fault) frames rest rests) (out_by (Raising fault) frames handlers)
  raising-keeps fault frames at_end rests place handlers stands callers =
      subst (λ hs. KeepsIt (meant_by (Raising fault) frames at_end rests) (out_by (Raising fault) frames hs)) (sym stands.1)
      (out_of_frame-keeps (Raising fault) frames rests callers)
  raising-keeps fault frames (then_all others rest) rests place handlers stands callers =
      raising-keeps fault frames rest rests stands.0 handlers stands.2 callers
  raising-keeps fault frames (then_loop test body rest) rests place handlers stands callers =
      raising-keeps fault frames rest rests (place + 1) handlers stands.3 callers
  raising-keeps fault frames (then_jump rest) rests place handlers stands callers =
      raising-keeps fault frames rest rests stands.0 handlers stands.2 callers
  raising-keeps fault frames (in_try clauses finally rest) rests place handlers stands callers =
      let (number, range, outer, to, are, leaves, laid, further) = stands in
      let before = meant_by (Raising fault) frames (in_try clauses finally rest) rests in
      subst (λ (hs : List OpenHandler). KeepsIt before (out_by (Raising fault) frames hs)) (sym are)
      (subst
      (λ (found : Option Range). KeepsIt before (into_clause fault number outer (clause_for fault (clauses_in found)) frames))
      (sym laid.0)
      (into_clause-keeps fault frames number place to range outer finally rest rests leaves laid.0 laid.2 further callers
      clauses range.clauses laid.1))
  raising-keeps fault frames (in_clause finally rest) rests place handlers stands callers =
      let (number, range, outer, to, are, leaves, covers, laid, further) = stands in
      let before = meant_by (Raising fault) frames (in_clause finally rest) rests in
      subst (λ (hs : List OpenHandler). KeepsIt before (out_by (Raising fault) frames hs)) (sym are)
      (into_finally-keeps (Raising fault) frames outer to rest rests further callers number range finally covers laid)
  raising-keeps fault frames (in_with manager entered rest) rests place handlers stands callers =
      let (number, range, outer, to, are, leaves, laid, further) = stands in
      let before = meant_by (Raising fault) frames (in_with manager entered rest) rests in
      subst (λ (hs : List OpenHandler). KeepsIt before (out_by (Raising fault) frames hs)) (sym are)
      (to_exit-keeps (Raising fault) frames outer to rest rests further callers manager entered number range laid)
  raising-keeps fault frames (at_exit manager entered way rest) rests place handlers stands callers =
      let (outer, are, exits, resumes, further) = stands in
      let before = meant_by (Raising fault) frames (at_exit manager entered way rest) rests in
      subst (λ (hs : List OpenHandler). KeepsIt before (out_by (Raising fault) frames hs)) (sym are)
      (rest, rests, record { here = (place + 1 + 1, further); callers = callers }, λ tape exchanges. refl)
  raising-keeps fault frames (in_finally way rest) rests place handlers stands callers =
      let (outer, are, resumes, further) = stands in
      let before = meant_by (Raising fault) frames (in_finally way rest) rests in
      subst (λ (hs : List OpenHandler). KeepsIt before (out_by (Raising fault) frames hs)) (sym are)
      (rest, rests, record { here = (place + 1, further); callers = callers }, λ tape exchanges. refl)

  pub returning-keeps : (value : Value) (frames : Frames) (rest : Rest) (rests : List Rest) (place : ℕ)
      (handlers : List OpenHandler) → StandsIn frames place handlers rest → AllStand frames rests →
      KeepsIt (meant_by (Returning value) frames rest rests) (out_by (Returning value) frames handlers)
  returning-keeps value frames at_end rests place handlers stands callers =
      subst (λ hs. KeepsIt (meant_by (Returning value) frames at_end rests) (out_by (Returning value) frames hs)) (sym stands.1)
      (out_of_frame-keeps (Returning value) frames rests callers)
  returning-keeps value frames (then_all others rest) rests place handlers stands callers =
      returning-keeps value frames rest rests stands.0 handlers stands.2 callers
  returning-keeps value frames (then_loop test body rest) rests place handlers stands callers =
      returning-keeps value frames rest rests (place + 1) handlers stands.3 callers
  returning-keeps value frames (then_jump rest) rests place handlers stands callers =
      returning-keeps value frames rest rests stands.0 handlers stands.2 callers
  returning-keeps value frames (in_try clauses finally rest) rests place handlers stands callers =
      let (number, range, outer, to, are, leaves, laid, further) = stands in
      let before = meant_by (Returning value) frames (in_try clauses finally rest) rests in
      subst (λ (hs : List OpenHandler). KeepsIt before (out_by (Returning value) frames hs)) (sym are)
      (into_finally-keeps (Returning value) frames outer to rest rests further callers number range finally laid.0 laid.2)
  returning-keeps value frames (in_clause finally rest) rests place handlers stands callers =
      let (number, range, outer, to, are, leaves, covers, laid, further) = stands in
      let before = meant_by (Returning value) frames (in_clause finally rest) rests in
      subst (λ (hs : List OpenHandler). KeepsIt before (out_by (Returning value) frames hs)) (sym are)
      (into_finally-keeps (Returning value) frames outer to rest rests further callers number range finally covers laid)
  returning-keeps value frames (in_with manager entered rest) rests place handlers stands callers =
      let (number, range, outer, to, are, leaves, laid, further) = stands in
      let before = meant_by (Returning value) frames (in_with manager entered rest) rests in
      subst (λ (hs : List OpenHandler). KeepsIt before (out_by (Returning value) frames hs)) (sym are)
      (to_exit-keeps (Returning value) frames outer to rest rests further callers manager entered number range laid)
  returning-keeps value frames (at_exit manager entered way rest) rests place handlers stands callers =
      let (outer, are, exits, resumes, further) = stands in
      let before = meant_by (Returning value) frames (at_exit manager entered way rest) rests in
      subst (λ (hs : List OpenHandler). KeepsIt before (out_by (Returning value) frames hs)) (sym are)
      (rest, rests, record { here = (place + 1 + 1, further); callers = callers }, λ tape exchanges. refl)
  returning-keeps value frames (in_finally way rest) rests place handlers stands callers =
      let (outer, are, resumes, further) = stands in
      let before = meant_by (Returning value) frames (in_finally way rest) rests in
      subst (λ (hs : List OpenHandler). KeepsIt before (out_by (Returning value) frames hs)) (sym are)
      (rest, rests, record { here = (place + 1, further); callers = callers }, λ tape exchanges. refl)

  -- at the end of a body
  pub ending-keeps : (frames : Frames) (rests : List Rest) (handlers : List OpenHandler) → handlers ≡ [] → AllStand frames rests →
      KeepsIt (meant_by Passing frames at_end rests) (out_by Passing frames handlers)
  ending-keeps frames rests handlers none callers =
      subst (λ hs. KeepsIt (meant_by Passing frames at_end rests) (out_by Passing frames hs)) (sym none)
      (out_of_frame-keeps Passing frames rests callers)
