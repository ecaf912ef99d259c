-- What a place in flat code stands for, with the handlers that are open there: what is left of the body.
use Rattle.std.specs.Prelude.{◌≡◌, ℕ, ◌+◌, List, [], ◌∷◌, Option, None, slice_get}
use Rattle.model_value.specs.Request.{Request}
use Rattle.model_tree.specs.Syntax.{Name, Program}
use Rattle.model_says.specs.Variables.{variables_of}
use Rattle.model_says.specs.Requests.{coroutine_at}
use Rattle.model_says.specs.Tape.{Tape}
use Rattle.model_says.specs.Endings.{Exchange, Progress, Ending, saying_of, ask}
use Rattle.model_says.specs.Says.{call_within}
use Rattle.algorithm_flat.specs.declared.way.Way.TheVariants.{Passing}
use Rattle.algorithm_flat.specs.declared.op.Op.TheVariants as op
use Rattle.algorithm_flat.specs.declared.open_handler.OpenHandler.TheVariants.{InTry, InClause, InFinally, InWith, AtExit}
use Rattle.algorithm_flat.specs.declared.answer_use.AnswerUse.TheVariants.{Ignored, AssignedTo, Entered}
use Rattle.algorithm_flat.specs.Ops.{Range, CoroutineCode, Has, Covers}
use Rattle.algorithm_flat.specs.Laid.{exit_op, LaidAll, LaidTry, LaidFinally, LaidExit}
use Rattle.algorithm_flat.specs.Rests.{Way, ending_by, Rest, at_end, then_all, then_loop, then_jump, in_try, in_clause, in_finally, in_with, at_exit, Wait}
use Rattle.algorithm_flat.specs.Rests.{ignored}
use Rattle.algorithm_flat.specs.Rests.{assigned_to, entering, after_answer, Caller, ending_of_all}
use Rattle.algorithm_flat.specs.Moves.{OpenHandler, AnswerUse, Frame, Frames, Move, Goes, Asks, Says}

module _ (program : Program) (code : CoroutineCode) where
  abbrev pub PlaceStands : ℕ → List OpenHandler → Rest → Type 0
  PlaceStands place handlers at_end = (slice_get code.ops place ≡ None) × (handlers ≡ [])
  PlaceStands place handlers (then_all others rest) = (to : ℕ) × LaidAll program code others place to × PlaceStands to handlers rest
  PlaceStands place handlers (then_loop test body rest) =
      (from : ℕ) × LaidAll program code body from place × Has code place (op.Repeat test from) × PlaceStands (place + 1) handlers rest
  PlaceStands place handlers (then_jump rest) = (to : ℕ) × Has code place (op.Jump to) × PlaceStands to handlers rest
  PlaceStands place handlers (in_try clauses finally rest) =
      (number : ℕ) × (range : Range) × (outer : List OpenHandler) × (to : ℕ) × (handlers ≡ InTry number ∷ outer)
      × Has code place op.Leave × LaidTry program code number range clauses finally to × PlaceStands to outer rest
  PlaceStands place handlers (in_clause finally rest) =
      (number : ℕ) × (range : Range) × (outer : List OpenHandler) × (to : ℕ) × (handlers ≡ InClause number ∷ outer)
      × Has code place op.Leave × Covers code number range × LaidFinally program code range finally to × PlaceStands to outer rest
  PlaceStands place handlers (in_finally way rest) =
      (outer : List OpenHandler) × (handlers ≡ InFinally way ∷ outer) × Has code place op.Resume × PlaceStands (place + 1) outer rest
  PlaceStands place handlers (in_with manager entered rest) =
      (number : ℕ) × (range : Range) × (outer : List OpenHandler) × (to : ℕ) × (handlers ≡ InWith number entered ∷ outer)
      × Has code place op.Leave × LaidExit program code number range manager to × PlaceStands to outer rest
  PlaceStands place handlers (at_exit manager entered way rest) =
      (outer : List OpenHandler) × (handlers ≡ AtExit entered way ∷ outer) × Has code place (exit_op manager)
      × Has code (place + 1) op.Resume × PlaceStands (place + 1 + 1) outer rest

  -- at a request that waits for its answer
  abbrev pub StandsAt : AnswerUse → Wait → ℕ → List OpenHandler → Rest → Type 0
  StandsAt Ignored ignored place handlers rest = PlaceStands place handlers rest
  StandsAt (AssignedTo into) (assigned_to other) place handlers rest = (into ≡ other) × PlaceStands place handlers rest
  StandsAt (Entered name number) (entering manager other body) place handlers rest =
      (last : ℕ) × (range : Range) × (to : ℕ) × (name ≡ other) × LaidAll program code body place last
      × Has code last op.Leave × LaidExit program code number range manager to × PlaceStands to handlers rest
  StandsAt _ _ place handlers rest = ⊥

  -- on a way out the place is no matter
  abbrev pub StandsOn : Way → ℕ → List OpenHandler → Rest → Type 0
  StandsOn Passing place handlers rest = PlaceStands place handlers rest
  StandsOn way place handlers rest = (somewhere : ℕ) × PlaceStands somewhere handlers rest

abbrev pub callers_of : Option Name → List Frame → List Rest → List Caller
callers_of into (frame ∷ frames) (rest ∷ rests) =
    record { env = frame.env; into = into; rest = rest } ∷ callers_of frame.into frames rests
callers_of into _ _ = []

abbrev pub progress_at : Frames → Tape → List Exchange → Progress
progress_at frames tape exchanges =
    record { env = frames.frame.env; tape = tape; left = frames.left; exchanges = exchanges }

-- the code of the program's coroutines, by their places
module _ (program : Program) (codes : ℕ → CoroutineCode) where
  abbrev pub StandAll : List Frame → List Rest → Type 0
  StandAll [] [] = Unit {0}
  StandAll (frame ∷ frames) (rest ∷ rests) =
      PlaceStands program (codes frame.coroutine) frame.place frame.handlers rest × StandAll frames rests
  StandAll _ _ = ⊥

  -- what frames stand for that go on one way
  pub record Stand (way : Way) (frames : Frames) (rest : Rest) (rests : List Rest) : Type 0 where
    pub here : StandsOn program (codes frames.frame.coroutine) way frames.frame.place frames.frame.handlers rest
    pub callers : StandAll frames.callers rests

  -- what they stand for at a request
  pub record StandAt (use_of : AnswerUse) (wait : Wait) (frames : Frames) (rest : Rest) (rests : List Rest) : Type 0 where
    pub here : StandsAt program (codes frames.frame.coroutine) use_of wait frames.frame.place frames.frame.handlers rest
    pub callers : StandAll frames.callers rests

  -- the code of a coroutine is that of its body, with its variables
  pub record LaidOut (coroutine : ℕ) : Type 0 where
    pub end : ℕ
    pub body : LaidAll program (codes coroutine) (coroutine_at program coroutine).body 0 end
    pub ends : slice_get (codes coroutine).ops end ≡ None
    pub variables : (codes coroutine).variables ≡ variables_of (coroutine_at program coroutine)

  abbrev pub AllLaidOut : Type 0
  AllLaidOut = (coroutine : ℕ) → LaidOut coroutine

module _ (limit : ℕ) (program : Program) where
  -- what an ending here leads to
  abbrev pub meaning : Frames → Rest → List Rest → Ending → Ending
  meaning frames rest rests ending =
      ending_of_all limit program frames.room rest (callers_of frames.frame.into frames.callers rests) ending

  abbrev pub meaning_of_request : Request → Wait → Frames → Rest → List Rest → Tape → List Exchange → Ending
  meaning_of_request request wait frames rest rests tape exchanges =
      meaning frames rest rests
      (ask limit request (after_answer limit program (call_within limit program frames.room) wait)
      (progress_at frames tape exchanges))

  -- A move means what was meant before it.
  abbrev pub MoveKeeps : (ℕ → CoroutineCode) → (Tape → List Exchange → Ending) → Move → Type 0
  MoveKeeps codes before (Goes way frames) =
      (rest : Rest) × (rests : List Rest) × Stand program codes way frames rest rests
      × ((tape : Tape) (exchanges : List Exchange) →
      before tape exchanges ≡ meaning frames rest rests (ending_by way (progress_at frames tape exchanges)))
  MoveKeeps codes before (Asks request use_of frames) =
      (rest : Rest) × (rests : List Rest) × (wait : Wait) × StandAt program codes use_of wait frames rest rests
      × ((tape : Tape) (exchanges : List Exchange) →
      before tape exchanges ≡ meaning_of_request request wait frames rest rests tape exchanges)
  MoveKeeps codes before (Says saying) =
      (tape : Tape) (exchanges : List Exchange) → saying_of (before tape exchanges) ≡ saying
