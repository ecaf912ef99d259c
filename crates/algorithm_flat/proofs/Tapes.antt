-- Input by input, flat code says what the coroutine says after its tape.
use Rattle.std.proofs.Common.{◌≡◌, ℕ, Bool, List, [], ◌∷◌, ◌++◌, None, refl, sym, ◌∙◌, ap, subst, append_assoc, append-nil}
use Rattle.model_value.specs.declared.input.Input.TheVariants.{Send, Throw}
use Rattle.model_value.specs.declared.request.Request.TheVariants as request
use Rattle.model_value.specs.Input.{Input}
use Rattle.model_value.specs.Request.{Request}
use Rattle.model_value.specs.Value.{Value}
use Rattle.model_tree.specs.Syntax.{Name, Program}
use Rattle.model_says.specs.Variables.{bound, variables_of}
use Rattle.model_says.specs.Requests.{coroutine_at}
use Rattle.model_says.specs.Tape.{Resumed, Tape}
use Rattle.model_says.specs.Endings.{Exchange, Asks as Asked, Passes, saying_of, ask}
use Rattle.model_says.specs.Says.{course}
use Rattle.algorithm_flat.specs.declared.answer_use.AnswerUse.TheVariants.{Ignored}
use Rattle.algorithm_flat.specs.Ops.{CoroutineCode}
use Rattle.algorithm_flat.specs.Rests.{Way, ending_by, then_all, at_end, ignored}
use Rattle.algorithm_flat.specs.Moves.{Frames, Move, Goes, Asks, Says, move_of}
use Rattle.algorithm_flat.specs.Stands.{AllLaidOut, MoveKeeps, meaning, progress_at, callers_of}
use Rattle.algorithm_flat.specs.Tapes.{Waiting, unbegun_waiting, way_of, after_input, renewed_by, said, MovesFor, WaitsFor, ComesTo}
use Rattle.algorithm_flat.proofs.Endings.{ending_of_all-stop}
use Rattle.algorithm_flat.proofs.Moves.{move-keeps, answer-keeps, waits-somewhere}

module _ (limit : ℕ) (program : Program) (codes : ℕ → CoroutineCode) (coroutine : ℕ) (arguments : List Value) where
  -- what waits for the answer of a request is what is said
  pub waits-says : (tape : Tape) (request : Request) (waiting : Waiting) →
      WaitsFor limit program codes coroutine arguments tape request waiting →
      said limit program codes coroutine arguments tape ≡ Asked request
  waits-says tape request waiting waits =
      ap (said limit program codes coroutine arguments) (sym (append-nil tape))
      ∙ waits.goes_on []
      ∙ ap saying_of
      (ending_of_all-stop limit program waiting.frames.room waits.rest
      (callers_of waiting.frames.frame.into waiting.frames.callers waits.rests) (Asked request)
      (progress_at waiting.frames [] waits.history))

  -- it goes on after an input
  pub input-moves : (tape : Tape) (request : Request) (waiting : Waiting) (entry : Resumed) →
      WaitsFor limit program codes coroutine arguments tape request waiting →
      MovesFor limit program codes coroutine arguments (tape ++ entry ∷ []) (way_of entry.input)
      (after_input entry.input waiting.use_of (renewed_by limit entry waiting.frames))
  input-moves tape request waiting entry waits = by_input entry.input entry.fresh
    where
      by_input : (input : Input) (fresh : Bool) →
          let resumed : Resumed = record { input = input; fresh = fresh } in
          MovesFor limit program codes coroutine arguments (tape ++ resumed ∷ []) (way_of input)
          (after_input input waiting.use_of (renewed_by limit resumed waiting.frames))
      by_input (Send value) fresh =
          let resumed : Resumed = record { input = Send value; fresh = fresh } in
          let frames : Frames = renewed_by limit resumed waiting.frames in
          let keeps =
          answer-keeps limit program codes value frames waits.rest waits.rests waits.stand.callers waiting.use_of
          waits.wait waits.stand.here in
          let history : List Exchange = waits.history ++ record { request = request; answer = Send value } ∷ [] in
          record {
            rest = keeps.0;
            rests = keeps.1;
            stand = keeps.2;
            history = history;
            goes_on = λ more.
                ap (said limit program codes coroutine arguments) (append_assoc tape (resumed ∷ []) more)
                ∙ waits.goes_on (resumed ∷ more)
                ∙ ap saying_of (keeps.3 more history);
          }
      by_input (Throw fault) fresh =
          let resumed : Resumed = record { input = Throw fault; fresh = fresh } in
          record {
            rest = waits.rest;
            rests = waits.rests;
            stand = record {
              here =
                  waits-somewhere limit program codes waiting.frames waiting.use_of waits.wait waiting.frames.frame.place
                  waiting.frames.frame.handlers waits.rest waits.stand.here;
              callers = waits.stand.callers;
            };
            history = waits.history ++ record { request = request; answer = Throw fault } ∷ [];
            goes_on = λ more.
                ap (said limit program codes coroutine arguments) (append_assoc tape (resumed ∷ []) more)
                ∙ waits.goes_on (resumed ∷ more);
          }

  -- the first frame with these variables
  abbrev first_frames : List Name → Frames
  first_frames variables = record {
    frame = record { coroutine = coroutine; place = 0; handlers = []; env = bound variables arguments; into = None };
    callers = [];
    room = 63;
    left = limit;
  }

  -- what is said along inputs is what the frames say that have not begun
  abbrev SaysUnbegun : Tape → Type 0
  SaysUnbegun more =
      said limit program codes coroutine arguments more
      ≡ saying_of
      (meaning limit program (first_frames (variables_of (coroutine_at program coroutine)))
      (then_all (coroutine_at program coroutine).body at_end) []
      (ask limit request.Pause (λ answer. Passes)
      (progress_at (first_frames (variables_of (coroutine_at program coroutine))) more [])))

  module _ (laid_out : AllLaidOut program codes) where
    -- before any input it waits as after a bare `yield`
    first-waits : WaitsFor limit program codes coroutine arguments [] request.Pause
        (record { frames = first_frames (variables_of (coroutine_at program coroutine)); use_of = Ignored })
    unfolding course
    first-waits = record {
      rest = then_all (coroutine_at program coroutine).body at_end;
      rests = [];
      wait = ignored;
      stand = record {
        here = ((laid_out coroutine).end, (laid_out coroutine).body, ((laid_out coroutine).ends, refl));
        callers = tt;
      };
      history = [];
      goes_on = same;
    }
      where
        by_input : (input : Input) (fresh : Bool) (more : Tape) → SaysUnbegun (record { input = input; fresh = fresh } ∷ more)
        by_input (Send value) fresh more = refl
        by_input (Throw fault) fresh more = refl

        same : (more : Tape) → SaysUnbegun more
        same [] = refl
        same (entry ∷ more) = by_input entry.input entry.fresh more

    pub unbegun-waits : WaitsFor limit program codes coroutine arguments [] request.Pause
        (unbegun_waiting limit codes coroutine arguments)
    unbegun-waits =
        subst
        (λ (variables : List Name).
        WaitsFor limit program codes coroutine arguments [] request.Pause
        (record { frames = first_frames variables; use_of = Ignored }))
        (sym (laid_out coroutine).variables) first-waits

    -- after a move it stands for the same inputs
    pub move-comes : (tape : Tape) (way : Way) (frames : Frames) →
        MovesFor limit program codes coroutine arguments tape way frames →
        ComesTo limit program codes coroutine arguments tape (move_of codes (codes frames.frame.coroutine) way frames)
    move-comes tape way frames moves =
        by_move (move_of codes (codes frames.frame.coroutine) way frames)
        (move-keeps limit program codes laid_out way frames moves.rest moves.rests moves.stand)
      where
        by_move : (move : Move) →
            MoveKeeps limit program codes
            (λ more exchanges.
            meaning limit program frames moves.rest moves.rests (ending_by way (progress_at frames more exchanges))) move →
            ComesTo limit program codes coroutine arguments tape move
        by_move (Goes next after) keeps = record {
          rest = keeps.0;
          rests = keeps.1;
          stand = keeps.2;
          history = moves.history;
          goes_on = λ more. moves.goes_on more ∙ ap saying_of (keeps.3 more moves.history);
        }
        by_move (Asks request use_of after) keeps = record {
          rest = keeps.0;
          rests = keeps.1;
          wait = keeps.2;
          stand = keeps.3;
          history = moves.history;
          goes_on = λ more. moves.goes_on more ∙ ap saying_of (keeps.4 more moves.history);
        }
        by_move (Says saying) keeps = λ more. moves.goes_on more ∙ keeps more moves.history
