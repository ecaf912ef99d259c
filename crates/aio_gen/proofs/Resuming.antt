-- An input, and then moves until something is asked or said.
use Rattle.std.proofs.Common.{◌≡◌, ℕ, ◌-◌, List, [], ◌∷◌, ◌++◌, Option, Some, None, length, map, reverse, sym, subst, ap, ◌∙◌, append-nil}
use Rattle.model_value.specs.declared.request.Request.TheVariants as request
use Rattle.model_value.specs.Request.{Request}
use Rattle.model_value.specs.Value.{Value}
use Rattle.model_tree.specs.Syntax.{Program}
use Rattle.model_says.specs.Tape.{Resumed, Tape}
use Rattle.model_says.specs.Endings as endings
use Rattle.model_says.specs.Says.{says, step_limit}
use Rattle.algorithm_locals.specs.Numbered.{numbered_program}
use Rattle.algorithm_locals.proofs.Bodies.{says-same}
use Rattle.algorithm_flat.specs.Ops.{CoroutineCode}
use Rattle.algorithm_flat.specs.Rests.{Way}
use Rattle.algorithm_flat.specs.declared.answer_use.AnswerUse.TheVariants.{Ignored}
use Rattle.algorithm_flat.specs.Moves as plain
use Rattle.algorithm_flat.specs.Moves.{Frames, Says}
use Rattle.algorithm_flat.specs.Stands.{AllLaidOut}
use Rattle.algorithm_flat.specs.Tapes.{Waiting, way_of, after_input, renewed_by, MovesFor, WaitsFor, ComesTo}
use Rattle.algorithm_flat.proofs.Tapes.{input-moves, waits-says, unbegun-waits}
use Rattle.aio_gen.specs.declared.frames.Frame.{Frame}
use Rattle.aio_gen.specs.declared.generator.GenOut.{GenOut}
use Rattle.aio_gen.specs.declared.generator.GenOut.TheVariants.{Asks, Returns, Raises, Runaway}
use Rattle.aio_gen.specs.declared.generator.Waiting as code
use Rattle.aio_flat.specs.declared.code.Code.{Code}
use Rattle.aio_flat.specs.Code.{codes_of}
use Rattle.aio_gen.specs.Gens.{SaysAfter, StandsAt, plain_waiting, saying_of_out}
use Rattle.aio_gen.specs.Plain.{plain_frame}

module _ (program : Program) (codes : ℕ → CoroutineCode) (coroutine : ℕ) (arguments : List Value) (tape : Tape) where
  -- after an input, on this way, with these frames
  pub goes-on : (entry : Resumed) (request : Request) (waiting : Waiting) (way : Way) (frames : Frames) →
      WaitsFor step_limit program codes coroutine arguments tape request waiting → way ≡ way_of entry.input →
      frames ≡ after_input entry.input waiting.use_of (renewed_by step_limit entry waiting.frames) →
      MovesFor step_limit program codes coroutine arguments (tape ++ entry ∷ []) way frames
  goes-on entry request waiting way frames waits ways are =
      subst (λ w. MovesFor step_limit program codes coroutine arguments (tape ++ entry ∷ []) w frames) (sym ways)
      (subst (λ f. MovesFor step_limit program codes coroutine arguments (tape ++ entry ∷ []) (way_of entry.input) f) (sym are)
      (input-moves step_limit program codes coroutine arguments tape request waiting entry waits))

-- what the program says is what it says over numbers
module _ (program : Program) (codes : ℕ → CoroutineCode) (coroutine : ℕ) (arguments : List Value) (tape : Tape) where
  abbrev numbered : Program
  numbered = numbered_program program

  -- what is said whatever comes after, is said
  pub says-so : (saying : endings.Saying) → ComesTo step_limit numbered codes coroutine arguments tape (Says saying) →
      says program coroutine arguments tape ≡ saying
  says-so saying comes =
      sym (says-same program coroutine arguments tape)
      ∙ ap (λ t. says numbered coroutine arguments t) (sym (append-nil tape)) ∙ comes []

  pub asks-so : (request : Request) (waiting : Waiting) →
      WaitsFor step_limit numbered codes coroutine arguments tape request waiting →
      says program coroutine arguments tape ≡ endings.Asks request
  asks-so request waiting waits =
      sym (says-same program coroutine arguments tape)
      ∙ waits-says step_limit numbered codes coroutine arguments tape request waiting waits

  -- by what was said, and what waits then
  pub out-says : (out : GenOut) (next : Option code.Waiting) → SaysAfter step_limit numbered codes coroutine arguments tape out next →
      says program coroutine arguments tape ≡ saying_of_out out
  out-says (Asks request) (Some waiting) after = asks-so request (plain_waiting waiting) after
  out-says (Asks request) None after = absurd after
  out-says (Returns value) next after = says-so (endings.Returns value) after
  out-says (Raises fault) next after = says-so (endings.Raises fault) after
  out-says Runaway next after = says-so endings.Runaway after

-- what waits then stands for the coroutine
pub out-stands : (program : Program) (held : Code) (coroutine : ℕ) (arguments : List Value) (tape : Tape) (out : GenOut) (next : Option code.Waiting)
    (request : Request) → out ≡ Asks request → SaysAfter step_limit (numbered_program program) (codes_of held) coroutine arguments tape out next →
    StandsAt program held coroutine arguments tape next
out-stands program held coroutine arguments tape (Asks asked) (Some waiting) request e after = (asked, after)
out-stands program held coroutine arguments tape (Asks asked) None request e after = absurd after
out-stands program held coroutine arguments tape (Returns value) next request e after = absurd (cc e)
out-stands program held coroutine arguments tape (Raises fault) next request e after = absurd (cc e)
out-stands program held coroutine arguments tape Runaway next request e after = absurd (cc e)

-- before any input
pub starts : (program : Program) (codes : ℕ → CoroutineCode) (coroutine : ℕ) (arguments : List Value) → AllLaidOut program codes →
    (frame : plain.Frame) (callers : List Frame) → frame ≡ plain.new_frame codes None coroutine arguments → callers ≡ [] →
    WaitsFor step_limit program codes coroutine arguments [] request.Pause
    (record {
      frames = record {
        frame = frame;
        callers = reverse (map plain_frame callers);
        room = 63 - length callers;
        left = step_limit;
      };
      use_of = Ignored;
    })
starts program codes coroutine arguments laid_out frame callers is none =
    subst
    (λ (f : plain.Frame).
    WaitsFor step_limit program codes coroutine arguments [] request.Pause
    (record {
      frames = record {
        frame = f;
        callers = reverse (map plain_frame callers);
        room = 63 - length callers;
        left = step_limit;
      };
      use_of = Ignored;
    }))
    (sym is)
    (subst
    (λ (cs : List Frame).
    WaitsFor step_limit program codes coroutine arguments [] request.Pause
    (record {
      frames = record {
        frame = plain.new_frame codes None coroutine arguments;
        callers = reverse (map plain_frame cs);
        room = 63 - length cs;
        left = step_limit;
      };
      use_of = Ignored;
    }))
    (sym none) (unbegun-waits step_limit program codes coroutine arguments laid_out))
