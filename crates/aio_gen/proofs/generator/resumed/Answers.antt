-- What is said after the moves is what the coroutine says.
use Rattle.std.proofs.Common.{[], ◌∷◌, ◌++◌, ap, ◌∙◌}
use Rattle.std.proofs.lemmas.Result.{IfOk-weaker}
use Rattle.model_says.specs.Tape.{Resumed}
use Rattle.model_says.specs.Says.{step_limit}
use Rattle.algorithm_locals.specs.Numbered.{numbered_program}
use Rattle.algorithm_flat.specs.Tapes.{after_input}
use Rattle.aio_flat.specs.Code.{codes_of}
use Rattle.aio_gen.specs.Gens.{plain_waiting}
use Rattle.aio_gen.specs.Plain.{plain_frames}
use Rattle.aio_gen.proofs.Resuming.{goes-on, out-says, out-stands}
use Rattle.aio_gen.proofs.generator.resumed.Goals as goal

pub returns : goal.returns
returns c =
    let code = c.args.code.now in
    let codes = codes_of code in
    let entry : Resumed = record { input = c.args.input; fresh = c.args.fresh } in
    let waiting = plain_waiting c.args.waiting in
    let frames = plain_frames c.take_input.new.self in
    let are = c.in_ok-way.ensures.frames ∙ ap (after_input c.args.input c.args.waiting.use_of) c.renew.ensures in
    record {
      said = IfOk-weaker c.run.result _ _ (λ made after program coroutine arguments tape is_code stands.
          out-says program codes coroutine arguments (tape ++ entry ∷ []) made.0 made.1
          (after step_limit (numbered_program program) coroutine arguments (tape ++ entry ∷ []) is_code.laid_out
          (goes-on (numbered_program program) codes coroutine arguments tape entry stands.0 waiting c.in_ok-way.way frames stands.1
          c.in_ok-way.ensures.way are))) c.run.ensures;
      stands = IfOk-weaker c.run.result _ _ (λ made after program coroutine arguments tape is_code stands request same.
          out-stands program code coroutine arguments (tape ++ entry ∷ []) made.0 made.1 request same
          (after step_limit (numbered_program program) coroutine arguments (tape ++ entry ∷ []) is_code.laid_out
          (goes-on (numbered_program program) codes coroutine arguments tape entry stands.0 waiting c.in_ok-way.way frames stands.1
          c.in_ok-way.ensures.way are))) c.run.ensures;
    }
