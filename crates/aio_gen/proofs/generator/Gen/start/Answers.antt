use Rattle.std.proofs.Common.{[], ap, ◌∙◌, None, sym, subst}
use Rattle.model_value.specs.declared.request.Request.TheVariants as request
use Rattle.algorithm_locals.specs.Numbered.{numbered_program}
use Rattle.algorithm_flat.specs.Moves.{new_frame}
use Rattle.aio_flat.specs.Code.{codes_of}
use Rattle.aio_gen.specs.Gens.{StandsAt}
use Rattle.aio_gen.specs.Plain.{plain_frame}
use Rattle.aio_gen.proofs.Resuming.{starts}
use Rattle.aio_gen.proofs.generator.Gen.start.Goals as goal

pub returns : goal.returns
returns c = λ program is_code.
    subst (StandsAt program c.args.code.now c.args.coroutine c.args.args.items []) (sym c.in_ok-waiting.ensures.ok) (
      request.Pause,
      starts (numbered_program program) (codes_of c.args.code.now) c.args.coroutine c.args.args.items is_code.laid_out (plain_frame c.in_ok-frame.frame)
          c.new.result.items (c.in_ok-frame.ensures ∙ ap (new_frame (codes_of c.args.code.now) None c.args.coroutine) c.as_slice.ensures.value)
          c.new.ensures.items,
    )
