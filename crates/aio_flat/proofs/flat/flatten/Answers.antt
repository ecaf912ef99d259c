use Rattle.std.proofs.Common.{subst}
use Rattle.algorithm_locals.specs.Numbered.{numbered_program}
use Rattle.aio_flat.specs.Code.{AreBodiesOf}
use Rattle.aio_flat.proofs.CodeLemmas.{laid-out, names-of}
use Rattle.aio_flat.proofs.flat.flatten.Goals as goal

pub returns : goal.returns
returns c =
    let program = c.args.program.now in
    let numbered = numbered_program program in
    let bodies = c.in_ok-bodies.bodies.items in
    let are =
    subst (λ coroutines. AreBodiesOf numbered coroutines bodies) c.coroutines.ensures
    (subst (λ places. AreBodiesOf places c.coroutines.result.now bodies) c.in_ok-places.ensures c.in_ok-bodies.ensures) in
    record {
      laid_out = laid-out program bodies are;
      names = names-of numbered program.coroutines bodies are;
    }
