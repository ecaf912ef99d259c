use Rattle.std.proofs.Common.{ap, ◌∙◌}
use Rattle.model_tree.specs.Syntax.{Try, statements, Handlers}
use Rattle.model_text.specs.Bodies.{handlers_in, finally_in}
use Rattle.aio_program.specs.Target.{plain_branch}
use Rattle.aio_program.specs.Block.{handlers_before, first_branch}
use Rattle.aio_program.proofs.TryLemmas.{handlers_before-append}
use Rattle.aio_program.proofs.block.OpenTry.with_handler.Goals as goal

pub returns : goal.returns
returns c = λ others.
    ap (λ (h : Handlers). Try (statements c.args.self.body) h (first_branch (plain_branch c.args.self.finally) (finally_in others)))
    (ap (λ hs. handlers_before hs (handlers_in others)) c.in_ok-push.ensures.items
    ∙ handlers_before-append c.args.self.handlers.items c.args.handler (handlers_in others))
