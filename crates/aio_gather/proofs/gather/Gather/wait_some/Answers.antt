use Rattle.std.proofs.Common.{map}
use Rattle.std.proofs.lemmas.Result.{IfOk-weaker}
use Rattle.model_gather.specs.Gathered.{distinct_arguments}
use Rattle.aio_gather.specs.Kept.{argument_as, mode_as}
use Rattle.aio_gather.proofs.Drawing.{wait_each}
use Rattle.aio_gather.proofs.gather.Gather.wait_some.Goals as goal

pub returns : goal.returns
returns c =
    IfOk-weaker c.wait_distinct.result _ _
    (λ asked seen. λ tags next tag. wait_each tags next c.args.self.now c.wait_distinct.new.self c.args.parts.now c.wait_distinct.new.parts asked
    (mode_as c.args.mode) c.args.delay (map argument_as c.in_ok-those.those.items) (distinct_arguments (map argument_as c.args.arguments.now))
    c.in_ok-those.ensures (seen tags next) tag) c.wait_distinct.ensures
