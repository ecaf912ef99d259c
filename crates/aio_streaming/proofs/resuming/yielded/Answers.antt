use Rattle.std.proofs.Common.{true, sym, ◌∙◌}
use Rattle.model_machine.specs.Replies.{drains}
use Rattle.model_machine.specs.State.{Yielding}
use Rattle.aio_streaming.proofs.Resumes.{hears_fault, hears_value, possible_deciding, resumes_raising, resumes_so}
use Rattle.aio_streaming.proofs.resuming.yielded.Goals as goal

pub drains-requires : goal.drains-requires
drains-requires g c = possible_deciding g.X.Extra.added c.args.task (Yielding c.args.whom) c.args.body.now c.requires

pub returns-in-Some : goal.returns-in-Some
returns-in-Some g c =
    resumes_raising g.X.Extra.added c.args.task (Yielding c.args.whom) c.args.body.now c.args.input c.in-Some.fault
    (λ s. hears_fault c.args.input (drains true c.args.task c.args.whom) s c.in-Some.fault
    (sym c.fault_of.ensures ∙ c.in-Some.is))

pub returns-in-None : goal.returns-in-None
returns-in-None g c =
    resumes_so g.X.Extra.added c.args.task (Yielding c.args.whom) c.args.body.now c.args.input c.drains.new.body
    (drains true c.args.task c.args.whom)
    (λ s. hears_value c.args.input (drains true c.args.task c.args.whom) s (sym c.fault_of.ensures ∙ c.in-None.is))
    c.drains.result c.drains.ensures
