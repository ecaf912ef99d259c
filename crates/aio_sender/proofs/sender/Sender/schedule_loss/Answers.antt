use Rattle.std.proofs.Common.{ap}
use Rattle.model_stream.specs.Senders.{schedule_loss}
use Rattle.law_stream.specs.SoundSenders.{outlet_of}
use Rattle.aio_sender.specs.Owned.{futures_of}
use Rattle.aio_sender.proofs.Telling.{scheduled_so, still_own}
use Rattle.aio_sender.proofs.sender.Sender.schedule_loss.Goals as goal

pub returns-clause-tells : goal.returns-clause-tells
returns-clause-tells c =
    scheduled_so (outlet_of c.args.whom) c.args.self.now c.args.broken c.end_as.new.self c.loses.result c.args.parts.now c.call_soon.new.parts
    c.loses.ensures.is c.in_ok-call_soon.ensures.after c.end_as.ensures

pub returns-clause-own : goal.returns-clause-own
returns-clause-own c =
    still_own (schedule_loss (outlet_of c.args.whom) c.args.broken c.args.self.now) c.args.self.now c.end_as.new.self c.args.parts.now
    c.call_soon.new.parts c.end_as.new.self (ap futures_of c.end_as.ensures)
    (scheduled_so (outlet_of c.args.whom) c.args.self.now c.args.broken c.end_as.new.self c.loses.result c.args.parts.now c.call_soon.new.parts
    c.loses.ensures.is c.in_ok-call_soon.ensures.after c.end_as.ensures)
