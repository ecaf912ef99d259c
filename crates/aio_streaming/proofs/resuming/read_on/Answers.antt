use Rattle.std.proofs.Common.{sym, ◌∙◌}
use Rattle.model_machine.specs.Replies.{reads, waits_no_more}
use Rattle.model_machine.specs.State.{Reading}
use Rattle.aio_transports.specs.Readers.{reader_as}
use Rattle.aio_streaming.proofs.Resumes.{hears_fault, hears_value, possible_left, raises_left, resumes_left}
use Rattle.aio_streaming.proofs.resuming.read_on.Goals as goal

pub reads-requires : goal.reads-requires
reads-requires g c =
    possible_left g.X.Extra.added c.args.task (Reading (reader_as c.args.from) c.args.op c.args.on) c.args.body.now c.args.on
    (reader_as c.args.from)
    c.give_up.new.self c.give_up.ensures.after c.requires

pub returns-in-Some : goal.returns-in-Some
returns-in-Some g c =
    raises_left g.X.Extra.added c.args.task (Reading (reader_as c.args.from) c.args.op c.args.on) c.args.body.now c.args.on
    (reader_as c.args.from)
    c.give_up.new.self c.give_up.ensures.after c.args.input c.in-Some.fault
    (λ s.
    hears_fault c.args.input (reads c.args.task c.args.op (reader_as c.args.from))
    (waits_no_more c.args.on (reader_as c.args.from) s) c.in-Some.fault
    (sym c.fault_of.ensures ∙ c.in-Some.is))

pub returns-in-None : goal.returns-in-None
returns-in-None g c =
    resumes_left g.X.Extra.added c.args.task (Reading (reader_as c.args.from) c.args.op c.args.on) c.args.body.now c.args.on
    (reader_as c.args.from)
    c.give_up.new.self c.give_up.ensures.after c.args.input c.reads.new.body (reads c.args.task c.args.op (reader_as c.args.from))
    (λ s.
    hears_value c.args.input (reads c.args.task c.args.op (reader_as c.args.from))
    (waits_no_more c.args.on (reader_as c.args.from) s)
    (sym c.fault_of.ensures ∙ c.in-None.is))
    c.reads.result c.reads.ensures
