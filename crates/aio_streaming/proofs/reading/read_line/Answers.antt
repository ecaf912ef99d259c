use Rattle.std.proofs.Common.{ap, sym, ◌∙◌}
use Rattle.std.specs.Option.{option_map}
use Rattle.model_value.specs.declared.request.Request.TheVariants as request
use Rattle.model_says.specs.Requests.{bad_argument}
use Rattle.model_stream.specs.declared.read_op.ReadOp.TheVariants.{Line}
use Rattle.model_machine.specs.Replies.{reads}
use Rattle.aio_transports.specs.Readers.{reader_as}
use Rattle.aio_body.proofs.Alone.{serves_raise}
use Rattle.refine_streams.proofs.Meaning.{line_means, line_refused}
use Rattle.aio_streaming.proofs.Looks.{possible_asking, serves_on}
use Rattle.aio_streaming.proofs.reading.read_line.Goals as goal

pub reads-requires : goal.reads-requires
reads-requires g c = possible_asking c.args.task (request.ReadLine c.args.stream.now) c.args.body.now c.requires

pub returns-in-Some : goal.returns-in-Some
returns-in-Some g c =
    serves_on c.args.task (request.ReadLine c.args.stream.now) c.args.body.now c.reads.new.body
    (reads c.args.task Line (reader_as c.in-Some.from))
    (λ at s h.
    line_means g.X.Extra.added.meaning c.args.task s c.args.stream.now (reader_as c.in-Some.from)
    (sym (c.as_reader.ensures s h.going.in_step.stands.transports) ∙ ap (option_map reader_as) c.in-Some.is))
    c.reads.result c.reads.ensures

pub returns-in-None : goal.returns-in-None
returns-in-None g c =
    serves_raise g.X.Extra.added c.args.task (request.ReadLine c.args.stream.now) c.args.body.now bad_argument
    (λ at s h.
    line_refused g.X.Extra.added.meaning c.args.task s c.args.stream.now
    (sym (c.as_reader.ensures s h.going.in_step.stands.transports) ∙ ap (option_map reader_as) c.in-None.is))
    c.bad_argument.result c.bad_argument.ensures
