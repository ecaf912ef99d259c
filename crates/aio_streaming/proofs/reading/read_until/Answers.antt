use Rattle.std.proofs.Common.{◌≡◌, Some, None, ap, sym, ◌∙◌}
use Rattle.std.specs.Option.{option_map}
use Rattle.model_value.specs.declared.request.Request.TheVariants as request
use Rattle.model_says.specs.Requests.{bad_argument}
use Rattle.model_stream.specs.declared.read_op.ReadOp.TheVariants.{Until}
use Rattle.model_machine.specs.Arguments.{as_bytes}
use Rattle.model_machine.specs.Replies.{reads}
use Rattle.aio_transports.specs.Readers.{reader_as}
use Rattle.aio_body.proofs.Alone.{serves_raise}
use Rattle.refine_streams.proofs.Meaning.{until_means, until_no_bytes, until_of_none}
use Rattle.aio_streaming.proofs.Looks.{possible_asking, serves_on}
use Rattle.aio_streaming.proofs.reading.read_until.Goals as goal

pub returns-in_default : goal.returns-in_default
returns-in_default g c =
    serves_raise g.X.Extra.added c.args.task (request.ReadUntil c.args.stream.now c.args.separator.now) c.args.body.now
    bad_argument
    (λ at s h.
    until_of_none g.X.Extra.added.meaning c.args.task s c.args.stream.now c.args.separator.now
    (sym (c.as_reader.ensures s h.going.in_step.stands.transports) ∙ ap (option_map reader_as) c.in_default.is))
    c.bad_argument.result c.bad_argument.ensures

pub reads-requires : goal.reads-requires
reads-requires g c =
    possible_asking c.args.task (request.ReadUntil c.args.stream.now c.args.separator.now) c.args.body.now c.requires

pub returns-in_ok-copy-in-Some-as_bytes : goal.returns-in_ok-copy-in-Some-as_bytes
returns-in_ok-copy-in-Some-as_bytes g c =
    let copied : as_bytes c.args.separator.now ≡ Some c.in_ok-copy-in-Some-as_bytes.copy =
    cc (c.in-Some-as_bytes.ensures, c.as_slice.ensures.value, c.in_ok-copy-in-Some-as_bytes.ensures) in
    serves_on c.args.task (request.ReadUntil c.args.stream.now c.args.separator.now) c.args.body.now c.reads.new.body
    (reads c.args.task (Until c.in_ok-copy-in-Some-as_bytes.copy) (reader_as c.in-Some.from))
    (λ at s h.
    until_means g.X.Extra.added.meaning c.args.task s c.args.stream.now c.args.separator.now (reader_as c.in-Some.from)
    c.in_ok-copy-in-Some-as_bytes.copy
    (sym (c.as_reader.ensures s h.going.in_step.stands.transports) ∙ ap (option_map reader_as) c.in-Some.is) copied)
    c.reads.result c.reads.ensures

pub returns-in-None : goal.returns-in-None
returns-in-None g c =
    let none : as_bytes c.args.separator.now ≡ None = cc (c.in-None.ensures) in
    serves_raise g.X.Extra.added c.args.task (request.ReadUntil c.args.stream.now c.args.separator.now) c.args.body.now
    bad_argument
    (λ at s h.
    until_no_bytes g.X.Extra.added.meaning c.args.task s c.args.stream.now c.args.separator.now (reader_as c.in-Some.from)
    (sym (c.as_reader.ensures s h.going.in_step.stands.transports) ∙ ap (option_map reader_as) c.in-Some.is) none)
    c.bad_argument-in-None.result c.bad_argument-in-None.ensures
