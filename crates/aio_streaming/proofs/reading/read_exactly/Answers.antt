use Rattle.std.proofs.Common.{SFits, w64, to_z, of_z, rules, ap, sym, ◌∙◌}
use Rattle.std.proofs.lemmas.Int.{to_z-of_z}
use Rattle.std.specs.Option.{option_map}
use Rattle.model_value.specs.declared.request.Request.TheVariants as request
use Rattle.model_says.specs.Requests.{bad_argument}
use Rattle.model_stream.specs.declared.read_op.ReadOp.TheVariants.{Exactly}
use Rattle.model_machine.specs.Replies.{reads}
use Rattle.aio_transports.specs.Readers.{reader_as}
use Rattle.aio_body.proofs.Alone.{serves_raise}
use Rattle.refine_streams.proofs.Meaning.{exactly_means, exactly_no_count, exactly_of_none}
use Rattle.aio_streaming.proofs.Looks.{possible_asking, serves_on}
use Rattle.aio_streaming.proofs.reading.read_exactly.Goals as goal

pub returns-in_default : goal.returns-in_default
returns-in_default g c =
    serves_raise g.X.Extra.added c.args.task (request.ReadExactly c.args.stream.now c.args.count.now) c.args.body.now bad_argument
    (λ at s h.
    exactly_of_none g.X.Extra.added.meaning c.args.task s c.args.stream.now c.args.count.now
    (sym (c.as_reader.ensures s h.going.in_step.stands.transports) ∙ ap (option_map reader_as) c.in_default.is))
    c.bad_argument.result c.bad_argument.ensures

pub reads-requires : goal.reads-requires
reads-requires g c =
    possible_asking c.args.task (request.ReadExactly c.args.stream.now c.args.count.now) c.args.body.now c.requires

pub returns-in-Some-as_int : goal.returns-in-Some-as_int
returns-in-Some-as_int g c =
    let fits : SFits w64 c.in-Some-as_int.count = search rules in
    serves_on c.args.task (request.ReadExactly c.args.stream.now c.args.count.now) c.args.body.now c.reads.new.body
    (reads c.args.task (Exactly (to_z w64 (of_z w64 c.in-Some-as_int.count))) (reader_as c.in-Some.from))
    (λ at s h.
    exactly_means g.X.Extra.added.meaning c.args.task s c.args.stream.now c.args.count.now (reader_as c.in-Some.from)
    c.in-Some-as_int.count
    (sym (c.as_reader.ensures s h.going.in_step.stands.transports) ∙ ap (option_map reader_as) c.in-Some.is)
    (sym c.as_int.ensures ∙ c.in-Some-as_int.is)
    ∙ ap (λ z. reads c.args.task (Exactly z) (reader_as c.in-Some.from) s) (sym (to_z-of_z w64 c.in-Some-as_int.count fits)))
    c.reads.result c.reads.ensures

pub returns-in-None : goal.returns-in-None
returns-in-None g c =
    serves_raise g.X.Extra.added c.args.task (request.ReadExactly c.args.stream.now c.args.count.now) c.args.body.now bad_argument
    (λ at s h.
    exactly_no_count g.X.Extra.added.meaning c.args.task s c.args.stream.now c.args.count.now (reader_as c.in-Some.from)
    (sym (c.as_reader.ensures s h.going.in_step.stands.transports) ∙ ap (option_map reader_as) c.in-Some.is)
    (sym c.as_int.ensures ∙ c.in-None.is))
    c.bad_argument-in-None.result c.bad_argument-in-None.ensures
