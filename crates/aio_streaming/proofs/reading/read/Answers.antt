use Rattle.std.proofs.Common.{SFits, w64, rules, ap, sym, ◌∙◌}
use Rattle.std.proofs.lemmas.Int.{to_z-of_z}
use Rattle.std.specs.Option.{option_map}
use Rattle.model_value.specs.declared.request.Request.TheVariants as request
use Rattle.model_says.specs.Requests.{bad_argument}
use Rattle.model_stream.specs.declared.read_op.ReadOp.TheVariants.{UpTo}
use Rattle.model_machine.specs.Replies.{reads, reads_all}
use Rattle.aio_transports.specs.Readers.{reader_as}
use Rattle.aio_body.proofs.Alone.{serves_raise}
use Rattle.refine_streams.proofs.Meaning.{read_no_count, read_of_none}
use Rattle.aio_streaming.specs.Counts.{natural_in}
use Rattle.aio_streaming.proofs.Looks.{possible_asking, read_counts, read_whole, serves_on}
use Rattle.aio_streaming.proofs.reading.read.Goals as goal

pub returns-in_default : goal.returns-in_default
returns-in_default g c =
    serves_raise g.X.Extra.added c.args.task (request.Read c.args.stream.now c.args.count.now) c.args.body.now bad_argument
    (λ at s h.
    read_of_none g.X.Extra.added.meaning c.args.task s c.args.stream.now c.args.count.now
    (sym (c.as_reader.ensures s h.going.in_step.stands.transports) ∙ ap (option_map reader_as) c.in_default.is))
    c.bad_argument.result c.bad_argument.ensures

pub reads-requires : goal.reads-requires
reads-requires g c = possible_asking c.args.task (request.Read c.args.stream.now c.args.count.now) c.args.body.now c.requires

pub reads_all-requires : goal.reads_all-requires
reads_all-requires g c = possible_asking c.args.task (request.Read c.args.stream.now c.args.count.now) c.args.body.now c.requires

pub returns-in-Some-natural : goal.returns-in-Some-natural
returns-in-Some-natural g c =
    let fits : SFits w64 c.in-Some-as_int.number = search rules in
    serves_on c.args.task (request.Read c.args.stream.now c.args.count.now) c.args.body.now c.reads.new.body
    (reads c.args.task (UpTo c.in-Some-natural.most) (reader_as c.in-Some.from))
    (λ at s h.
    read_counts g.X.Extra.added.meaning c.args.task s c.args.stream.now c.args.count.now (reader_as c.in-Some.from)
    (sym (c.as_reader.ensures s h.going.in_step.stands.transports) ∙ ap (option_map reader_as) c.in-Some.is)
    c.in-Some-as_int.number c.in-Some-natural.most (sym c.as_int.ensures ∙ c.in-Some-as_int.is)
    (ap natural_in (sym (to_z-of_z w64 c.in-Some-as_int.number fits)) ∙ sym c.natural.ensures ∙ c.in-Some-natural.is))
    c.reads.result c.reads.ensures

pub returns-in-None-natural : goal.returns-in-None-natural
returns-in-None-natural g c =
    let fits : SFits w64 c.in-Some-as_int.number = search rules in
    serves_on c.args.task (request.Read c.args.stream.now c.args.count.now) c.args.body.now c.reads_all.new.body
    (reads_all c.args.task (reader_as c.in-Some.from) c.no_bytes.result)
    (λ at s h.
    read_whole g.X.Extra.added.meaning c.args.task s c.args.stream.now c.args.count.now (reader_as c.in-Some.from)
    (sym (c.as_reader.ensures s h.going.in_step.stands.transports) ∙ ap (option_map reader_as) c.in-Some.is)
    c.in-Some-as_int.number (sym c.as_int.ensures ∙ c.in-Some-as_int.is)
    (ap natural_in (sym (to_z-of_z w64 c.in-Some-as_int.number fits)) ∙ sym c.natural.ensures ∙ c.in-None-natural.is)
    ∙ ap (λ bytes. reads_all c.args.task (reader_as c.in-Some.from) bytes s) (sym c.no_bytes.ensures))
    c.reads_all.result c.reads_all.ensures

pub returns-in-None : goal.returns-in-None
returns-in-None g c =
    serves_raise g.X.Extra.added c.args.task (request.Read c.args.stream.now c.args.count.now) c.args.body.now bad_argument
    (λ at s h.
    read_no_count g.X.Extra.added.meaning c.args.task s c.args.stream.now c.args.count.now (reader_as c.in-Some.from)
    (sym (c.as_reader.ensures s h.going.in_step.stands.transports) ∙ ap (option_map reader_as) c.in-Some.is)
    (sym c.as_int.ensures ∙ c.in-None.is))
    c.bad_argument-in-None.result c.bad_argument-in-None.ensures
