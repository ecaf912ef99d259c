use Rattle.std.proofs.Common.{Some, refl, sym, ap, ◌∙◌}
use Rattle.std.specs.Option.{option_map}
use Rattle.model_value.specs.declared.request.Request.TheVariants as request
use Rattle.model_says.specs.Requests.{bad_argument}
use Rattle.model_loop.specs.Futures.{next_future}
use Rattle.model_stream.specs.Requests.{limits}
use Rattle.law_cases.specs.TreeEnd.{owned_in as plain_in}
use Rattle.law_cases.proofs.Asking.{limits_keep}
use Rattle.aio_body.specs.Delay.{number_of}
use Rattle.aio_body.proofs.Alone.{serves_raise}
use Rattle.refine_streams.proofs.Meaning.{limits_mean, limits_no_high, limits_no_low, limits_to_none}
use Rattle.aio_streaming.proofs.Writes.{limited_so}
use Rattle.aio_streaming.proofs.writing.limits.Goals as goal

pub returns-in_default : goal.returns-in_default
returns-in_default g c =
    serves_raise g.X.Extra.added c.args.task
    (request.Limits c.args.stream.now c.args.high.now c.args.low.now) c.args.body.now bad_argument
    (λ at s h.
    limits_to_none g.X.Extra.added.meaning c.args.task s c.args.stream.now c.args.high.now c.args.low.now
    (sym (c.as_writer.ensures s h.going.in_step.stands.transports) ∙ c.in_default.is))
    c.bad_argument.result c.bad_argument.ensures

pub returns-in_default-as_delay : goal.returns-in_default-as_delay
returns-in_default-as_delay g c =
    serves_raise g.X.Extra.added c.args.task
    (request.Limits c.args.stream.now c.args.high.now c.args.low.now) c.args.body.now bad_argument
    (λ at s h.
    limits_no_high g.X.Extra.added.meaning c.args.task s c.args.stream.now c.args.high.now c.args.low.now c.in-Some.whom
    (sym (c.as_writer.ensures s h.going.in_step.stands.transports) ∙ c.in-Some.is)
    (sym c.as_delay.ensures ∙ ap (option_map number_of) c.in_default-as_delay.is))
    c.bad_argument-in_default-as_delay.result c.bad_argument-in_default-as_delay.ensures

pub returns-in_default-as_delay-2 : goal.returns-in_default-as_delay-2
returns-in_default-as_delay-2 g c =
    serves_raise g.X.Extra.added c.args.task
    (request.Limits c.args.stream.now c.args.high.now c.args.low.now) c.args.body.now bad_argument
    (λ at s h.
    limits_no_low g.X.Extra.added.meaning c.args.task s c.args.stream.now c.args.high.now c.args.low.now c.in-Some.whom
    (number_of c.in-Some-as_delay.high)
    (sym (c.as_writer.ensures s h.going.in_step.stands.transports) ∙ c.in-Some.is)
    (sym c.as_delay.ensures ∙ ap (option_map number_of) c.in-Some-as_delay.is)
    (sym c.as_delay-2.ensures ∙ ap (option_map number_of) c.in_default-as_delay-2.is))
    c.bad_argument-in_default-as_delay-2.result c.bad_argument-in_default-as_delay-2.ensures

pub returns : goal.returns
returns g c =
    let asked = request.Limits c.args.stream.now c.args.high.now c.args.low.now in
    let new = record c.args.body.now { transports = c.limits.new.self } in
    let most = c.number.result in
    let least = c.number-2.result in
    limited_so c.args.task asked c.args.body.now c.requires new refl refl (λ n. limits most least c.in-Some.whom)
    (λ at s h.
    limits_mean g.X.Extra.added.meaning c.args.task s c.args.stream.now c.args.high.now c.args.low.now c.in-Some.whom most least
    (sym (c.as_writer.ensures s h.going.in_step.stands.transports) ∙ c.in-Some.is)
    (sym c.as_delay.ensures ∙ ap (option_map number_of) c.in-Some-as_delay.is ∙ ap Some (sym c.number.ensures))
    (sym c.as_delay-2.ensures ∙ ap (option_map number_of) c.in-Some-as_delay-2.is ∙ ap Some (sym c.number-2.ensures)))
    c.limits.result (c.limits.ensures.told c.args.body.now.parts)
    (λ s kept. limits_keep (plain_in s) (next_future s.loop.parts) most least c.in-Some.whom s.streams kept)
    c.limited.result c.limited.ensures
