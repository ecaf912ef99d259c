use Rattle.std.proofs.Common.{◌≡◌, Option, Some, None, is_some, false, true, rules, SFits, w64, refl, sym, subst, ◌∙◌}
use Rattle.std.proofs.lemmas.Int.{to_z-of_z}
use Rattle.std.proofs.lemmas.Result.{IfOk-weaker}
use Rattle.model_says.specs.Requests.{bad_argument}
use Rattle.model_machine.specs.Arguments.{as_list}
use Rattle.model_value.specs.declared.request.Request.TheVariants as request
use Rattle.aio_wire.specs.Port.{ported}
use Rattle.aio_body.specs.Asking.{Comes, serving}
use Rattle.aio_body.proofs.Alone.{serves_alone, serves_without}
use Rattle.aio_extra.specs.Called.{MayAsk}
use Rattle.aio_serve.proofs.Adding.{AsksOver, asks_answer, asks_go, asks_served}
use Rattle.aio_serve.proofs.Meaning.{arguments_refused, code_refused}
use Rattle.aio_serve.proofs.Saying.{raises_so}
use Rattle.aio_serve.proofs.added.extra.Goals as goal

none_of : {A : Type 0} (o : Option A) → is_some o ≡ false → o ≡ None
none_of None e = refl
none_of (Some x) e = absurd (cc)

some_of : {A : Type 0} (o : Option A) → is_some o ≡ true → (x : A) × (o ≡ Some x)
some_of None e = absurd (cc)
some_of (Some x) e = (x, refl)

pub returns-in_default : goal.returns-in_default
returns-in_default g c =
    let task = c.args.task in
    let asked = request.Extra c.args.code.now c.args.arguments.now in
    subst (Comes _ (serving g.X.Extra.added task asked c.args.body.now c.args.body.now) (ported c.args.wire.now c.args.body.now.events)
    (ported c.args.wire.now c.args.body.now.events)) (sym c.or_stop.ensures)
    (serves_alone g.X.Extra.added g.W.Wire.outside task asked c.args.body.now c.args.wire.now c.args.body.now c.bad_argument.result
    (IfOk-weaker c.bad_argument.result _ _ (λ said e at s h.
    raises_so task at c.args.body.now s said _ bad_argument e
    (code_refused g.X.Extra.added.meaning task s c.args.code.now c.args.arguments.now (sym c.as_int.ensures ∙ c.in_default.is)) h.going.in_step)
    c.bad_argument.ensures))

pub returns-then-not-is_list : goal.returns-then-not-is_list
returns-then-not-is_list g c =
    let task = c.args.task in
    let asked = request.Extra c.args.code.now c.args.arguments.now in
    subst (Comes _ (serving g.X.Extra.added task asked c.args.body.now c.args.body.now) (ported c.args.wire.now c.args.body.now.events)
    (ported c.args.wire.now c.args.body.now.events)) (sym c.or_stop-then-not-is_list.ensures)
    (serves_alone g.X.Extra.added g.W.Wire.outside task asked c.args.body.now c.args.wire.now c.args.body.now c.bad_argument-then-not-is_list.result
    (IfOk-weaker c.bad_argument-then-not-is_list.result _ _ (λ said e at s h.
    raises_so task at c.args.body.now s said _ bad_argument e
    (arguments_refused g.X.Extra.added.meaning task s c.args.code.now c.args.arguments.now c.in-Some.code (sym c.as_int.ensures ∙ c.in-Some.is)
    (none_of (as_list c.args.arguments.now) (sym c.is_list.ensures ∙ c.if-not-is_list.true))) h.going.in_step)
    c.bad_argument-then-not-is_list.ensures))

pub ask-requires : goal.ask-requires
ask-requires g c =
    subst (λ futures. MayAsk g.X.Extra.added c.args.task futures c.args.arguments.now c.args.body.now.extra c.args.body.now.parts)
    (sym c.deref.ensures.value)
    (asks_served c.args.task c.args.body.now c.args.code.now c.args.arguments.now (sym c.is_list.ensures ∙ c.if-not-is_list.false) c.requires)

pub answer-requires : goal.answer-requires
answer-requires g c =
    let fits : SFits w64 c.in-Some.code = search rules in
    let items = some_of (as_list c.args.arguments.now) (sym c.is_list.ensures ∙ c.if-not-is_list.false) in
    asks_answer g.X.Extra.added c.args.task c.args.body.now c.args.code.now c.args.arguments.now c.in-Some.code items.0
    (sym c.as_int.ensures ∙ c.in-Some.is) items.1 c.ask.new.parts c.ask.new.self c.in-Ok.asked
    (subst (λ futures. AsksOver g.X.Extra.added c.args.task c.args.body.now c.args.arguments.now c.ask.new.parts c.ask.new.self c.in-Ok.asked futures
    c.in-Some.code) c.deref.ensures.value
    (subst (AsksOver g.X.Extra.added c.args.task c.args.body.now c.args.arguments.now c.ask.new.parts c.ask.new.self c.in-Ok.asked c.deref.result.now)
    (to_z-of_z w64 c.in-Some.code fits) c.in-Ok.ensures)) c.requires

pub returns-in-Ok : goal.returns-in-Ok
returns-in-Ok g c =
    let fits : SFits w64 c.in-Some.code = search rules in
    let items = some_of (as_list c.args.arguments.now) (sym c.is_list.ensures ∙ c.if-not-is_list.false) in
    asks_go g.X.Extra.added c.args.task c.args.body.now c.args.code.now c.args.arguments.now c.in-Some.code items.0
    (sym c.as_int.ensures ∙ c.in-Some.is) items.1 c.ask.new.parts c.ask.new.self c.in-Ok.asked
    (subst (λ futures. AsksOver g.X.Extra.added c.args.task c.args.body.now c.args.arguments.now c.ask.new.parts c.ask.new.self c.in-Ok.asked futures
    c.in-Some.code) c.deref.ensures.value
    (subst (AsksOver g.X.Extra.added c.args.task c.args.body.now c.args.arguments.now c.ask.new.parts c.ask.new.self c.in-Ok.asked c.deref.result.now)
    (to_z-of_z w64 c.in-Some.code fits) c.in-Ok.ensures)) g.W.Wire.outside c.answer.new.body c.args.wire.now c.answer.new.wire c.answer.result
    c.answer.ensures

pub returns-in-Err : goal.returns-in-Err
returns-in-Err g c =
    serves_without g.X.Extra.added g.W.Wire.outside c.args.task (request.Extra c.args.code.now c.args.arguments.now) c.args.body.now c.args.wire.now _
