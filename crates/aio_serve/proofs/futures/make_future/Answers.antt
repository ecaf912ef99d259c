use Rattle.std.proofs.Common.{◌≡◌, ◌<◌, ◌≤◌, ◌++◌, ◌∷◌, [], length, refl, ap, ◌∙◌, arith}
use Rattle.std.proofs.lemmas.Result.{IfOk-weaker}
use Rattle.model_value.specs.Value.{Fut}
use Rattle.model_says.specs.Operations.{out_of_range}
use Rattle.model_loop.specs.Futures.{new_plain, next_future}
use Rattle.model_machine.specs.Replies.{most_ids}
use Rattle.model_machine.specs.State.{unbooked_in}
use Rattle.refine_parts.proofs.Telling.{next_kept}
use Rattle.aio_body.proofs.Making.{makes_so}
use Rattle.aio_body.proofs.May.{idle_some}
use Rattle.aio_body.specs.declared.reply.RequestReply.TheVariants.{Answers}
use Rattle.aio_serve.proofs.Meaning.{one_more_made, none_made}
use Rattle.aio_serve.proofs.Saying.{answers_so, raises_so}
use Rattle.aio_serve.proofs.futures.make_future.Goals as goal

pub returns-then-made-ge-MOST_IDS : goal.returns-then-made-ge-MOST_IDS
returns-then-made-ge-MOST_IDS g c task =
    let body = c.args.body.now in
    IfOk-weaker c.out_of_range.result _ _ (λ said e at s h.
    let same = c.args.body.now.futures.ok.0 in
    let stands = ap length h.going.in_step.stands.futures in
    let many : most_ids ≤ length s.futures = omega (arith, same, stands, c.len-made.ensures, c.if-made-ge-MOST_IDS.true) in
    raises_so task at body s said _ out_of_range e (none_made g.X.Extra.added.meaning task s many) h.going.in_step)
    c.out_of_range.ensures

pub new_plain-requires : goal.new_plain-requires
new_plain-requires g c = record { idle = idle_some c.args.body.now c.requires }

pub returns : goal.returns
returns g c task at s h =
    let body = c.args.body.now in
    let step = h.going.in_step in
    let p = s.loop.parts in
    let number : c.in_ok-id.id ≡ next_future p = c.in_ok-id.ensures.number ∙ next_kept step.stands.name_map body.parts p step.stands.keeps in
    let same = c.args.body.now.futures.ok.0 in
    let stands = ap length step.stands.futures in
    let made : c.len-made.result ≡ length s.futures = omega (arith, same, stands, c.len-made.ensures) in
    let few : length s.futures < most_ids = omega (arith, made, c.if-made-ge-MOST_IDS.false) in
    let now = record body { parts = c.new_plain.new.self; futures = c.push.new.self } in
    answers_so task at now (unbooked_in new_plain (record s { futures = s.futures ++ next_future p ∷ [] })) _ _ (Fut (length s.futures))
    (ap Answers (c.fut.ensures ∙ ap Fut made)) (one_more_made g.X.Extra.added.meaning task s few)
    (makes_so task at body now s c.new_plain.new.self step h.going.sound.others.loop.parts.owns c.in_ok-id.ensures.after refl
    (c.in_ok-push.ensures.items ∙ ap (λ n. body.futures.items ++ n ∷ []) number) (omega (arith, few)))
