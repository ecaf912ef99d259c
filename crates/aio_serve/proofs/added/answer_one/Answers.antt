use Rattle.std.proofs.Common.{◌≡◌, ℕ, ℤ, List, Ok, SFits, w64, rules, refl, subst, sym, ap, ◌∙◌}
use Rattle.std.proofs.lemmas.Int.{to_z-of_z}
use Rattle.aio_extra.specs.declared.asked.Asked.{Asked}
use Rattle.aio_extra.specs.declared.asked.Asked.TheVariants.{Outside}
use Rattle.aio_wire.specs.Port.{ported}
use Rattle.aio_body.specs.Asking.{Comes}
use Rattle.aio_body.specs.Stands.{Possible}
use Rattle.aio_body.specs.declared.reply.RequestReply.TheVariants.{Answers, Raises}
use Rattle.aio_serve.proofs.Adding.{answer_so, once_alone, raise_so}
use Rattle.aio_serve.specs.Adding.{HasAnswer, answering_once}
use Rattle.aio_serve.specs.declared.added.Answered.TheVariants.{Replies}
use Rattle.aio_serve.proofs.added.answer_one.Goals as goal

pub returns-in-Answer : goal.returns-in-Answer
returns-in-Answer g c =
    rw c.in-Answer.is (once_alone g.X.Extra.added g.W.Wire.outside c.args.task _ c.args.body.now c.args.body.now c.args.wire.now refl
    (Ok (Replies (Answers c.in-Answer.value))) (λ at s it h. answer_so c.args.task at c.args.body.now s c.in-Answer.value it h))

pub returns-in-Raise : goal.returns-in-Raise
returns-in-Raise g c =
    rw c.in-Raise.is (once_alone g.X.Extra.added g.W.Wire.outside c.args.task _ c.args.body.now c.args.body.now c.args.wire.now refl
    (Ok (Replies (Raises c.in-Raise.fault))) (λ at s it h. raise_so c.args.task at c.args.body.now s c.in-Raise.fault it h))

pub wait-requires : goal.wait-requires
wait-requires g c = subst (λ k. Possible g.X.Extra.added (HasAnswer c.args.task k) c.args.body.now) c.in-Wait.is c.requires

pub returns-in-Wait : goal.returns-in-Wait
returns-in-Wait g c =
    subst (Comes _ (answering_once g.X.Extra.added c.args.task c.args.asked c.args.body.now c.wait.new.body)
    (ported c.args.wire.now c.args.body.now.events) (ported c.args.wire.now c.wait.new.body.events)) (sym c.or_stop.ensures)
    (rw c.in-Wait.is (once_alone g.X.Extra.added g.W.Wire.outside c.args.task _ c.args.body.now c.wait.new.body c.args.wire.now c.wait.ensures.events
    c.wait.result c.wait.ensures.answers))

-- the question of an answer, as it is passed on
outside_is : (asked : Asked) (n m : ℤ) (bytes : List ℕ) (key : ℕ) → asked ≡ Outside n bytes key → m ≡ n → asked ≡ Outside m bytes key
outside_is asked n m bytes key is same = is ∙ ap (λ k. Outside k bytes key) (sym same)

pub ask_outside-requires : goal.ask_outside-requires
ask_outside-requires g c =
    let fits : SFits w64 c.in-Outside.code = search rules in
    subst (λ k. Possible g.X.Extra.added (HasAnswer c.args.task k) c.args.body.now)
    (outside_is c.args.asked c.in-Outside.code _ c.in-Outside.bytes c.in-Outside.key c.in-Outside.is (to_z-of_z w64 c.in-Outside.code fits))
    c.requires

pub returns-in-Outside : goal.returns-in-Outside
returns-in-Outside g c =
    let fits : SFits w64 c.in-Outside.code = search rules in
    subst (λ k. Comes g.W.Wire.outside
    (answering_once g.X.Extra.added c.args.task k c.args.body.now c.ask_outside.new.body) (ported c.args.wire.now c.args.body.now.events)
    (ported c.ask_outside.new.wire c.ask_outside.new.body.events) c.ask_outside.result)
    (sym (outside_is c.args.asked c.in-Outside.code _ c.in-Outside.bytes c.in-Outside.key c.in-Outside.is
    (to_z-of_z w64 c.in-Outside.code fits))) c.ask_outside.ensures
