use Rattle.std.proofs.Common.{refl, sym, subst}
use Rattle.std.proofs.lemmas.Result.{IfOk-weaker}
use Rattle.aio_extra.specs.Called.{SaysAs}
use Rattle.aio_extra.specs.declared.asked.Asked.TheVariants.{Raise}
use Rattle.model_machine.specs.Extra as extra
use Rattle.model_value.specs.Input.{Input}
use Rattle.try_loop.specs.Asker.{SaysIt, asker, heard_by, only_says, woken_by}
use Rattle.try_loop.proofs.Asking.{heard_steps, says_it}
use Rattle.try_loop.proofs.asker.AskerExtra.wake.Goals as goal

pub returns-in-Send : goal.returns-in-Send
returns-in-Send c =
    let x = c.args.self.now in
    let y = c.hear-heard.new.self in
    let v = c.args._parts.now in
    let key = c.args.key in
    let value = c.in-Send.value in
    IfOk-weaker c.hear-heard.result _ _ (λ asked e t s h known made.
    subst (λ (it : Input). SaysAs asker t s v v y asked (woken_by key it s.extra)) (sym c.in-Send.is)
    (says_it v.running t s x y v h asked (heard_by key value s.extra) (heard_steps key value s.extra)
    (subst (λ kept. SaysIt asked y.left.items (heard_by key value kept)) h.stands e))) c.hear-heard.ensures

pub returns-in-Throw : goal.returns-in-Throw
returns-in-Throw c = λ t s h known made.
    let x = c.args.self.now in
    let v = c.args._parts.now in
    let fault = c.in-Throw.fault in
    subst (λ (it : Input). SaysAs asker t s v v x (Raise fault) (woken_by c.args.key it s.extra)) (sym c.in-Throw.is)
    (says_it v.running t s x x v h (Raise fault) (only_says (extra.Raises fault) s.extra) refl (record { answer = refl; left = h.stands }))
