use Rattle.std.proofs.Common.{sym, subst}
use Rattle.std.proofs.lemmas.Result.{IfOk-weaker}
use Rattle.model_value.specs.Input.{Input}
use Rattle.aio_extra.specs.Called.{SaysAs}
use Rattle.try_loop.specs.Wanted.{left_at}
use Rattle.try_loop.specs.NextTurn.{HearsAs, next_turn, woken_by}
use Rattle.try_loop.proofs.Served.{hears_so, idle}
use Rattle.try_loop.proofs.next_turn.NextTurnExtra.wake.Goals as goal

pub hear-heard-requires : goal.hear-heard-requires
hear-heard-requires c = idle c.args.parts.now.running c.args.self.now c.args.parts.now c.requires.serves

pub returns-in-Send : goal.returns-in-Send
returns-in-Send c =
    let x = c.args.self.now in
    let v = c.args.parts.now in
    let key = c.args.key in
    let value = c.in-Send.value in
    let y = c.hear-heard.new.self in
    let w = c.hear-heard.new.parts in
    IfOk-weaker c.hear-heard.result _ _ (λ asked e t s h known made.
    subst (λ (it : Input). SaysAs next_turn t s v w y asked (woken_by key it s)) (sym c.in-Send.is)
    (hears_so v.running t s x v h (left_at s.extra.left key) key value w y asked known
    (subst (λ left. HearsAs (left_at left key) key value asked x y v w) h.stands.left e))) c.hear-heard.ensures
