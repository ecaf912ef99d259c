use Rattle.std.proofs.Common.{◌≡◌, true, refl, subst, sym}
use Rattle.model_machine.specs.Sound.{ids_of, sends_made}
use Rattle.aio_extra.specs.Called.{SaysAs}
use Rattle.aio_serve.proofs.added.hear.Goals as goal

pub returns : goal.returns
returns g c = (
  c.in_ok-next.next,
  refl,
  record {
    frame = refl;
    says = λ t s h known made.
        subst (λ i. SaysAs g.X.Extra.added t s c.args.body.now.parts c.wake.new.parts c.wake.new.self c.in_ok-next.next
        (g.X.Extra.added.meaning.wake c.args.key i s)) c.in_ok-input.ensures
        (c.in_ok-next.ensures t s h known (subst (λ i. sends_made (ids_of s) i ≡ true) (sym c.in_ok-input.ensures) made));
  },
)
