use Rattle.std.proofs.Common.{List, [], ◌∷◌, ◌++◌, Some, ap, refl, subst, ◌∙◌}
use Rattle.model_value.specs.Value.{Value}
use Rattle.aio_gen.specs.Gens.{GenStandsFor}
use Rattle.aio_body.specs.declared.resume_point.Slot.{Slot}
use Rattle.aio_body.specs.declared.resume_point.ResumePoint.TheVariants.{Asked}
use Rattle.aio_body.proofs.run_state.RunState.hold.Goals as goal

pub returns : goal.returns
returns g c =
    let old = c.args.self.now in
    let coroutine = c.in_ok-coroutine.coroutine in
    record {
      slot = record { coroutine = Some coroutine; resume_point = Asked };
      frame = refl;
      slots = c.in_ok-push.ensures.items ∙ ap (λ (slot : Slot). old.slots.items ++ slot ∷ []) c.starting.ensures;
      resume_point = refl;
      waits = λ program is.
          subst (λ (values : List Value). GenStandsFor program old.code c.args.coroutine values [] coroutine)
          (c.in_ok-arguments.ensures ∙ c.items.ensures) (c.in_ok-coroutine.ensures program is);
    }
