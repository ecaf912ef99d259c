use Rattle.std.proofs.Common.{[], ◌∷◌, ◌++◌, ◌∙◌, sym, subst}
use Rattle.model_says.specs.Tape.{Resumed}
use Rattle.aio_gen.specs.Gens.{StandsAt}
use Rattle.aio_gen.proofs.generator.Gen.resume.Goals as goal

pub returns-clause-said : goal.returns-clause-said
returns-clause-said c = λ program coroutine arguments tape is_code stands.
    c.in_ok-out.ensures.said program coroutine arguments tape is_code
    (subst (StandsAt program c.args.code.now coroutine arguments tape) (sym c.deref_mut.ensures.value ∙ sym c.in-Some.ensures.value) stands)

pub returns-clause-stands : goal.returns-clause-stands
returns-clause-stands c = λ program coroutine arguments tape is_code stands request same.
    let entry : Resumed = record { input = c.args.input; fresh = c.args.fresh } in
    subst (StandsAt program c.args.code.now coroutine arguments (tape ++ entry ∷ [])) (sym c.put.ensures)
    (c.in_ok-out.ensures.stands program coroutine arguments tape is_code
    (subst (StandsAt program c.args.code.now coroutine arguments tape) (sym c.deref_mut.ensures.value ∙ sym c.in-Some.ensures.value) stands) request same)
