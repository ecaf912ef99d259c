use Rattle.std.proofs.Common.{Some, None, slice_get, ◌∙◌, sym, ap}
use Rattle.std.specs.Option.{option_copied}
use Rattle.model_loop.specs.Futures.{outcome_at}
use Rattle.aio_core.proofs.Stopping.{main_goes, over_so, some_goes}
use Rattle.aio_core.proofs.turns.finish.Goals as goal
use Rattle.aio_core.proofs.turns.finish.Goals.{then-not-body-via-then-not-body, then-not-body-via-else-not-body+then-some_task_lives}

pub some_task_lives-requires : goal.some_task_lives-requires
some_task_lives-requires g c = c.requires

pub returns-then-not-body : goal.returns-then-not-body
returns-then-not-body g c = elim c.then-not-body.branch [
  | then-not-body-via-then-not-body w ↦ λ d s h. main_goes d c.args.body.now s h w.if-not-body.true
  | then-not-body-via-else-not-body+then-some_task_lives w ↦
      λ d s h. some_goes d c.args.body.now s h (sym w.if-some_task_lives.true ∙ w.some_task_lives.ensures d s h)
]

pub returns-in_ok-copy_of_outcome-in-Some : goal.returns-in_ok-copy_of_outcome-in-Some
returns-in_ok-copy_of_outcome-in-Some g c =
    let body = c.args.body.now in
    λ d s h. over_so d body s h (Some c.in_ok-copy_of_outcome-in-Some.field-0) c.if-not-body.false
    (sym c.if-some_task_lives.false ∙ c.some_task_lives.ensures d s h)
    (ap (λ id. outcome_at (slice_get body.parts.futures id)) (sym c.future_of.ensures) ∙ sym c.outcome.ensures ∙ ap option_copied c.in-Some.is
    ∙ ap Some (sym c.in_ok-copy_of_outcome-in-Some.ensures))

pub returns-in-None : goal.returns-in-None
returns-in-None g c =
    let body = c.args.body.now in
    λ d s h. over_so d body s h None c.if-not-body.false (sym c.if-some_task_lives.false ∙ c.some_task_lives.ensures d s h)
    (ap (λ id. outcome_at (slice_get body.parts.futures id)) (sym c.future_of.ensures) ∙ sym c.outcome.ensures ∙ ap option_copied c.in-None.is)
