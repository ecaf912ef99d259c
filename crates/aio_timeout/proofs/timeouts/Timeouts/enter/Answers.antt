use Rattle.std.proofs.Common.{◌≡◌, ℕ, List, [], ◌∷◌, ◌++◌, Option, true, length, option_map, refl, sym, ap, subst, ◌∙◌, arith}
use Rattle.std.specs.Result.{is_ok}
use Rattle.model_loop.specs.Handles.{deadline}
use Rattle.model_loop.specs.Timeouts.{enter_timeout}
use Rattle.aio_timeout.specs.declared.state.TimeoutState.TheVariants.{Active}
use Rattle.aio_timeout.specs.declared.timeout.Timeout.{Timeout}
use Rattle.aio_timeout.specs.Kept.{KeepsTimeouts, KeptTimeouts}
use Rattle.aio_timeout.specs.Scheduled.{Made, fires_if, tag_if}
use Rattle.aio_timeout.proofs.Keeping.{entered}
use Rattle.aio_timeout.proofs.timeouts.Timeouts.enter.Goals as goal

pub returns-clause-after : goal.returns-clause-after
returns-clause-after c = λ t l keeps.
    let items = c.self.inside.items.items in
    let v = c.args.parts.now in
    let w = c.schedule.new.parts in
    let handler = c.in_ok-handler.handler in
    let new : Timeout = record { state = Active; task = c.args.task; stored = c.cancelling-stored.result; handler = handler } in
    let ok : is_ok c.push-pushed.result ≡ true = sym c.if-prove.ensures.value in
    let pushed : c.push-pushed.new.self.items ≡ items ++ new ∷ [] = rw (c.push-pushed.ensures.items, ok, c.in_ok-reserve.ensures.items) refl in
    let long : c.len.result ≡ length items = let n = c.len.ensures in let o = c.self.inside.items.ok.0 in omega (arith, n, o) in
    let number : c.in-Ok.id ≡ length items = c.in-Ok.ensures.1 ∙ long in
    let when : c.deadline_after-when.result ≡ option_map (deadline v.time) c.args.delay =
    c.deadline_after-when.ensures ∙ ap (λ (time : ℕ). option_map (deadline time) c.args.delay) c.now.ensures in
    subst (λ (its : List Timeout). KeptTimeouts t l its w (enter_timeout c.args.task c.args.delay l)) (sym pushed)
    (entered t l items v w c.args.task c.cancelling-stored.result c.args.delay handler
    (subst (λ (its : List Timeout). KeepsTimeouts t its v l) (sym c.self.view_is) keeps) c.cancelling-stored.ensures
    (λ u p k.
    subst (λ (id : ℕ). Made u p handler w (fires_if id (option_map (deadline v.time) c.args.delay) p)
    (tag_if (option_map (deadline v.time) c.args.delay) p)) number
    (subst (λ (o : Option ℕ). Made u p handler w (fires_if c.in-Ok.id o p) (tag_if o p)) when (c.in_ok-handler.ensures.after u p k))))
