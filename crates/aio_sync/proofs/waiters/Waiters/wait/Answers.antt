use Rattle.std.proofs.Common.{ℕ, ◌<◌, ◌++◌, ◌∷◌, [], List, length, ap, sym, subst, ◌∙◌}
use Rattle.std.specs.List.{AllByRecursion as Each}
use Rattle.aio_sync.proofs.Resolved.{free_below}
use Rattle.aio_sync.proofs.Rising.{insert_last}
use Rattle.aio_sync.proofs.waiters.Waiters.wait.Goals as goal

pub returns-clause-after : goal.returns-clause-after
returns-clause-after c =
    let futures = c.args.parts.now.futures in
    let number = c.in_ok-on.ensures.number in
    let below : Each (λ x. x < c.in_ok-on.on) c.self.inside.those.keys =
    subst (λ n. Each (λ x. x < n) c.self.inside.those.keys) (sym number)
    (subst (Each (λ x. x < length futures)) (sym c.self.view_is) (free_below futures c.args.self.now c.requires.free)) in
    c.in_ok-insert.ensures.keys ∙ insert_last c.self.inside.those.keys c.in_ok-on.on below
    ∙ ap (λ (xs : List ℕ). xs ++ c.in_ok-on.on ∷ []) c.self.view_is ∙ ap (λ (n : ℕ). c.args.self.now ++ n ∷ []) number
