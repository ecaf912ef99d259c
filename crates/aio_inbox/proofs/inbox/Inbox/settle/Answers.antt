use Rattle.std.proofs.Common.{◌∙◌, subst}
use mathlib.Core.List.{IsPrefix}
use Rattle.model_pump.specs.Posts.{posts_of}
use Rattle.aio_inbox.specs.declared.view.PosterView.{PosterView}
use Rattle.aio_inbox.specs.Views.{known_of, taker_of}
use Rattle.aio_inbox.proofs.Owed.{may_take, may_settle}
use Rattle.aio_inbox.proofs.Ends.{settled_is, took_in}
use Rattle.aio_inbox.proofs.inbox.Inbox.settle.Goals as goal

pub absorb-requires-clause-rule : goal.absorb-requires-clause-rule
absorb-requires-clause-rule g c = may_settle _ _ _ _ _ _ c.taker.invariant.1.0 c.poster.invariant.1.0

pub learn_as-requires-clause-rule : goal.learn_as-requires-clause-rule
learn_as-requires-clause-rule g c =
    (may_take _ _ _ (settled_is _ (known_of c.poster.inside.pass) _ c.taker.invariant.1 c.absorb.ensures.rule)).1

pub invariant_of-taker : goal.invariant_of-taker
invariant_of-taker g c =
    let is = c.taker.invariant in
    let one = c.absorb.ensures.queue in
    let two = c.learn_as.ensures.queue in (
      (two.0.0 ∙ one.0 ∙ is.0.0, two.0.2 ∙ one.2 ∙ is.0.1),
      (took_in _ (known_of c.poster.inside.pass) _ _ is.1 c.absorb.ensures.rule two.1 c.learn_as.ensures.rule).1,
    )

pub returns-clause-begins : goal.returns-clause-begins
returns-clause-begins g c =
    let two = c.learn_as.ensures in
    (took_in _ (known_of c.poster.inside.pass) _ _ c.taker.invariant.1 c.absorb.ensures.rule two.queue.1 two.rule).1.1

pub returns-clause-ends : goal.returns-clause-ends
returns-clause-ends g c =
    let two = c.learn_as.ensures in
    (took_in _ (known_of c.poster.inside.pass) _ _ c.taker.invariant.1 c.absorb.ensures.rule two.queue.1 two.rule).1.2

pub returns-clause-prefix : goal.returns-clause-prefix
returns-clause-prefix g c =
    let two = c.learn_as.ensures in
    subst (λ (p : PosterView). IsPrefix (posts_of p.seat (taker_of (known_of c.learn_as.new.pass)).taken) p.posted) c.poster.view_is
    (took_in _ (known_of c.poster.inside.pass) _ _ c.taker.invariant.1 c.absorb.ensures.rule two.queue.1 two.rule).2
