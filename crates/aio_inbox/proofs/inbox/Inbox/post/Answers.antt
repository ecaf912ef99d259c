use Rattle.std.proofs.Common.{refl, ◌∙◌, arith}
use Rattle.atomic_table.specs.Seated.{TableId}
use Rattle.aio_inbox.proofs.Owed.{may_post}
use Rattle.aio_inbox.proofs.Ends.{posted_more}
use Rattle.aio_inbox.proofs.inbox.Inbox.post.Goals as goal

pub push_as-requires-clause-rule : goal.push_as-requires-clause-rule
push_as-requires-clause-rule g c =
    let room = c.if-poster-ge-MOST.false in
    may_post _ _ _ _ _ _ c.args.self.now.sized c.poster.invariant.1 (omega (arith, room)) refl refl

pub invariant_of-poster : goal.invariant_of-poster
invariant_of-poster g c =
    let is = c.poster.invariant in
    let same = c.push_as.ensures.queue in
    let room = c.if-poster-ge-MOST.false in
    ((◌∙◌ {A = TableId} same.0 is.0.0, same.2 ∙ is.0.1), (posted_more _ _ _ _ _ is.1 (omega (arith, room)) c.in-Ok.ensures.rule).1)
