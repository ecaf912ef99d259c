use Rattle.std.proofs.Common.{ap, ◌∙◌}
use Rattle.model_loop.specs.Parts as plain
use Rattle.algorithm_parts.specs.Shape.{members_of}
use Rattle.law_cancel.proofs.Effects.{done_as}
use Rattle.aio_ready.specs.Queue as queue
use Rattle.aio_future.proofs.Puts.{some_lent, open_there, pending_held, wrote, was}
use Rattle.aio_future.proofs.Unawaited.{wrote_keeps}
use Rattle.aio_future.proofs.futures.Futures.end.Goals as goal

pub unwrap-future-requires : goal.unwrap-future-requires
unwrap-future-requires c =
    some_lent c.get_mut.result _ c.get_mut.ensures.value
    (pending_held c.self.inside.held.entries c.self.inside.next c.args.id c.args.self.now c.self.view_is c.requires)

pub end-requires : goal.end-requires
end-requires c =
    open_there c.self.inside.held.entries c.self.inside.next c.args.id c.args.self.now c.get_mut.result c.unwrap-future.result
    c.self.invariant.0 c.self.view_is c.get_mut.ensures.value c.unwrap-future.ensures c.requires

pub returns-clause-after : goal.returns-clause-after
returns-clause-after c = λ future found.
    wrote c.self.inside.held.entries (c.get_mut.follows.lender c.end.new.self).entries c.self.inside.next c.args.id c.args.self.now
    c.get_mut.result c.unwrap-future.result c.end.new.self (done_as c.args.outcome)
    c.self.invariant.0 c.self.view_is c.get_mut.ensures.value c.unwrap-future.ensures
    (λ some. ((c.get_mut.follows.holds c.end.new.self).3 some).0) c.end.ensures.after future found

pub returns-clause-called : goal.returns-clause-called
returns-clause-called c = λ future found.
    c.end.ensures.called
    ∙ ap (λ (f : plain.Future). queue.soon_all f.callbacks c.args.ready.now)
    (was c.self.inside.held.entries c.self.inside.next c.args.id c.args.self.now c.get_mut.result c.unwrap-future.result
    c.self.invariant.0 c.self.view_is c.get_mut.ensures.value c.unwrap-future.ensures future found)

pub invariant_of-self : goal.invariant_of-self
invariant_of-self c =
    wrote_keeps c.self.inside.held.entries (c.get_mut.follows.lender c.end.new.self).entries c.self.inside.next c.args.id
    c.self.inside.alone c.self.inside.over c.get_mut.result c.unwrap-future.result c.end.new.self c.self.invariant
    c.get_mut.ensures.value c.unwrap-future.ensures (λ some. ((c.get_mut.follows.holds c.end.new.self).3 some).0)
    (ap (λ (f : plain.Future). members_of f.kind) c.end.ensures.after)
