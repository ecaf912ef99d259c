use Rattle.std.proofs.Common.{◌++◌, ◌∷◌, [], ap}
use Rattle.model_loop.specs.Parts as plain
use Rattle.algorithm_parts.specs.Shape.{members_of}
use Rattle.aio_future.proofs.Puts.{some_lent, open_there, pending_held, wrote}
use Rattle.aio_future.proofs.Unawaited.{wrote_keeps}
use Rattle.aio_future.proofs.futures.Futures.add.Goals as goal

pub unwrap-future-requires : goal.unwrap-future-requires
unwrap-future-requires c =
    some_lent c.get_mut.result _ c.get_mut.ensures.value
    (pending_held c.self.inside.held.entries c.self.inside.next c.args.id c.args.self.now c.self.view_is c.requires)

pub add-requires : goal.add-requires
add-requires c =
    open_there c.self.inside.held.entries c.self.inside.next c.args.id c.args.self.now c.get_mut.result c.unwrap-future.result
    c.self.invariant.0 c.self.view_is c.get_mut.ensures.value c.unwrap-future.ensures c.requires

pub returns : goal.returns
returns c = λ future found.
    wrote c.self.inside.held.entries (c.get_mut.follows.lender c.add.new.self).entries c.self.inside.next c.args.id c.args.self.now
    c.get_mut.result c.unwrap-future.result c.add.new.self
    (λ (f : plain.Future). record f { callbacks = f.callbacks ++ c.args.action ∷ [] })
    c.self.invariant.0 c.self.view_is c.get_mut.ensures.value c.unwrap-future.ensures
    (λ some. ((c.get_mut.follows.holds c.add.new.self).3 some).0) c.add.ensures future found

pub invariant_of-self : goal.invariant_of-self
invariant_of-self c =
    wrote_keeps c.self.inside.held.entries (c.get_mut.follows.lender c.add.new.self).entries c.self.inside.next c.args.id
    c.self.inside.alone c.self.inside.over c.get_mut.result c.unwrap-future.result c.add.new.self c.self.invariant
    c.get_mut.ensures.value c.unwrap-future.ensures (λ some. ((c.get_mut.follows.holds c.add.new.self).3 some).0)
    (ap (λ (f : plain.Future). members_of f.kind) c.add.ensures)
