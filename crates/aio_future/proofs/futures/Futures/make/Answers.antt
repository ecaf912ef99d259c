use Rattle.std.proofs.Common.{refl, ap, sym, ◌∙◌}
use Rattle.model_loop.specs.Parts as plain
use Rattle.aio_future.specs.Awaited.{alone_after}
use Rattle.aio_future.proofs.TableLemmas.{length-table}
use Rattle.aio_future.proofs.Puts.{made}
use Rattle.aio_future.proofs.Unawaited.{made_keeps}
use Rattle.aio_future.proofs.futures.Futures.make.Goals as goal

pub returns-clause-number : goal.returns-clause-number
returns-clause-number c = rw (← c.self.view_is, length-table) refl

pub returns-clause-after : goal.returns-clause-after
returns-clause-after c =
    made c.self.inside.held.entries c.insert.new.self.entries c.self.inside.next c.in-Some.next c.args.self.now c.in_ok-future.future _
    c.self.view_is c.in-Some.ensures.1 c.in_ok-future.ensures c.in_ok-insert.ensures.updates.0

pub invariant_of-self-2 : goal.invariant_of-self-2
invariant_of-self-2 c =
    let next = c.in-Some.next in
    let alone = c.self.inside.alone in
    let rises = c.alone_after-alone.ensures ∙ ap (λ (f : plain.Future). alone_after f.kind next alone) (sym c.in_ok-future.ensures) in
    made_keeps c.self.inside.held.entries c.insert.new.self.entries c.self.inside.next next alone c.alone_after-alone.result
    c.self.inside.over c.in_ok-future.future c.self.invariant c.in-Some.ensures.1 rises c.in_ok-insert.ensures.updates.0
