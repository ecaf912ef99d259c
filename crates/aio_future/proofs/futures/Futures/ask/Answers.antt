use Rattle.std.proofs.Common.{ap, ◌∙◌}
use Rattle.model_loop.specs.Parts as plain
use Rattle.model_loop.specs.Futures.{asked_kind}
use Rattle.algorithm_parts.specs.Shape.{members_of}
use Rattle.aio_future.proofs.Puts.{ask_released, wrote}
use Rattle.aio_future.proofs.Unawaited.{asked_members, wrote_keeps}
use Rattle.aio_future.proofs.futures.Futures.ask.Goals as goal

pub returns : goal.returns
returns c = λ future found.
    wrote c.self.inside.held.entries (c.get_mut.follows.lender c.ask.new.self).entries c.self.inside.next c.args.id c.args.self.now
    c.get_mut.result c.in-Some.future c.ask.new.self (λ (f : plain.Future). record f { kind = asked_kind f.kind })
    c.self.invariant.0 c.self.view_is c.get_mut.ensures.value c.in-Some.is
    (λ some. ((c.get_mut.follows.holds c.ask.new.self).3 some).0) c.ask.ensures future found

pub returns-in_default : goal.returns-in_default
returns-in_default c = λ future found.
    let same = c.get_mut.follows.holds-at-none in
    rw same
    (c.self.view_is ∙ ask_released c.self.inside.held.entries c.self.inside.next c.args.id c.args.self.now c.self.view_is
    c.in_default.ensures.value future found)

pub invariant_of-self-2 : goal.invariant_of-self-2
invariant_of-self-2 c =
    wrote_keeps c.self.inside.held.entries (c.get_mut.follows.lender c.ask.new.self).entries c.self.inside.next c.args.id
    c.self.inside.alone c.self.inside.over c.get_mut.result c.in-Some.future c.ask.new.self c.self.invariant
    c.get_mut.ensures.value c.in-Some.is (λ some. ((c.get_mut.follows.holds c.ask.new.self).3 some).0)
    (ap (λ (f : plain.Future). members_of f.kind) c.ask.ensures ∙ asked_members c.in-Some.future.now.kind)
