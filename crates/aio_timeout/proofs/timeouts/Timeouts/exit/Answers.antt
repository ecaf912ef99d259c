use Rattle.std.proofs.Common.{◌≡◌, ◌<◌, ◌&&◌, Bool, true, false, List, length, nat_le, slice_set, sym, ap, subst, ◌∙◌}
use Rattle.model_loop.specs.Parts.{profile_named}
use Rattle.model_loop.specs.Timeouts.{exit_timeout}
use Rattle.aio_timeout.specs.declared.timeout.Timeout.{Timeout}
use Rattle.aio_timeout.specs.States.{is_expiring, state_of}
use Rattle.aio_timeout.specs.Kept.{KeepsTimeouts, KeptTimeouts}
use Rattle.aio_timeout.proofs.Keeping.{expired, expired_says, finished, finished_passes, given_up_at}
use Rattle.aio_timeout.proofs.timeouts.Timeouts.exit.Goals as goal

pub returns-then-not-expiring-clause-answer : goal.returns-then-not-expiring-clause-answer
returns-then-not-expiring-clause-answer c = λ t l keeps ruled.
    let items = c.self.inside.items.items in
    let v = c.args.parts.now in
    let early : is_expiring (state_of c.index-left.result.now.state) ≡ false = sym c.is_expiring-expiring.ensures ∙ c.if-not-expiring.true in
    sym (finished_passes t l items v c.args.id c.index-left.result.now
    (subst (λ (its : List Timeout). KeepsTimeouts t its v l) (sym c.self.view_is) keeps)
    (subst (λ (its : List Timeout). c.args.id < length its) (sym c.self.view_is) c.requires.live) c.index-left.ensures
    c.args.raised c.give_up.new.parts c.give_up.ensures.after early)

pub returns-then-not-expiring-clause-after : goal.returns-then-not-expiring-clause-after
returns-then-not-expiring-clause-after c = λ t l keeps ruled.
    let items = c.self.inside.items.items in
    let v = c.args.parts.now in
    let early : is_expiring (state_of c.index-left.result.now.state) ≡ false = sym c.is_expiring-expiring.ensures ∙ c.if-not-expiring.true in
    subst (λ (it : Timeout). KeptTimeouts t l (slice_set items c.args.id it) c.give_up.new.parts (exit_timeout c.args.raised c.args.id l).loop)
    (sym c.ended.ensures)
    (finished t l items v c.args.id c.index-left.result.now
    (subst (λ (its : List Timeout). KeepsTimeouts t its v l) (sym c.self.view_is) keeps)
    (subst (λ (its : List Timeout). c.args.id < length its) (sym c.self.view_is) c.requires.live) c.index-left.ensures
    c.args.raised c.give_up.new.parts c.give_up.ensures.after early)

pub returns-then-not-expiring-clause-given_up : goal.returns-then-not-expiring-clause-given_up
returns-then-not-expiring-clause-given_up c =
    given_up_at c.self.inside.items.items c.args.id c.ended.result (ap (λ (it : Timeout). it.handler) c.ended.ensures)

pub returns-clause-answer : goal.returns-clause-answer
returns-clause-answer c = λ t l keeps ruled.
    let items = c.self.inside.items.items in
    let v = c.args.parts.now in
    let count = c.take_back-count.result in
    let late : is_expiring (state_of c.index-left.result.now.state) ≡ true = sym c.is_expiring-expiring.ensures ∙ c.if-not-expiring.false in
    c.exit_of.ensures ∙ ap (λ (b : Bool). b && c.is_cancelled.result) c.is_alone.ensures
    ∙ ap (λ (b : Bool). nat_le count c.index-left.result.now.stored && b) c.is_cancelled.ensures
    ∙ expired_says t l items v c.args.id c.index-left.result.now
    (subst (λ (its : List Timeout). KeepsTimeouts t its v l) (sym c.self.view_is) keeps)
    (subst (λ (its : List Timeout). c.args.id < length its) (sym c.self.view_is) c.requires.live) c.index-left.ensures
    c.args.raised c.give_up.new.parts c.give_up.ensures.after late (profile_named c.give_up.new.parts.profile)
    (ruled ∙ ap profile_named (sym c.give_up.ensures.step.profile)) c.take_back-count.new.parts c.take_back-count.ensures.after
    count c.take_back-count.ensures.answer

pub returns-clause-after : goal.returns-clause-after
returns-clause-after c = λ t l keeps ruled.
    let items = c.self.inside.items.items in
    let v = c.args.parts.now in
    let late : is_expiring (state_of c.index-left.result.now.state) ≡ true = sym c.is_expiring-expiring.ensures ∙ c.if-not-expiring.false in
    subst (λ (it : Timeout). KeptTimeouts t l (slice_set items c.args.id it) c.take_back-count.new.parts (exit_timeout c.args.raised c.args.id l).loop)
    (sym c.ended-2.ensures)
    (expired t l items v c.args.id c.index-left.result.now
    (subst (λ (its : List Timeout). KeepsTimeouts t its v l) (sym c.self.view_is) keeps)
    (subst (λ (its : List Timeout). c.args.id < length its) (sym c.self.view_is) c.requires.live) c.index-left.ensures
    c.args.raised c.give_up.new.parts c.give_up.ensures.after late (profile_named c.give_up.new.parts.profile)
    (ruled ∙ ap profile_named (sym c.give_up.ensures.step.profile)) c.take_back-count.new.parts c.take_back-count.ensures.after)

pub returns-clause-given_up : goal.returns-clause-given_up
returns-clause-given_up c =
    given_up_at c.self.inside.items.items c.args.id c.ended-2.result (ap (λ (it : Timeout). it.handler) c.ended-2.ensures)
