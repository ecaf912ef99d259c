use Rattle.std.proofs.Common.{◌≡◌, ◌<◌, ℕ, true, false, List, Option, Some, None, length, refl, sym, subst, ◌∙◌}
use Rattle.model_loop.specs.Timeouts.{is_active, reschedule}
use Rattle.aio_timeout.specs.declared.handler.TimeoutHandler.{TimeoutHandler}
use Rattle.aio_timeout.specs.declared.timeout.Timeout.{Timeout}
use Rattle.aio_timeout.specs.States.{refusal, state_of}
use Rattle.aio_timeout.specs.Kept.{AreTimeouts, KeepsTimeouts, KeptTimeouts, StepsNone, handler_at}
use Rattle.aio_timeout.specs.Scheduled.{Made, fires_if, tag_if}
use Rattle.aio_timeout.proofs.Keeping.{handler_is, refused_same, rescheduled, told_refusal}
use Rattle.aio_timeout.proofs.timeouts.Timeouts.reschedule.Goals as goal

pub returns-then-not-is_active-clause-answer : goal.returns-then-not-is_active-clause-answer
returns-then-not-is_active-clause-answer c = λ t l are.
    let state = state_of c.index-timeout.result.now.state in
    let inactive : is_active state ≡ false = sym c.is_active.ensures ∙ c.if-not-is_active.true in
    let here : Some state ≡ refusal state = rw inactive refl in
    here
    ∙ told_refusal t l c.self.inside.items.items c.args.id c.index-timeout.result.now
    (subst (λ (its : List Timeout). AreTimeouts t l.parts its l.timeouts) (sym c.self.view_is) are)
    (subst (λ (its : List Timeout). c.args.id < length its) (sym c.self.view_is) c.requires.live) c.index-timeout.ensures

pub returns-then-not-is_active-clause-after : goal.returns-then-not-is_active-clause-after
returns-then-not-is_active-clause-after c = λ t l keeps.
    let items = c.self.inside.items.items in
    let v = c.args.parts.now in
    let inactive : is_active (state_of c.index-timeout.result.now.state) ≡ false = sym c.is_active.ensures ∙ c.if-not-is_active.true in
    subst (λ (its : List Timeout). KeptTimeouts t l its v (reschedule c.args.id c.args.when l)) c.self.view_is
    (refused_same t l items v c.args.id c.index-timeout.result.now
    (subst (λ (its : List Timeout). KeepsTimeouts t its v l) (sym c.self.view_is) keeps)
    (subst (λ (its : List Timeout). c.args.id < length its) (sym c.self.view_is) c.requires.live) c.index-timeout.ensures
    c.args.when inactive)

pub give_up-requires-clause-steps_none : goal.give_up-requires-clause-steps_none
give_up-requires-clause-steps_none c =
    let items = c.self.inside.items.items in
    let within = subst (λ (its : List Timeout). c.args.id < length its) (sym c.self.view_is) c.requires.live in
    let before = subst (λ (its : List Timeout). StepsNone c.args.parts.now.queue (handler_at c.args.id its)) (sym c.self.view_is) c.requires.steps_none in
    c.in_ok-handler.ensures.steps c.index-timeout.result.now.handler
    (subst (λ (it : Option TimeoutHandler). StepsNone c.args.parts.now.queue it)
    (handler_is items c.args.id c.index-timeout.result.now within c.index-timeout.ensures) before)

pub returns-clause-answer : goal.returns-clause-answer
returns-clause-answer c = λ t l are.
    let state = state_of c.index-timeout.result.now.state in
    let active : is_active state ≡ true = sym c.is_active.ensures ∙ c.if-not-is_active.false in
    let here : None ≡ refusal state = rw active refl in
    here
    ∙ told_refusal t l c.self.inside.items.items c.args.id c.index-timeout.result.now
    (subst (λ (its : List Timeout). AreTimeouts t l.parts its l.timeouts) (sym c.self.view_is) are)
    (subst (λ (its : List Timeout). c.args.id < length its) (sym c.self.view_is) c.requires.live) c.index-timeout.ensures

pub returns-clause-after : goal.returns-clause-after
returns-clause-after c = λ t l keeps.
    let items = c.self.inside.items.items in
    let v = c.args.parts.now in
    let w = c.schedule.new.parts in
    let handler = c.in_ok-handler.handler in
    let active : is_active (state_of c.index-timeout.result.now.state) ≡ true = sym c.is_active.ensures ∙ c.if-not-is_active.false in
    rescheduled t l items v c.args.id c.index-timeout.result.now
    (subst (λ (its : List Timeout). KeepsTimeouts t its v l) (sym c.self.view_is) keeps)
    (subst (λ (its : List Timeout). c.args.id < length its) (sym c.self.view_is) c.requires.live) c.index-timeout.ensures
    w c.give_up.new.parts handler c.args.when active
    (λ u p k.
    subst (λ (o : Option ℕ). Made u p handler w (fires_if c.args.id o p) (tag_if o p)) c.moment_at.ensures
    (c.in_ok-handler.ensures.after u p k))
    c.give_up.ensures.after
