use Rattle.std.proofs.Common.{◌≡◌, ◌<◌, ◌&&◌, ℕ, Bool, true, false, ap, sym, subst, ◌∙◌, arith, refl}
use Rattle.model_loop.specs.Parts.{Profile, profile_named}
use Rattle.model_loop.specs.Tasks.{cancelling, uncancel}
use Rattle.aio_task.specs.View.{View, parts}
use Rattle.aio_group.specs.Exits.{taken_back}
use Rattle.aio_group.specs.GoesOn.{Moves}
use Rattle.aio_group.specs.Stands.{GroupSteps}
use Rattle.aio_group.proofs.Asking.{moves_by}
use Rattle.aio_group.proofs.Going.{uncancel_on}
use Rattle.aio_group.proofs.Leaving.{take_back_stays, take_back_steps, take_back_drops}
use Rattle.aio_group.proofs.exits.take_back.Goals as goal

uncancel_moves : (v w : View) (profile : Profile) (task : ℕ) → parts w ≡ uncancel profile task (parts v) → w ≡ record v { tasks = w.tasks } → Moves v w
uncancel_moves v w profile task e b =
    moves_by v w (uncancel profile task (parts v)) e (uncancel_on profile task (parts v))
    (b ∙ ap (λ (y : View). record v { queue = y.queue; futures = y.futures; tasks = w.tasks }) (sym b))

both : (a b : Bool) → a ≡ true → b ≡ true → (a && b) ≡ true
both true true e f = refl
both true false e f = cc
both false b e f = cc

not_now : (a b : Bool) → a ≡ false → (a && b) ≡ false
not_now false b e = refl
not_now true b e = cc

not_asked : (a b : Bool) → b ≡ false → (a && b) ≡ false
not_asked true b e = e
not_asked false b e = refl

pub returns-then-not-now-clause-steps : goal.returns-then-not-now-clause-steps
returns-then-not-now-clause-steps c =
    take_back_stays (profile_named c.args.parts.now.profile) c.args.now c.args.group.now c.args.parts.now
    (not_now c.args.now c.args.group.now.requested c.if-not-now.true)

pub returns-then-not-has_requested-clause-steps : goal.returns-then-not-has_requested-clause-steps
returns-then-not-has_requested-clause-steps c =
    take_back_stays (profile_named c.args.parts.now.profile) c.args.now c.args.group.now c.args.parts.now
    (not_asked c.args.now c.args.group.now.requested (sym c.if-not-has_requested.ensures))

pub returns-then-left-eq0-clause-moves : goal.returns-then-left-eq0-clause-moves
returns-then-left-eq0-clause-moves c =
    uncancel_moves c.args.parts.now c.uncancel-left.new.self (profile_named c.args.parts.now.profile) c.parent.result c.uncancel-left.ensures.after
    c.uncancel-left.ensures.frame

pub returns-then-left-eq0-clause-steps : goal.returns-then-left-eq0-clause-steps
returns-then-left-eq0-clause-steps c =
    let a = c.args.group.now in
    let v = c.args.parts.now in
    let w = c.uncancel-left.new.self in
    let profile = profile_named v.profile in
    let e : parts w ≡ uncancel profile a.parent (parts v) = c.uncancel-left.ensures.after ∙ ap (λ i. uncancel profile i (parts v)) c.parent.ensures in
    let none : cancelling (parts w) a.parent ≡ 0 =
    sym (ap (cancelling (parts w)) c.parent.ensures) ∙ sym c.uncancel-left.ensures.answer ∙ c.if-left-eq0.true in
    let due : (c.args.now && a.requested) ≡ true = both c.args.now a.requested c.if-not-now.false (sym c.if-not-has_requested.ensures) in
    subst (λ h. GroupSteps a v h w (taken_back profile c.args.now)) (sym c.drop_kept.ensures)
    (take_back_drops profile c.args.now a v w due e c.uncancel-left.ensures.frame none)

pub returns-else-left-eq0-clause-moves : goal.returns-else-left-eq0-clause-moves
returns-else-left-eq0-clause-moves c =
    uncancel_moves c.args.parts.now c.uncancel-left.new.self (profile_named c.args.parts.now.profile) c.parent.result c.uncancel-left.ensures.after
    c.uncancel-left.ensures.frame

pub returns-else-left-eq0-clause-steps : goal.returns-else-left-eq0-clause-steps
returns-else-left-eq0-clause-steps c =
    let a = c.args.group.now in
    let v = c.args.parts.now in
    let w = c.uncancel-left.new.self in
    let profile = profile_named v.profile in
    let e : parts w ≡ uncancel profile a.parent (parts v) = c.uncancel-left.ensures.after ∙ ap (λ i. uncancel profile i (parts v)) c.parent.ensures in
    let count : c.uncancel-left.result ≡ cancelling (parts w) a.parent =
    c.uncancel-left.ensures.answer ∙ ap (cancelling (parts w)) c.parent.ensures in
    let some : 0 < cancelling (parts w) a.parent = omega (arith, count, c.if-left-eq0.false) in
    let due : (c.args.now && a.requested) ≡ true = both c.args.now a.requested c.if-not-now.false (sym c.if-not-has_requested.ensures) in
    take_back_steps profile c.args.now a v w due e c.uncancel-left.ensures.frame some
