use Rattle.std.proofs.Common.{◌≡◌, ◌+◌, ◌<◌, ℕ, Bool, true, false, length, refl, sym, ◌∙◌, arith, append-nil, if◌then◌else◌}
use Rattle.std.specs.Result.{is_ok}
use Rattle.std.specs.Vec.{vec_capacity, vec_len}
use Rattle.aio_group.proofs.Listing.{remove_only, has_seen-keys}
use Rattle.aio_group.proofs.group.Group.hear_of.Goals as goal

clash : (b : Bool) → b ≡ true → false ≡ b → ⊥
clash b t f = absurd (cc)

fewer : (was : Bool) (after before : ℕ) → was ≡ true → after + (if was then 1 else 0) ≡ before → after + 1 ≡ before
fewer true after before e h = h
fewer false after before e h = absurd (cc)

pub prove-unreachable-requires : goal.prove-unreachable-requires
prove-unreachable-requires c =
    let child = rw (← c.self.view_is) at c.requires in
    let was : c.remove-was_there.result ≡ true =
    c.remove-was_there.ensures.test ∙ has_seen-keys c.self.inside.children.keys c.args.task ∙ child in
    let left = fewer c.remove-was_there.result (length c.remove-was_there.new.self.keys) (length c.self.inside.children.keys) was
    c.remove-was_there.ensures.len in
    let room = c.self.invariant.0 in
    let same = c.self.inside.failed.ok.0 in
    let fits : vec_len c.self.inside.failed < vec_capacity c.self.inside.failed = omega (arith, left, room, same) in
    clash (is_ok c.push-pushed.result) (c.push-pushed.ensures.succeeds fits) c.if-prove.ensures.value

pub invariant_of-self : goal.invariant_of-self
invariant_of-self c =
    let child = rw (← c.self.view_is) at c.requires in
    let was : c.remove-was_there.result ≡ true =
    c.remove-was_there.ensures.test ∙ has_seen-keys c.self.inside.children.keys c.args.task ∙ child in
    let left = fewer c.remove-was_there.result (length c.remove-was_there.new.self.keys) (length c.self.inside.children.keys) was
    c.remove-was_there.ensures.len in
    let room = c.self.invariant.0 in
    let was_long = c.self.inside.failed.ok.0 in
    let is_long = c.push-pushed.new.self.ok.0 in
    let longer = c.push-pushed.ensures.upper_bound in
    let wider = c.push-pushed.ensures.capacity in
    (omega (arith, left, room, was_long, is_long, longer, wider), c.remove-was_there.ensures.ordered)

pub returns-then-failed : goal.returns-then-failed
returns-then-failed c =
    let ok : is_ok c.push-pushed.result ≡ true = sym c.if-prove.ensures.value in
    rw (
      c.remove-was_there.ensures.keys ∙ remove_only c.self.inside.children.keys c.args.task c.self.invariant.1,
      c.push-pushed.ensures.items,
      ok,
      c.if-failed.true,
      ← c.self.view_is,
    ) refl

pub returns-else-failed : goal.returns-else-failed
returns-else-failed c =
    rw (
      c.remove-was_there.ensures.keys ∙ remove_only c.self.inside.children.keys c.args.task c.self.invariant.1,
      c.if-failed.false,
      ← c.self.view_is,
      append-nil c.self.inside.failed.items,
    ) refl
