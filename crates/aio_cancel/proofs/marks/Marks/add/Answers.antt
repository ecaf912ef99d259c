use Rattle.std.proofs.Common.{◌≡◌, ◌<◌, sym, ◌∙◌, true, false, Bool, arith, refl}
use Rattle.std.specs.Result.{is_ok}
use Rattle.std.specs.Vec.{vec_len, vec_capacity}
use Rattle.aio_cancel.proofs.MarkedLemmas.{room_left, added}
use Rattle.aio_cancel.proofs.marks.Marks.add.Goals as goal

clash : (b : Bool) → b ≡ true → false ≡ b → ⊥
clash b t f = absurd (cc)

pub prove-unreachable-requires : goal.prove-unreachable-requires
prove-unreachable-requires c =
    let room =
    room_left c.self.inside.marks.items c.self.inside.visited.items _ c.args.task c.args.self.now c.self.view_is
    c.self.invariant c.requires.there c.requires.unseen in
    let same = c.self.inside.visited.ok.0 in
    let fits : vec_len c.self.inside.visited < vec_capacity c.self.inside.visited = omega arith in
    clash (is_ok c.push-pushed.result) (c.push-pushed.ensures.succeeds fits) c.if-prove.ensures.value

pub invariant_of-self : goal.invariant_of-self
invariant_of-self c =
    let ok : is_ok c.push-pushed.result ≡ true = sym c.if-prove.ensures.value in
    added c.self.inside.marks.items c.self.inside.visited.items c.push-pushed.new.self.items (vec_capacity c.self.inside.visited)
    (vec_capacity c.push-pushed.new.self) c.args.task c.args.self.now c.self.view_is c.self.invariant c.requires.there c.requires.unseen
    (c.push-pushed.ensures.items ∙ rw ok refl) c.push-pushed.ensures.capacity
