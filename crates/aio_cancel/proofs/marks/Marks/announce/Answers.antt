use Rattle.std.proofs.Common.{◌+◌, ◌≤◌, length, arith}
use Rattle.std.specs.Vec.{vec_capacity}
use Rattle.aio_cancel.proofs.MarkedLemmas.{announced}
use Rattle.aio_cancel.proofs.marks.Marks.announce.Goals as goal

pub invariant_of-self-2 : goal.invariant_of-self-2
invariant_of-self-2 c =
    let r = c.in_ok-reserve.ensures.ok in
    let l = c.in_ok-reserve.ensures.len in
    let a = c.len.ensures in
    let b = c.len-2.ensures in
    let same = c.self.inside.visited.ok.0 in
    let marks = c.self.inside.marks.ok.0 in
    let count = c.self.invariant.count in
    let room : length c.self.inside.marks.items + 1 ≤ vec_capacity c.reserve.new.self = omega arith in
    announced c.self.inside.marks.items c.push.new.self.items c.self.inside.visited.items c.reserve.new.self.items
    (vec_capacity c.self.inside.visited) (vec_capacity c.reserve.new.self) c.self.invariant c.in_ok-push.ensures.items c.in_ok-reserve.ensures.items room
