use Rattle.std.proofs.Common.{◌≡◌, length, arith}
use Rattle.std.specs.Vec.{vec_capacity}
use Rattle.aio_cancel.proofs.MarkedLemmas.{begins_clear, cleared_one, all_cleared, empty_of}
use Rattle.aio_cancel.proofs.marks.Marks.clear.Goals as goal

pub loop-task-init : goal.loop-task-init
loop-task-init c =
    begins_clear c.self.inside.marks.items c.self.inside.visited.items (vec_capacity c.self.inside.visited) c.self.invariant

pub loop-task-preserved-in-Some-get_mut : goal.loop-task-preserved-in-Some-get_mut
loop-task-preserved-in-Some-get_mut c =
    cleared_one c.loop-task.self-inside.marks.items c.loop-task.self-inside.visited.items c.pop.new.self.items
    (vec_capacity c.loop-task.self-inside.visited) (vec_capacity c.pop.new.self) (length c.self.inside.marks.items)
    (vec_capacity c.self.inside.visited) c.in-Some.task c.loop-task.invariant c.in-Some.ensures.items c.in-Some.ensures.capacity

pub invariant_of-self : goal.invariant_of-self
invariant_of-self c =
    let was = c.loop-task.self-inside.visited.ok.0 in
    let now = c.pop.new.self.ok.0 in
    let none = c.in_default.ensures.cases.0 in
    let left = c.in_default.ensures.cases.1 in
    let a : length c.loop-task.self-inside.visited.items ≡ 0 = omega arith in
    let b : length c.pop.new.self.items ≡ 0 = omega arith in
    all_cleared c.loop-task.self-inside.marks.items c.loop-task.self-inside.visited.items c.pop.new.self.items
    (vec_capacity c.loop-task.self-inside.visited) (vec_capacity c.pop.new.self) (length c.self.inside.marks.items)
    (vec_capacity c.self.inside.visited) c.loop-task.invariant (empty_of c.loop-task.self-inside.visited.items a)
    (empty_of c.pop.new.self.items b) c.in_default.ensures.capacity c.self.invariant.room
