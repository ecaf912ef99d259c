use Rattle.std.proofs.Common.{◌∙◌, length, rules, SFits, w64, sym}
use Rattle.std.proofs.lemmas.Int.{to_z-of_z}
use Rattle.aio_child.proofs.Calling.{waits_no_more, waits_now}
use Rattle.aio_child.proofs.Owning.{own_made_for}
use Rattle.aio_child.proofs.child.Child.wait.Goals as goal

pub returns-in-Some-clause-tells : goal.returns-in-Some-clause-tells
returns-in-Some-clause-tells c =
    let fits : SFits w64 c.in-Some.code = search rules in
    rw (to_z-of_z w64 c.in-Some.code fits)
    (waits_no_more c.args.self.now (length c.args.parts.now.futures) c.in-Some.code c.args.parts.now (sym c.in-Some.is ∙ c.code.ensures))

pub returns-clause-tells : goal.returns-clause-tells
returns-clause-tells c =
    waits_now c.args.self.now (length c.args.parts.now.futures) c.in_ok-future.future c.push_wait.new.self c.args.parts.now c.make_future.new.parts
    (sym c.in_default.is ∙ c.code.ensures) c.in_ok-future.ensures.number c.in_ok-future.ensures.after c.in_ok-push_wait.ensures

pub returns-clause-own : goal.returns-clause-own
returns-clause-own c =
    own_made_for c.args.self.now c.push_wait.new.self c.args.parts.now c.make_future.new.parts c.in_ok-future.future
    c.in_ok-future.ensures.after c.in_ok-future.ensures.number c.in_ok-push_wait.ensures
