use Rattle.std.proofs.Common.{◌≡◌, ◌∙◌, ℤ, [], Some, to_z-of_z, sym, ap}
use Rattle.model_value.specs.declared.outcome.Outcome.TheVariants.{Value as Returned}
use Rattle.model_value.specs.Value.{Int, Value}
use Rattle.model_stream.specs.Children.{exit_with}
use Rattle.aio_exchange.specs.Tells.{Tells}
use Rattle.aio_exchange.specs.Ways.{changed_on}
use Rattle.aio_change.specs.Owned.{settled_way}
use Rattle.aio_change.specs.Seen.{seen_changed}
use Rattle.aio_change.proofs.Owning.{told_keeps}
use Rattle.aio_child.proofs.Calling.{exited_before, exits_now}
use Rattle.aio_child.proofs.Owning.{own_exited}
use Rattle.aio_child.proofs.child.Child.exit_with.Goals as goal

pub returns-then-not-is_running-clause-tells : goal.returns-then-not-is_running-clause-tells
returns-then-not-is_running-clause-tells c =
    exited_before c.args.self.now c.args.code c.args.parts.now (sym c.is_running.ensures ∙ c.if-not-is_running.true)

set : (c : goal.After-set_code) → c.set_code.new.self ≡ record c.args.self.now { code = Some c.args.code; waits = [] }
set c = c.set_code.ensures ∙ ap (λ (z : ℤ). record c.args.self.now { code = Some z; waits = [] }) (to_z-of_z c.ranges.code)

exited : (c : goal.After-set_code)
    → Tells seen_changed (exit_with c.args.code c.args.self.now) c.args.parts.now c.settle_waits-told.new.parts c.set_code.new.self
exited c =
    exits_now c.args.self.now c.args.code c.set_code.new.self c.args.parts.now c.settle_waits-told.new.parts
    (sym c.is_running.ensures ∙ c.if-not-is_running.false)
    (c.in_ok-told.ensures.after ∙ ap (λ (v : Value). changed_on seen_changed (settled_way (Returned v) c.args.self.now.waits) c.args.parts.now)
    (c.int.ensures ∙ ap Int (to_z-of_z c.ranges.code)))
    (set c)

pub returns-clause-tells : goal.returns-clause-tells
returns-clause-tells c = exited c

pub returns-clause-own : goal.returns-clause-own
returns-clause-own c =
    let old = c.args.parts.now in
    let new = c.settle_waits-told.new.parts in
    own_exited old new (told_keeps (exit_with c.args.code c.args.self.now) old new c.set_code.new.self (exited c)) c.args.self.now
    c.set_code.new.self c.args.code (set c) c.requires.own
