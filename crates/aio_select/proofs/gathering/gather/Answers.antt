use Rattle.std.proofs.Common.{◌+◌, sym, ap, ◌∙◌}
use Rattle.model_hub.specs.declared.halt.Halt.{Halt}
use Rattle.model_hub.specs.declared.halt.Halt.TheVariants as is
use Rattle.aio_select.specs.Answered.{gathering}
use Rattle.aio_select.proofs.Going.{none_yet, notes_none, notes_after, goes_one, enough, not_enough, enough_halted, goes_when_not_halted, after_take}
use Rattle.aio_select.proofs.gathering.gather.Goals as goal

pub returns-then-is_halted-clause-gathered : goal.returns-then-is_halted-clause-gathered
returns-then-is_halted-clause-gathered g c =
    let before = c.loop-count in
    let took = c.in-Some.ensures in
    let after = c.offer_told.new.answering in
    let pumps = c.take.new.self in
    let room = not_enough before.answering.items.items before.answering.kept.items (g.P.Pumps.children before.pumps) (g.P.Pumps.taken before.pumps) before.count
    c.loop-count-test.true (sym c.is_full.ensures ∙ c.if-is_full.false) in
    let next = after_take c.args.watch.now before.answering.items.items before.answering.kept.items after.items.items after.kept.items
    (g.P.Pumps.children before.pumps) (g.P.Pumps.children pumps) (g.P.Pumps.taken before.pumps) (g.P.Pumps.taken pumps) before.count c.in-Some.field-0
    took.0 c.in_ok-offer_told.ensures.offered in (
      before.count + 1,
      enough _ _ _ _ _ (goes_one _ _ _ _ _ before.invariant.1 _ _ took.0.post room next took.0.takes took.1)
          (enough_halted after.items.items after.kept.items (g.P.Pumps.children pumps) (g.P.Pumps.taken pumps) (before.count + 1) c.in-Some.field-0.halt
          (sym c.is_halted.ensures ∙ c.if-is_halted.true)),
    )

pub loop-count-preserved : goal.loop-count-preserved
loop-count-preserved g c =
    let before = c.loop-count in
    let took = c.in-Some.ensures in
    let after = c.offer_told.new.answering in
    let pumps = c.take.new.self in
    let room = not_enough before.answering.items.items before.answering.kept.items (g.P.Pumps.children before.pumps) (g.P.Pumps.taken before.pumps) before.count
    c.loop-count-test.true (sym c.is_full.ensures ∙ c.if-is_full.false) in
    let going = goes_when_not_halted c.in-Some.field-0.halt (sym c.is_halted.ensures ∙ c.if-is_halted.false) in
    let next = ap (λ (halt : Halt). gathering after.items.items after.kept.items (g.P.Pumps.children pumps) (g.P.Pumps.taken pumps) (before.count + 1) halt)
    (sym going)
    ∙ after_take c.args.watch.now before.answering.items.items before.answering.kept.items after.items.items after.kept.items
    (g.P.Pumps.children before.pumps) (g.P.Pumps.children pumps) (g.P.Pumps.taken before.pumps) (g.P.Pumps.taken pumps) before.count c.in-Some.field-0
    took.0 c.in_ok-offer_told.ensures.offered in (
      c.offer_told.ensures.fits,
      goes_one _ _ _ _ _ before.invariant.1 _ _ took.0.post room next took.0.takes took.1,
      notes_after c.take.result (g.P.Pumps.children c.args.pumps.now) (g.P.Pumps.children before.pumps) (g.P.Pumps.children pumps)
          (g.P.Pumps.taken c.args.pumps.now) (g.P.Pumps.taken before.pumps) (g.P.Pumps.taken pumps) (g.P.Pumps.nones before.pumps)
          (g.P.Pumps.nones pumps) c.take.ensures before.invariant.2,
    )

pub loop-count-init : goal.loop-count-init
loop-count-init g c = (
  c.requires,
  none_yet c.args.watch.now
      (gathering c.args.answering.now.items.items c.args.answering.now.kept.items (g.P.Pumps.children c.args.pumps.now)
      (g.P.Pumps.taken c.args.pumps.now) 0 is.Going)
      (g.P.Pumps.nones c.args.pumps.now),
  notes_none (g.P.Pumps.children c.args.pumps.now) (g.P.Pumps.taken c.args.pumps.now),
)

pub returns-then-is_full-clause-noted : goal.returns-then-is_full-clause-noted
returns-then-is_full-clause-noted g c = c.loop-count.invariant.2

pub returns-in_default-clause-noted : goal.returns-in_default-clause-noted
returns-in_default-clause-noted g c =
    notes_after c.take.result (g.P.Pumps.children c.args.pumps.now) (g.P.Pumps.children c.loop-count.pumps) (g.P.Pumps.children c.take.new.self)
    (g.P.Pumps.taken c.args.pumps.now) (g.P.Pumps.taken c.loop-count.pumps) (g.P.Pumps.taken c.take.new.self)
    (g.P.Pumps.nones c.loop-count.pumps) (g.P.Pumps.nones c.take.new.self) c.take.ensures c.loop-count.invariant.2

pub returns-in_err-offer_told-clause-noted : goal.returns-in_err-offer_told-clause-noted
returns-in_err-offer_told-clause-noted g c =
    notes_after c.take.result (g.P.Pumps.children c.args.pumps.now) (g.P.Pumps.children c.loop-count.pumps) (g.P.Pumps.children c.take.new.self)
    (g.P.Pumps.taken c.args.pumps.now) (g.P.Pumps.taken c.loop-count.pumps) (g.P.Pumps.taken c.take.new.self)
    (g.P.Pumps.nones c.loop-count.pumps) (g.P.Pumps.nones c.take.new.self) c.take.ensures c.loop-count.invariant.2

pub returns-then-is_halted-clause-noted : goal.returns-then-is_halted-clause-noted
returns-then-is_halted-clause-noted g c =
    notes_after c.take.result (g.P.Pumps.children c.args.pumps.now) (g.P.Pumps.children c.loop-count.pumps) (g.P.Pumps.children c.take.new.self)
    (g.P.Pumps.taken c.args.pumps.now) (g.P.Pumps.taken c.loop-count.pumps) (g.P.Pumps.taken c.take.new.self)
    (g.P.Pumps.nones c.loop-count.pumps) (g.P.Pumps.nones c.take.new.self) c.take.ensures c.loop-count.invariant.2

pub returns-clause-noted : goal.returns-clause-noted
returns-clause-noted g c = c.loop-count.invariant.2
