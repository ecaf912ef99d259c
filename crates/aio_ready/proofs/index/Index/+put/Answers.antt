-- One side changes.
use Rattle.std.proofs.Common.{Some, false}
use Rattle.std.proofs.lemmas.Result.{on_ok_weaker}
use Rattle.std.proofs.lemmas.Bool.{eq-eqb, ne_eqb}
use Rattle.aio_ready.proofs.Changes.{low_changed, high_changed, found_low, found_high}
use Rattle.aio_ready.proofs.index.Index.+put.Goals as goal
use Rattle.aio_ready.proofs.index.Index.+put.Goals.{then-own-number, else-own-number+then-number-eq0, else-own-number+else-number-eq0}

pub returns-after-own-number-clause-free : goal.returns-after-own-number-clause-free
returns-after-own-number-clause-free t c =
    let number = c.args.number in
    elim c.if-own-number.branch [
      | then-own-number w ↦ rw w.result-is tt
      | else-own-number+then-number-eq0 w ↦
          let sides = w.deref_mut-then-number-eq0.result.now in
          rw (
            w.result-is,
            ← c.self.view_is,
            c.in-More.is,
            ← w.deref_mut-then-number-eq0.ensures.value,
            found_low number c.in-More.own c.in-More.field-1 sides.0 sides.1 (ne_eqb _ _ w.if-own-number.false)
                (eq-eqb _ _ w.if-number-eq0.true),
          )
          w.put.ensures.free
      | else-own-number+else-number-eq0 w ↦
          let sides = w.deref_mut-else-number-eq0.result.now in
          rw (
            w.result-is,
            ← c.self.view_is,
            c.in-More.is,
            ← w.deref_mut-else-number-eq0.ensures.value,
            found_high number c.in-More.own c.in-More.field-1 sides.0 sides.1 (ne_eqb _ _ w.if-own-number.false)
                (ne_eqb _ _ w.if-number-eq0.false),
          )
          w.put-else-number-eq0.ensures.free
    ]

pub returns-after-own-number-clause-after : goal.returns-after-own-number-clause-after
returns-after-own-number-clause-after t c =
    let number = c.args.number in
    elim c.if-own-number.branch [
      | then-own-number w ↦ rw w.result-is tt
      | else-own-number+then-number-eq0 w ↦
          let sides = w.deref_mut-then-number-eq0.result.now in
          rw (w.result-is, w.self-inside-is, ← c.self.view_is, c.in-More.is, ← w.deref_mut-then-number-eq0.ensures.value)
          (on_ok_weaker w.put.result
          (low_changed (λ _. Some false) number c.in-More.own c.in-More.field-1 sides.0 w.put.new.self sides.1
          (ne_eqb _ _ w.if-own-number.false) (eq-eqb _ _ w.if-number-eq0.true))
          w.put.ensures.after)
      | else-own-number+else-number-eq0 w ↦
          let sides = w.deref_mut-else-number-eq0.result.now in
          rw (w.result-is, w.self-inside-is, ← c.self.view_is, c.in-More.is, ← w.deref_mut-else-number-eq0.ensures.value)
          (on_ok_weaker w.put-else-number-eq0.result
          (high_changed (λ _. Some false) number c.in-More.own c.in-More.field-1 sides.0 sides.1 w.put-else-number-eq0.new.self
          (ne_eqb _ _ w.if-own-number.false) (ne_eqb _ _ w.if-number-eq0.false))
          w.put-else-number-eq0.ensures.after)
    ]
