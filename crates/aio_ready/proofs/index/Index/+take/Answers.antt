-- One side changes.
use Rattle.std.proofs.Common.{refl, sym, ◌∙◌}
use Rattle.std.proofs.lemmas.Bool.{eq-eqb, ne_eqb}
use Rattle.aio_ready.proofs.Changes.{low_taken, high_taken, found_low, found_high}
use Rattle.aio_ready.proofs.index.Index.+take.Goals as goal
use Rattle.aio_ready.proofs.index.Index.+take.Goals.{in-Tip, in-More+then-number-eq0, in-More+else-number-eq0}

pub returns-clause-said : goal.returns-clause-said
returns-clause-said t c =
    let number = c.args.number in
    let begins = sym c.begins_with.ensures ∙ c.if-begins_with.false in
    elim c.match-self.branch [
      | in-Tip w ↦ rw (w.result-is, ← c.self.view_is, w.in-Tip.is) refl
      | in-More+then-number-eq0 w ↦
          let sides = w.deref_mut.result.now in
          rw (
            w.result-is,
            ← c.self.view_is,
            w.in-More.is,
            ← w.deref_mut.ensures.value,
            found_low number w.in-More.field-0 w.in-More.field-1 sides.0 sides.1 (rw (← c.self.view_is, w.in-More.is) at begins)
                (eq-eqb _ _ w.if-number-eq0.true),
          )
          w.take.ensures.said
      | in-More+else-number-eq0 w ↦
          let sides = w.deref_mut-else-number-eq0.result.now in
          rw (
            w.result-is,
            ← c.self.view_is,
            w.in-More.is,
            ← w.deref_mut-else-number-eq0.ensures.value,
            found_high number w.in-More.field-0 w.in-More.field-1 sides.0 sides.1 (rw (← c.self.view_is, w.in-More.is) at begins)
                (ne_eqb _ _ w.if-number-eq0.false),
          )
          w.take-else-number-eq0.ensures.said
    ]

pub returns-clause-after : goal.returns-clause-after
returns-clause-after t c =
    let number = c.args.number in
    elim c.match-self.branch [
      | in-Tip w ↦ rw (w.self-inside-is, ← c.self.view_is, w.in-Tip.is) (λ other apart. refl)
      | in-More+then-number-eq0 w ↦
          let sides = w.deref_mut.result.now in
          rw (w.self-inside-is, ← c.self.view_is, w.in-More.is, ← w.deref_mut.ensures.value)
          (low_taken number w.in-More.field-0 w.in-More.field-1 sides.0 w.take.new.self sides.1 (eq-eqb _ _ w.if-number-eq0.true)
          w.take.ensures.after)
      | in-More+else-number-eq0 w ↦
          let sides = w.deref_mut-else-number-eq0.result.now in
          rw (w.self-inside-is, ← c.self.view_is, w.in-More.is, ← w.deref_mut-else-number-eq0.ensures.value)
          (high_taken number w.in-More.field-0 w.in-More.field-1 sides.0 sides.1 w.take-else-number-eq0.new.self
          (ne_eqb _ _ w.if-number-eq0.false) w.take-else-number-eq0.ensures.after)
    ]
