-- One side changes, or the first.
use Rattle.std.proofs.Common.{true, map, ◌++◌}
use Rattle.aio_ready.specs.Found.{low, high}
use Rattle.std.specs.Option.{option_map}
use Rattle.std.proofs.lemmas.Bool.{eq-eqb, ne_eqb}
use Rattle.aio_ready.proofs.Changes.{first_marked, none_marked, low_changed, high_changed}
use Rattle.aio_ready.proofs.index.Index.+mark.Goals as goal
use Rattle.aio_ready.proofs.index.Index.+mark.Goals.{in-Tip, in-More+then-own-number, in-More+else-own-number+then-number-eq0, in-More+else-own-number+else-number-eq0}

pub returns : goal.returns
returns t c =
    let number = c.args.number in
    elim c.match-self.branch [
      | in-Tip w ↦ rw (w.self-inside-is, ← c.self.view_is, w.in-Tip.is) (none_marked number)
      | in-More+then-own-number w ↦ rw (w.self-inside-is, ← c.self.view_is, w.in-More.is)
          (first_marked w.in-More.own number w.in-More.said (map low w.in-More.sides.value.0 ++ map high w.in-More.sides.value.1)
          (eq-eqb _ _ w.if-own-number.true))
      | in-More+else-own-number+then-number-eq0 w ↦
          let sides = w.deref_mut.result.now in
          rw (w.self-inside-is, ← c.self.view_is, w.in-More.is, ← w.deref_mut.ensures.value)
          (low_changed (option_map (λ _. true)) number w.in-More.own w.in-More.said sides.0 w.mark.new.self sides.1
          (ne_eqb _ _ w.if-own-number.false) (eq-eqb _ _ w.if-number-eq0.true) w.mark.ensures)
      | in-More+else-own-number+else-number-eq0 w ↦
          let sides = w.deref_mut-else-number-eq0.result.now in
          rw (w.self-inside-is, ← c.self.view_is, w.in-More.is, ← w.deref_mut-else-number-eq0.ensures.value)
          (high_changed (option_map (λ _. true)) number w.in-More.own w.in-More.said sides.0 sides.1 w.mark-else-number-eq0.new.self
          (ne_eqb _ _ w.if-own-number.false) (ne_eqb _ _ w.if-number-eq0.false) w.mark-else-number-eq0.ensures)
    ]
