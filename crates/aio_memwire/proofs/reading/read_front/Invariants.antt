use Rattle.std.proofs.Common.{◌≡◌, ◌-◌, ℕ, List, Option, Some, vec_len}
use Rattle.aio_memwire.specs.Reading.{Begins}
use Rattle.aio_memwire.proofs.reading.read_front.Given as goal

abbrev pub invariant-loop-alloc : goal.invariant-loop-alloc
invariant-loop-alloc g l = record {
  kept : g.F.Shelf.seen l.shelf ≡ g.F.Shelf.seen l.fn.shelf;
  begins : (held : Option (List ℕ)) → (g.F.Shelf.seen l.fn.shelf).file l.name ≡ Some held → Begins held l.text.items;
}

abbrev pub decreases-loop-alloc : goal.decreases-loop-alloc
decreases-loop-alloc g l = l.limit - vec_len l.text
