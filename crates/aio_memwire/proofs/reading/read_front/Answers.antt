use Rattle.std.proofs.Common.{◌++◌, arith, ap, ◌∙◌, sym, subst, List, ℕ}
use Rattle.model_wire.specs.Told.{ShelfSeen}
use Rattle.aio_memwire.specs.Reading.{Begins}
use Rattle.aio_memwire.proofs.Files.{begins_more, begins_all, front_all, front_full}
use Rattle.aio_memwire.proofs.reading.read_front.Goals as goal

pub loop-alloc-preserved : goal.loop-alloc-preserved
loop-alloc-preserved g c = record {
  kept = let same = rw c.in-Bytes.is at c.in_ok-bytes.ensures.counted in same ∙ c.loop-alloc.invariant.kept;
  begins = λ held told.
      let read = rw c.in-Bytes.is at c.in_ok-bytes.ensures.bytes in
      let text = c.loop-alloc.text in
      subst (Begins held) (sym (c.in_ok-extend_from_slice-in-Bytes.ensures.items ∙ ap (λ (b : List ℕ). text.items ++ b) c.items.ensures))
      (begins_more held text.items c.in-Bytes.bytes c.len-in-loop-alloc.result (omega (arith, text.ok.0, c.len-in-loop-alloc.ensures))
      (c.loop-alloc.invariant.begins held told)
      (read held (ap (λ (s : ShelfSeen). s.file c.args.name.now) c.loop-alloc.invariant.kept ∙ told)));
}

pub returns-in-End-clause-text : goal.returns-in-End-clause-text
returns-in-End-clause-text g c = λ held told.
    let read = rw c.in-End.is at c.in_ok-bytes.ensures.bytes in
    let text = c.loop-alloc.text in
    front_all c.args.limit held text.items (omega (arith, text.ok.0, c.len.ensures, c.loop-alloc-test.true))
    (begins_all held text.items c.len-in-loop-alloc.result (omega (arith, text.ok.0, c.len-in-loop-alloc.ensures)) (c.loop-alloc.invariant.begins held told)
    (read held (ap (λ (s : ShelfSeen). s.file c.args.name.now) c.loop-alloc.invariant.kept ∙ told)))

pub returns-clause-text : goal.returns-clause-text
returns-clause-text g c = λ held told.
    let text = c.loop-alloc.text in
    let front =
    front_full c.args.limit held text.items c.requires.some (omega (arith, text.ok.0, c.len.ensures, c.loop-alloc-test.false))
    (c.loop-alloc.invariant.begins held told) in
    (front.0, front.1, c.truncate.ensures.items ∙ front.2)
