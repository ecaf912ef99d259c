-- What is seen of those that failed so many times more.
use Rattle.std.specs.Prelude.{ℕ, ◌+◌, None}
use Rattle.model_wire.specs.Told.{ShelfSeen, SourceSeen, SinkSeen, WireSeen}
use Rattle.aio_wire.specs.Outside.{Outside}
use Rattle.aio_memwire.specs.declared.fail_at.FailAt.{FailAt}

abbrev pub shelf_with : ℕ → ShelfSeen → ShelfSeen
shelf_with more shelf = record { file = shelf.file; faults = λ name. shelf.faults name + more }

abbrev pub source_with : ℕ → SourceSeen → SourceSeen
source_with more source = record { left = source.left; faults = source.faults + more }

abbrev pub sink_with : ℕ → SinkSeen → SinkSeen
sink_with more sink = record { taken = sink.taken; faults = sink.faults + more }

-- A wire; the calls that it was asked aren't told, since it wasn't asked those that failed.
abbrev pub wire_with : ℕ → WireSeen → WireSeen
wire_with more wire =
    record { left = wire.left; asked = None; handed = wire.handed; end = wire.end; fitting = wire.fitting; faults = wire.faults + more }

-- What clauses say of a wire of which chosen calls fail: what they say of the wrapped one, with its failures.
abbrev pub outside_with : {I : Type 0} → Outside I → Outside (FailAt I)
outside_with inner = record {
  seen = λ wire. wire_with wire.faults (inner.seen wire.inner);
  fails = λ wire. inner.fails wire.inner;
  keeps = λ old new. inner.keeps old.inner new.inner;
  quiet = λ old new. inner.quiet old.inner new.inner;
  end_agrees = λ wire. inner.end_agrees wire.inner;
  keeps_same = λ wire. inner.keeps_same wire.inner;
  keeps_on = λ before between after. inner.keeps_on before.inner between.inner after.inner;
  quiet_same = λ wire. inner.quiet_same wire.inner;
  quiet_on = λ before between after. inner.quiet_on before.inner between.inner after.inner;
}
