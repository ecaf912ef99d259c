use Rattle.std.proofs.Common.{◌≡◌, None, take}
use Rattle.aio_exchange.specs.Ways.{changed_on}
use Rattle.aio_change.specs.Owned.{AreOwn, settled_way}
use Rattle.aio_change.specs.Seen.{seen_changed}
use Rattle.aio_change.proofs.settling.settle_all.Given as goal

abbrev pub invariant-loop-future : goal.invariant-loop-future
invariant-loop-future l = record {
  parts : l.parts ≡ changed_on seen_changed (settled_way l.outcome (take l.future-index l.futures)) l.initial.parts;
  own : AreOwn l.parts l.futures;
  idle : l.parts.called ≡ None;
}
