use Rattle.std.proofs.Common.{subst}
use Rattle.aio_task.specs.Kept.{IsKept}
use Rattle.aio_task.proofs.KeptFutures.{owns_of}
use Rattle.aio_task.proofs.Plainly.{kept_one_way, kept_ready, kept_must_cancel, kept_waits, kept_runs, kept_called}
use Rattle.aio_task.proofs.parts.Parts.keeps.Goals as goal

pub returns : goal.returns
returns c =
    let v = c.args.self.now in
    let is = subst IsKept c.self.view_is c.self.invariant.0 in
    record {
      one_way = kept_one_way v is;
      ready = kept_ready v is;
      must_cancel = kept_must_cancel v is;
      no_cycle = is.no_cycle;
      owns = λ idle. owns_of v idle is;
      waits = kept_waits v is;
      runs = kept_runs v is;
      called = kept_called v is;
    }
