use Rattle.std.proofs.Common.{◌<◌, List, length, sym, subst, ◌∙◌}
use Rattle.aio_timeout.specs.declared.timeout.Timeout.{Timeout}
use Rattle.aio_timeout.specs.Kept.{AreTimeouts}
use Rattle.aio_timeout.proofs.Keeping.{told_expired}
use Rattle.aio_timeout.proofs.timeouts.Timeouts.expired.Goals as goal

pub returns : goal.returns
returns c = record {
  answer = λ t l are.
      c.has_expired.ensures
      ∙ told_expired t l c.self.inside.items.items c.args.id c.index.result.now
      (subst (λ (its : List Timeout). AreTimeouts t l.parts its l.timeouts) (sym c.self.view_is) are)
      (subst (λ (its : List Timeout). c.args.id < length its) (sym c.self.view_is) c.requires.live) c.index.ensures;
}
