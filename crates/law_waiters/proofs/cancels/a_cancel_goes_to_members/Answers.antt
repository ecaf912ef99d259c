use Rattle.model_machine.specs.State.{start}
use Rattle.model_reach.specs.Reach.{reach}
use Rattle.model_gather.specs.Gathered.{none_gathered}
use Rattle.model_gather.specs.Serving.{gather_means}
use Rattle.law_kept.proofs.Turning.{run_on}
use Rattle.law_waiters.proofs.Reaching.{Fits, PartFits, cancels_go_on, fits_walk, part_walk}
use Rattle.law_waiters.proofs.Running.{run_follows}
use Rattle.law_waiters.specs.Reached.{CancelsGoOn, first_parted}
use Rattle.law_waiters.proofs.cancels.a_cancel_goes_to_members.Goals as goal

pub returns : goal.returns
returns c laws = record {
  alone = λ most limit program answers turns.
      let first = start most none_gathered program answers in
      run_follows Fits (λ s. CancelsGoOn s.extra s.loop.parts) (λ s fits. cancels_go_on s.extra s.loop.parts fits) limit gather_means turns first
      (run_on fits_walk limit turns first tt);
  beside_others = λ sync exec dgram b c d most limit program answers turns.
      let first = start most (first_parted b c d) program answers in
      run_follows (PartFits sync exec dgram) (λ s. CancelsGoOn s.extra.gather s.loop.parts)
      (λ s fits. cancels_go_on s.extra.gather s.loop.parts fits) limit (reach gather_means sync exec dgram) turns first
      (run_on (part_walk sync exec dgram) limit turns first tt);
}
