-- `gather`, `wait`, `shield` and `wait_for` make allowed steps alone, and what they keep stays right.
use Rattle.std.proofs.Common.{None, Some, slice_get, refl}
use Rattle.model_reach.specs.Part.{place_of}
use Rattle.law_runs.specs.Allowed.{MakesAllowedSteps}
use Rattle.model_gather.specs.Gathered.{gather_part}
use Rattle.model_gather.specs.Serving.{gather_means, wanted_of}
use Rattle.law_gather.proofs.Acting.{acted_allowed, woken_said}
use Rattle.law_gather.proofs.Asking.{asked_said}
use Rattle.law_gather.proofs.Changing.{stays_allowed}

pub gather_allowed : MakesAllowedSteps gather_means
gather_allowed = record {
  ask = λ task code arguments s may made. asked_said (wanted_of code) task code arguments s may made;
  wake = λ task key input s may known made.
      woken_said (Some task) s may (slice_get s.extra.drawn (place_of gather_part key)) key (place_of gather_part key) input made refl;
  act = λ key s may. acted_allowed None s may (slice_get s.extra.drawn (place_of gather_part key));
  item = λ code bytes s may. stays_allowed None s may None;
}
