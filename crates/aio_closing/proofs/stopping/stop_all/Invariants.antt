use Rattle.std.proofs.Common.{◌≡◌, ℕ, ◌≤◌, ◌<◌, Some}
use Rattle.std.specs.Prelude.{slice_get}
use Rattle.model_hub.specs.declared.child.Child.{Child}
use Rattle.model_hub.specs.declared.pump.Pump.{Pump}
use Rattle.aio_closing.specs.Kills.{running_in}
use Rattle.aio_closing.specs.Stops.{IsStopped}
use Rattle.aio_closing.proofs.stopping.stop_all.Given as goal

abbrev pub invariant-loop-k : goal.invariant-loop-k
invariant-loop-k g l =
    record {
      stopped : (j : ℕ) (child : Child) → slice_get (running_in l.roster.children) j ≡ Some child → j < l.k → (at : Pump)
          → IsStopped child at (g.H.Heads.seen l.initial.heads) (g.H.Heads.seen l.heads);
      waits : (j : ℕ) (child : Child) → slice_get (running_in l.roster.children) j ≡ Some child → l.k ≤ j → (at : Pump)
          → (g.H.Heads.seen l.heads).given child.number at ≡ (g.H.Heads.seen l.initial.heads).given child.number at;
      has : (n : ℕ) → (g.H.Heads.seen l.heads).has n ≡ (g.H.Heads.seen l.initial.heads).has n;
    }
