-- A handle that steps no task is taken out.
use Rattle.std.proofs.Common.{◌≡◌, ℕ, Bool, List, None, ap, arith, false, inl, inr, not, refl, sym, true, ◌&&◌, ◌+◌, ◌∙◌, ◌∷◌}
use Rattle.model_loop.specs.Tasks.{waiter_of}
use Rattle.model_loop.specs.Totals.{registered_at}
use Rattle.law_steps.proofs.Stepping.{taken-where, taken_fewer}
use Rattle.model_loop.specs.Ways.{resumes, steps, steps_among, wakes}
use Rattle.model_loop.specs.Sound.{ArePartsSound}
use Rattle.model_loop.specs.MustCancel.{MayKeepMustCancel}
use Rattle.law_steps.specs.Frames.{taken}
use Rattle.model_loop.specs.Parts.{Handle, Parts}
use Rattle.law_steps.proofs.Looks.{spent-futures}

pub taken_sound : (handle : Handle) (rest : List Handle) (p : Parts) → p.pending ≡ handle ∷ rest
    → ((task : ℕ) → steps task handle.action ≡ false) → ArePartsSound None None p → ArePartsSound None None (taken rest p)
taken_sound handle rest p first none is = record {
  owns = is.owns;
  settled = is.settled;
  callbacks = is.callbacks;
  runs = is.runs;
  free = is.free;
  waits_made = is.waits_made;
  one_way = record {
    one = λ task. ap (λ k. k + registered_at p (steps task) (waiter_of p task)) (sym (same task)) ∙ is.one_way.one task;
    on_waiter = is.one_way.on_waiter;
    stays = is.one_way.stays;
  };
  ready = record {
    free = λ task h. let a = taken_fewer (resumes task) handle rest p first in is.ready.free task (omega (arith, a, h));
    woken = λ task h. let a = taken_fewer (wakes task) handle rest p first in is.ready.woken task (omega (arith, a, h));
  };
  must_cancel = λ task l m. may task (is.must_cancel task l m);
}
  where
    dead : (b : Bool) → (b && false) ≡ false
    dead true = refl
    dead false = refl

    same : (task : ℕ) → steps_among task p.pending ≡ steps_among task rest
    same task = taken-where (steps task) handle rest p first ∙ rw (none task, dead (not handle.dead)) (omega arith)

    may : (task : ℕ) → MayKeepMustCancel None p task → MayKeepMustCancel None (taken rest p) task
    may task (inl r) = inl r
    may task (inr (inl h)) = let e = same task in inr (inl (omega (arith, e, h)))
    may task (inr (inr w)) = inr (inr (w.0, w.1, w.2, spent-futures p (taken rest p) refl w.0 w.3))
