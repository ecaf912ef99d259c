-- Where nothing has happened, the type keeps what it keeps.
use Rattle.std.proofs.Common.{ℕ, ◌≤◌, None, refl, arith}
use Rattle.std.proofs.lemmas.Bool.{false≢true}
use Rattle.model_loop.specs.Cycles.{Leads, at_once, through}
use Rattle.model_loop.specs.Sound.{ArePartsSound}
use Rattle.algorithm_parts.specs.Open.{room_of}
use Rattle.aio_task.specs.Bare.{bare}
use Rattle.aio_task.specs.View.{parts, empty}
use Rattle.aio_task.specs.Kept.{IsKept}

module _ (profile : ℕ) where
  leads_none : (from to : ℕ) → Leads (parts (empty profile)) from to → ⊥
  leads_none from to (at_once h) = false≢true h
  leads_none from to (through next h l) = false≢true h

  nothing_sound : ArePartsSound None None (bare (parts (empty profile)))
  nothing_sound = record {
    owns = λ id task. (λ h. absurd (cc), λ h. absurd (cc));
    settled = λ id h. refl;
    callbacks = λ id. refl;
    runs = λ task h. absurd (false≢true h);
    free = λ task h. absurd (false≢true h);
    waits_made = λ task on h. absurd (cc);
    one_way = record { one = λ task. refl; on_waiter = λ task on h. absurd (omega (arith, h)); stays = λ task on l w h. absurd (false≢true l) };
    ready = record { free = λ task h. refl; woken = λ task h. absurd (omega (arith, h)) };
    must_cancel = λ task l m. absurd (false≢true l);
  }

  pub nothing_kept : IsKept (empty profile)
  nothing_kept = record { no_cycle = λ id l. leads_none id id l; sound = nothing_sound; timers = refl; fallen = refl }

  pub nothing_needed : room_of (parts (empty profile)) ≤ 0
  nothing_needed = omega arith
