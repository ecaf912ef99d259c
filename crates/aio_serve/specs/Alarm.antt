-- The future of a sleep with its timer.
use Rattle.std.specs.Prelude.{◌≡◌, ℕ, ◌+◌, [], ◌∷◌, ◌++◌, None, length, min}
use Rattle.model_value.specs.Number.{most}
use Rattle.model_value.specs.declared.action.Action.TheVariants.{SleepDone}
use Rattle.model_loop.specs.Parts.{Plain}
use Rattle.aio_timer.specs.declared.live.TimerId.{TimerId}
use Rattle.aio_timer.specs.Schedule as schedule
use Rattle.aio_body.specs.declared.run_state.RunState.{RunState}

pub record IsAlarmed {X : Type 0} (task delay : ℕ) (timer : TimerId) (future : ℕ) (old new : RunState X) : Type 0 where
  pub number : future ≡ length old.parts.futures
  pub id : timer ≡ record { number = old.parts.schedule.next; when = min (old.parts.time + delay) most }
  pub after : new ≡ record old {
    parts = record old.parts {
      futures = old.parts.futures ++ record { kind = Plain; outcome = None; callbacks = [] } ∷ [];
      schedule = record {
        live = schedule.placed_after (schedule.timer timer (SleepDone task future)) old.parts.schedule.live;
        next = old.parts.schedule.next + 1;
      };
    };
  }
