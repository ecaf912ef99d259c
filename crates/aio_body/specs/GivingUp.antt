-- What giving up a sleep or a connect leaves of the parts: the timer of a sleep is cancelled, and the future is released if it is
-- done.
use Rattle.std.specs.Prelude.{◌≡◌, ℕ, Bool, true, false, None, length, is_some, nat_lt, slice_get, slice_set, if◌then◌else◌}
use Rattle.model_loop.specs.Futures.{outcome_at}
use Rattle.model_loop.specs.Owning.{owner_at}
use Rattle.algorithm_parts.specs.Released.{released}
use Rattle.aio_ready.specs.Queue as queue
use Rattle.aio_ready.specs.declared.handle.HandleName.TheVariants as name
use Rattle.aio_timer.specs.Schedule as schedule
use Rattle.aio_timer.specs.declared.live.TimerId.{TimerId}
use Rattle.aio_task.specs.View.{View}
use Rattle.aio_body.specs.declared.resume_point.ResumePoint.{ResumePoint}
use Rattle.aio_body.specs.declared.resume_point.ResumePoint.TheVariants.{Asked, Sleeping, Leaving, Serving, Connecting, Yielding, Reading, ReadingAll}

abbrev pub timer_cancelled : TimerId → View → View
timer_cancelled id v = record v {
  schedule = record v.schedule { live = schedule.without id v.schedule.live };
  queue = (if schedule.lives id v.schedule.live then v.queue else queue.cancelled (name.Timer id.number) v.queue);
}

abbrev pub release_of : ℕ → View → View
release_of id v = record v { futures = (if nat_lt id (length v.futures) then slice_set v.futures id released else v.futures) }

abbrev pub release_if : Bool → ℕ → View → View
release_if true id v = release_of id v
release_if false id v = v

abbrev pub release_done : ℕ → View → View
release_done future v = release_if (is_some (outcome_at (slice_get v.futures future))) future v

abbrev pub given_up_in : ResumePoint → View → View
given_up_in Asked v = v
given_up_in (Sleeping timer future) v =
    release_if (is_some (outcome_at (slice_get v.futures future))) future (timer_cancelled timer v)
given_up_in (Leaving group) v = v
given_up_in (Serving key) v = v
given_up_in (Connecting conn future) v = release_done future v
given_up_in (Yielding whom) v = v
given_up_in (Reading from op on) v = v
given_up_in (ReadingAll from taken on) v = v

-- the future of a sleep or of a connect is no task's
abbrev pub IsNoTasks : ResumePoint → View → Type 0
IsNoTasks Asked v = Unit {0}
IsNoTasks (Sleeping timer future) v = owner_at (slice_get v.futures future) ≡ None
IsNoTasks (Leaving group) v = Unit {0}
IsNoTasks (Serving key) v = Unit {0}
IsNoTasks (Connecting conn future) v = owner_at (slice_get v.futures future) ≡ None
IsNoTasks (Yielding whom) v = Unit {0}
IsNoTasks (Reading from op on) v = Unit {0}
IsNoTasks (ReadingAll from taken on) v = Unit {0}
