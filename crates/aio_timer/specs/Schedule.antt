-- The timers that live. Source: `base_events.py`, `call_at`, `_scheduled`, `_run_once`; `events.py`, TimerHandle.
use Rattle.std.specs.Prelude.{ℕ, ◌==◌, ◌&&◌, Bool, true, false, List, [], ◌∷◌, Option, None, Some, filter, nat_le, nat_lt, if◌then◌else◌}
use Rattle.model_value.specs.Action.{Action}
use Rattle.model_loop.specs.Parts.{Timer}
use Rattle.aio_ready.specs.Queue.{Queue, appended}
use Rattle.aio_ready.specs.declared.handle.HandleName.TheVariants as name
use Rattle.aio_timer.specs.declared.live.TimerId.{TimerId}

-- by deadline, and equal deadlines in order of scheduling; and the number of the timer that is made next
pub record Schedule : Type 0 where
  pub live : List Timer
  pub next : ℕ

abbrev pub no_timers : Schedule
no_timers = record { live = []; next = 0 }

-- the timer of an id, with what it runs
abbrev pub timer : TimerId → Action → Timer
timer id action = record { when = id.when; tag = id.number; action = action }

-- a timer after those whose deadlines are earlier or equal
abbrev pub placed_after : Timer → List Timer → List Timer
placed_after timer [] = timer ∷ []
placed_after timer (other ∷ others) =
    if nat_lt timer.when other.when then timer ∷ other ∷ others else other ∷ placed_after timer others

abbrev pub is_of : TimerId → Timer → Bool
is_of id timer = (id.when == timer.when) && (id.number == timer.tag)

-- whether the timer lives
abbrev pub lives : TimerId → List Timer → Bool
lives id [] = false
lives id (timer ∷ timers) = if is_of id timer then true else lives id timers

-- without the timer
abbrev pub without : TimerId → List Timer → List Timer
without id [] = []
without id (timer ∷ timers) = if is_of id timer then timers else timer ∷ without id timers

abbrev pub first_when : List Timer → Option ℕ
first_when [] = None
first_when (timer ∷ timers) = Some timer.when

-- those whose time has come, and the others
abbrev pub due_at : ℕ → List Timer → List Timer
due_at now = filter (λ (timer : Timer). nat_le timer.when now)

abbrev pub later_than : ℕ → List Timer → List Timer
later_than now = filter (λ (timer : Timer). nat_lt now timer.when)

-- their handles are appended in order, each under its timer's number
abbrev pub fallen : List Timer → Queue → Queue
fallen [] q = q
fallen (timer ∷ timers) q = fallen timers (appended (name.Timer timer.tag) timer.action q)
