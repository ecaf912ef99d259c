-- What the machine keeps of what the object keeps, where timers have these tags by their numbers.
use Rattle.std.specs.Prelude.{◌≡◌, ◌⊎◌, ℕ, ◌-◌, List, [], ◌∷◌, Option, Some, None, map, slice_get}
use Rattle.model_loop.specs.Owning.{owner_at}
use Rattle.model_loop.specs.Parts.{Future}
use Rattle.model_gather.specs.Gathered as plain
use Rattle.model_gather.specs.Gathered.{Gathered}
use Rattle.aio_timer.specs.declared.live.TimerId.{TimerId}
use Rattle.aio_gather.specs.declared.drawn.Argument.{Argument}
use Rattle.aio_gather.specs.declared.drawn.Drawn.{Drawn}
use Rattle.aio_gather.specs.declared.drawn.Drawn.TheVariants.{Answered, Gathers, Waits, Shields, WaitsFor, Tells, Rings}
use Rattle.aio_gather.specs.declared.drawn.Gathering.{Gathering}
use Rattle.aio_gather.specs.declared.drawn.TimedState.{TimedState}
use Rattle.aio_gather.specs.declared.drawn.TimedState.TheVariants.{Timed, Expiring, Expired, Finished}
use Rattle.aio_gather.specs.declared.drawn.TimedWait.{TimedWait}
use Rattle.aio_gather.specs.declared.drawn.WaitMode.{WaitMode}
use Rattle.aio_gather.specs.declared.drawn.WaitMode.TheVariants.{AllCompleted, FirstCompleted, FirstException}
use Rattle.aio_gather.specs.declared.drawn.Waiting.{Waiting}
use Rattle.aio_gather.specs.declared.gather.Gather.{Gather}

abbrev pub argument_as : Argument → plain.Argument
argument_as it = record { value = it.value; future = it.future }

abbrev pub mode_as : WaitMode → plain.WaitMode
mode_as AllCompleted = plain.AllCompleted
mode_as FirstCompleted = plain.FirstCompleted
mode_as FirstException = plain.FirstException

abbrev pub state_as : TimedState → plain.TimedState
state_as Timed = plain.Timed
state_as Expiring = plain.Expiring
state_as Expired = plain.Expired
state_as Finished = plain.Finished

abbrev pub gathering_as : Gathering → plain.Gathering
gathering_as it = record { outer = it.outer; awaited = it.awaited.items; as_items = it.as_items; left = it.left }

abbrev pub tag_as : (tags : ℕ → ℕ) → Option TimerId → Option ℕ
tag_as tags None = None
tag_as tags (Some id) = Some (tags id.number)

abbrev pub waiting_as : (tags : ℕ → ℕ) → Waiting → plain.Waiting
waiting_as tags it = record {
  on = it.on;
  arguments = map argument_as it.arguments.items;
  mode = mode_as it.mode;
  left = it.left;
  timer = tag_as tags it.timer;
}

abbrev pub timed_as : (tags : ℕ → ℕ) → TimedWait → plain.TimedWait
timed_as tags it = record { task = it.task; stored = it.stored; timer = tag_as tags it.timer; state = state_as it.state }

abbrev pub drawn_as : (tags : ℕ → ℕ) → Drawn → plain.Drawn
drawn_as tags Answered = plain.Answered
drawn_as tags (Gathers it) = plain.Gathers (gathering_as it)
drawn_as tags (Waits it) = plain.Waits (waiting_as tags it)
drawn_as tags (Shields on) = plain.Shields on
drawn_as tags (WaitsFor it) = plain.WaitsFor (timed_as tags it)
drawn_as tags (Tells place future) = plain.Tells place future
drawn_as tags (Rings place) = plain.Rings place

abbrev pub kept_of : (tags : ℕ → ℕ) → Gather → Gathered
kept_of tags x = record { drawn = map (drawn_as tags) x.drawn.items }

-- ---- timers
abbrev pub timer_in : Drawn → Option TimerId
timer_in (Waits it) = it.timer
timer_in (WaitsFor it) = it.timer
timer_in _ = None

abbrev pub HasTimer : List Drawn → TimerId → Type 0
HasTimer [] id = ⊥
HasTimer (it ∷ others) id = (timer_in it ≡ Some id) ⊎ HasTimer others id

-- ---- futures of its own
abbrev pub own_of : Drawn → Option ℕ
own_of (Gathers it) = Some it.outer
own_of (Waits it) = Some it.on
own_of (Shields on) = Some on
own_of _ = None

-- none is a task's
abbrev pub AreFree : List Drawn → List Future → Type 0
AreFree items futures =
    (place id : ℕ) (it : Drawn) → slice_get items place ≡ Some it → own_of it ≡ Some id → owner_at (slice_get futures id) ≡ None

-- ---- changes of an entry
-- one member isn't counted any more
abbrev pub counted_down : Drawn → Drawn
counted_down (Gathers it) = Gathers (record it { left = it.left - 1 })
counted_down (Waits it) = Waits (record it { left = it.left - 1 })
counted_down it = it

-- how far a `wait_for` is then, and which timer it has
abbrev pub in_state : TimedState → Option TimerId → Drawn → Drawn
in_state state timer (WaitsFor it) = WaitsFor (record it { state = state; timer = timer })
in_state state timer it = it
