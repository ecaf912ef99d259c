-- What is scheduled: handles that aren't dead, and timers, by tag and action. Only ends of sleeps, firings of timeouts and
-- handles of what is added to the loop's own requests have a time.
use Rattle.std.specs.Prelude.{◌≡◌, ℕ, ◌+◌, ◌<◌, Bool, true, false, not, ◌&&◌, ◌==◌, List}
use Rattle.std.specs.List.{count_by}
use Rattle.model_value.specs.Action.{Action}
use Rattle.model_value.specs.declared.action.Action.TheVariants.{SleepDone, Fires, Extra}
use Rattle.model_loop.specs.Parts.{Handle, Timer, Parts}
use Rattle.model_loop.specs.Owning.{is_plain}

abbrev pub handles_where : (ℕ → Action → Bool) → List Handle → ℕ
handles_where test = count_by (λ (handle : Handle). not handle.dead && test handle.tag handle.action)

abbrev pub timers_where : (ℕ → Action → Bool) → List Timer → ℕ
timers_where test = count_by (λ (timer : Timer). test timer.tag timer.action)

-- how many handles that aren't dead, and timers, pass a test
abbrev pub entries : (ℕ → Action → Bool) → Parts → ℕ
entries test p = handles_where test p.pending + timers_where test p.timers

abbrev pub is_timed : Action → Bool
is_timed (SleepDone task future) = true
is_timed (Fires timeout) = true
is_timed (Extra key) = true
is_timed _ = false

abbrev pub untimed : ℕ → Action → Bool
untimed tag action = not (is_timed action)

-- whether an action ends a sleep on this future
abbrev pub ends_sleep_on : ℕ → ℕ → Action → Bool
ends_sleep_on id tag (SleepDone task future) = future == id
ends_sleep_on id tag _ = false

abbrev pub is_sleep_end : Action → Bool
is_sleep_end (SleepDone task future) = true
is_sleep_end _ = false

-- what has a tag and ends no sleep
abbrev pub no_sleep_as : ℕ → ℕ → Action → Bool
no_sleep_as tag other action = (other == tag) && not (is_sleep_end action)

pub record AreTimed (p : Parts) : Type 0 where
  pub timers : timers_where untimed p.timers ≡ 0
  -- a sleep waits on a plain future
  pub sleeps : (id : ℕ) → 0 < entries (ends_sleep_on id) p → is_plain p id ≡ true
