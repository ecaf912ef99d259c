-- All timeouts have their tags, and what others have to leave them.
use Rattle.std.specs.Prelude.{◌≡◌, ℕ, ◌≤◌, ◌<◌, Bool, true, false}
use Rattle.model_value.specs.Action.{Action}
use Rattle.model_value.specs.declared.action.Action.TheVariants.{SleepDone, Fires}
use Rattle.model_loop.specs.Parts.{Parts}
use Rattle.model_loop.specs.Loop.{Loop}
use Rattle.model_loop.specs.Timeouts.{timeout_of}
use Rattle.model_loop.specs.Numbered.{IsNumbered}
use Rattle.model_loop.specs.Entries.{timers_where, entries, untimed, ends_sleep_on}
use Rattle.model_loop.specs.Deadlines.{fires_any, fires_as, others_as, HasTag}

pub record HaveTags (l : Loop) : Type 0 where
  pub numbered : IsNumbered l.parts
  pub tags : (id : ℕ) → HasTag l.parts id (timeout_of l id)

-- whether an action ends a sleep or fires a timeout
abbrev pub is_deadline : Action → Bool
is_deadline (SleepDone task future) = true
is_deadline (Fires timeout) = true
is_deadline _ = false

-- no timeout's handle comes or goes, and no tag that was given is given again
pub record KeepsTags (p q : Parts) : Type 0 where
  pub next : p.next_tag ≤ q.next_tag
  pub any : (id : ℕ) → entries (fires_any id) q ≡ entries (fires_any id) p
  pub as_tag : (id tag : ℕ) → entries (fires_as id tag) q ≡ entries (fires_as id tag) p
  pub others : (id tag : ℕ) → tag < p.next_tag → entries (others_as id tag) q ≤ entries (others_as id tag) p

-- no timer comes but for those that a sound state may have, and no end of a sleep
pub record AddsNoTimes (p q : Parts) : Type 0 where
  pub timers : timers_where untimed q.timers ≤ timers_where untimed p.timers
  pub sleeps : (id : ℕ) → entries (ends_sleep_on id) q ≤ entries (ends_sleep_on id) p

pub record IsQuiet (p q : Parts) : Type 0 where
  pub tags : KeepsTags p q
  pub times : AddsNoTimes p q
