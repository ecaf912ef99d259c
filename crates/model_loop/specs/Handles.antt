-- Handles and timers. Source: PEP 3156, "Callback Handles"; `base_events.py`, `call_soon`, `call_at`.
use Rattle.std.specs.Prelude.{ℕ, suc, ◌+◌, ◌-◌, ◌==◌, ℤ, pos, negsuc, true, false, not, List, [], ◌∷◌, ◌++◌, map, filter, min, nat_le, nat_lt, if◌then◌else◌}
use Rattle.model_value.specs.Action.{Action}
use Rattle.model_value.specs.Number.{most}
use Rattle.model_loop.specs.Parts.{Handle, Timer, Parts}

-- `call_soon`: a handle behind all that are pending
abbrev pub soon : Action → Parts → Parts
soon action p =
    record p {
      pending = p.pending ++ record { stamp = p.next_stamp; tag = p.next_tag; action = action; dead = false } ∷ [];
      next_stamp = p.next_stamp + 1;
      next_tag = p.next_tag + 1;
    }

abbrev pub soon_all : List Action → Parts → Parts
soon_all [] p = p
soon_all (action ∷ actions) p = soon_all actions (soon action p)

-- When a delay is over, past the greatest number of a script at that number. One that is negative was over before the
-- time came.
abbrev pub deadline : (time : ℕ) (delay : ℤ) → ℕ
deadline time (pos delay) = min (time + delay) most
deadline time (negsuc before) = time - suc before

-- `call_at`: a handle for a time
abbrev pub later : ℕ → Action → Parts → Parts
later when action p =
    record p {
      timers = p.timers ++ record { when = when; tag = p.next_tag; action = action } ∷ [];
      next_tag = p.next_tag + 1;
    }

abbrev pub cancelled_if : ℕ → Handle → Handle
cancelled_if tag handle = if handle.tag == tag then record handle { dead = true } else handle

-- `Handle.cancel`: a timer with this tag is taken out; a pending handle with it keeps its place, and does nothing
abbrev pub revoke : ℕ → Parts → Parts
revoke tag p =
    record p {
      timers = filter (λ timer. not (timer.tag == tag)) p.timers;
      pending = map (cancelled_if tag) p.pending;
    }

-- a timer before those whose deadlines are later, and before those that are equal
abbrev pub placed : Timer → List Timer → List Timer
placed timer [] = timer ∷ []
placed timer (other ∷ others) =
    if nat_lt other.when timer.when then other ∷ placed timer others else timer ∷ other ∷ others

-- by deadline, and equal deadlines in order of scheduling
abbrev pub by_deadline : List Timer → List Timer
by_deadline [] = []
by_deadline (timer ∷ timers) = placed timer (by_deadline timers)

-- a timer's handle is appended under the timer's own tag
abbrev pub fall_due : List Timer → Parts → Parts
fall_due [] p = p
fall_due (timer ∷ timers) p =
    fall_due timers (record p {
      pending = p.pending ++ record { stamp = p.next_stamp; tag = timer.tag; action = timer.action; dead = false } ∷ [];
      next_stamp = p.next_stamp + 1;
    })

-- the timers whose time has come leave the list, and their handles are appended
abbrev pub due : Parts → Parts
due p =
    fall_due (by_deadline (filter (λ timer. nat_le timer.when p.time) p.timers))
    (record p { timers = filter (λ timer. nat_lt p.time timer.when) p.timers })
