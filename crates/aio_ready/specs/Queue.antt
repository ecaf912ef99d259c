-- The handles that wait to run. Source: PEP 3156, "Callback Handles"; `base_events.py`, `call_soon`, `_run_once`.
use Rattle.std.specs.Prelude.{ℕ, ◌+◌, ◌^◌, Bool, true, false, List, [], ◌∷◌, ◌++◌, Option, None, Some, drop, map, nat_lt, if◌then◌else◌}
use Rattle.aio_ready.specs.Names.{marked}
use Rattle.aio_ready.specs.declared.handle.HandleName.{HandleName}
use Rattle.aio_ready.specs.declared.handle.HandleName.TheVariants.{Nameless, Given}
use Rattle.aio_ready.specs.declared.handle.Handle.{Handle}
use Rattle.model_value.specs.Action.{Action}

-- those before the bar and those after it, in the order in which they were appended, and how many numbers were given
pub record Queue : Type 0 where
  pub below : List Handle
  pub after : List Handle
  pub given : ℕ

abbrev pub is_empty : List Handle → Bool
is_empty [] = true
is_empty (handle ∷ handles) = false

-- what they run, in order
abbrev pub actions_of : List Handle → List Action
actions_of = map (λ (handle : Handle). handle.action)

abbrev pub no_handles : Queue
no_handles = record { below = []; after = []; given = 0 }

-- no more numbers are given than so many
abbrev pub most_given : ℕ
most_given = 2 ^ 62

-- the name that the next handle gets
abbrev pub next_name : Queue → HandleName
next_name q = if nat_lt q.given most_given then Given q.given else Nameless

abbrev pub given_after : Queue → ℕ
given_after q = if nat_lt q.given most_given then q.given + 1 else q.given

-- a handle behind all others
abbrev pub appended : HandleName → Action → Queue → Queue
appended name action q = record q { after = q.after ++ record { name = name; action = action; dead = false } ∷ [] }

-- `call_soon`
abbrev pub soon : Action → Queue → Queue
soon action q = record (appended (next_name q) action q) { given = given_after q }

-- `call_soon` of each, in order
abbrev pub soon_all : List Action → Queue → Queue
soon_all [] q = q
soon_all (action ∷ actions) q = soon_all actions (soon action q)

-- The handle with this name keeps its place, and does nothing.
abbrev pub cancelled : HandleName → Queue → Queue
cancelled name q = record q { below = map (marked name) q.below; after = map (marked name) q.after }

-- all that wait now stand before the bar
abbrev pub barred : Queue → Queue
barred q = record q { below = q.below ++ q.after; after = [] }

-- without the dead ones before the first that lives
abbrev pub from_live : List Handle → List Handle
from_live [] = []
from_live (handle ∷ handles) = if handle.dead then from_live handles else handle ∷ handles

abbrev pub first_action : List Handle → Option Action
first_action [] = None
first_action (handle ∷ handles) = Some handle.action

-- what runs next before the bar, and what is left then; a dead one is skipped
abbrev pub next_action : Queue → Option Action
next_action q = first_action (from_live q.below)

abbrev pub taken : Queue → Queue
taken q = record q { below = drop 1 (from_live q.below) }
