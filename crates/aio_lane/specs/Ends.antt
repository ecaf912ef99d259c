-- The two ends of a lane as contracts see them, and what a give and a take make of them.
use Rattle.std.specs.Prelude.{◌≡◌, ℕ, ◌+◌, ◌^◌, ◌<◌, ◌≤◌, true, List, [], ◌∷◌, ◌++◌, length, Option, Some, None}
use Rattle.atomic_table.specs.Seated.{TableId}
use Rattle.crossbeam_queue.specs.Fifo.{Held}
use Rattle.crossbeam_queue.specs.Passes.{Pass, view}
use Rattle.model_pump.specs.Commands.{Command}
use Rattle.aio_lane.specs.declared.command.Giving.{Giving}
use Rattle.aio_lane.specs.declared.command.Giving.TheVariants.{Given, Full, Spent}
use Rattle.aio_lane.specs.declared.track.Track.{Track}
use Rattle.aio_lane.specs.Delivers.{EndsWith}

-- A head as it is seen: its lane, what it gave, and how many of its gives met a full lane.
pub record HeadSeen : Type 0 where
  pub lane : TableId
  pub given : List Command
  pub fulls : ℕ

-- A tail as it is seen: its lane, and what it received.
pub record TailSeen : Type 0 where
  pub lane : TableId
  pub taken : List Command

abbrev pub head_seen : Pass Command Track → HeadSeen
head_seen pass = record { lane = pass.table_id; given = (view pass).given; fulls = (view pass).fulls }

abbrev pub tail_seen : Pass Command Track → TailSeen
tail_seen pass = record { lane = pass.table_id; taken = (view pass).taken }

-- what a head keeps: it may give, and it gave so many, at most 2^61
abbrev pub IsHead : ℕ → Pass Command Track → Type 0
IsHead gave pass = ((view pass).gives ≡ true) × (gave ≡ length (view pass).given) × (gave ≤ 2 ^ 61)

abbrev pub IsTail : Pass Command Track → Type 0
IsTail pass = (view pass).takes ≡ true

abbrev pub gave : HeadSeen → Command → HeadSeen
gave head command = record head { given = head.given ++ command ∷ [] }

-- one more of its gives met a full lane
abbrev pub met_full : HeadSeen → HeadSeen
met_full head = record head { fulls = head.fulls + 1 }

abbrev pub received : TailSeen → Command → TailSeen
received tail command = record tail { taken = tail.taken ++ command ∷ [] }

-- a tail after it took a command, or found none
abbrev pub may_receive : TailSeen → Option Command → TailSeen
may_receive tail (Some command) = received tail command
may_receive tail None = tail

-- What a give does, by its answer. Full only where eight commands stood in the lane at a step of the call, which are
-- then the last that were given; Spent exactly where 2^61 commands were given. What is not given comes back.
abbrev pub GiveAnswers : HeadSeen → Command → Giving → HeadSeen → Type 0
GiveAnswers old command Given new = (new ≡ gave old command) × (length old.given < 2 ^ 61)
GiveAnswers old command (Full back) new =
    (back ≡ command) × (new ≡ met_full old) × (length old.given < 2 ^ 61) × Held 8 (EndsWith old.given)
GiveAnswers old command (Spent back) new = (back ≡ command) × (new ≡ old) × (length old.given ≡ 2 ^ 61)
