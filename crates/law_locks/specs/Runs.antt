-- The tries of a run: those of its calls of what is added that are of locks, events and queues, in order. `A`, `C` and `D` are what
-- the other parts keep, whatever these are.
use Rattle.std.specs.Prelude.{ℕ, Bool, true, false, List, [], ◌∷◌, ◌++◌, Option, Some, None, if◌then◌else◌}
use Rattle.model_wire.specs.Event.{Event}
use Rattle.model_machine.specs.Extra.{Extra, ExtraSaid}
use Rattle.model_machine.specs.Replies.{input_by}
use Rattle.model_reach.specs.Reach.{OfDgram, OfExec, OfGather, OfSync, Part, Parted, part_of_code, part_of_key, reach}
use Rattle.model_sync.specs.Synced.{Synced, none_synced}
use Rattle.model_sync.specs.Serving.{sync_means}
use Rattle.law_changes.specs.Reaches.{goes, stays}
use Rattle.law_calls.specs.Told as told
use Rattle.law_calls.specs.Told.{Acts, Happening, HasHappened, HasNews, Hears, IsHistory, Told, Wakes, first_told}
use Rattle.law_locks.specs.Tries.{Asks, GoesOn, Reply, Try, replies}

abbrev pub is_of_sync : Part → Bool
is_of_sync OfGather = false
is_of_sync OfSync = true
is_of_sync OfExec = false
is_of_sync OfDgram = false

abbrev pub is_sync_code : Option Part → Bool
is_sync_code None = false
is_sync_code (Some part) = is_of_sync part

module _ {A C D : Type 0} where
  -- as one part of what is added serves it
  abbrev pub served_in : ExtraSaid Synced → Parted A Synced C D → ExtraSaid (Parted A Synced C D)
  served_in said kept =
      record { call = record { state = record kept { sync = said.call.state }; steps = said.call.steps }; answer = said.answer }

  abbrev pub tries_in : Happening (Parted A Synced C D) → List Try
  tries_in (told.Asks task code arguments s) = if is_sync_code (part_of_code code) then Asks code arguments s.loop ∷ [] else []
  tries_in (Wakes task key input s) = if is_of_sync (part_of_key key) then GoesOn key input s.loop ∷ [] else []
  tries_in (Hears question answer s) = if is_of_sync (part_of_key question.key) then GoesOn question.key (input_by answer) s.loop ∷ [] else []
  tries_in (Acts key s) = []
  tries_in (HasNews code bytes s) = []

  abbrev pub tries_of : {limit : ℕ} {added : Extra (Parted A Synced C D)} {first last : Told (Parted A Synced C D)} → IsHistory limit added first last
      → List Try
  tries_of stays = []
  tries_of (goes history it may) = tries_of history ++ tries_in it

  -- What is kept came by calls alone, which the events tell; and of their tries this holds, and of what is kept of locks, events and
  -- queues.
  pub record ComesByTries (limit : ℕ) (gather : Extra A) (exec : Extra C) (dgram : Extra D) (first : Parted A Synced C D)
      (Promise : List Reply → Synced → Type 0) (kept : Parted A Synced C D) (events : List Event) : Type 0 where
    pub happened : HasHappened limit (reach gather sync_means exec dgram) (first_told first) kept events
    pub promise : Promise (replies (tries_of happened.history) none_synced) kept.sync
