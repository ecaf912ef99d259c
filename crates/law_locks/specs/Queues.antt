-- What is got from a queue, and what was put into it.
use Rattle.std.specs.Prelude.{◌≡◌, ℕ, ◌==◌, ℤ, pos, negsuc, Bool, false, List, [], ◌∷◌, ◌++◌, Option, Some, None, if◌then◌else◌, slice_get}
use Rattle.std.specs.List.{flat_map}
use Rattle.model_value.specs.Value.{Value}
use Rattle.model_machine.specs.Extra as extra
use Rattle.model_machine.specs.Extra.{ExtraAnswer}
use Rattle.model_sync.specs.Synced.{Queue, Synced}
use Rattle.model_sync.specs.Serving.{Get, Put, Wanted}
use Rattle.law_queues.specs.Kept.{KeepsToSizes}
use Rattle.law_locks.specs.Tries.{Reply}

abbrev pub is_number : ℕ → ℤ → Bool
is_number id (pos number) = number == id
is_number id (negsuc before) = false

-- ---- what answers tell
-- the value, where it is one
abbrev pub value_in : ExtraAnswer → List Value
value_in (extra.Answers value) = value ∷ []
value_in (extra.Raises exception) = []
value_in (extra.Waits on key) = []
value_in (extra.Asks code bytes key) = []

-- this one, where it is a value
abbrev pub once_in : Value → ExtraAnswer → List Value
once_in it (extra.Answers value) = it ∷ []
once_in it (extra.Raises exception) = []
once_in it (extra.Waits on key) = []
once_in it (extra.Asks code bytes key) = []

-- what a request that was answered got from this queue, and what it put into it
abbrev pub got_by : (queue : ℕ) → Wanted → ExtraAnswer → List Value
got_by queue (Get id) answer = if is_number queue id then value_in answer else []
got_by queue _ answer = []

abbrev pub put_by : (queue : ℕ) → Wanted → ExtraAnswer → List Value
put_by queue (Put id value) answer = if is_number queue id then once_in value answer else []
put_by queue _ answer = []

-- ---- of all requests, in order
abbrev pub got_from : (queue : ℕ) → List Reply → List Value
got_from queue replies = flat_map (λ reply. got_by queue reply.wanted reply.answer) replies

abbrev pub put_into : (queue : ℕ) → List Reply → List Value
put_into queue replies = flat_map (λ reply. put_by queue reply.wanted reply.answer) replies

abbrev pub values_of : Option Queue → List Value
values_of None = []
values_of (Some queue) = queue.values

-- those in it
abbrev pub held_by : (queue : ℕ) → Synced → List Value
held_by queue kept = values_of (slice_get kept.queues queue)

-- The values got from each queue, followed by those in it, are the values put, in order, each once.
abbrev pub HandsOnInOrder : List Reply → Synced → Type 0
HandsOnInOrder replies kept = (queue : ℕ) → got_from queue replies ++ held_by queue kept ≡ put_into queue replies

-- A queue with a size never holds more (`KeepsToSizes`).
pub record QueuesKeep (replies : List Reply) (kept : Synced) : Type 0 where
  pub in_order : HandsOnInOrder replies kept
  pub sizes : KeepsToSizes kept
