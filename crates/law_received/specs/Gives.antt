-- What a read comes to: the bytes that it gives are those that come next of what was received.
use Rattle.std.specs.Prelude.{◌≡◌, ℕ, List, [], ◌++◌}
use Rattle.model_value.specs.Value.{Value, Bytes}
use Rattle.model_stream.specs.Requests.{StreamReader}
use Rattle.model_machine.specs.Replies.{RequestReply, Answers, Raises, Suspends, Halts, waits}
use Rattle.model_machine.specs.State.{ReadingAll, State, stands}
use Rattle.law_reach.specs.Reaches.{IsUnmet}
use Rattle.law_received.specs.Received.{IsRead}

-- From a state to one after it, these bytes are read of one, behind what was read before, and nothing of another. Nothing is let
-- go.
pub record IsNext {S : Type 0} (from : StreamReader) (bytes : List ℕ) (s now : State S) : Type 0 where
  pub read : (before let_go : List ℕ) → IsRead from before let_go s.streams s.events → IsRead from (before ++ bytes) let_go now.streams now.events
  pub others : (other : StreamReader) → (other ≡ from → ⊥) → (before let_go : List ℕ) → IsRead other before let_go s.streams s.events
      → IsRead other before let_go now.streams now.events

-- ---- a read
-- its bytes are given
pub record GivesBytes {S : Type 0} (from : StreamReader) (s : State S) (value : Value) (now : State S) : Type 0 where
  pub bytes : List ℕ
  pub is : value ≡ Bytes bytes
  pub next : IsNext from bytes s now

-- some are removed, perhaps none, as an exception is raised
pub record RemovesBytes {S : Type 0} (from : StreamReader) (s now : State S) : Type 0 where
  pub bytes : List ℕ
  pub next : IsNext from bytes s now

-- A read asks the outside nothing, so it ends no run.
abbrev pub GivesNext : {S : Type 0} → StreamReader → State S → RequestReply S → Type 0
GivesNext from s (Answers value now) = GivesBytes from s value now
GivesNext from s (Raises fault now) = RemovesBytes from s now
GivesNext from s (Suspends now) = IsNext from [] s now
GivesNext from s (Halts how last) = IsUnmet how

-- ---- a read with a negative count, which took these bytes before
-- what it took before, and what it takes now, is given
pub record GivesJoined {S : Type 0} (from : StreamReader) (taken : List ℕ) (s : State S) (value : Value) (now : State S) : Type 0 where
  pub look : List ℕ
  pub is : value ≡ Bytes (taken ++ look)
  pub next : IsNext from look s now

-- or it stays with the read, which waits
pub record KeepsJoined {S : Type 0} (from : StreamReader) (task : ℕ) (taken : List ℕ) (s now : State S) : Type 0 where
  pub look : List ℕ
  pub on : ℕ
  pub before : State S
  pub is : now ≡ stands (ReadingAll from (taken ++ look) on) task (waits task on before)
  pub next : IsNext from look s now

abbrev pub GivesAll : {S : Type 0} → StreamReader → (task : ℕ) → (taken : List ℕ) → State S → RequestReply S → Type 0
GivesAll from task taken s (Answers value now) = GivesJoined from taken s value now
GivesAll from task taken s (Raises fault now) = RemovesBytes from s now
GivesAll from task taken s (Suspends now) = KeepsJoined from task taken s now
GivesAll from task taken s (Halts how last) = IsUnmet how
