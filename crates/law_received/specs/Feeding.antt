-- What is done to all that is open, told of each reader: what it held, and what it was told and received then, is what went,
-- what was let go as it failed, and what it holds after.
use Rattle.std.specs.Prelude.{◌≡◌, ℕ, Bool, true, false, List, [], ◌++◌, Option, Some, None}
use Rattle.model_value.specs.declared.action.Action.TheVariants as action
use Rattle.model_value.specs.declared.action.ChildItem.{ChildItem}
use Rattle.model_value.specs.Action.{Action}
use Rattle.model_stream.specs.Receivers.{Receiver}
use Rattle.model_stream.specs.Requests.{StreamReader}
use Rattle.model_stream.specs.Streams.{Streams}
use Rattle.law_stream.specs.ReceiverOrder.{has_failed}
use Rattle.law_stream.specs.Ways.{Move, told_by}
use Rattle.law_received.specs.Calm.{ScheduleNone}
use Rattle.law_received.specs.Readers.{bytes_if, held_of, is_failed, is_news_to, is_shut, may_hear, received, receiver_of, told_to}
use Rattle.law_walk.specs.Walks.{Anyone, Doer, GivesUp, Runs}

-- ---- what a callback tells
-- what a child told with it
abbrev pub News : Type 0
News = Option (ℕ × ChildItem (List ℕ))

abbrev pub news_in : Action → News
news_in (action.ChildItem child told) = Some (child, told)
news_in _ = None

abbrev pub fed_if : Bool → StreamReader → News → List ℕ
fed_if b from None = []
fed_if b from (Some it) = bytes_if b (told_to from (action.ChildItem it.0 it.1))

abbrev pub is_told : StreamReader → News → Bool
is_told from None = false
is_told from (Some it) = is_news_to from (action.ChildItem it.0 it.1)

-- ---- one reader
-- one that failed holds nothing, and receives no more
abbrev pub IsSpent : Receiver → (shut : Bool) → Type 0
IsSpent r shut = has_failed r ≡ true → (r.reader.held ≡ []) × (shut ≡ true)

-- this came, this went, and this was let go
pub record OneFed (r : Receiver) (shut : Bool) (came went let_go : List ℕ) (after : Receiver) (shuts : Bool) : Type 0 where
  pub order : r.reader.held ++ came ≡ went ++ (let_go ++ after.reader.held)
  -- one that failed stays so, and nothing goes of it; nor as it fails; and one that didn't lets nothing go
  pub stays : has_failed r ≡ true → has_failed after ≡ true
  pub none : IsSpent r shut → has_failed r ≡ true → (went ≡ []) × (let_go ≡ [])
  pub fails : has_failed r ≡ false → has_failed after ≡ true → went ≡ []
  pub kept : has_failed after ≡ false → let_go ≡ []
  pub spent : IsSpent r shut → IsSpent after shuts

-- this went, and this was let go
pub record IsFed (from : StreamReader) (news : News) (went let_go : List ℕ) (s : Streams) (moves : List Move) (after : Streams) : Type 0 where
  pub fed : OneFed (receiver_of from s) (is_shut from s) (fed_if (may_hear from s) from news ++ received from (told_by moves)) went let_go
      (receiver_of from after) (is_shut from after)
  -- a pipe that takes more goes on to, but where news of it come
  pub hears : is_told from news ≡ false → may_hear from s ≡ true → may_hear from after ≡ true

pub record AreFed (news : News) (s : Streams) (moves : List Move) (after : Streams) : Type 0 where
  pub schedule : ScheduleNone moves
  pub each : (from : StreamReader) → (went : List ℕ) × (let_go : List ℕ) × IsFed from news went let_go s moves after

-- whatever does it: a callback feeds what it tells
abbrev pub AreFedBy : Doer → Streams → List Move → Streams → Type 0
AreFedBy Anyone = AreFed None
AreFedBy (Runs it) = AreFed (news_in it)
AreFedBy (GivesUp conn) = AreFed None

-- nothing went, but what was let go as a reader failed
pub record AreOnlyFed (news : News) (s : Streams) (moves : List Move) (after : Streams) : Type 0 where
  pub schedule : ScheduleNone moves
  pub each : (from : StreamReader) → (let_go : List ℕ) × IsFed from news [] let_go s moves after

-- ---- looks
-- A look of a read takes these bytes: they are a front of what was held, and what is held then is the rest; what others hold
-- stays. None fails by it, and of one that failed nothing is taken.
pub record IsLook (from : StreamReader) (took : List ℕ) (s after : Streams) : Type 0 where
  pub takes : held_of from s ≡ took ++ held_of from after
  pub leaves : is_failed from s ≡ true → held_of from after ≡ held_of from s
  pub others : (other : StreamReader) → (other ≡ from → ⊥) → held_of other after ≡ held_of other s
  pub failed : (which : StreamReader) → is_failed which after ≡ is_failed which s
