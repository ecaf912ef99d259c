-- What comes of an answer of what is added, in a state that is stood for.
use Rattle.std.specs.Prelude.{◌≡◌, ℕ, true, Some}
use Rattle.model_machine.specs.Extra.{Extra, ExtraAnswer, key_of}
use Rattle.model_machine.specs.Sound.{AreKeysKept, ids_of, sends_made}
use Rattle.model_machine.specs.Replies as plain
use Rattle.model_value.specs.Input.{Input}
use Rattle.model_machine.specs.Replies.{decides, serves_as, woken}
use Rattle.model_machine.specs.State.{State, Serving}
use Rattle.law_replies.specs.InStep.{MayStandAt}
use Rattle.law_runs.specs.Allowed.{IsAnswerAllowed, MayCall}
use Rattle.aio_task.specs.Keeps.{NameMap}
use Rattle.aio_extra.specs.Added.{Added}
use Rattle.aio_extra.specs.Called as called
use Rattle.aio_extra.specs.declared.asked.Asked.{Asked}
use Rattle.aio_body.specs.declared.run_state.RunState.{RunState}
use Rattle.aio_body.specs.declared.reply.RequestReply.{RequestReply}
use Rattle.aio_body.specs.Asked.{IsDeciding, IsInStep, Says}
use Rattle.aio_body.specs.Asking.{Piece, ReplyBegins}
use Rattle.aio_body.specs.Stands.{Context}
use Rattle.aio_serve.specs.declared.added.Answered.{Answered}
use Rattle.aio_serve.specs.declared.added.Answered.TheVariants.{Replies, Again}

-- what the machine makes of an answer
abbrev pub answered : {S : Type 0} → Extra S → ℕ → ExtraAnswer → State S → plain.RequestReply S
answered added task it s = serves_as it (woken added task) task s

-- A call of what is added has given this answer, and the machine's call that one; both are in the state after it.
pub record IsAnswering {X : Type 0} {a : Added X} (task : ℕ) (asked : Asked) (it : ExtraAnswer) (c : Context a)
    (body : RunState X) (s : State a.Kept) : Type 0 where
  pub in_step : IsInStep task c body s
  pub may : MayCall a.meaning (Some task) s
  pub keys : AreKeysKept (a.meaning.keeps s.extra).has_key s.generators
  pub answers : called.AnswersAs a in_step.stands.name_map s asked it
  pub allowed : IsAnswerAllowed it s
  -- under the key that it keeps the task may come to stand
  pub keyed : (key : ℕ) → key_of it ≡ Some key → MayStandAt (a.meaning.keeps s.extra).has_key s.generators (Serving key)

-- whatever the machine's answer is
abbrev pub HasAnswer : {X : Type 0} {a : Added X} → ℕ → Asked → Context a → RunState X → State a.Kept → Type 0
HasAnswer task asked c body s = (it : ExtraAnswer) × IsAnswering task asked it c body s

-- another answer, from which the machine's reply is the same
pub record AnswersAgain {X : Type 0} {a : Added X} (task : ℕ) (asked : Asked) (c : Context a) (body : RunState X)
    (machine : plain.RequestReply a.Kept) : Type 0 where
  pub now : State a.Kept
  pub it : ExtraAnswer
  pub answering : IsAnswering task asked it c body now
  pub same : answered a.meaning task it now ≡ machine

-- A request was woken with this, and said that; of the body its parts and what is added changed alone.
pub record Woke {X : Type 0} (a : Added X) (key : ℕ) (input : Input) (old new : RunState X) (asked : Asked) : Type 0 where
  pub frame : new ≡ record old { parts = new.parts; extra = new.extra }
  pub says : (t : NameMap) (s : State a.Kept) → called.IsServed a old.parts.running t s old.extra old.parts
      → (a.meaning.keeps s.extra).has_key key ≡ true → sends_made (ids_of s) input ≡ true
      → called.SaysAs a t s old.parts new.parts new.extra asked (a.meaning.wake key input s)

abbrev pub AnswersAs : {X : Type 0} {a : Added X} → ℕ → Context a → RunState X → Answered → plain.RequestReply a.Kept → Type 0
AnswersAs task c body (Replies said) machine = Says task c body said machine
AnswersAs task c body (Again asked) machine = AnswersAgain task asked c body machine

-- ---- as pieces of the machine
-- from whatever its answer was
abbrev pub answering : {X : Type 0} → (a : Added X) → ℕ → Asked → (old new : RunState X)
    → Piece a (State a.Kept × ExtraAnswer) (plain.RequestReply a.Kept) RequestReply
answering a task asked old new =
    record {
      from = λ c at. IsAnswering task asked at.1 c old at.0;
      does = λ at. answered a.meaning task at.1 at.0;
      ends = plain.Halts;
      says = λ c said it. Says task c new said it;
      begins = ReplyBegins;
    }

-- one answer of them
abbrev pub answering_once : {X : Type 0} → (a : Added X) → ℕ → Asked → (old new : RunState X)
    → Piece a (State a.Kept × ExtraAnswer) (plain.RequestReply a.Kept) Answered
answering_once a task asked old new =
    record {
      from = λ c at. IsAnswering task asked at.1 c old at.0;
      does = λ at. answered a.meaning task at.1 at.0;
      ends = plain.Halts;
      says = λ c said it. AnswersAs task c new said it;
      begins = ReplyBegins;
    }

-- the wait of a request is over
abbrev pub waking : {X : Type 0} → (a : Added X) → (task key : ℕ) → Input → (old new : RunState X)
    → Piece a (State a.Kept) (plain.RequestReply a.Kept) RequestReply
waking a task key input old new =
    record {
      from = λ c s. IsDeciding task (Serving key) c old s;
      does = decides a.meaning (Serving key) task input;
      ends = plain.Halts;
      says = λ c said it. Says task c new said it;
      begins = ReplyBegins;
    }
