-- Where must_cancel of a task falls within a step of its own, once that has begun: the places.
use Rattle.std.specs.Prelude.{◌≡◌, ◌⊎◌, ℕ, true, Ok}
use Rattle.model_value.specs.Value.{Value}
use Rattle.model_loop.specs.Cancel.{cancel}
use Rattle.model_loop.specs.Loop.{Loop}
use Rattle.model_loop.specs.Parts.{Parts}
use Rattle.model_loop.specs.Suspend.{suspend, wait_on}
use Rattle.model_loop.specs.Tasks.{finish, must_cancel_of}
use Rattle.model_machine.specs.Replies.{RequestReply, Answers, Raises, Suspends, Halts}
use Rattle.model_machine.specs.State.{State}
use Rattle.model_machine.specs.Went.{Went, Goes, Stops}
use Rattle.law_promises.specs.KeepsMustCancel.{AllTakenBack}

-- it waits for a future whose cancel answers true
pub record CancelsItsWait (task : ℕ) (after : Parts) : Type 0 where
  pub before : Parts
  pub must : must_cancel_of before task ≡ true
  pub on : ℕ
  pub answers : (cancel on (wait_on task on before)).answer ≡ true
  pub is : after ≡ (suspend task on before).parts

-- it returns, and so ends cancelled
pub record EndsCancelled (task : ℕ) (after : Parts) : Type 0 where
  pub before : Parts
  pub must : must_cancel_of before task ≡ true
  pub value : Value
  pub is : after ≡ finish task (Ok value) before

-- where the step goes on: in profile 2 all requests to cancel it may be taken back
abbrev pub StaysOn : (task : ℕ) (l q : Loop) → Type 0
StaysOn task l q = (must_cancel_of q.parts task ≡ true) ⊎ AllTakenBack task l q

-- where the step ends
abbrev pub FallsAtEnd : (task : ℕ) (l q : Loop) → Type 0
FallsAtEnd task l q = StaysOn task l q ⊎ (CancelsItsWait task q.parts ⊎ EndsCancelled task q.parts)

-- Of a request, by what it comes to. Where the run ends in it nothing is said.
abbrev pub ReplyFalls : {S : Type 0} → (task : ℕ) → State S → RequestReply S → Type 0
ReplyFalls task s (Answers value now) = StaysOn task s.loop now.loop
ReplyFalls task s (Raises fault now) = StaysOn task s.loop now.loop
ReplyFalls task s (Suspends now) = FallsAtEnd task s.loop now.loop
ReplyFalls task s (Halts end last) = Unit {0}

-- and of the rest of a step
abbrev pub WentFalls : {S : Type 0} → (task : ℕ) → State S → Went S → Type 0
WentFalls task s (Goes now) = FallsAtEnd task s.loop now.loop
WentFalls task s (Stops end last) = Unit {0}
