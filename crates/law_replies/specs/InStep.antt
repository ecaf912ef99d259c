-- A sound state inside a step of a task: the same as between two callbacks, but for the task that runs.
use Rattle.std.specs.Prelude.{◌≡◌, ℕ, zero, suc, ◌≤◌, ◌⊎◌, Bool, true, false, List, [], ◌∷◌, Some, slice_get}
use Rattle.model_value.specs.declared.input.Input.TheVariants.{Send, Throw}
use Rattle.model_value.specs.declared.request.Request.TheVariants as request
use Rattle.model_value.specs.Request.{Request}
use Rattle.model_says.specs.Endings.{Asks}
use Rattle.model_says.specs.Says.{step_limit}
use Rattle.model_loop.specs.Futures.{next_future}
use Rattle.model_loop.specs.Groups.{group_of}
use Rattle.model_machine.specs.Extra.{Extra}
use Rattle.model_machine.specs.Mids.{mids}
use Rattle.model_machine.specs.Replies.{RequestReply, Answers, Raises, Suspends, Halts}
use Rattle.model_machine.specs.Sound.{IsFree, IsLeft, IsSoundBut, IsStateSound}
use Rattle.model_machine.specs.State.{ResumePoint, Asked, Sleeping, Leaving, Serving, Connecting, Yielding, Reading, ReadingAll, Generator, State}
use Rattle.model_machine.specs.State.{generator_of, resumed}
use Rattle.model_machine.specs.Step.{says_of}
use Rattle.model_machine.specs.Turn.{turn}
use Rattle.model_machine.specs.Went.{Went, Goes, Stops}

-- Inside a step of a task, whose coroutine was resumed. None of its groups is being left: that ends the step.
pub record IsStepSound {S : Type 0} (added : Extra S) (task : ℕ) (s : State S) : Type 0 where
  pub others : IsSoundBut (Some task) (Some task) added s
  pub resume_point : (generator_of task s).resume_point ≡ Asked
  pub begun : (generator_of task s).tape ≡ [] → ⊥
  pub exits : (id : ℕ) → IsLeft s id → task ≡ (group_of s.loop id).parent → ⊥

-- a task may come to stand so: at a request that is added, under a key that is known and under which no task stands
abbrev pub MayStandAt : (has_key : ℕ → Bool) → List Generator → ResumePoint → Type 0
MayStandAt has_key generators Asked = Unit {0}
MayStandAt has_key generators (Sleeping tag) = Unit {0}
MayStandAt has_key generators (Leaving group) = Unit {0}
MayStandAt has_key generators (Serving key) = IsFree generators key × (has_key key ≡ true)
MayStandAt has_key generators (Connecting conn) = Unit {0}
MayStandAt has_key generators (Yielding whom) = Unit {0}
MayStandAt has_key generators (Reading from op on) = Unit {0}
MayStandAt has_key generators (ReadingAll from taken on) = Unit {0}

-- The coroutine of the task that runs asks for this. The task stood there as its step began, where it may stand again, or stands at
-- nothing.
pub record IsAsked {S : Type 0} (added : Extra S) (task : ℕ) (stood : ResumePoint) (asked : Request) (s : State S) : Type 0 where
  pub others : IsSoundBut (Some task) (Some task) added s
  pub resume_point : (generator_of task s).resume_point ≡ Asked
  pub says : says_of step_limit added task s ≡ Asks asked
  pub exits : (id : ℕ) → IsLeft s id → task ≡ (group_of s.loop id).parent → stood ≡ Leaving id
  pub alone : MayStandAt (added.keeps s.extra).has_key s.generators stood

-- What a request comes to leaves a sound state: inside the step once the coroutine was answered, and whole where the step ends.
abbrev pub RepliesInStep : {S : Type 0} → Extra S → (fresh : Bool) → (task : ℕ) → RequestReply S → Type 0
RepliesInStep added fresh task (Answers value now) = IsStepSound added task (resumed fresh task (Send value) now)
RepliesInStep added fresh task (Raises fault now) = IsStepSound added task (resumed fresh task (Throw fault) now)
RepliesInStep added fresh task (Suspends now) = IsStateSound added now
RepliesInStep added fresh task (Halts end last) = Unit {0}

-- what goes on leaves a sound state
abbrev pub LeavesStateSound : {S : Type 0} → Extra S → Went S → Type 0
LeavesStateSound added (Goes now) = IsStateSound added now
LeavesStateSound added (Stops end last) = Unit {0}

-- all of these states are sound
abbrev pub AreStatesSound : {S : Type 0} → Extra S → List (State S) → Type 0
AreStatesSound added [] = Unit {0}
AreStatesSound added (s ∷ states) = IsStateSound added s × AreStatesSound added states

abbrev pub Afterwards : {S : Type 0} → (State S → Type 0) → Went S → Type 0
Afterwards then_ (Goes now) = then_ now
Afterwards then_ (Stops end last) = Unit {0}

-- Of a run of so many turns from a state on: each state between two turns, and each between two callbacks of a turn, is sound.
unfoldable pub IsRunSound : {S : Type 0} → Extra S → (turns : ℕ) → State S → Type 0
IsRunSound added zero s = IsStateSound added s
IsRunSound added (suc turns) s =
    IsStateSound added s × AreStatesSound added (mids step_limit added s) × Afterwards (IsRunSound added turns) (turn step_limit added s)

-- a request that is added to the loop's own
abbrev pub is_added : Request → Bool
is_added (request.Extra code arguments) = true
is_added _ = false

-- futures of `future()` stay, and one more was made since
pub record FuturesStay (next : ℕ) (old new : List ℕ) : Type 0 where
  pub stays : (place id : ℕ) → slice_get old place ≡ Some id → slice_get new place ≡ Some id
  pub fresh : (place id : ℕ) → slice_get new place ≡ Some id → (slice_get old place ≡ Some id) ⊎ (next ≤ id)

-- a step that no coroutine hears, nor what is added
pub record SameTapes {S : Type 0} (s t : State S) : Type 0 where
  pub program : t.program ≡ s.program
  pub generators : t.generators ≡ s.generators
  pub streams : t.streams ≡ s.streams
  pub extra : t.extra ≡ s.extra
  pub scripts : FuturesStay (next_future s.loop.parts) s.futures t.futures
