-- What the exit of a group, begun or gone on, makes of its task's step.
use Rattle.std.specs.Prelude.{◌≡◌, ℕ, None}
use Rattle.model_value.specs.Value.{Nothing}
use Rattle.model_loop.specs.Suspend.{suspend}
use Rattle.aio_cancel.specs.Awaitables.{Appended}
use Rattle.aio_group.specs.declared.exit.GroupExit.{GroupExit}
use Rattle.aio_group.specs.declared.exit.GroupExit.TheVariants as exit
use Rattle.aio_task.specs.View.{parts}
use Rattle.aio_body.specs.declared.run_state.RunState.{RunState}
use Rattle.aio_body.specs.declared.reply.RequestReply.{RequestReply}
use Rattle.aio_body.specs.declared.reply.RequestReply.TheVariants.{Answers, Raises, Suspends}
use Rattle.aio_body.specs.declared.resume_point.ResumePoint.TheVariants.{Leaving}
use Rattle.aio_body.specs.Slots.{resume_point_at}

-- the task waits for this future, and stands at the group's exit
pub record WaitsAtExit {X : Type 0} (task group future : ℕ) (old new : RunState X) : Type 0 where
  pub after : parts new.parts ≡ (suspend task future (parts old.parts)).parts
  pub queue : Appended old.parts.queue new.parts.queue
  pub parts : new.parts ≡ record old.parts {
    queue = new.parts.queue;
    futures = new.parts.futures;
    tasks = new.parts.tasks;
    running = None;
  }
  pub frame : new ≡ record old { parts = new.parts; slots = new.slots }
  pub slots : new.slots.items ≡ resume_point_at task (Leaving group) old.slots.items

abbrev pub GoneOn : {X : Type 0} → (task group : ℕ) → GroupExit → (old new : RunState X) → RequestReply → Type 0
GoneOn task group (exit.Waits future) old new said = WaitsAtExit task group future old new × (said ≡ Suspends)
GoneOn task group exit.Passes old new said = (new ≡ old) × (said ≡ Answers Nothing)
GoneOn task group (exit.Raises fault) old new said = (new ≡ old) × (said ≡ Raises fault)
