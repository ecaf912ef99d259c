-- Where a call of streams may be made: in a task's step, as it begins, and as a callback runs.
use Rattle.std.proofs.Common.{ℕ, List, Option, Some, None, sym, subst}
use Rattle.model_value.specs.Action.{Action}
use Rattle.model_value.specs.Request.{Request}
use Rattle.model_wire.specs.Journal.{Entry}
use Rattle.model_loop.specs.Owning.{OwnsFutures}
use Rattle.model_machine.specs.Sound.{AreStreamsFutures}
use Rattle.model_machine.specs.State as resume_point
use Rattle.model_machine.specs.State.{State}
use Rattle.aio_extra.specs.Added.{Added}
use Rattle.aio_body.specs.declared.run_state.RunState.{RunState}
use Rattle.aio_body.specs.Asked.{IsAskingFor, IsDeciding, IsGoing}
use Rattle.aio_body.specs.Stands.{IsBetween, Context}
use Rattle.aio_body.specs.Taken.{IsTaken}
use Rattle.aio_body.specs.Answers.{with_answers, with_rest}
use Rattle.aio_body.proofs.Answering.{stands_again}
use Rattle.refine_streams.specs.Went.{MayCall}

module _ {X : Type 0} {a : Added X} (c : Context a) (body : RunState X) (s : State a.Kept) where
  pub may_going : (task : ℕ) → IsGoing task c body s → MayCall (Some task) c body s
  may_going task h = record {
    stands = h.in_step.stands;
    streams = h.sound.others.streams;
    owns = h.sound.others.loop.parts.owns;
  }

  pub may_asking : (task : ℕ) (request : Request) → IsAskingFor task request c body s → MayCall (Some task) c body s
  may_asking task request h = may_going task h.going

  pub may_deciding : (task : ℕ) (stood : resume_point.ResumePoint) → IsDeciding task stood c body s → MayCall (Some task) c body s
  may_deciding task stood h = record {
    stands = h.in_step.stands;
    streams = h.asked.others.streams;
    owns = h.asked.others.loop.parts.owns;
  }

  pub may_between : IsBetween c body s → MayCall None c body s
  may_between h = record { stands = h.stands; streams = h.sound.streams; owns = h.sound.loop.parts.owns }

  pub may_taken : (action : Action) → IsTaken action c body s → MayCall None c body s
  may_taken action h = record {
    stands = h.stands;
    streams = subst AreStreamsFutures (sym h.after) h.sound.streams;
    owns = subst (λ (t : State a.Kept). OwnsFutures t.loop.parts) (sym h.after) h.sound.loop.parts.owns;
  }

  -- whatever the outside has left to answer
  pub may_again : (out : Option ℕ) (answers : List Entry) → MayCall out c body s → MayCall out (with_rest answers c) body (with_answers answers s)
  may_again out answers h = record { stands = stands_again answers c body s out h.stands; streams = h.streams; owns = h.owns }
