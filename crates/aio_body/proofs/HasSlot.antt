-- The slot of the task whose step goes on.
use Rattle.std.proofs.Common.{ℕ, ◌<◌, length, sym, subst}
use Rattle.std.proofs.Math.Logic.{∥∥₁_elim}
use Rattle.std.proofs.Props.{props}
use Rattle.model_loop.specs.Tasks.{next_task}
use Rattle.model_machine.specs.State.{State}
use Rattle.law_replies.proofs.Counts.{lives_within}
use Rattle.aio_extra.specs.Added.{Added}
use Rattle.aio_body.specs.declared.run_state.RunState.{RunState}
use Rattle.aio_body.specs.Asked.{IsGoing}
use Rattle.aio_body.specs.Stands.{Possible, Context}
use Rattle.aio_body.proofs.Sound.{runs_living}

module _ {X : Type 0} {a : Added X} where
  pub within_going : (task : ℕ) (c : Context a) (body : RunState X) (s : State a.Kept) → IsGoing task c body s → task < next_task s.loop.parts
  within_going task c body s h = lives_within s.loop.parts task (runs_living a.meaning task s h.sound)

  pub slot_there : (task : ℕ) (body : RunState X) → Possible a (IsGoing task) body → task < length body.slots.items
  slot_there task body m =
      ∥∥₁_elim m (hlevel props) (λ w.
      subst (λ n. task < n) (sym w.1.1.in_step.stands.made) (within_going task w.0 body w.1.0 w.1.1))
