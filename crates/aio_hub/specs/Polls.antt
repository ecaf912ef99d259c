-- What a poller answers, by what is seen of it before and after.
use Rattle.std.specs.Prelude.{◌≡◌, ℕ, true, List, [], ◌∷◌, Option}
use Rattle.model_wire.specs.Call.{Call, Answer}
use Rattle.model_wire.specs.declared.answer.Answer.TheVariants as answer
use Rattle.model_wire.specs.declared.call.Call.TheVariants as call
use Rattle.model_wire.specs.declared.watch.Watch.{Watch}
use Rattle.model_wire.specs.Fits.{fits, turn_fits}
use Rattle.model_wire.specs.Told.{Rose}
use Rattle.aio_wire.specs.declared.wire.Reply.{Reply}
use Rattle.aio_wire.specs.declared.wire.Reply.TheVariants as reply
use Rattle.model_hub.specs.Told.{PollerSeen, told_with}
use Rattle.aio_hub.specs.declared.poller.Polled.{Polled}
use Rattle.aio_hub.specs.declared.poller.Polled.TheVariants as polled

abbrev pub poll_answers : Polled → List Answer
poll_answers (polled.Ready now items) = answer.Turn now items ∷ []
poll_answers polled.Failed = []

abbrev pub PollFits : List Watch → Polled → Type 0
PollFits watched (polled.Ready now items) = turn_fits watched now items ≡ true
PollFits watched polled.Failed = Unit {0}

abbrev pub PollFailsIfRose : ℕ → ℕ → Polled → Type 0
PollFailsIfRose before now (polled.Ready at items) = Unit {0}
PollFailsIfRose before now polled.Failed = Rose before now

-- A poll was answered.
pub record Polls (wait : Option ℕ) (watched : List Watch) (old new : PollerSeen) (said : Polled) : Type 0 where
  -- it was asked
  pub asked : new.asked ≡ told_with (call.Select wait watched ∷ []) old.asked
  pub answers : new.answers ≡ told_with (poll_answers said) old.answers
  -- what came fits, as a turn, a select with this watch list
  pub fits : PollFits watched said
  -- it failed only where its count rose
  pub failed : PollFailsIfRose old.faults new.faults said

abbrev pub net_answers : Reply → List Answer
net_answers (reply.Got given) = given ∷ []
net_answers reply.Over = []
net_answers (reply.Bad fault) = []
net_answers reply.Failed = []

-- a poller answers, or fails; it has no end
abbrev pub NetFits : Call → Reply → Type 0
NetFits asks (reply.Got given) = fits asks given ≡ true
NetFits asks reply.Over = ⊥
NetFits asks (reply.Bad fault) = ⊥
NetFits asks reply.Failed = Unit {0}

abbrev pub NetFailsIfRose : ℕ → ℕ → Reply → Type 0
NetFailsIfRose before now (reply.Got given) = Unit {0}
NetFailsIfRose before now reply.Over = Unit {0}
NetFailsIfRose before now (reply.Bad fault) = Unit {0}
NetFailsIfRose before now reply.Failed = Rose before now

-- A call on a socket was answered.
pub record Nets (asks : Call) (old new : PollerSeen) (said : Reply) : Type 0 where
  pub asked : new.asked ≡ told_with (asks ∷ []) old.asked
  pub answers : new.answers ≡ told_with (net_answers said) old.answers
  pub fits : NetFits asks said
  pub failed : NetFailsIfRose old.faults new.faults said
