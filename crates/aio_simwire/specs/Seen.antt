-- What is seen of a wire that is made up, and what it replies.
use Rattle.std.specs.Prelude.{◌≡◌, ℕ, Bool, true, false, List, Option, Some, None}
use Rattle.model_wire.specs.declared.watch.Watch.{Watch}
use Rattle.model_wire.specs.declared.answer.Answer.TheVariants as answer
use Rattle.model_wire.specs.declared.call.Call.TheVariants as call
use Rattle.model_wire.specs.Call.{Call, Answer}
use Rattle.model_wire.specs.Fits.{turn_fits}
use Rattle.model_wire.specs.Told.{WireSeen, WireEnd, Going, OutOfAnswers}
use Rattle.aio_wire.specs.Replied.{EndAgrees}
use Rattle.aio_wire.specs.declared.wire.Reply.{Reply}
use Rattle.aio_wire.specs.declared.wire.Reply.TheVariants.{Got, Over, Bad, Failed}

-- its time, and whether no answer is left
pub record Seen : Type 0 where
  pub time : ℕ
  pub is_over : Bool

abbrev pub end_of : Bool → WireEnd
end_of true = OutOfAnswers
end_of false = Going

-- It tells no content. Its answers fit, and it never fails.
abbrev pub sim_seen : Bool → WireSeen
sim_seen is_over = record { left = None; asked = None; handed = None; end = end_of is_over; fitting = true; faults = 0 }

-- that it has ended agrees with what is left, which it doesn't tell
pub sim_end_agrees : (is_over : Bool) → EndAgrees (sim_seen is_over).end (sim_seen is_over).left
sim_end_agrees true = λ held is. Prim.cc
sim_end_agrees false = tt

-- a turn at a time, which fits a select with this watch list
abbrev pub IsTurn : List Watch → ℕ → Answer → Type 0
IsTurn watched now (answer.Turn at items) = (at ≡ now) × (turn_fits watched at items ≡ true)
IsTurn watched now _ = ⊥

-- a turn that a select is answered has this time
abbrev pub TurnAt : ℕ → Call → Reply → Type 0
TurnAt now (call.Select wait watched) (Got (answer.Turn at items)) = at ≡ now
TurnAt now _ _ = Unit {0}

-- a reply that is an answer, or says that none is left
abbrev pub Speaks : Reply → Type 0
Speaks (Got said) = Unit {0}
Speaks Over = Unit {0}
Speaks (Bad fault) = ⊥
Speaks Failed = ⊥
