-- Sound writers and senders, what each operation keeps of them, and the order of what is written and handed on.
use Rattle.std.specs.Prelude.{◌≡◌, ℕ, ◌+◌, ◌≤◌, Bool, true, false, List, [], ◌++◌, length}
use Rattle.model_wire.specs.declared.event.Handed.{Handed}
use Rattle.model_wire.specs.declared.event.Handed.TheVariants as to
use Rattle.model_stream.specs.declared.phase.Phase.TheVariants as phase
use Rattle.model_stream.specs.Children.{inlet}
use Rattle.model_stream.specs.Connections.{Connection, outlet}
use Rattle.model_stream.specs.Senders.{Sender, Outlet, is_lost}
use Rattle.law_stream.specs.Ways.{Move, handed_in, losses, offers, closes, one_if}

-- the sending side of whom
abbrev pub outlet_of : Handed → Outlet
outlet_of (to.Conn id) = outlet id
outlet_of (to.Child id) = inlet id

-- ---- how far the end has come
abbrev pub is_losing : Sender → Bool
is_losing s = elim s.phase [ phase.Open ↦ false | phase.Closing ↦ false | phase.Losing broken ↦ true | phase.Lost broken ↦ false ]

-- loss is scheduled or done
abbrev pub is_over : Sender → Bool
is_over s = elim s.phase [ phase.Open ↦ false | phase.Closing ↦ false | phase.Losing broken ↦ true | phase.Lost broken ↦ true ]

-- its loss has an exception
abbrev pub is_broken : Sender → Bool
is_broken s = elim s.phase [ phase.Open ↦ false | phase.Closing ↦ false | phase.Losing broken ↦ broken | phase.Lost broken ↦ broken ]

-- ---- what holds of every one
pub record IsSoundSender (s : Sender) : Type 0 where
  -- the writer takes nothing exactly where loss is scheduled or done
  pub over : s.writer.ended ≡ is_over s
  -- and then nothing is unsent
  pub nothing : s.writer.ended ≡ true → s.writer.unsent ≡ []
  -- the low mark is no higher than the high one
  pub marks : s.writer.low ≤ s.writer.high
  -- where writing isn't paused, at most the high mark is unsent
  pub unpaused : s.writer.paused ≡ false → length s.writer.unsent ≤ s.writer.high
  -- where nothing is unsent and no loss is scheduled, writing isn't paused
  pub resumed : s.writer.ended ≡ false → s.writer.unsent ≡ [] → s.writer.paused ≡ false
  -- nobody waits in a drain but while writing is paused
  pub drains : s.writer.paused ≡ false → s.drains ≡ []

-- ---- the order
-- What was handed is a front of what was written, and what is unsent is the rest, unless a loss dropped it.
pub record IsInOrder (written handed : List ℕ) (s : Sender) : Type 0 where
  pub rest : List ℕ
  pub front : written ≡ handed ++ rest
  pub unsent : is_broken s ≡ false → s.writer.unsent ≡ rest

-- ---- what an operation keeps, by which this piece is written and these moves are made; `ran` says how many callbacks of a
-- loss it is
pub record KeepsSender (whom : Handed) (ran : ℕ) (piece : List ℕ) (s : Sender) (moves : List Move) (after : Sender) : Type 0 where
  pub sound : IsSoundSender after
  pub order : (written handed : List ℕ) → IsInOrder written handed s → IsInOrder (written ++ piece) (handed ++ handed_in whom moves) after
  -- a loss is pending exactly where one is scheduled and not done
  pub losses : one_if (is_losing s) + losses whom moves ≡ ran + one_if (is_losing after)
  -- the outside is asked to close as the loss is done
  pub closes : one_if (is_lost s) + closes whom moves ≡ one_if (is_lost after)
  -- nothing is offered once loss is scheduled, and that stays so
  pub offers : s.writer.ended ≡ true → offers whom moves ≡ 0
  pub stays : s.writer.ended ≡ true → after.writer.ended ≡ true

-- the same of an operation with an answer
abbrev pub Answering : {R : Type 0} → (List Move → Sender → Type 0) → List Move → Sender × R → Type 0
Answering Holds moves done = Holds moves done.0

-- the same of a connection's sender
abbrev pub KeepsConnection : (id ran : ℕ) (piece : List ℕ) (c : Connection) → List Move → Connection → Type 0
KeepsConnection id ran piece c moves after = KeepsSender (to.Conn id) ran piece c.sender moves after.sender

abbrev pub AnsweringConnection : {R : Type 0} → (List Move → Connection → Type 0) → List Move → Connection × R → Type 0
AnsweringConnection Holds moves done = Holds moves done.0

-- One whose loss is done now. `ran` is 1 for the callback of a loss that was scheduled, and 0 for one that comes with the
-- last send.
pub record MayLose (ran : ℕ) (broken : Bool) (s : Sender) : Type 0 where
  pub not_lost : is_lost s ≡ false
  pub pending : one_if (is_losing s) ≡ ran
  pub nothing : s.writer.unsent ≡ []
  -- a loss that dropped something has an exception
  pub whole : broken ≡ false → is_broken s ≡ false
