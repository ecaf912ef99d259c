-- The order of what is written to one sending side and handed on, and what whatever is done keeps of it.
use Rattle.std.specs.Prelude.{◌≡◌, ℕ, ◌+◌, ◌≤◌, ◌⊎◌, Bool, true, false, List, [], ◌++◌}
use Rattle.model_value.specs.declared.action.Action.TheVariants as action
use Rattle.model_value.specs.Action.{Action}
use Rattle.model_wire.specs.declared.event.Handed.{Handed}
use Rattle.model_wire.specs.declared.event.Handed.TheVariants as to
use Rattle.model_stream.specs.declared.phase.Phase.TheVariants.{Lost}
use Rattle.model_stream.specs.Children.{Child}
use Rattle.model_stream.specs.Connections.{Connection}
use Rattle.model_stream.specs.Senders.{Sender, is_lost}
use Rattle.law_stream.specs.SoundSenders.{IsInOrder, IsSoundSender, is_losing}
use Rattle.law_stream.specs.Ways.{Move, closes, handed_in, losses, one_if}
use Rattle.law_order.specs.Mild.{good_losses}

-- ---- the order
-- What was handed is a front of what was written, and what is unsent is the rest, until a loss is scheduled, which drops it.
pub record IsFront (written handed : List ℕ) (s : Sender) : Type 0 where
  pub rest : List ℕ
  pub front : written ≡ handed ++ rest
  pub unsent : s.writer.ended ≡ false → s.writer.unsent ≡ rest

-- ---- how something may end one
-- It goes on with each, as most does; it may give up this connection, which is still being made; or the loss of this one, which
-- was scheduled, is done.
pub data Way : Type 0 where
  Continues : Way
  MayGiveUp : (conn : ℕ) → Way
  Loses : (who : Handed) (broken : Bool) → Way

-- what a callback may do
abbrev pub way_of : Action → Way
way_of (action.Lost id broken) = Loses (to.Conn id) broken
way_of (action.LostChild id broken) = Loses (to.Child id) broken
way_of (action.Down id) = MayGiveUp id
way_of _ = Continues

-- of one that goes on
pub record IsRegular (whom : Handed) (piece : List ℕ) (s : Sender) (moves : List Move) (after : Sender) : Type 0 where
  -- what is unsent is the rest, unless its loss has an exception
  pub order : (written handed : List ℕ) → IsInOrder written handed s
      → IsInOrder (written ++ piece) (handed ++ handed_in whom moves) after
  -- a loss is to come exactly from where it is scheduled on, until it is done
  pub losses : one_if (is_losing s) + losses whom moves ≡ one_if (is_losing after)
  -- the outside is asked to close as the loss is done
  pub closes : one_if (is_lost s) + closes whom moves ≡ one_if (is_lost after)

-- of one whose loss is done
pub record IsLoss (whom : Handed) (broken : Bool) (moves : List Move) (after : Sender) : Type 0 where
  pub lost : after.phase ≡ Lost broken
  pub losses : losses whom moves ≡ 0
  pub closes : closes whom moves ≡ 1

abbrev pub EndsAs : Way → Handed → List ℕ → Sender → List Move → Sender → Type 0
EndsAs Continues whom piece s moves after = IsRegular whom piece s moves after
EndsAs (MayGiveUp conn) whom piece s moves after =
    IsRegular whom piece s moves after ⊎ ((whom ≡ to.Conn conn) × (closes whom moves ≡ 1))
EndsAs (Loses who broken) whom piece s moves after =
    IsRegular whom piece s moves after ⊎ ((whom ≡ who) × IsLoss whom broken moves after)

-- a loss without an exception is scheduled only where all that was written was handed on
abbrev pub IsGood : Handed → List ℕ → Sender → List Move → Type 0
IsGood whom piece s moves =
    1 ≤ good_losses whom moves → (written handed : List ℕ) → IsFront written handed s → written ++ piece ≡ handed ++ handed_in whom moves

-- What is kept of a sender, by which this piece is written and these moves are made.
pub record KeepsFrontBy (way : Way) (whom : Handed) (piece : List ℕ) (s : Sender) (moves : List Move) (after : Sender) : Type 0 where
  pub sound : IsSoundSender after
  pub order : (written handed : List ℕ) → IsFront written handed s → IsFront (written ++ piece) (handed ++ handed_in whom moves) after
  -- once a loss is scheduled that stays so, nothing is handed on, and what is written is dropped
  pub stays : s.writer.ended ≡ true → after.writer.ended ≡ true
  pub silent : s.writer.ended ≡ true → handed_in whom moves ≡ []
  pub mute : s.writer.ended ≡ true → piece ≡ []
  -- it is scheduled once
  pub once : one_if s.writer.ended + losses whom moves ≤ one_if after.writer.ended
  pub good : IsGood whom piece s moves
  -- the outside is asked to close only what takes nothing any more
  pub closed : 1 ≤ closes whom moves → after.writer.ended ≡ true
  pub ends : EndsAs way whom piece s moves after

-- the same of a connection's, and of a child's
abbrev pub KeepsConnectionBy : Way → (id : ℕ) → List ℕ → Connection → List Move → Connection → Type 0
KeepsConnectionBy way id piece c moves after = KeepsFrontBy way (to.Conn id) piece c.sender moves after.sender

abbrev pub KeepsChildBy : Way → (id : ℕ) → List ℕ → Child → List Move → Child → Type 0
KeepsChildBy way id piece p moves after = KeepsFrontBy way (to.Child id) piece p.stdin moves after.stdin
