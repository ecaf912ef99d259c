-- The sending side of each connection and of each child's standard input, among all that is open: what whatever is done keeps of
-- it. One that wasn't opened yet stands as a new one.
use Rattle.std.specs.Prelude.{◌≡◌, ℕ, false, List, ◌++◌, Option, Some, None}
use Rattle.model_wire.specs.declared.event.Handed.{Handed}
use Rattle.model_stream.specs.Doing.{Doing}
use Rattle.model_stream.specs.History.{written_to}
use Rattle.model_stream.specs.Requests.{sender_of}
use Rattle.model_stream.specs.Senders.{Sender, new_sender}
use Rattle.model_stream.specs.Streams.{Streams}
use Rattle.law_stream.specs.SoundSenders.{IsSoundSender}
use Rattle.law_stream.specs.Ways.{Move, Always}
use Rattle.law_order.specs.Fronts.{Continues, KeepsFrontBy, Way}

abbrev pub standing_as : Option Sender → Sender
standing_as None = new_sender false 0
standing_as (Some sender) = sender

-- the sending side of whom, as it stands
abbrev pub standing_of : Handed → Streams → Sender
standing_of whom s = standing_as (sender_of whom s)

-- ---- among all
pub record KeepsSide (way : Way) (whom : Handed) (piece : List ℕ) (s : Streams) (moves : List Move) (after : Streams) : Type 0 where
  pub written : written_to whom after.written ≡ written_to whom s.written ++ piece
  pub keeps : KeepsFrontBy way whom piece (standing_of whom s) moves (standing_of whom after)

-- of each that is sound: some piece, perhaps none, was written to it
abbrev pub AreKeptBy : Way → Streams → List Move → Streams → Type 0
AreKeptBy way s moves after =
    (whom : Handed) → IsSoundSender (standing_of whom s) → (piece : List ℕ) × KeepsSide way whom piece s moves after

-- where each goes on
abbrev pub AreKept : Streams → List Move → Streams → Type 0
AreKept s moves after = AreKeptBy Continues s moves after

-- however what is done goes, by fitting answers
abbrev pub KeepsAllBy : Way → Streams → Doing Streams → Type 0
KeepsAllBy way s doing = Always (AreKeptBy way s) doing

abbrev pub KeepsAll : Streams → Doing Streams → Type 0
KeepsAll s doing = Always (AreKept s) doing

-- the same of what has an answer
abbrev pub KeepsAllWith : {R : Type 0} → Streams → Doing (Streams × R) → Type 0
KeepsAllWith s doing = Always (λ moves done. AreKept s moves done.0) doing
