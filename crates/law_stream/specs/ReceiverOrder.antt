-- What a receiver gave of what it received, step by step.
use Rattle.std.specs.Prelude.{◌≡◌, ℕ, Bool, true, false, List, [], ◌++◌, Some, None, is_some}
use Rattle.model_stream.specs.declared.answers.StreamGot.TheVariants as got_as
use Rattle.model_stream.specs.Doing.{Doing, Ends, and_then}
use Rattle.model_stream.specs.Receivers.{Receiver, StreamGot, read, read_all}
use Rattle.law_stream.specs.ReaderSteps.{taken_away}
use Rattle.law_stream.specs.SenderSteps.{Leads}
use Rattle.law_stream.specs.Ways.{Move}
use Rattle.law_stream.specs.SoundReceivers.{ReceiverStep, Receives, ReceivesEnd, IsLost, Reads, ReadsAll, GivesUp, done}

abbrev pub received_in : ReceiverStep → List ℕ
received_in (Receives piece) = piece
received_in ReceivesEnd = []
received_in (IsLost fault) = []
received_in (Reads next op) = []
received_in (ReadsAll next) = []
received_in (GivesUp on) = []

-- what was held as it failed
abbrev pub let_go_in : ReceiverStep → Receiver → List ℕ
let_go_in (IsLost (Some fault)) r = r.reader.held
let_go_in (IsLost None) r = []
let_go_in (Receives piece) r = []
let_go_in ReceivesEnd r = []
let_go_in (Reads next op) r = []
let_go_in (ReadsAll next) r = []
let_go_in (GivesUp on) r = []

-- What went with a read's answer: its bytes, and with an exception what that removed.
abbrev pub went : StreamGot → (held rest : List ℕ) → List ℕ
went (got_as.Bytes bytes) held rest = bytes
went (got_as.Raises fault) held rest = taken_away held rest
went (got_as.Waits on) held rest = []

abbrev pub looked : Receiver → Receiver × StreamGot → Receiver × List ℕ
looked r done = (done.0, went done.1 r.reader.held done.0.reader.held)

abbrev pub with_none : Doing Receiver → Doing (Receiver × List ℕ)
with_none doing = and_then doing (λ after. Ends (after, []))

-- a step, and what went in it; a read of all keeps for itself what it took at each look
abbrev pub gives_in : ReceiverStep → Receiver → Doing (Receiver × List ℕ)
gives_in (Reads next op) r = and_then (read next op r) (λ done. Ends (looked r done))
gives_in (ReadsAll next) r = and_then (read_all next r) (λ done. Ends (done.0, done.1.taken))
gives_in (Receives piece) r = with_none (done (Receives piece) r)
gives_in ReceivesEnd r = with_none (done ReceivesEnd r)
gives_in (IsLost fault) r = with_none (done (IsLost fault) r)
gives_in (GivesUp on) r = with_none (done (GivesUp on) r)

abbrev pub has_failed : Receiver → Bool
has_failed r = is_some r.reader.failed

-- what was held, and received then, is what went, what was let go, and what is held after
pub record InOrder (received let_go : List ℕ) (r : Receiver) (moves : List Move) (done : Receiver × List ℕ) : Type 0 where
  pub order : r.reader.held ++ received ≡ done.1 ++ (let_go ++ done.0.reader.held)
  -- one that failed gives nothing, and stays so
  pub none : has_failed r ≡ true → done.1 ≡ []
  pub stays : has_failed r ≡ true → has_failed done.0 ≡ true
  -- one that didn't lets nothing go
  pub kept : has_failed done.0 ≡ false → let_go ≡ []

-- In steps, in which this was received, this went and this was let go.
pub data ReceiverGives : (from : Receiver) (received gave let_go : List ℕ) (to : Receiver) → Type 0 where
  Still : (r : Receiver) → ReceiverGives r [] [] [] r
  Gives : (step : ReceiverStep) (r mid after : Receiver) (moves : List Move) (piece received gave let_go : List ℕ)
      → Leads {A = Receiver × List ℕ} (gives_in step r) moves (mid, piece) → ReceiverGives mid received gave let_go after
      → ReceiverGives r (received_in step ++ received) (piece ++ gave) (let_go_in step r ++ let_go) after
