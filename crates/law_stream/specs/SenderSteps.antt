-- What happens to the sending side of a connection, or to a child's standard input, step by step.
use Rattle.std.specs.Prelude.{◌≡◌, ℕ, ◌+◌, ℤ, Bool, true, List, [], ◌∷◌, ◌++◌, Option}
use Rattle.model_wire.specs.declared.event.Handed.{Handed}
use Rattle.model_wire.specs.Fits.{fits}
use Rattle.model_stream.specs.Doing.{Doing, Ends, Changes, Asks, and_then}
use Rattle.model_stream.specs.Senders.{Sender, has_unsent, with_writer, write, send_more, close_sender, fail_sender, lose_sender, drain_sender, limits_sender}
use Rattle.model_stream.specs.Sending.{put_answer, set_eof, written_of}
use Rattle.law_stream.specs.SoundSenders.{outlet_of, MayLose}
use Rattle.law_stream.specs.Ways.{Move, Did, Heard}

pub data SenderStep : Type 0 where
  Writes : (piece : List ℕ) → SenderStep
  -- more may be sent
  Sends : SenderStep
  Closes : SenderStep
  Fails : SenderStep
  -- the loss is done, by the callback that was scheduled (1) or with the last send (0)
  Loses : (ran : ℕ) (broken : Bool) → SenderStep
  Drains : (yielded : Bool) (next : ℕ) → SenderStep
  SetsLimits : (high low : Option ℤ) → SenderStep
  WritesEnd : SenderStep

abbrev pub sender_of : {R : Type 0} → Doing (Sender × R) → Doing Sender
sender_of doing = and_then doing (λ done. Ends done.0)

abbrev pub done : Handed → SenderStep → Sender → Doing Sender
done whom (Writes piece) s = sender_of (write (outlet_of whom) piece s)
done whom Sends s = send_more (outlet_of whom) s
done whom Closes s = close_sender (outlet_of whom) s
done whom Fails s = fail_sender (outlet_of whom) s
done whom (Loses ran broken) s = lose_sender (outlet_of whom) broken s
done whom (Drains yielded next) s = sender_of (drain_sender yielded next s)
done whom (SetsLimits high low) s = sender_of (limits_sender high low s)
done whom WritesEnd s = Ends (with_writer (set_eof s.writer) s)

-- More is sent where something is unsent, and the loss is done once.
abbrev pub May : SenderStep → Sender → Type 0
May (Writes piece) s = Unit {0}
May Sends s = has_unsent s ≡ true
May Closes s = Unit {0}
May Fails s = Unit {0}
May (Loses ran broken) s = MayLose ran broken s
May (Drains yielded next) s = Unit {0}
May (SetsLimits high low) s = Unit {0}
May WritesEnd s = Unit {0}

abbrev pub written_in : SenderStep → Sender → List ℕ
written_in (Writes piece) s = written_of (put_answer piece s.writer) piece
written_in Sends s = []
written_in Closes s = []
written_in Fails s = []
written_in (Loses ran broken) s = []
written_in (Drains yielded next) s = []
written_in (SetsLimits high low) s = []
written_in WritesEnd s = []

abbrev pub ran_in : SenderStep → ℕ
ran_in (Writes piece) = 0
ran_in Sends = 0
ran_in Closes = 0
ran_in Fails = 0
ran_in (Loses ran broken) = ran
ran_in (Drains yielded next) = 0
ran_in (SetsLimits high low) = 0
ran_in WritesEnd = 0

-- along these moves, by fitting answers, it comes to this result
abbrev pub Leads : {A : Type 0} → Doing A → List Move → A → Type 0
Leads (Ends result) [] last = result ≡ last
Leads (Ends result) (move ∷ moves) last = ⊥
Leads (Changes change rest) [] last = ⊥
Leads (Changes change rest) (Did other ∷ moves) last = (change ≡ other) × Leads rest moves last
Leads (Changes change rest) (Heard call answer ∷ moves) last = ⊥
Leads (Asks call rest) [] last = ⊥
Leads (Asks call rest) (Did change ∷ moves) last = ⊥
Leads (Asks call rest) (Heard other answer ∷ moves) last = (call ≡ other) × (fits call answer ≡ true) × Leads (rest answer) moves last

-- In steps, `ran` of which were callbacks of a loss, this was written, and these moves were made.
pub data Comes (whom : Handed) : (from : Sender) (ran : ℕ) (written : List ℕ) (moves : List Move) (to : Sender) → Type 0 where
  Rests : (s : Sender) → Comes whom s 0 [] [] s
  Steps : (step : SenderStep) (s mid after : Sender) (moves more : List Move) (ran : ℕ) (written : List ℕ) → May step s
      → Leads (done whom step s) moves mid → Comes whom mid ran written more after
      → Comes whom s (ran_in step + ran) (written_in step s ++ written) (moves ++ more) after
