-- Whatever connections and children do, but where they receive, asks to receive nothing, schedules no news of a child, and lets
-- readers be.
use Rattle.std.proofs.Common.{◌≡◌, ℕ, Bool, true, false, cond, not, ◌&&◌, List, [], ◌∷◌, ◌++◌, refl, ap, ◌∙◌}
use Rattle.model_value.specs.declared.kind.Kind.TheVariants.{ConnectionResetError}
use Rattle.model_value.specs.declared.outcome.Outcome.TheVariants.{Value as Returned}
use Rattle.model_value.specs.Value.{Nothing, Outcome, exception_of}
use Rattle.model_wire.specs.declared.call.Call.TheVariants as call
use Rattle.model_wire.specs.Call.{Call, Answer}
use Rattle.model_stream.specs.declared.answers.Drain.TheVariants as drain_as
use Rattle.model_stream.specs.declared.answers.Wrote.{Wrote}
use Rattle.model_stream.specs.declared.answers.Wrote.TheVariants as wrote
use Rattle.model_stream.specs.declared.phase.Phase.TheVariants as phase
use Rattle.model_stream.specs.declared.put.Put.{Put}
use Rattle.model_stream.specs.declared.put.Put.TheVariants.{Offer, Kept, Empty, AfterEof, Dropped}
use Rattle.model_stream.specs.Answers.{Sent, SentSome, SentNone, SendFailed, sent_by}
use Rattle.model_stream.specs.Doing.{Doing, Ends, Changes, Asks, MakeFuture, Settle, CallSoon, and_then, asks, settles}
use Rattle.model_stream.specs.Requests.{StreamReader, OfConn, OfChild}
use Rattle.model_stream.specs.Senders.{Sender, Drain, Outlet, has_unsent, is_closing, is_lost, ended_sender, loss_of, outcome_of, waiting_for_loss}
use Rattle.model_stream.specs.Senders.{fail_sender, close_sender, lose_sender, offered, write, write_as, sent, send_more, schedule_loss, with_writer}
use Rattle.model_stream.specs.Senders.{drain_sender, lost_text}
use Rattle.model_stream.specs.Sending.{offer, put, put_answer, took}
use Rattle.law_stream.specs.Ways.{Move, Did, Heard, Always, told_by}
use Rattle.law_stream.proofs.Along.{always_map}
use Rattle.law_received.specs.Calm.{Apart, ScheduleNone, is_recv}
use Rattle.law_received.specs.Readers.{brought_by, is_news, received}

-- ---- along every way
-- moves that schedule no news, and with which nothing is received
pub record BringNone (moves : List Move) : Type 0 where
  pub schedule : ScheduleNone moves
  pub bring : (from : StreamReader) → received from (told_by moves) ≡ []

pub bring_nothing : BringNone []
bring_nothing = record { schedule = tt; bring = λ from. refl }

none_by : (from : StreamReader) (it : Call) (came : Answer) → is_recv it ≡ false → brought_by from it came ≡ []
none_by from (call.Recv conn) came none = absurd (let bad : ⊥ = cc in bad)
none_by (OfConn id) _ came none = refl
none_by (OfChild pipe id) _ came none = refl

pub bring_heard : (it : Call) (came : Answer) (moves : List Move) → is_recv it ≡ false → BringNone moves → BringNone (Heard it came ∷ moves)
bring_heard it came moves none rest =
    record {
      schedule = rest.schedule;
      bring = λ from. ap (λ bytes. bytes ++ received from (told_by moves)) (none_by from it came none) ∙ rest.bring from;
    }

pub apart_always : {A : Type 0} (Holds : A → Type 0) (doing : Doing A) → Apart Holds doing → Always (λ moves result. BringNone moves × Holds result) doing
apart_always Holds (Ends result) h = (bring_nothing, h)
apart_always Holds (Changes MakeFuture rest) h =
    always_map (λ moves result. BringNone moves × Holds result) (λ moves result. BringNone (Did MakeFuture ∷ moves) × Holds result) rest
    (λ moves result it. (record { schedule = it.0.schedule; bring = it.0.bring }, it.1)) (apart_always Holds rest h)
apart_always Holds (Changes (Settle future outcome) rest) h =
    always_map (λ moves result. BringNone moves × Holds result) (λ moves result. BringNone (Did (Settle future outcome) ∷ moves) × Holds result) rest
    (λ moves result it. (record { schedule = it.0.schedule; bring = it.0.bring }, it.1)) (apart_always Holds rest h)
apart_always Holds (Changes (CallSoon act) rest) h =
    always_map (λ moves result. BringNone moves × Holds result) (λ moves result. BringNone (Did (CallSoon act) ∷ moves) × Holds result) rest
    (λ moves result it. (record { schedule = (h.0, it.0.schedule); bring = it.0.bring }, it.1)) (apart_always Holds rest h.1)
apart_always Holds (Asks it rest) h =
    λ came fit.
    always_map (λ moves result. BringNone moves × Holds result) (λ moves result. BringNone (Heard it came ∷ moves) × Holds result) (rest came)
    (λ moves result both. (bring_heard it came moves h.0 both.0, both.1)) (apart_always Holds (rest came) (h.1 came))

-- ---- put together
pub apart_if : {A : Type 0} (Holds : A → Type 0) (b : Bool) (x y : Doing A) → Apart Holds x → Apart Holds y → Apart Holds (cond b x y)
apart_if Holds true x y here there = here
apart_if Holds false x y here there = there

pub apart_told : {A : Type 0} (Holds : A → Type 0) (futures : List ℕ) (outcome : Outcome) (rest : Doing A) → Apart Holds rest
    → Apart Holds (settles futures outcome rest)
apart_told Holds [] outcome rest h = h
apart_told Holds (future ∷ futures) outcome rest h = apart_told Holds futures outcome rest h

pub apart_map : {A : Type 0} (Holds Then : A → Type 0) (doing : Doing A) → ((result : A) → Holds result → Then result) → Apart Holds doing
    → Apart Then doing
apart_map Holds Then (Ends result) each h = each result h
apart_map Holds Then (Changes MakeFuture rest) each h = apart_map Holds Then rest each h
apart_map Holds Then (Changes (Settle future outcome) rest) each h = apart_map Holds Then rest each h
apart_map Holds Then (Changes (CallSoon it) rest) each h = (h.0, apart_map Holds Then rest each h.1)
apart_map Holds Then (Asks it rest) each h = (h.0, λ answer. apart_map Holds Then (rest answer) each (h.1 answer))

pub apart_then : {A B : Type 0} (Holds : A → Type 0) (Then : B → Type 0) (doing : Doing A) (next : A → Doing B) → Apart Holds doing
    → ((result : A) → Holds result → Apart Then (next result)) → Apart Then (and_then doing next)
apart_then Holds Then (Ends result) next h each = each result h
apart_then Holds Then (Changes MakeFuture rest) next h each = apart_then Holds Then rest next h each
apart_then Holds Then (Changes (Settle future outcome) rest) next h each = apart_then Holds Then rest next h each
apart_then Holds Then (Changes (CallSoon it) rest) next h each = (h.0, apart_then Holds Then rest next h.1 each)
apart_then Holds Then (Asks it rest) next h each = (h.0, λ answer. apart_then Holds Then (rest answer) next (h.1 answer) each)

-- ---- a sender: one that closes goes on to
abbrev pub Closes : Sender → Sender → Type 0
Closes s after = is_closing s ≡ true → is_closing after ≡ true

abbrev pub IsClosed : Sender → Type 0
IsClosed after = is_closing after ≡ true

module _ (o : Outlet) (sends : (bytes : List ℕ) → is_recv (o.sends bytes) ≡ false) (closes : is_recv o.closes ≡ false)
    (loses : (broken : Bool) → is_news (o.loses broken) ≡ false) where
  pub schedule_apart : (broken : Bool) (s : Sender) → Apart (Closes s) (schedule_loss o broken s)
  schedule_apart broken s = (loses broken, λ is. refl)

  pub fail_apart : (s : Sender) → Apart (Closes s) (fail_sender o s)
  fail_apart s = apart_if (Closes s) s.writer.ended (Ends s) (schedule_loss o true s) (λ is. is) (schedule_apart true s)

  pub close_apart : (s : Sender) → Apart (Closes s) (close_sender o s)
  close_apart s =
      apart_if (Closes s) (is_closing s) (Ends s) _ (λ is. is)
      (apart_if (Closes s) (has_unsent s) (Ends (record s { phase = phase.Closing })) (schedule_loss o false s) (λ is. refl) (schedule_apart false s))

  pub lose_apart : (broken : Bool) (s : Sender) → Apart IsClosed (lose_sender o broken s)
  lose_apart broken s =
      apart_told IsClosed (waiting_for_loss s) (outcome_of (loss_of o broken))
      (asks o.closes (Ends (record (ended_sender (phase.Lost broken) s) { drains = [] }))) (closes, λ came. refl)

  offered_apart : (s : Sender) (came : Answer) → Apart (Closes s) (offered o s came)
  offered_apart s came = at (sent_by came)
    where
      at : (it : Sent) → Apart (Closes s) (elim it [
        | SentSome count ↦ Ends (with_writer (took count s.writer) s)
        | SentNone ↦ Ends (with_writer (took 0 s.writer) s)
        | SendFailed ↦ fail_sender o s
      ])
      at (SentSome count) = λ is. is
      at SentNone = λ is. is
      at SendFailed = fail_apart s

  written_apart : (it : Put) (s : Sender) → Apart (λ (done : Sender × Wrote). Closes s done.0) (write_as it o s)
  written_apart AfterEof s = λ is. is
  written_apart Offer s = (
    sends (offer s.writer),
    λ came.
        apart_then {A = Sender} {B = Sender × Wrote} (Closes s) (λ done. Closes s done.0) (offered o s came) (λ after. Ends (after, wrote.Done))
        (offered_apart s came) (λ after still. still),
  )
  written_apart Kept s = λ is. is
  written_apart Empty s = λ is. is
  written_apart Dropped s = λ is. is

  pub write_apart : (piece : List ℕ) (s : Sender) → Apart (λ (done : Sender × Wrote). Closes s done.0) (write o piece s)
  write_apart piece s = written_apart (put_answer piece s.writer) (with_writer (put piece s.writer) s)

  pub send_apart : (s : Sender) → Apart (Closes s) (send_more o s)
  send_apart s = (sends (offer s.writer), λ came. at (sent_by came))
    where
      at : (it : Sent) → Apart (Closes s) (elim it [
        | SentSome count ↦ sent count s
        | SentNone ↦ Ends s
        | SendFailed ↦ fail_sender o s
      ])
      at (SentSome count) =
          apart_if (Closes s) (s.writer.paused && not (took count s.writer).paused)
          (settles s.drains (Returned Nothing) (Ends (record s { writer = took count s.writer; drains = [] }))) (Ends (with_writer (took count s.writer) s))
          (apart_told (Closes s) s.drains (Returned Nothing) (Ends (record s { writer = took count s.writer; drains = [] })) (λ is. is)) (λ is. is)
      at SentNone = λ is. is
      at SendFailed = fail_apart s

pub drain_apart : (yielded : Bool) (next : ℕ) (s : Sender) → Apart (λ (done : Sender × Drain). Closes s done.0) (drain_sender yielded next s)
drain_apart yielded next s =
    apart_if (λ (done : Sender × Drain). Closes s done.0) (is_closing s && not yielded) (Ends (s, drain_as.Yields)) _ (λ is. is)
    (apart_if (λ (done : Sender × Drain). Closes s done.0) (is_lost s) (Ends (s, drain_as.Raises (exception_of ConnectionResetError lost_text))) _ (λ is. is)
    (apart_if (λ (done : Sender × Drain). Closes s done.0) s.writer.paused
    (Changes MakeFuture (Ends (record s { drains = s.drains ++ next ∷ [] }, drain_as.Waits next))) (Ends (s, drain_as.Goes)) (λ is. is) (λ is. is)))
