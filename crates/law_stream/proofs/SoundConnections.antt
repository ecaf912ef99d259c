-- What each operation of a connection and of a child keeps of its sender.
use Rattle.std.proofs.Common.{◌≡◌, ℕ, ◌+◌, ℤ, Bool, true, false, cond, not, ◌&&◌, ◌||◌, List, [], ◌∷◌, ◌++◌, Option, Some, None, refl, ap, arith}
use Rattle.model_value.specs.Value.{Exc, Outcome}
use Rattle.model_wire.specs.declared.event.Handed.{Handed}
use Rattle.model_wire.specs.declared.event.Handed.TheVariants as to
use Rattle.model_wire.specs.declared.call.Call.TheVariants as call
use Rattle.model_wire.specs.declared.answer.Answer.TheVariants as answer
use Rattle.model_wire.specs.Call.{Call, Answer}
use Rattle.model_wire.specs.Event.{handed_by}
use Rattle.model_stream.specs.declared.answers.Wrote.{Wrote}
use Rattle.model_stream.specs.declared.put.Limited.{Limited}
use Rattle.model_stream.specs.declared.answers.Drain.TheVariants as drain_as
use Rattle.model_stream.specs.Connections.{Connection, outlet, its_sender, its_receiver, fail, received, readable}
use Rattle.model_stream.specs.Connections.{lose, flushed, writable, close}
use Rattle.model_stream.specs.Connections.{handler_done, write_to, write_eof, drain_of, limits_of, reads}
use Rattle.model_stream.specs.Doing.{Doing, Ends, Asks, Settle, and_then, asks, on, asked_on}
use Rattle.model_stream.specs.Receivers.{receive_loss, wakes}
use Rattle.model_stream.specs.Reading.{Reading}
use Rattle.model_stream.specs.Senders.{Sender, Drain, has_unsent, is_closing, is_lost, with_writer}
use Rattle.model_stream.specs.Senders.{write, send_more, close_sender, fail_sender, lose_sender, drain_sender}
use Rattle.model_stream.specs.Senders.{limits_sender, is_flushed, loss_of}
use Rattle.model_stream.specs.Sending.{put_answer, set_eof, written_of}
use Rattle.law_stream.specs.Ways.{Move, Did, Heard, Always, losses, offers, closes, is_close, is_offer, one_if}
use Rattle.law_stream.specs.SoundSenders.{IsSoundSender, KeepsSender, MayLose}
use Rattle.law_stream.proofs.Along.{always_if, always_into, always_map, always_then}
use Rattle.law_stream.proofs.SenderRuns.{keeps_both}
use Rattle.law_stream.proofs.SoundSenders.{keeps_still, keeps_quiet, live_of, nothing_by, fail_keeps, close_keeps}
use Rattle.law_stream.proofs.SoundSends.{write_keeps, send_keeps, lose_keeps, drain_keeps, limits_keeps, eof_keeps}

-- ---- calls that are no matter of the sender
pub record IsNeutral (whom : Handed) (call : Call) : Type 0 where
  pub closes : is_close whom call ≡ false
  pub offers : is_offer whom call ≡ false
  pub hands : (came : Answer) → handed_by whom call came ≡ []

none_more : (before some after : ℕ) (b : Bool) → b ≡ false → before + some ≡ after → before + (one_if b + some) ≡ after
none_more before some after true is same = absurd (let bad : ⊥ = cc in bad)
none_more before some after false is same = omega (arith, same)

none_at_all : (some : ℕ) (b : Bool) → b ≡ false → some ≡ 0 → one_if b + some ≡ 0
none_at_all some true is same = absurd (let bad : ⊥ = cc in bad)
none_at_all some false is same = omega (arith, same)

pub keeps_heard :
    (whom : Handed) (ran : ℕ) (piece : List ℕ) (s : Sender) (it : Call) (came : Answer) (moves : List Move) (after : Sender) → IsNeutral whom it
    → KeepsSender whom ran piece s moves after → KeepsSender whom ran piece s (Heard it came ∷ moves) after
keeps_heard whom ran piece s it came moves after neutral keeps =
    record {
      sound = keeps.sound;
      order = λ written handed order. rw (neutral.hands came) (keeps.order written handed order);
      losses = keeps.losses;
      closes = none_more (one_if (is_lost s)) (closes whom moves) (one_if (is_lost after)) (is_close whom it) neutral.closes keeps.closes;
      offers = λ is. none_at_all (offers whom moves) (is_offer whom it) neutral.offers (keeps.offers is);
      stays = keeps.stays;
    }

recv_neutral : (id : ℕ) → IsNeutral (to.Conn id) (call.Recv id)
recv_neutral id = record { closes = refl; offers = refl; hands = λ came. refl }

shut_neutral : (id : ℕ) → IsNeutral (to.Conn id) (call.Shut id)
shut_neutral id = record { closes = refl; offers = refl; hands = λ came. refl }

-- ---- a connection
abbrev Keeps : (id ran : ℕ) (piece : List ℕ) (s : Sender) → List Move → Connection → Type 0
Keeps id ran piece s moves after = KeepsSender (to.Conn id) ran piece s moves after.sender

abbrev KeepsFirst : {R : Type 0} (id ran : ℕ) (piece : List ℕ) (s : Sender) → List Move → Connection × R → Type 0
KeepsFirst id ran piece s moves done = KeepsSender (to.Conn id) ran piece s moves done.0.sender

-- what its sender does
on_sender :
    (id ran : ℕ) (piece : List ℕ) (c : Connection) (change : Sender → Doing Sender) → Always (KeepsSender (to.Conn id) ran piece c.sender) (change c.sender)
    → Always (Keeps id ran piece c.sender) (on its_sender change c)
on_sender id ran piece c change here = always_into (Keeps id ran piece c.sender) (λ after. record c { sender = after }) (change c.sender) here

asked_on_sender :
    {R : Type 0} (id ran : ℕ) (piece : List ℕ) (c : Connection) (change : Sender → Doing (Sender × R))
    → Always (λ moves (done : Sender × R). KeepsSender (to.Conn id) ran piece c.sender moves done.0) (change c.sender)
    → Always (KeepsFirst id ran piece c.sender) (asked_on its_sender change c)
asked_on_sender id ran piece c change here =
    always_into (KeepsFirst id ran piece c.sender) (λ done. (record c { sender = done.0 }, done.1)) (change c.sender) here

-- what wakes its reader's waiter
wakes_keep :
    (id : ℕ) (c : Connection) (reader : Reading) (waiter : Option ℕ) → IsSoundSender c.sender
    → Always (Keeps id 0 [] c.sender) (and_then (wakes reader waiter) (λ after. Ends (record c { receiver = after })))
wakes_keep id c reader None sound = keeps_still (to.Conn id) c.sender sound
wakes_keep id c reader (Some future) sound =
    keeps_quiet (to.Conn id) 0 [] c.sender (Settle future _) [] c.sender refl (keeps_still (to.Conn id) c.sender sound)

loss_keeps :
    (id : ℕ) (c : Connection) (fault : Option Exc) → IsSoundSender c.sender
    → Always (λ moves after. (KeepsSender (to.Conn id) 0 [] c.sender moves after.sender) × (after.sender ≡ c.sender)) (on its_receiver (receive_loss fault) c)
loss_keeps id c fault sound = by fault c.receiver.waiter refl
  where
    still : KeepsSender (to.Conn id) 0 [] c.sender [] c.sender
    still = keeps_still (to.Conn id) c.sender sound

    told : (future : ℕ) (outcome : Outcome) → KeepsSender (to.Conn id) 0 [] c.sender (Did (Settle future outcome) ∷ []) c.sender
    told future outcome = keeps_quiet (to.Conn id) 0 [] c.sender (Settle future outcome) [] c.sender refl still

    by : (fault : Option Exc) (waiter : Option ℕ) → c.receiver.waiter ≡ waiter
        → Always (λ moves after. (KeepsSender (to.Conn id) 0 [] c.sender moves after.sender) × (after.sender ≡ c.sender))
        (on its_receiver (receive_loss fault) c)
    by None None is = rw is (still, refl)
    by None (Some future) is = rw is (told future _, refl)
    by (Some fault) None is = rw is (still, refl)
    by (Some fault) (Some future) is = rw is (told future _, refl)

pub conn_fails : (id : ℕ) (c : Connection) → IsSoundSender c.sender → Always (Keeps id 0 [] c.sender) (fail id c)
conn_fails id c sound = on_sender id 0 [] c (fail_sender (outlet id)) (fail_keeps (to.Conn id) c.sender sound)

pub conn_closes : (id : ℕ) (c : Connection) → IsSoundSender c.sender → Always (Keeps id 0 [] c.sender) (close id c)
conn_closes id c sound = on_sender id 0 [] c (close_sender (outlet id)) (close_keeps (to.Conn id) c.sender sound)

heard_all :
    (id : ℕ) (s : Sender) (it : Call) (came : Answer) (doing : Doing Connection) → IsNeutral (to.Conn id) it → Always (Keeps id 0 [] s) doing
    → Always (λ moves. Keeps id 0 [] s (Heard it came ∷ moves)) doing
heard_all id s it came doing neutral here =
    always_map (Keeps id 0 [] s) (λ moves. Keeps id 0 [] s (Heard it came ∷ moves)) doing
    (λ moves after keeps. keeps_heard (to.Conn id) 0 [] s it came moves after.sender neutral keeps) here

received_keeps : (id : ℕ) (c : Connection) (came : Answer) → IsSoundSender c.sender → Always (Keeps id 0 [] c.sender) (received id c came)
received_keeps id c (answer.Data bytes) sound = wakes_keep id c _ c.receiver.waiter sound
received_keeps id c answer.Eof sound = wakes_keep id c _ c.receiver.waiter sound
received_keeps id c answer.Again sound = keeps_still (to.Conn id) c.sender sound
received_keeps id c answer.Broken sound = conn_fails id c sound
received_keeps id c (answer.Turn now items) sound = conn_fails id c sound
received_keeps id c answer.Done sound = conn_fails id c sound
received_keeps id c answer.Refused sound = conn_fails id c sound
received_keeps id c answer.Conn sound = conn_fails id c sound
received_keeps id c (answer.Took count) sound = conn_fails id c sound
received_keeps id c answer.Child sound = conn_fails id c sound
received_keeps id c (answer.Extra bytes) sound = conn_fails id c sound

pub conn_readable : (id : ℕ) (c : Connection) → IsSoundSender c.sender → Always (Keeps id 0 [] c.sender) (readable id c)
conn_readable id c sound =
    always_if (Keeps id 0 [] c.sender) (reads c) (Asks (call.Recv id) (received id c)) (Ends c)
    (λ _ came fit. heard_all id c.sender (call.Recv id) came (received id c came) (recv_neutral id) (received_keeps id c came sound))
    (λ _. keeps_still (to.Conn id) c.sender sound)

-- the loss: its reader is told first
pub conn_loses :
    (id ran : ℕ) (broken : Bool) (c : Connection) → IsSoundSender c.sender → MayLose ran broken c.sender
    → Always (Keeps id ran [] c.sender) (lose id broken c)
conn_loses id ran broken c sound may =
    always_then (Keeps id ran [] c.sender) (on its_receiver (receive_loss (loss_of (outlet id) broken)) c) (on its_sender (lose_sender (outlet id) broken))
    (always_map (λ moves after. (KeepsSender (to.Conn id) 0 [] c.sender moves after.sender) × (after.sender ≡ c.sender))
    (λ moves after. Always (λ more. Keeps id ran [] c.sender (moves ++ more)) (on its_sender (lose_sender (outlet id) broken) after))
    (on its_receiver (receive_loss (loss_of (outlet id) broken)) c)
    (λ moves mid keeps.
    always_map (Keeps id ran [] mid.sender) (λ more. Keeps id ran [] c.sender (moves ++ more)) (on its_sender (lose_sender (outlet id) broken) mid)
    (λ more after next. both ran c.sender moves mid.sender more after.sender keeps.0 next)
    (on_sender id ran [] mid (lose_sender (outlet id) broken)
    (lose_keeps (to.Conn id) ran broken mid.sender (rw keeps.1 sound) (rw keeps.1 may))))
    (loss_keeps id c (loss_of (outlet id) broken) sound))
  where
    both : (ran : ℕ) (s : Sender) (moves : List Move) (mid : Sender) (more : List Move) (after : Sender) → KeepsSender (to.Conn id) 0 [] s moves mid
        → KeepsSender (to.Conn id) ran [] mid more after → KeepsSender (to.Conn id) ran [] s (moves ++ more) after
    both ran s moves mid more after first second =
        let keeps = keeps_both (to.Conn id) 0 ran [] [] s mid after moves more first second in
        record {
          sound = keeps.sound;
          order = keeps.order;
          losses = (let sum = keeps.losses in omega (arith, sum));
          closes = keeps.closes;
          offers = keeps.offers;
          stays = keeps.stays;
        }

-- ---- what is sent
flushed_by : (some ended : Bool) → not (not some && not ended) ≡ false → (some ≡ false) × (ended ≡ false)
flushed_by true ended is = absurd (let bad : ⊥ = cc in bad)
flushed_by false true is = absurd (let bad : ⊥ = cc in bad)
flushed_by false false is = (refl, refl)

pub may_flush : (s : Sender) → IsSoundSender s → not (is_flushed s) ≡ false → MayLose 0 false s
may_flush s sound is =
    let facts = flushed_by (has_unsent s) s.writer.ended is in
    let live = live_of s sound facts.1 in
    record { not_lost = live.lost; pending = ap one_if live.losing; nothing = nothing_by s.writer.unsent facts.0; whole = λ _. live.broken }

flushed_keeps : (id : ℕ) (c : Connection) → IsSoundSender c.sender → Always (Keeps id 0 [] c.sender) (flushed id c)
flushed_keeps id c sound =
    let still = keeps_still (to.Conn id) c.sender sound in
    always_if (Keeps id 0 [] c.sender) (not (is_flushed c.sender)) (Ends c)
    (cond (is_closing c.sender) (lose id false c) (cond c.sender.writer.eof (asks (call.Shut id) (Ends c)) (Ends c)))
    (λ _. still)
    (λ is.
    always_if (Keeps id 0 [] c.sender) (is_closing c.sender) (lose id false c) (cond c.sender.writer.eof (asks (call.Shut id) (Ends c)) (Ends c))
    (λ _. conn_loses id 0 false c sound (may_flush c.sender sound is))
    (λ _.
    always_if (Keeps id 0 [] c.sender) c.sender.writer.eof (asks (call.Shut id) (Ends c)) (Ends c)
    (λ _ came fit. keeps_heard (to.Conn id) 0 [] c.sender (call.Shut id) came [] c.sender (shut_neutral id) still)
    (λ _. still)))

pub conn_writable : (id : ℕ) (c : Connection) → IsSoundSender c.sender → Always (Keeps id 0 [] c.sender) (writable id c)
conn_writable id c sound =
    always_if (Keeps id 0 [] c.sender) (has_unsent c.sender) (and_then (on its_sender (send_more (outlet id)) c) (flushed id)) (Ends c)
    (λ some.
    always_then (Keeps id 0 [] c.sender) (on its_sender (send_more (outlet id)) c) (flushed id)
    (always_map (Keeps id 0 [] c.sender) (λ moves mid. Always (λ more. Keeps id 0 [] c.sender (moves ++ more)) (flushed id mid))
    (on its_sender (send_more (outlet id)) c)
    (λ moves mid keeps.
    always_map (Keeps id 0 [] mid.sender) (λ more. Keeps id 0 [] c.sender (moves ++ more)) (flushed id mid)
    (λ more after next. keeps_both (to.Conn id) 0 0 [] [] c.sender mid.sender after.sender moves more keeps next)
    (flushed_keeps id mid keeps.sound))
    (on_sender id 0 [] c (send_more (outlet id)) (send_keeps (to.Conn id) c.sender sound some))))
    (λ _. keeps_still (to.Conn id) c.sender sound)

-- ---- requests
pub conn_writes :
    (id : ℕ) (piece : List ℕ) (c : Connection) → IsSoundSender c.sender
    → Always (KeepsFirst {R = Wrote} id 0 (written_of (put_answer piece c.sender.writer) piece) c.sender) (write_to id piece c)
conn_writes id piece c sound =
    asked_on_sender id 0 (written_of (put_answer piece c.sender.writer) piece) c (write (outlet id) piece) (write_keeps (to.Conn id) piece c.sender sound)

pub conn_limits :
    (id : ℕ) (high low : Option ℤ) (c : Connection) → IsSoundSender c.sender → Always (KeepsFirst {R = Limited} id 0 [] c.sender) (limits_of high low c)
conn_limits id high low c sound = asked_on_sender id 0 [] c (limits_sender high low) (limits_keeps (to.Conn id) high low c.sender sound)

pub conn_drains :
    (id : ℕ) (yielded : Bool) (next : ℕ) (c : Connection) → IsSoundSender c.sender
    → Always (KeepsFirst {R = Drain} id 0 [] c.sender) (drain_of yielded next c)
conn_drains id yielded next c sound = by c.receiver.reader.failed
  where
    drains : Always (KeepsFirst {R = Drain} id 0 [] c.sender) (asked_on its_sender (drain_sender yielded next) c)
    drains = asked_on_sender id 0 [] c (drain_sender yielded next) (drain_keeps (to.Conn id) yielded next c.sender sound)

    by : (failed : Option Exc)
        → Always (KeepsFirst {R = Drain} id 0 [] c.sender)
        (elim failed [
          | None ↦ asked_on its_sender (drain_sender yielded next) c
          | Some fault ↦ cond yielded (asked_on its_sender (drain_sender yielded next) c) (Ends (c, drain_as.Raises fault))
        ])
    by None = drains
    by (Some fault) =
        always_if (KeepsFirst {R = Drain} id 0 [] c.sender) yielded (asked_on its_sender (drain_sender yielded next) c) (Ends (c, drain_as.Raises fault))
        (λ _. drains) (λ _. keeps_still (to.Conn id) c.sender sound)

pub conn_handled : (id : ℕ) (returned : Bool) (c : Connection) → IsSoundSender c.sender → Always (Keeps id 0 [] c.sender) (handler_done id returned c)
conn_handled id returned c sound =
    always_if (Keeps id 0 [] c.sender) returned (Ends c) (close id c) (λ _. keeps_still (to.Conn id) c.sender sound) (λ _. conn_closes id c sound)

pub conn_ends : (id : ℕ) (c : Connection) → IsSoundSender c.sender → Always (Keeps id 0 [] c.sender) (write_eof id c)
conn_ends id c sound =
    let after = record c { sender = with_writer (set_eof c.sender.writer) c.sender } in
    let keeps = eof_keeps (to.Conn id) c.sender sound in
    always_if (Keeps id 0 [] c.sender) (is_closing c.sender || c.sender.writer.eof) (Ends c)
    (cond (has_unsent c.sender) (Ends after) (asks (call.Shut id) (Ends after)))
    (λ _. keeps_still (to.Conn id) c.sender sound)
    (λ _.
    always_if (Keeps id 0 [] c.sender) (has_unsent c.sender) (Ends after) (asks (call.Shut id) (Ends after))
    (λ _. keeps)
    (λ _ came fit. keeps_heard (to.Conn id) 0 [] c.sender (call.Shut id) came [] after.sender (shut_neutral id) keeps))
