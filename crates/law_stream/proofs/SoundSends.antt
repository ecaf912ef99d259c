-- What each operation of a sender that sends keeps, and the loss.
use Rattle.std.proofs.Common.{◌≡◌, ℕ, ◌+◌, ◌≤◌, ℤ, Bool, true, false, cond, ltb, not, ◌&&◌, List, [], ◌∷◌, ◌++◌, Option, length, take, drop, refl}
use Rattle.std.proofs.Common.{ap, sym, ◌∙◌, arith}
use Rattle.std.proofs.lemmas.Bool.Decides.{nat_tests}
use Rattle.std.proofs.lemmas.List.{append_assoc, append-nil, take-append-drop}
use Rattle.model_value.specs.declared.kind.Kind.TheVariants.{ConnectionResetError}
use Rattle.model_value.specs.declared.outcome.Outcome.TheVariants.{Value as Returned}
use Rattle.model_value.specs.Value.{Outcome, Nothing, exception_of}
use Rattle.model_wire.specs.declared.event.Handed.{Handed}
use Rattle.model_wire.specs.Call.{Answer, Call}
use Rattle.model_wire.specs.Event.{handed_by}
use Rattle.model_stream.specs.declared.phase.Phase.TheVariants as phase
use Rattle.model_stream.specs.declared.answers.Drain.TheVariants as drain_as
use Rattle.model_stream.specs.declared.answers.Wrote.{Wrote}
use Rattle.model_stream.specs.declared.answers.Wrote.TheVariants as wrote
use Rattle.model_stream.specs.declared.put.Put.{Put}
use Rattle.model_stream.specs.declared.put.Put.TheVariants.{Offer, Kept, Empty, AfterEof, Dropped}
use Rattle.model_stream.specs.declared.put.Limited.{Limited}
use Rattle.model_stream.specs.Answers.{Sent, SentSome, SentNone, SendFailed, sent_by}
use Rattle.model_stream.specs.Doing.{Ends, Changes, MakeFuture, CallSoon, Settle, asks, settles}
use Rattle.model_stream.specs.Senders.{Sender, has_unsent, is_closing, is_lost, ended_sender, schedule_loss, fail_sender, lose_sender, waiting_for_loss, Drain}
use Rattle.model_stream.specs.Senders.{outcome_of, loss_of, drain_sender, limits_sender, with_writer, write, write_as, offered}
use Rattle.model_stream.specs.Senders.{sent, send_more, lost_text, new_sender}
use Rattle.model_stream.specs.Sending.{Writer, is_nothing, set_eof, limits, offer, took, put_as, put_answer, with_piece, paused_over, written_of}
use Rattle.law_stream.specs.Ways.{Move, Did, Heard, Always, losses, is_close, one_if}
use Rattle.law_stream.specs.SoundSenders.{outlet_of, is_losing, IsSoundSender, KeepsSender, MayLose}
use Rattle.law_stream.proofs.Along.{always_if, always_told, always_into}
use Rattle.law_stream.proofs.SoundSenders.{IsSent, is_sent, live_of, keeps_same, keeps_still, keeps_quiet, settle_quiet, make_quiet, same_count, same_sum}
use Rattle.law_stream.proofs.SoundSenders.{closes_counts, closes_offers, closes_hands, sends_closes, loses_counts}
use Rattle.law_stream.proofs.SoundWriters.{took_left, took_resumes, paused_left, limits_left, first_not}
use Rattle.law_stream.proofs.WriterOrder.{front_of_front}

-- ---- what becomes of a piece
-- a piece that is kept is put where no loss is scheduled, and behind what is unsent
record IsKept (w : Writer) : Type 0 where
  ended : w.ended ≡ false
  some : is_nothing w.unsent ≡ false

kept_by :
    (eof empty ended nothing : Bool) → cond eof AfterEof (cond empty Empty (cond ended Dropped (cond nothing Offer Kept))) ≡ Kept
    → (ended ≡ false) × (nothing ≡ false)
kept_by true empty ended nothing is = absurd (let bad : ⊥ = cc in bad)
kept_by false true ended nothing is = absurd (let bad : ⊥ = cc in bad)
kept_by false false true nothing is = absurd (let bad : ⊥ = cc in bad)
kept_by false false false true is = absurd (let bad : ⊥ = cc in bad)
kept_by false false false false is = (refl, refl)

offered_by :
    (eof empty ended nothing : Bool) → cond eof AfterEof (cond empty Empty (cond ended Dropped (cond nothing Offer Kept))) ≡ Offer
    → (ended ≡ false) × (nothing ≡ true)
offered_by true empty ended nothing is = absurd (let bad : ⊥ = cc in bad)
offered_by false true ended nothing is = absurd (let bad : ⊥ = cc in bad)
offered_by false false true nothing is = absurd (let bad : ⊥ = cc in bad)
offered_by false false false true is = (refl, refl)
offered_by false false false false is = absurd (let bad : ⊥ = cc in bad)

is_empty : (bytes : List ℕ) → is_nothing bytes ≡ true → bytes ≡ []
is_empty [] is = refl
is_empty (byte ∷ bytes) is = absurd (let none : length (byte ∷ bytes) ≡ 0 = grind (arith, nat_tests) in omega (arith, none))

not_empty : (front back : List ℕ) → is_nothing front ≡ false → front ++ back ≡ [] → ⊥
not_empty [] back is none = let some : ⊥ = cc in some
not_empty (byte ∷ bytes) back is none = let bad : ⊥ = cc in bad

no_true : (b : Bool) → b ≡ false → b ≡ true → ⊥
no_true b is bad = cc

-- ---- the order after a piece
regrouped : (written handed rest piece : List ℕ) → written ≡ handed ++ rest → written ++ piece ≡ (handed ++ []) ++ (rest ++ piece)
regrouped written handed rest piece front =
    ap (λ bytes. bytes ++ piece) front ∙ append_assoc handed rest piece ∙ ap (λ bytes. bytes ++ (rest ++ piece)) (sym (append-nil handed))

-- behind what was handed
handed_more :
    (written handed rest piece more left : List ℕ) → written ≡ handed ++ rest → rest ++ piece ≡ more ++ left
    → written ++ piece ≡ (handed ++ (more ++ [])) ++ left
handed_more written handed rest piece more left front split =
    ap (λ bytes. bytes ++ piece) front ∙ append_assoc handed rest piece ∙ ap (λ bytes. handed ++ bytes) split
    ∙ sym (append_assoc handed more left) ∙ ap (λ bytes. (handed ++ bytes) ++ left) (sym (append-nil more))

-- ---- a piece is kept
kept_keeps :
    (whom : Handed) (piece : List ℕ) (s : Sender) → IsSoundSender s → IsKept s.writer
    → KeepsSender whom 0 piece s [] (with_writer (paused_over (with_piece piece s.writer)) s)
kept_keeps whom piece s sound kept =
    let w = with_piece piece s.writer in
    let left = paused_left w in
    record {
      sound = record {
        over = sound.over;
        nothing = λ is. absurd (no_true s.writer.ended kept.ended is);
        marks = sound.marks;
        unpaused = left.unpaused;
        resumed = λ _ none. absurd (not_empty s.writer.unsent piece kept.some none);
        drains = λ is. sound.drains (first_not s.writer.paused (ltb w.high (length w.unsent)) is);
      };
      order = λ written handed order.
          record {
            rest = order.rest ++ piece;
            front = regrouped written handed order.rest piece order.front;
            unsent = λ is. ap (λ bytes. bytes ++ piece) (order.unsent is);
          };
      losses = same_count (one_if (is_losing s)) (one_if (is_losing s)) refl;
      closes = same_sum (one_if (is_lost s)) (one_if (is_lost s)) refl;
      offers = λ _. refl;
      stays = λ is. is;
    }

-- ---- bytes are offered
no_close : (whom : Handed) (bytes : List ℕ) (lost : ℕ) → lost + (one_if (is_close whom ((outlet_of whom).sends bytes)) + 0) ≡ lost
no_close whom bytes lost = rw (sends_closes whom bytes) (omega arith)

-- a sender of whose bytes these were offered, and so many taken; the rest of it may differ
took_keeps :
    (whom : Handed) (piece : List ℕ) (count : ℕ) (s : Sender) (w : Writer) (drains : List ℕ) (came : Answer)
    → IsSoundSender s → s.writer.ended ≡ false → w.unsent ≡ s.writer.unsent ++ piece → w.ended ≡ s.writer.ended → w.low ≤ w.high
    → count ≤ length (offer w) → handed_by whom ((outlet_of whom).sends (offer w)) came ≡ take count (offer w)
    → ((took count w).paused ≡ false → drains ≡ [])
    → KeepsSender whom 0 piece s (Heard ((outlet_of whom).sends (offer w)) came ∷ []) (record s { writer = took count w; drains = drains })
took_keeps whom piece count s w drains came sound live unsent_is ended_is marks within hands none =
    let left = took_left count w marks in
    let after = record s { writer = took count w; drains = drains } in
    let open_is = live_of s sound live in
    record {
      sound = record {
        over = left.ended_is ∙ ended_is ∙ sound.over;
        nothing = λ is. absurd (no_true s.writer.ended live (sym ended_is ∙ sym left.ended_is ∙ is));
        marks = rw (left.low_is, left.high_is) marks;
        unpaused = λ is. rw (left.unsent_is, left.high_is) (left.unpaused is);
        resumed = λ _ empty. took_resumes count w (sym left.unsent_is ∙ empty);
        drains = none;
      };
      order = λ written handed order.
          record {
            rest = drop count w.unsent;
            front =
                ap (λ bytes. written ++ piece) hands
                ∙ handed_more written handed order.rest piece (take count w.unsent) (drop count w.unsent) order.front
                (ap (λ bytes. bytes ++ piece) (sym (order.unsent open_is.broken)) ∙ sym unsent_is ∙ sym (take-append-drop count w.unsent))
                ∙ ap (λ bytes. (handed ++ (bytes ++ [])) ++ drop count w.unsent) (sym (front_of_front count 65536 w.unsent within) ∙ sym hands);
            unsent = λ _. left.unsent_is;
          };
      losses = same_count (one_if (is_losing s)) (one_if (is_losing s)) refl;
      closes = no_close whom (offer w) (one_if (is_lost s));
      offers = λ is. absurd (no_true s.writer.ended live is);
      stays = λ is. absurd (no_true s.writer.ended live is);
    }

-- the offer failed
failed_losses : (whom : Handed) (losing : Bool) → losing ≡ false → one_if losing + losses whom (Did (CallSoon ((outlet_of whom).loses true)) ∷ []) ≡ 0 + 1
failed_losses whom true is = absurd (let bad : ⊥ = cc in bad)
failed_losses whom false is = rw (loses_counts whom true) (omega arith)

no_close_of : (whom : Handed) (bytes : List ℕ) (lost : Bool) → lost ≡ false → one_if lost + (one_if (is_close whom ((outlet_of whom).sends bytes)) + 0) ≡ 0
no_close_of whom bytes true is = absurd (let bad : ⊥ = cc in bad)
no_close_of whom bytes false is = rw (sends_closes whom bytes) (omega arith)

failed_keeps :
    (whom : Handed) (piece : List ℕ) (s : Sender) (w : Writer) (came : Answer) → IsSoundSender s → s.writer.ended ≡ false → w.ended ≡ s.writer.ended
    → w.low ≤ w.high → w.paused ≡ s.writer.paused → handed_by whom ((outlet_of whom).sends (offer w)) came ≡ []
    → Always (λ moves. KeepsSender whom 0 piece s (Heard ((outlet_of whom).sends (offer w)) came ∷ moves)) (fail_sender (outlet_of whom) (with_writer w s))
failed_keeps whom piece s w came sound live ended_is marks paused_is hands =
    let open_is = live_of s sound live in
    always_if (λ moves. KeepsSender whom 0 piece s (Heard ((outlet_of whom).sends (offer w)) came ∷ moves)) w.ended (Ends (with_writer w s))
    (schedule_loss (outlet_of whom) true (with_writer w s))
    (λ is. absurd (no_true s.writer.ended live (sym ended_is ∙ is)))
    (λ _.
    record {
      sound = record {
        over = refl;
        nothing = λ _. refl;
        marks = marks;
        unpaused = λ _. omega arith;
        resumed = λ is. absurd (let bad : ⊥ = cc in bad);
        drains = λ is. sound.drains (sym paused_is ∙ is);
      };
      order = λ written handed order.
          record {
            rest = order.rest ++ piece;
            front =
                regrouped written handed order.rest piece order.front
                ∙ ap (λ bytes. (handed ++ (bytes ++ [])) ++ (order.rest ++ piece)) (sym hands);
            unsent = λ is. absurd (let bad : ⊥ = cc in bad);
          };
      losses = failed_losses whom (is_losing s) open_is.losing;
      closes = no_close_of whom (offer w) (is_lost s) open_is.lost;
      offers = λ is. absurd (no_true s.writer.ended live is);
      stays = λ _. refl;
    })

-- ---- a write
write_by :
    (whom : Handed) (piece : List ℕ) (s : Sender) (answer : Put) → put_answer piece s.writer ≡ answer → IsSoundSender s
    → Always (λ moves (done : Sender × Wrote). KeepsSender whom 0 (written_of answer piece) s moves done.0)
    (write_as answer (outlet_of whom) (with_writer (put_as answer piece s.writer) s))
write_by whom piece s AfterEof is sound = keeps_still whom s sound
write_by whom piece s Empty is sound = keeps_still whom s sound
write_by whom piece s Dropped is sound = keeps_still whom s sound
write_by whom piece s Kept is sound =
    let facts = kept_by s.writer.eof (is_nothing piece) s.writer.ended (is_nothing s.writer.unsent) is in
    kept_keeps whom piece s sound (record { ended = facts.0; some = facts.1 })
write_by whom piece s Offer is sound =
    let w = with_piece piece s.writer in
    let facts = offered_by s.writer.eof (is_nothing piece) s.writer.ended (is_nothing s.writer.unsent) is in
    let drained = sound.drains (sound.resumed facts.0 (is_empty s.writer.unsent facts.1)) in
    λ came fit.
    always_into (λ moves (done : Sender × Wrote). KeepsSender whom 0 piece s (Heard ((outlet_of whom).sends (offer w)) came ∷ moves) done.0)
    (λ after. (after, wrote.Done)) (offered (outlet_of whom) (with_writer w s) came)
    (by w refl facts.0 drained came (sent_by came) (is_sent whom (offer w) came fit))
  where
    by : (w : Writer) → w ≡ with_piece piece s.writer → s.writer.ended ≡ false → s.drains ≡ [] → (came : Answer) (sent : Sent)
        → IsSent (offer w) (handed_by whom ((outlet_of whom).sends (offer w)) came) sent
        → Always (λ moves after. KeepsSender whom 0 piece s (Heard ((outlet_of whom).sends (offer w)) came ∷ moves) after)
        (elim sent [
          | SentSome count ↦ Ends (with_writer (took count w) (with_writer w s))
          | SentNone ↦ Ends (with_writer (took 0 w) (with_writer w s))
          | SendFailed ↦ fail_sender (outlet_of whom) (with_writer w s)
        ])
    by w same live drained came (SentSome count) went =
        took_keeps whom piece count s w s.drains came sound live (ap (λ w. w.unsent) same) (ap (λ w. w.ended) same)
        (rw same sound.marks) went.0 went.1 (λ _. drained)
    by w same live drained came SentNone went =
        took_keeps whom piece 0 s w s.drains came sound live (ap (λ w. w.unsent) same) (ap (λ w. w.ended) same)
        (rw same sound.marks) (omega arith) went (λ _. drained)
    by w same live drained came SendFailed went =
        failed_keeps whom piece s w came sound live (ap (λ w. w.ended) same) (rw same sound.marks) (ap (λ w. w.paused) same) went

pub write_keeps :
    (whom : Handed) (piece : List ℕ) (s : Sender) → IsSoundSender s
    → Always (λ moves (done : Sender × Wrote). KeepsSender whom 0 (written_of (put_answer piece s.writer) piece) s moves done.0)
    (write (outlet_of whom) piece s)
write_keeps whom piece s sound = write_by whom piece s (put_answer piece s.writer) refl sound

-- ---- more is sent
some_live : (s : Sender) → IsSoundSender s → has_unsent s ≡ true → s.writer.ended ≡ false
some_live s sound some = by s.writer.ended refl
  where
    by : (ended : Bool) → s.writer.ended ≡ ended → ended ≡ false
    by false is = refl
    by true is =
        absurd (let none : has_unsent s ≡ false = ap (λ bytes. not (is_nothing bytes)) (sound.nothing is) in no_true (has_unsent s) none some)

with_nothing : (bytes : List ℕ) → bytes ≡ bytes ++ []
with_nothing bytes = sym (append-nil bytes)

-- a future is told between a call and what follows it
keeps_told :
    (whom : Handed) (ran : ℕ) (piece : List ℕ) (s : Sender) (future : ℕ) (outcome : Outcome) (call : Call) (came : Answer) (moves : List Move) (after : Sender)
    → KeepsSender whom ran piece s (Heard call came ∷ moves) after → KeepsSender whom ran piece s (Heard call came ∷ Did (Settle future outcome) ∷ moves) after
keeps_told whom ran piece s future outcome call came moves after keeps =
    let told = keeps_quiet whom ran piece s (Settle future outcome) (Heard call came ∷ moves) after (settle_quiet whom future outcome) keeps in
    record { sound = told.sound; order = told.order; losses = told.losses; closes = told.closes; offers = told.offers; stays = told.stays }

went_resumed : (before after : Bool) → (before && not after) ≡ false → after ≡ false → before ≡ false
went_resumed true true is goes = goes
went_resumed true false is goes = absurd (let bad : ⊥ = cc in bad)
went_resumed false after is goes = refl

sent_keeps :
    (whom : Handed) (s : Sender) (came : Answer) (sent_as : Sent) → IsSoundSender s → s.writer.ended ≡ false
    → IsSent (offer s.writer) (handed_by whom ((outlet_of whom).sends (offer s.writer)) came) sent_as
    → Always (λ moves. KeepsSender whom 0 [] s (Heard ((outlet_of whom).sends (offer s.writer)) came ∷ moves))
    (elim sent_as [ SentSome count ↦ sent count s | SentNone ↦ Ends s | SendFailed ↦ fail_sender (outlet_of whom) s ])
sent_keeps whom s came (SentSome count) sound live went =
    let Keeps = λ (moves : List Move) (after : Sender). KeepsSender whom 0 [] s (Heard ((outlet_of whom).sends (offer s.writer)) came ∷ moves) after in
    let resumes = s.writer.paused && not (took count s.writer).paused in
    always_if Keeps resumes (settles s.drains (Returned Nothing) (Ends (record s { writer = took count s.writer; drains = [] })))
    (Ends (with_writer (took count s.writer) s))
    (λ _.
    always_told Keeps s.drains (Returned Nothing) (Ends (record s { writer = took count s.writer; drains = [] }))
    (λ future moves after keeps. keeps_told whom 0 [] s future (Returned Nothing) ((outlet_of whom).sends (offer s.writer)) came moves after keeps)
    (took_keeps whom [] count s s.writer [] came sound live (with_nothing s.writer.unsent) refl sound.marks went.0 went.1 (λ _. refl)))
    (λ is.
    took_keeps whom [] count s s.writer s.drains came sound live (with_nothing s.writer.unsent) refl sound.marks went.0 went.1
    (λ goes. sound.drains (went_resumed s.writer.paused (took count s.writer).paused is goes)))
sent_keeps whom s came SentNone sound live went =
    record {
      sound = sound;
      order = λ written handed order.
          record {
            rest = order.rest;
            front = append-nil written ∙ order.front ∙ ap (λ bytes. bytes ++ order.rest) (sym (append-nil handed))
                ∙ ap (λ bytes. (handed ++ (bytes ++ [])) ++ order.rest) (sym went);
            unsent = order.unsent;
          };
      losses = same_count (one_if (is_losing s)) (one_if (is_losing s)) refl;
      closes = no_close whom (offer s.writer) (one_if (is_lost s));
      offers = λ is. absurd (no_true s.writer.ended live is);
      stays = λ is. is;
    }
sent_keeps whom s came SendFailed sound live went = failed_keeps whom [] s s.writer came sound live refl sound.marks refl went

pub send_keeps :
    (whom : Handed) (s : Sender) → IsSoundSender s → has_unsent s ≡ true → Always (KeepsSender whom 0 [] s) (send_more (outlet_of whom) s)
send_keeps whom s sound some =
    λ came fit. sent_keeps whom s came (sent_by came) sound (some_live s sound some) (is_sent whom (offer s.writer) came fit)

-- ---- the loss
lost_closes : (whom : Handed) (lost : Bool) → lost ≡ false → one_if lost + (one_if (is_close whom (outlet_of whom).closes) + 0) ≡ 1
lost_closes whom true is = absurd (let bad : ⊥ = cc in bad)
lost_closes whom false is = rw (closes_counts whom) (omega arith)

lost_losses : (losing ran : ℕ) → losing ≡ ran → losing + 0 ≡ ran + 0
lost_losses losing ran is = omega (arith, is)

pub lose_keeps :
    (whom : Handed) (ran : ℕ) (broken : Bool) (s : Sender) → IsSoundSender s → MayLose ran broken s
    → Always (KeepsSender whom ran [] s) (lose_sender (outlet_of whom) broken s)
lose_keeps whom ran broken s sound may =
    let after = record (ended_sender (phase.Lost broken) s) { drains = [] } in
    always_told (KeepsSender whom ran [] s) (waiting_for_loss s) (outcome_of (loss_of (outlet_of whom) broken)) (asks (outlet_of whom).closes (Ends after))
    (λ future moves after keeps.
    keeps_quiet whom ran [] s (Settle future (outcome_of (loss_of (outlet_of whom) broken))) moves after
    (settle_quiet whom future (outcome_of (loss_of (outlet_of whom) broken))) keeps)
    (λ came fit.
    record {
      sound = record {
        over = refl;
        nothing = λ _. refl;
        marks = sound.marks;
        unpaused = λ _. omega arith;
        resumed = λ is. absurd (let bad : ⊥ = cc in bad);
        drains = λ _. refl;
      };
      order = λ written handed order.
          record {
            rest = order.rest;
            front = append-nil written ∙ order.front ∙ ap (λ bytes. bytes ++ order.rest) (sym (append-nil handed))
                ∙ ap (λ bytes. (handed ++ (bytes ++ [])) ++ order.rest) (sym (closes_hands whom came));
            unsent = λ is. sym may.nothing ∙ order.unsent (may.whole is);
          };
      losses = lost_losses (one_if (is_losing s)) ran may.pending;
      closes = lost_closes whom (is_lost s) may.not_lost;
      offers = λ _. rw (closes_offers whom) (omega arith);
      stays = λ _. refl;
    })

-- ---- requests
pub drain_keeps :
    (whom : Handed) (yielded : Bool) (next : ℕ) (s : Sender) → IsSoundSender s
    → Always (λ moves (done : Sender × Drain). KeepsSender whom 0 [] s moves done.0) (drain_sender yielded next s)
drain_keeps whom yielded next s sound =
    let Keeps = λ (moves : List Move) (done : Sender × Drain). KeepsSender whom 0 [] s moves done.0 in
    let still = keeps_still whom s sound in
    always_if Keeps (is_closing s && not yielded) (Ends (s, drain_as.Yields)) _ (λ _. still)
    (λ _.
    always_if Keeps (is_lost s) (Ends (s, drain_as.Raises (exception_of ConnectionResetError lost_text))) _ (λ _. still)
    (λ _.
    always_if Keeps s.writer.paused (Changes MakeFuture (Ends (record s { drains = s.drains ++ next ∷ [] }, drain_as.Waits next)))
    (Ends (s, drain_as.Goes))
    (λ paused.
    keeps_quiet whom 0 [] s MakeFuture [] (record s { drains = s.drains ++ next ∷ [] }) (make_quiet whom)
    (keeps_same whom s (record s { drains = s.drains ++ next ∷ [] }) (record { unsent_is = refl; ended_is = refl; phase_is = refl })
    (record {
      over = sound.over;
      nothing = sound.nothing;
      marks = sound.marks;
      unpaused = sound.unpaused;
      resumed = sound.resumed;
      drains = λ is. absurd (no_true s.writer.paused is paused);
    })))
    (λ _. still)))

pub limits_keeps :
    (whom : Handed) (high low : Option ℤ) (s : Sender) → IsSoundSender s
    → Always (λ moves (done : Sender × Limited). KeepsSender whom 0 [] s moves done.0) (limits_sender high low s)
limits_keeps whom high low s sound =
    let left = limits_left high low s.writer in
    let after = with_writer (limits high low s.writer) s in
    keeps_same whom s after (record { unsent_is = left.unsent_is; ended_is = left.ended_is; phase_is = refl })
    (record {
      over = left.ended_is ∙ sound.over;
      nothing = λ is. left.unsent_is ∙ sound.nothing (sym left.ended_is ∙ is);
      marks = left.marks sound.marks;
      unpaused = left.unpaused sound.unpaused;
      resumed = λ live none. left.resumed (sym left.unsent_is ∙ none) (sound.resumed (sym left.ended_is ∙ live) (sym left.unsent_is ∙ none));
      drains = λ is. sound.drains (left.was_unpaused is);
    })

pub eof_keeps : (whom : Handed) (s : Sender) → IsSoundSender s → KeepsSender whom 0 [] s [] (with_writer (set_eof s.writer) s)
eof_keeps whom s sound =
    keeps_same whom s (with_writer (set_eof s.writer) s) (record { unsent_is = refl; ended_is = refl; phase_is = refl })
    (record {
      over = sound.over;
      nothing = sound.nothing;
      marks = sound.marks;
      unpaused = sound.unpaused;
      resumed = sound.resumed;
      drains = sound.drains;
    })

pub new_sound : (whole : Bool) (closed_future : ℕ) → IsSoundSender (new_sender whole closed_future)
new_sound whole closed_future =
    record {
      over = refl;
      nothing = λ is. absurd (let bad : ⊥ = cc in bad);
      marks = omega arith;
      unpaused = λ _. omega arith;
      resumed = λ _ _. refl;
      drains = λ _. refl;
    }
