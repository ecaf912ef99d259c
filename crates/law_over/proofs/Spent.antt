-- A sender whose loss is done stays so.
use Rattle.std.proofs.Common.{◌≡◌, ℕ, ℤ, Bool, true, false, cond, not, ◌&&◌, List, Option, Some, None, refl}
use Rattle.model_stream.specs.declared.answers.Wrote.{Wrote}
use Rattle.model_stream.specs.declared.phase.Phase.{Phase}
use Rattle.model_stream.specs.declared.phase.Phase.TheVariants as phase
use Rattle.model_stream.specs.declared.put.Put.{Put}
use Rattle.model_stream.specs.declared.put.Put.TheVariants.{Offer, Kept, Empty, AfterEof, Dropped}
use Rattle.model_stream.specs.Doing.{Ends}
use Rattle.model_stream.specs.Senders.{Sender, Outlet, Drain, has_unsent, is_closing, is_lost, outcome_of, loss_of, waiting_for_loss, with_writer}
use Rattle.model_stream.specs.Senders.{close_sender, drain_sender, limits_sender, lose_sender, write, write_as}
use Rattle.model_stream.specs.Sending.{is_nothing, marks_of, put_as, with_marks}
use Rattle.law_over.specs.AllEnds.{AllEnds}
use Rattle.law_over.specs.Gone.{is_spent}
use Rattle.law_over.proofs.Along.{ends_if, ends_told}

pub clash : {A : Type 0} (b : Bool) → b ≡ true → b ≡ false → A
clash b one other = absurd (let bad : ⊥ = cc in bad)

pub both : (a b : Bool) → (a && b) ≡ true → (a ≡ true) × (b ≡ true)
both true true e = (refl, refl)
both true false e = absurd (let bad : ⊥ = cc in bad)
both false b e = absurd (let bad : ⊥ = cc in bad)

pub both_hold : (a b : Bool) → a ≡ true → b ≡ true → (a && b) ≡ true
both_hold true true e f = refl
both_hold true false e f = f
both_hold false b e f = e

pub not_so : (b : Bool) → not b ≡ true → b ≡ false
not_so false e = refl
not_so true e = absurd (let bad : ⊥ = cc in bad)

pub closing_lost : (s : Sender) → is_lost s ≡ true → is_closing s ≡ true
closing_lost s e = by s.phase e
  where
    by : (p : Phase) → elim p [ phase.Open ↦ false | phase.Closing ↦ false | phase.Losing broken ↦ false | phase.Lost broken ↦ true ] ≡ true
        → elim p [ phase.Open ↦ false | phase.Closing ↦ true | phase.Losing broken ↦ true | phase.Lost broken ↦ true ] ≡ true
    by phase.Open e = e
    by phase.Closing e = refl
    by (phase.Losing broken) e = refl
    by (phase.Lost broken) e = refl

-- a piece that is written when the end is done isn't put
put_ended : (eof none ended nothing : Bool) (P : Put → Type 0) → ended ≡ true → P AfterEof → P Empty → P Dropped
    → P (cond eof AfterEof (cond none Empty (cond ended Dropped (cond nothing Offer Kept))))
put_ended true none ended nothing P e a b c = a
put_ended false true ended nothing P e a b c = b
put_ended false false true nothing P e a b c = c
put_ended false false false nothing P e a b c = absurd (let bad : ⊥ = cc in bad)

abbrev pub Spent : Sender → Type 0
Spent s = is_spent s ≡ true

abbrev pub SpentFirst : {R : Type 0} → Sender × R → Type 0
SpentFirst done = is_spent done.0 ≡ true

-- its loss is done once more
pub spent_lose : (outlet : Outlet) (broken : Bool) (s : Sender) → AllEnds Spent (lose_sender outlet broken s)
spent_lose outlet broken s = ends_told Spent (waiting_for_loss s) (outcome_of (loss_of outlet broken)) _ (λ answer. refl)

module _ (s : Sender) (e : is_spent s ≡ true) where
  facts : ((is_lost s && s.writer.ended) ≡ true) × (not (has_unsent s) ≡ true)
  facts = both (is_lost s && s.writer.ended) (not (has_unsent s)) e

  pub spent_lost : is_lost s ≡ true
  spent_lost = (both (is_lost s) s.writer.ended facts.0).0

  pub spent_ended : s.writer.ended ≡ true
  spent_ended = (both (is_lost s) s.writer.ended facts.0).1

  pub spent_sent : has_unsent s ≡ false
  spent_sent = not_so (has_unsent s) facts.1

  pub spent_closing : is_closing s ≡ true
  spent_closing = closing_lost s spent_lost

  pub spent_close : (outlet : Outlet) → AllEnds Spent (close_sender outlet s)
  spent_close outlet = ends_if Spent (is_closing s) (Ends s) _ (λ _. e) (λ other. clash (is_closing s) spent_closing other)

  pub spent_write : (outlet : Outlet) (piece : List ℕ) → AllEnds (SpentFirst {R = Wrote}) (write outlet piece s)
  spent_write outlet piece =
      put_ended s.writer.eof (is_nothing piece) s.writer.ended (is_nothing s.writer.unsent)
      (λ put. AllEnds (SpentFirst {R = Wrote}) (write_as put outlet (with_writer (put_as put piece s.writer) s))) spent_ended e e e

  pub spent_drain : (yielded : Bool) (next : ℕ) → AllEnds (SpentFirst {R = Drain}) (drain_sender yielded next s)
  spent_drain yielded next =
      ends_if (SpentFirst {R = Drain}) (is_closing s && not yielded) _ _ (λ _. e)
      (λ _. ends_if (SpentFirst {R = Drain}) (is_lost s) _ _ (λ _. e) (λ other. clash (is_lost s) spent_lost other))

  pub spent_limits : (high low : Option ℤ) → AllEnds SpentFirst (limits_sender high low s)
  spent_limits high low = by (marks_of high low)
    where
      by : (marks : Option (ℕ × ℕ)) → is_spent (with_writer (with_marks marks s.writer) s) ≡ true
      by None = e
      by (Some marks) = e
