-- What each operation of a sender keeps.
use Rattle.std.proofs.Common.{◌≡◌, ℕ, ◌+◌, ◌≤◌, Bool, true, false, cond, eqb, not, ◌&&◌, List, [], ◌∷◌, ◌++◌, length, take, refl}
use Rattle.std.proofs.Common.{ap, sym, ◌∙◌, arith}
use Rattle.std.proofs.lemmas.Bool.Decides.{nat_tests}
use Rattle.std.proofs.lemmas.List.{append-nil}
use Rattle.model_value.specs.Value.{Outcome}
use Rattle.model_wire.specs.declared.answer.Answer.TheVariants as answer
use Rattle.model_wire.specs.declared.event.Handed.{Handed}
use Rattle.model_wire.specs.declared.event.Handed.TheVariants as to
use Rattle.model_wire.specs.Call.{Answer}
use Rattle.model_wire.specs.Event.{handed_by}
use Rattle.model_wire.specs.Fits.{fits, is_some_within}
use Rattle.model_stream.specs.declared.phase.Phase.{Phase}
use Rattle.model_stream.specs.declared.phase.Phase.TheVariants as phase
use Rattle.model_stream.specs.Answers.{Sent, SentSome, SentNone, SendFailed, sent_by}
use Rattle.model_stream.specs.Doing.{Ends, Change, Settle, MakeFuture, CallSoon}
use Rattle.model_stream.specs.Senders.{Sender, has_unsent, is_closing, is_lost, ended_sender, schedule_loss, fail_sender, close_sender}
use Rattle.model_stream.specs.Sending.{is_nothing}
use Rattle.law_stream.specs.Ways.{Move, Did, Always, losses, is_loss, is_close, is_offer, one_if}
use Rattle.law_stream.specs.SoundSenders.{outlet_of, is_losing, is_over, is_broken, IsSoundSender, IsInOrder, KeepsSender}
use Rattle.law_stream.proofs.Along.{always_if}

-- ---- phases
-- what one that isn't closing is
pub record IsOpen (s : Sender) : Type 0 where
  pub over : is_over s ≡ false
  pub losing : is_losing s ≡ false
  pub lost : is_lost s ≡ false
  pub broken : is_broken s ≡ false

open_at : (s : Sender) (p : Phase) → is_closing (record s { phase = p }) ≡ false → IsOpen (record s { phase = p })
open_at s phase.Open is = record { over = refl; losing = refl; lost = refl; broken = refl }
open_at s phase.Closing is = absurd (let bad : ⊥ = cc in bad)
open_at s (phase.Losing broken) is = absurd (let bad : ⊥ = cc in bad)
open_at s (phase.Lost broken) is = absurd (let bad : ⊥ = cc in bad)

pub is_open : (s : Sender) → is_closing s ≡ false → IsOpen s
is_open s is = open_at s s.phase is

live_at : (s : Sender) (p : Phase) → is_over (record s { phase = p }) ≡ false → IsOpen (record s { phase = p })
live_at s phase.Open is = record { over = refl; losing = refl; lost = refl; broken = refl }
live_at s phase.Closing is = record { over = refl; losing = refl; lost = refl; broken = refl }
live_at s (phase.Losing broken) is = absurd (let bad : ⊥ = cc in bad)
live_at s (phase.Lost broken) is = absurd (let bad : ⊥ = cc in bad)

-- one whose loss isn't scheduled
pub is_live : (s : Sender) → is_over s ≡ false → IsOpen s
is_live s is = live_at s s.phase is

-- ---- nothing happens to the bytes
pub stays_in_order :
    (written handed : List ℕ) (s after : Sender) → after.writer.unsent ≡ s.writer.unsent → (is_broken after ≡ false → is_broken s ≡ false)
    → IsInOrder written handed s → IsInOrder (written ++ []) (handed ++ []) after
stays_in_order written handed s after same whole order =
    record {
      rest = order.rest;
      front = append-nil written ∙ order.front ∙ ap (λ bytes. bytes ++ order.rest) (sym (append-nil handed));
      unsent = λ is. same ∙ order.unsent (whole is);
    }

-- an operation after which the writer's bytes, its marks and its phase are as they were
pub record SameSender (s after : Sender) : Type 0 where
  pub unsent_is : after.writer.unsent ≡ s.writer.unsent
  pub ended_is : after.writer.ended ≡ s.writer.ended
  pub phase_is : after.phase ≡ s.phase

over_same : (s after : Sender) → after.phase ≡ s.phase → is_over after ≡ is_over s
over_same s after is = ap (λ p. is_over (record s { phase = p })) is

pub same_count : (before after : ℕ) → before ≡ after → before + 0 ≡ 0 + after
same_count before after is = omega (arith, is)

pub same_sum : (before after : ℕ) → before ≡ after → before + 0 ≡ after
same_sum before after is = omega (arith, is)

pub keeps_same :
    (whom : Handed) (s after : Sender) → SameSender s after → IsSoundSender after → KeepsSender whom 0 [] s [] after
keeps_same whom s after same sound =
    record {
      sound = sound;
      order = λ written handed order.
          stays_in_order written handed s after same.unsent_is (λ is. ap (λ p. is_broken (record s { phase = p })) (sym same.phase_is) ∙ is) order;
      losses = same_count (one_if (is_losing s)) (one_if (is_losing after)) (ap (λ p. one_if (is_losing (record s { phase = p }))) (sym same.phase_is));
      closes = same_sum (one_if (is_lost s)) (one_if (is_lost after)) (ap (λ p. one_if (is_lost (record s { phase = p }))) (sym same.phase_is));
      offers = λ _. refl;
      stays = λ is. same.ended_is ∙ is;
    }

pub keeps_still : (whom : Handed) (s : Sender) → IsSoundSender s → KeepsSender whom 0 [] s [] s
keeps_still whom s sound = keeps_same whom s s (record { unsent_is = refl; ended_is = refl; phase_is = refl }) sound

-- ---- changes that schedule no loss
pub settle_quiet : (whom : Handed) (future : ℕ) (outcome : Outcome) → is_loss whom (Settle future outcome) ≡ false
settle_quiet (to.Conn id) future outcome = refl
settle_quiet (to.Child id) future outcome = refl

pub make_quiet : (whom : Handed) → is_loss whom MakeFuture ≡ false
make_quiet (to.Conn id) = refl
make_quiet (to.Child id) = refl

one_less : (before some after : ℕ) (b : Bool) → b ≡ false → before + some ≡ after → before + (one_if b + some) ≡ after
one_less before some after true is same = absurd (let bad : ⊥ = cc in bad)
one_less before some after false is same = omega (arith, same)

pub keeps_quiet :
    (whom : Handed) (ran : ℕ) (piece : List ℕ) (s : Sender) (change : Change) (moves : List Move) (after : Sender) → is_loss whom change ≡ false
    → KeepsSender whom ran piece s moves after → KeepsSender whom ran piece s (Did change ∷ moves) after
keeps_quiet whom ran piece s change moves after quiet keeps =
    record {
      sound = keeps.sound;
      order = keeps.order;
      losses = one_less (one_if (is_losing s)) (losses whom moves) (ran + one_if (is_losing after)) (is_loss whom change) quiet keeps.losses;
      closes = keeps.closes;
      offers = keeps.offers;
      stays = keeps.stays;
    }

-- ---- the calls and the callback of each
eq_self : (id : ℕ) → eqb id id ≡ true
eq_self id = grind (arith, nat_tests)

pub loses_counts : (whom : Handed) (broken : Bool) → is_loss whom (CallSoon ((outlet_of whom).loses broken)) ≡ true
loses_counts (to.Conn id) broken = eq_self id
loses_counts (to.Child id) broken = eq_self id

pub closes_counts : (whom : Handed) → is_close whom (outlet_of whom).closes ≡ true
closes_counts (to.Conn id) = eq_self id
closes_counts (to.Child id) = eq_self id

pub closes_offers : (whom : Handed) → is_offer whom (outlet_of whom).closes ≡ false
closes_offers (to.Conn id) = refl
closes_offers (to.Child id) = refl

pub sends_closes : (whom : Handed) (bytes : List ℕ) → is_close whom ((outlet_of whom).sends bytes) ≡ false
sends_closes (to.Conn id) bytes = refl
sends_closes (to.Child id) bytes = refl

pub closes_hands : (whom : Handed) (came : Answer) → handed_by whom (outlet_of whom).closes came ≡ []
closes_hands (to.Conn id) came = refl
closes_hands (to.Child id) came = refl

-- how an offer went, and what it handed on
abbrev pub IsSent : (bytes handed : List ℕ) → Sent → Type 0
IsSent bytes handed (SentSome count) = (count ≤ length bytes) × (handed ≡ take count bytes)
IsSent bytes handed SentNone = handed ≡ []
IsSent bytes handed SendFailed = handed ≡ []

some_within : (bound count : ℕ) → is_some_within bound count ≡ true → count ≤ bound
some_within bound count is = grind (arith, nat_tests)

took_by :
    (same within : Bool) (bytes : List ℕ) (count : ℕ) → same ≡ true → within ≡ true → cond (same && within) (take count bytes) [] ≡ take count bytes
took_by true true bytes count same is = refl
took_by true false bytes count same is = absurd (let bad : ⊥ = cc in bad)
took_by false within bytes count same is = absurd (let bad : ⊥ = cc in bad)

pub is_sent :
    (whom : Handed) (bytes : List ℕ) (came : Answer) → fits ((outlet_of whom).sends bytes) came ≡ true
    → IsSent bytes (handed_by whom ((outlet_of whom).sends bytes) came) (sent_by came)
is_sent (to.Conn id) bytes (answer.Took count) fit =
    (some_within (length bytes) count fit, took_by (eqb id id) (is_some_within (length bytes) count) bytes count (eq_self id) fit)
is_sent (to.Child id) bytes (answer.Took count) fit =
    (some_within (length bytes) count fit, took_by (eqb id id) (is_some_within (length bytes) count) bytes count (eq_self id) fit)
is_sent (to.Conn id) bytes answer.Again fit = refl
is_sent (to.Child id) bytes answer.Again fit = refl
is_sent (to.Conn id) bytes answer.Broken fit = refl
is_sent (to.Child id) bytes answer.Broken fit = refl
is_sent (to.Conn id) bytes _ fit = refl
is_sent (to.Child id) bytes _ fit = refl

-- ---- a loss is scheduled
pub nothing_by : (bytes : List ℕ) → not (is_nothing bytes) ≡ false → bytes ≡ []
nothing_by [] is = refl
nothing_by (byte ∷ bytes) is = absurd (let none : length (byte ∷ bytes) ≡ 0 = grind (arith, nat_tests) in omega (arith, none))

pub ended_sound : (s : Sender) (p : Phase) → is_over (record s { phase = p }) ≡ true → IsSoundSender s → IsSoundSender (ended_sender p s)
ended_sound s p over sound =
    record {
      over = sym over;
      nothing = λ _. refl;
      marks = sound.marks;
      unpaused = λ _. omega arith;
      resumed = λ is. absurd (let bad : ⊥ = cc in bad);
      drains = sound.drains;
    }

schedule_losses :
    (whom : Handed) (broken losing : Bool) → losing ≡ false
    → one_if losing + losses whom (Did (CallSoon ((outlet_of whom).loses broken)) ∷ []) ≡ 0 + 1
schedule_losses whom broken true is = absurd (let bad : ⊥ = cc in bad)
schedule_losses whom broken false is = rw (loses_counts whom broken) (omega arith)

pub none_lost : (lost : Bool) → lost ≡ false → one_if lost + 0 ≡ 0
none_lost true is = absurd (let bad : ⊥ = cc in bad)
none_lost false is = omega arith

pub schedule_keeps :
    (whom : Handed) (broken : Bool) (s : Sender) → IsSoundSender s → IsOpen s → (broken ≡ false → s.writer.unsent ≡ [])
    → Always (KeepsSender whom 0 [] s) (schedule_loss (outlet_of whom) broken s)
schedule_keeps whom broken s sound open_is none =
    record {
      sound = ended_sound s (phase.Losing broken) refl sound;
      order = λ written handed order.
          record {
            rest = order.rest;
            front = append-nil written ∙ order.front ∙ ap (λ bytes. bytes ++ order.rest) (sym (append-nil handed));
            unsent = λ is. sym (none is) ∙ order.unsent open_is.broken;
          };
      losses = schedule_losses whom broken (is_losing s) open_is.losing;
      closes = none_lost (is_lost s) open_is.lost;
      offers = λ _. refl;
      stays = λ _. refl;
    }

pub live_of : (s : Sender) → IsSoundSender s → s.writer.ended ≡ false → IsOpen s
live_of s sound is = is_live s (sym sound.over ∙ is)

pub fail_keeps : (whom : Handed) (s : Sender) → IsSoundSender s → Always (KeepsSender whom 0 [] s) (fail_sender (outlet_of whom) s)
fail_keeps whom s sound =
    always_if (KeepsSender whom 0 [] s) s.writer.ended (Ends s) (schedule_loss (outlet_of whom) true s)
    (λ _. keeps_still whom s sound)
    (λ is. schedule_keeps whom true s sound (live_of s sound is) (λ bad. absurd (let no : ⊥ = cc in no)))

closing_keeps : (whom : Handed) (s : Sender) → IsSoundSender s → IsOpen s → KeepsSender whom 0 [] s [] (record s { phase = phase.Closing })
closing_keeps whom s sound open_is =
    record {
      sound = record {
        over = sound.over ∙ open_is.over;
        nothing = sound.nothing;
        marks = sound.marks;
        unpaused = sound.unpaused;
        resumed = sound.resumed;
        drains = sound.drains;
      };
      order = λ written handed order. stays_in_order written handed s (record s { phase = phase.Closing }) refl (λ _. open_is.broken) order;
      losses = same_count (one_if (is_losing s)) 0 (ap one_if open_is.losing);
      closes = none_lost (is_lost s) open_is.lost;
      offers = λ _. refl;
      stays = λ is. is;
    }

pub close_keeps : (whom : Handed) (s : Sender) → IsSoundSender s → Always (KeepsSender whom 0 [] s) (close_sender (outlet_of whom) s)
close_keeps whom s sound =
    let Keeps = KeepsSender whom 0 [] s in
    always_if Keeps (is_closing s) (Ends s)
    (cond (has_unsent s) (Ends (record s { phase = phase.Closing })) (schedule_loss (outlet_of whom) false s))
    (λ _. keeps_still whom s sound)
    (λ is.
    always_if Keeps (has_unsent s) (Ends (record s { phase = phase.Closing })) (schedule_loss (outlet_of whom) false s)
    (λ _. closing_keeps whom s sound (is_open s is))
    (λ none. schedule_keeps whom false s sound (is_open s is) (λ _. nothing_by s.writer.unsent none)))
