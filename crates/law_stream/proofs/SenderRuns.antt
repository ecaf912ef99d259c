-- What any row of steps keeps of a sender.
use Rattle.std.proofs.Common.{◌≡◌, ℕ, ◌+◌, Bool, true, false, List, [], ◌∷◌, ◌++◌, length, take, drop, refl, ap, subst, sym, ◌∙◌, arith}
use Rattle.std.proofs.lemmas.List.{append_assoc}
use Rattle.model_wire.specs.declared.event.Handed.{Handed}
use Rattle.model_wire.specs.Call.{Call}
use Rattle.model_wire.specs.Event.{handed_by}
use Rattle.model_stream.specs.declared.phase.Phase.{Phase}
use Rattle.model_stream.specs.declared.phase.Phase.TheVariants as phase
use Rattle.model_stream.specs.Doing.{Doing, Ends, Changes, Asks, Change}
use Rattle.model_stream.specs.Senders.{Sender, is_lost, new_sender, write, drain_sender, limits_sender}
use Rattle.law_stream.specs.Ways.{Move, Did, Heard, Always, handed_in, losses, offers, closes, is_loss, is_close, is_offer, one_if}
use Rattle.law_stream.specs.SoundSenders.{outlet_of, is_losing, is_over, is_broken, IsSoundSender, IsInOrder, KeepsSender}
use Rattle.law_stream.specs.SenderSteps.{SenderStep, Writes, Sends, Closes, Fails, Loses, Drains, SetsLimits, WritesEnd, done, May}
use Rattle.law_stream.specs.SenderSteps.{written_in, ran_in, Leads, Comes, Rests, Steps}
use Rattle.law_stream.proofs.Along.{always_into}
use Rattle.law_stream.proofs.SoundSenders.{keeps_still, fail_keeps, close_keeps}
use Rattle.law_stream.proofs.SoundSends.{write_keeps, send_keeps, lose_keeps, drain_keeps, limits_keeps, eof_keeps, new_sound}

-- ---- one way among all
pub along :
    {A : Type 0} (Holds : List Move → A → Type 0) (doing : Doing A) (moves : List Move) (last : A) → Always Holds doing → Leads doing moves last
    → Holds moves last
along Holds (Ends result) [] last here is = subst (Holds []) is here
along Holds (Ends result) (move ∷ moves) last here is = absurd is
along Holds (Changes change rest) [] last here is = absurd is
along Holds (Changes change rest) (Did other ∷ moves) last here is =
    subst (λ (it : Change). Holds (Did it ∷ moves) last) is.0 (along (λ moves. Holds (Did change ∷ moves)) rest moves last here is.1)
along Holds (Changes change rest) (Heard call answer ∷ moves) last here is = absurd is
along Holds (Asks call rest) [] last here is = absurd is
along Holds (Asks call rest) (Did change ∷ moves) last here is = absurd is
along Holds (Asks call rest) (Heard other answer ∷ moves) last here is =
    subst (λ (it : Call). Holds (Heard it answer ∷ moves) last) is.0
    (along (λ moves. Holds (Heard call answer ∷ moves)) (rest answer) moves last (here answer is.1) is.2)

-- ---- what happens in two rows of moves
pub handed_both : (whom : Handed) (moves more : List Move) → handed_in whom (moves ++ more) ≡ handed_in whom moves ++ handed_in whom more
handed_both whom [] more = refl
handed_both whom (Did change ∷ moves) more = handed_both whom moves more
handed_both whom (Heard call answer ∷ moves) more =
    ap (λ bytes. handed_by whom call answer ++ bytes) (handed_both whom moves more)
    ∙ sym (append_assoc (handed_by whom call answer) (handed_in whom moves) (handed_in whom more))

added : (one first second both : ℕ) → both ≡ first + second → one + both ≡ (one + first) + second
added one first second both is = omega (arith, is)

losses_both : (whom : Handed) (moves more : List Move) → losses whom (moves ++ more) ≡ losses whom moves + losses whom more
losses_both whom [] more = omega arith
losses_both whom (Did change ∷ moves) more = added (one_if (is_loss whom change)) _ _ _ (losses_both whom moves more)
losses_both whom (Heard call answer ∷ moves) more = losses_both whom moves more

closes_both : (whom : Handed) (moves more : List Move) → closes whom (moves ++ more) ≡ closes whom moves + closes whom more
closes_both whom [] more = omega arith
closes_both whom (Did change ∷ moves) more = closes_both whom moves more
closes_both whom (Heard call answer ∷ moves) more = added (one_if (is_close whom call)) _ _ _ (closes_both whom moves more)

offers_both : (whom : Handed) (moves more : List Move) → offers whom (moves ++ more) ≡ offers whom moves + offers whom more
offers_both whom [] more = omega arith
offers_both whom (Did change ∷ moves) more = offers_both whom moves more
offers_both whom (Heard call answer ∷ moves) more = added (one_if (is_offer whom call)) _ _ _ (offers_both whom moves more)

sum_of : (before first second both mid ran other after : ℕ) → both ≡ first + second → before + first ≡ ran + mid → mid + second ≡ other + after
    → before + both ≡ (ran + other) + after
sum_of before first second both mid ran other after split one two = omega (arith, split, one, two)

closed_of : (before first second both mid after : ℕ) → both ≡ first + second → before + first ≡ mid → mid + second ≡ after → before + both ≡ after
closed_of before first second both mid after split one two = omega (arith, split, one, two)

none_of : (first second both : ℕ) → both ≡ first + second → first ≡ 0 → second ≡ 0 → both ≡ 0
none_of first second both split one two = omega (arith, split, one, two)

in_order_by :
    (written handed more on both rest last : List ℕ) (s : Sender) → both ≡ more ++ on → IsInOrder ((written ++ rest) ++ last) ((handed ++ more) ++ on) s
    → IsInOrder (written ++ (rest ++ last)) (handed ++ both) s
in_order_by written handed more on both rest last s split order =
    record {
      rest = order.rest;
      front = sym (append_assoc written rest last) ∙ order.front
          ∙ ap (λ bytes. bytes ++ order.rest) (append_assoc handed more on ∙ ap (λ bytes. handed ++ bytes) (sym split));
      unsent = order.unsent;
    }

pub keeps_both :
    (whom : Handed) (ran other : ℕ) (piece last : List ℕ) (s mid after : Sender) (moves more : List Move) → KeepsSender whom ran piece s moves mid
    → KeepsSender whom other last mid more after → KeepsSender whom (ran + other) (piece ++ last) s (moves ++ more) after
keeps_both whom ran other piece last s mid after moves more first second =
    record {
      sound = second.sound;
      order = λ written handed order.
          in_order_by written handed (handed_in whom moves) (handed_in whom more) (handed_in whom (moves ++ more)) piece last after
          (handed_both whom moves more) (second.order (written ++ piece) (handed ++ handed_in whom moves) (first.order written handed order));
      losses = sum_of (one_if (is_losing s)) (losses whom moves) (losses whom more) (losses whom (moves ++ more)) (one_if (is_losing mid)) ran other
          (one_if (is_losing after)) (losses_both whom moves more) first.losses second.losses;
      closes = closed_of (one_if (is_lost s)) (closes whom moves) (closes whom more) (closes whom (moves ++ more)) (one_if (is_lost mid))
          (one_if (is_lost after)) (closes_both whom moves more) first.closes second.closes;
      offers = λ is.
          none_of (offers whom moves) (offers whom more) (offers whom (moves ++ more)) (offers_both whom moves more) (first.offers is)
          (second.offers (first.stays is));
      stays = λ is. second.stays (first.stays is);
    }

-- ---- each step, and all
pub step_keeps :
    (whom : Handed) (step : SenderStep) (s : Sender) → IsSoundSender s → May step s
    → Always (KeepsSender whom (ran_in step) (written_in step s) s) (done whom step s)
step_keeps whom (Writes piece) s sound may =
    always_into (KeepsSender whom 0 (written_in (Writes piece) s) s) (λ it. it.0) (write (outlet_of whom) piece s) (write_keeps whom piece s sound)
step_keeps whom Sends s sound may = send_keeps whom s sound may
step_keeps whom Closes s sound may = close_keeps whom s sound
step_keeps whom Fails s sound may = fail_keeps whom s sound
step_keeps whom (Loses ran broken) s sound may = lose_keeps whom ran broken s sound may
step_keeps whom (Drains yielded next) s sound may =
    always_into (KeepsSender whom 0 [] s) (λ it. it.0) (drain_sender yielded next s) (drain_keeps whom yielded next s sound)
step_keeps whom (SetsLimits high low) s sound may =
    always_into (KeepsSender whom 0 [] s) (λ it. it.0) (limits_sender high low s) (limits_keeps whom high low s sound)
step_keeps whom WritesEnd s sound may = eof_keeps whom s sound

pub all_keep :
    (whom : Handed) (s : Sender) (ran : ℕ) (written : List ℕ) (moves : List Move) (after : Sender) → IsSoundSender s → Comes whom s ran written moves after
    → KeepsSender whom ran written s moves after
all_keep whom s ran written moves after sound (Rests it) = keeps_still whom it sound
all_keep whom s ran written moves after sound (Steps step it mid last first more others rest may leads comes) =
    let one = along (KeepsSender whom (ran_in step) (written_in step it) it) (done whom step it) first mid (step_keeps whom step it sound may) leads in
    keeps_both whom (ran_in step) others (written_in step it) rest it mid last first more one (all_keep whom mid others rest more last one.sound comes)

-- ---- from the start
pub new_in_order : (whole : Bool) (closed_future : ℕ) → IsInOrder [] [] (new_sender whole closed_future)
new_in_order whole closed_future = record { rest = []; front = refl; unsent = λ _. refl }

rest_of : (front back : List ℕ) → drop (length front) (front ++ back) ≡ back
rest_of [] back = refl
rest_of (byte ∷ front) back = rest_of front back

front_of : (front back : List ℕ) → front ≡ take (length front) (front ++ back)
front_of [] back = refl
front_of (byte ∷ front) back = ap (λ bytes. byte ∷ bytes) (front_of front back)

-- a sender that came there from its start
module _ (whom : Handed) (whole : Bool) (closed_future ran : ℕ) (written : List ℕ) (moves : List Move) (after : Sender)
    (comes : Comes whom (new_sender whole closed_future) ran written moves after) where
  kept : KeepsSender whom ran written (new_sender whole closed_future) moves after
  kept = all_keep whom (new_sender whole closed_future) ran written moves after (new_sound whole closed_future) comes

  ordered : IsInOrder written (handed_in whom moves) after
  ordered = kept.order [] [] (new_in_order whole closed_future)

  pub unsent_rest : is_broken after ≡ false → after.writer.unsent ≡ drop (length (handed_in whom moves)) written
  unsent_rest is =
      ordered.unsent is ∙ sym (rest_of (handed_in whom moves) ordered.rest)
      ∙ ap (λ bytes. drop (length (handed_in whom moves)) bytes) (sym ordered.front)

  pub handed_front : handed_in whom moves ≡ take (length (handed_in whom moves)) written
  handed_front =
      front_of (handed_in whom moves) ordered.rest ∙ ap (λ bytes. take (length (handed_in whom moves)) bytes) (sym ordered.front)

  pub unsent_dropped : is_broken after ≡ true → after.writer.unsent ≡ []
  unsent_dropped is = kept.sound.nothing (kept.sound.over ∙ broken_over after after.phase is)
    where
      broken_over : (s : Sender) (p : Phase) → is_broken (record s { phase = p }) ≡ true → is_over (record s { phase = p }) ≡ true
      broken_over s phase.Open bad = bad
      broken_over s phase.Closing bad = bad
      broken_over s (phase.Losing broken) bad = refl
      broken_over s (phase.Lost broken) bad = refl

  pub losses_ran : losses whom moves ≡ ran + one_if (is_losing after)
  losses_ran = let sum = kept.losses in omega (arith, sum)

  pub closes_once : closes whom moves ≡ one_if (is_lost after)
  closes_once = let sum = kept.closes in omega (arith, sum)
