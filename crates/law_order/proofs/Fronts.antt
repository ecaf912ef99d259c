-- What keeps the order of one sending side.
use Rattle.std.proofs.Common.{◌≡◌, inl, inr, ℕ, zero, suc, ◌+◌, ◌≤◌, Bool, true, false, eqb, List, [], ◌∷◌, ◌++◌, refl, sym, ap, subst, ◌∙◌, arith}
use Rattle.std.proofs.lemmas.List.{append-nil, append_assoc}
use Rattle.model_wire.specs.declared.answer.Answer.TheVariants as answer
use Rattle.model_wire.specs.declared.call.Call.TheVariants as call
use Rattle.model_wire.specs.declared.event.Handed.{Handed}
use Rattle.model_wire.specs.declared.event.Handed.TheVariants as to
use Rattle.model_wire.specs.Call.{Call, Answer}
use Rattle.model_wire.specs.Event.{handed_by}
use Rattle.model_stream.specs.declared.phase.Phase.{Phase}
use Rattle.model_stream.specs.declared.phase.Phase.TheVariants as phase
use Rattle.model_stream.specs.Senders.{Sender, is_lost}
use Rattle.law_stream.specs.SoundSenders.{IsInOrder, IsSoundSender, KeepsSender}
use Rattle.law_stream.specs.Ways.{Move, Did, Heard, closes, handed_in, is_offer, losses, offers, one_if}
use Rattle.law_stream.proofs.SenderRuns.{handed_both}
use Rattle.law_stream.proofs.SoundSenders.{is_live}
use Rattle.law_order.specs.Frames.{IsApart}
use Rattle.law_order.specs.Mild.{good_losses}
use Rattle.law_order.proofs.Framing.{apart_taken}
use Rattle.law_order.proofs.Mildly.{good_fewer}
use Rattle.law_order.specs.Fronts.{EndsAs, Continues, IsFront, IsGood, IsRegular, KeepsFrontBy, Loses, MayGiveUp, Way}

no_true : (b : Bool) → b ≡ false → b ≡ true → ⊥
no_true true none is = let bad : ⊥ = cc in bad
no_true false none is = let bad : ⊥ = cc in bad

-- ---- where nothing is offered, nothing is handed on
not_offered : (whom : Handed) (it : Call) (came : Answer) → is_offer whom it ≡ false → handed_by whom it came ≡ []
not_offered (to.Conn id) (call.Send other bytes) (answer.Took count) is = apart_taken (eqb id other) bytes count is
not_offered (to.Conn id) (call.Send other bytes) _ is = refl
not_offered (to.Child id) (call.Feed other bytes) (answer.Took count) is = apart_taken (eqb id other) bytes count is
not_offered (to.Child id) (call.Feed other bytes) _ is = refl
not_offered (to.Conn id) _ came is = refl
not_offered (to.Child id) _ came is = refl

none_first : (b : Bool) (rest : ℕ) → one_if b + rest ≡ 0 → (b ≡ false) × (rest ≡ 0)
none_first true rest is = absurd (omega (arith, is))
none_first false rest is = (refl, omega (arith, is))

pub none_handed : (whom : Handed) (moves : List Move) → offers whom moves ≡ 0 → handed_in whom moves ≡ []
none_handed whom [] none = refl
none_handed whom (Did change ∷ moves) none = none_handed whom moves none
none_handed whom (Heard it came ∷ moves) none =
    let parts = none_first (is_offer whom it) (offers whom moves) none in
    ap (λ bytes. bytes ++ handed_in whom moves) (not_offered whom it came parts.0) ∙ none_handed whom moves parts.1

-- ---- one that is over has dropped the rest
pub over_front : (whom : Handed) (piece : List ℕ) (s : Sender) (moves : List Move) (after : Sender) → handed_in whom moves ≡ []
    → after.writer.ended ≡ true → (written handed : List ℕ) → IsFront written handed s
    → IsFront (written ++ piece) (handed ++ handed_in whom moves) after
over_front whom piece s moves after none over written handed front =
    record {
      rest = front.rest ++ piece;
      front = ap (λ bytes. bytes ++ piece) front.front ∙ append_assoc handed front.rest piece
          ∙ ap (λ bytes. bytes ++ (front.rest ++ piece)) (sym (append-nil handed) ∙ ap (λ bytes. handed ++ bytes) (sym none));
      unsent = λ live. absurd (no_true after.writer.ended live over);
    }

-- ---- what keeps a sender keeps its order
abbrev is_over_as : Phase → Bool
is_over_as p = elim p [ phase.Open ↦ false | phase.Closing ↦ false | phase.Losing broken ↦ true | phase.Lost broken ↦ true ]

abbrev is_losing_as : Phase → Bool
is_losing_as p = elim p [ phase.Open ↦ false | phase.Closing ↦ false | phase.Losing broken ↦ true | phase.Lost broken ↦ false ]

abbrev is_lost_as : Phase → Bool
is_lost_as p = elim p [ phase.Open ↦ false | phase.Closing ↦ false | phase.Losing broken ↦ false | phase.Lost broken ↦ true ]

-- a loss that is scheduled is the first
loses_once : (whom : Handed) (ran : ℕ) (piece : List ℕ) (s : Sender) (moves : List Move) (after : Sender) → IsSoundSender s → ran ≡ 0
    → KeepsSender whom ran piece s moves after → one_if s.writer.ended + losses whom moves ≤ one_if after.writer.ended
loses_once whom ran piece s moves after sound none keeps =
    let before = phased s.phase in
    let then_ = phased after.phase in
    let over = ap one_if sound.over in
    let now = ap one_if keeps.sound.over in
    let sum = keeps.losses in
    let closed = keeps.closes in
    omega (arith, before, then_, over, now, sum, closed, none)
  where
    -- one is over where it is losing or lost
    phased : (p : Phase) → one_if (is_over_as p) ≡ one_if (is_losing_as p) + one_if (is_lost_as p)
    phased phase.Open = omega arith
    phased phase.Closing = omega arith
    phased (phase.Losing broken) = omega arith
    phased (phase.Lost broken) = omega arith

-- what the outside was asked to close takes nothing
closed_of : (whom : Handed) (ran : ℕ) (piece : List ℕ) (s : Sender) (moves : List Move) (after : Sender) → KeepsSender whom ran piece s moves after
    → 1 ≤ closes whom moves → after.writer.ended ≡ true
closed_of whom ran piece s moves after keeps some = by (is_lost after) refl
  where
    over_at : (p : Phase) → is_lost_as p ≡ true → is_over_as p ≡ true
    over_at phase.Open is = absurd (let bad : ⊥ = cc in bad)
    over_at phase.Closing is = absurd (let bad : ⊥ = cc in bad)
    over_at (phase.Losing broken) is = absurd (let bad : ⊥ = cc in bad)
    over_at (phase.Lost broken) is = refl

    by : (b : Bool) → is_lost after ≡ b → after.writer.ended ≡ true
    by true is = keeps.sound.over ∙ over_at after.phase is
    by false is = let sum = keeps.closes in let none : one_if (is_lost after) ≡ 0 = ap one_if is in absurd (omega (arith, sum, none, some))

pub regular_of : (whom : Handed) (ran : ℕ) (piece : List ℕ) (s : Sender) (moves : List Move) (after : Sender) → ran ≡ 0
    → KeepsSender whom ran piece s moves after → IsRegular whom piece s moves after
regular_of whom ran piece s moves after none keeps =
    record {
      order = keeps.order;
      losses = let sum = keeps.losses in omega (arith, sum, none);
      closes = keeps.closes;
    }

pub front_of : (whom : Handed) (ran : ℕ) (piece : List ℕ) (s : Sender) (moves : List Move) (after : Sender) → IsSoundSender s → ran ≡ 0
    → (s.writer.ended ≡ true → piece ≡ []) → IsGood whom piece s moves → KeepsSender whom ran piece s moves after
    → KeepsFrontBy Continues whom piece s moves after
front_of whom ran piece s moves after sound none mute good keeps =
    record {
      sound = keeps.sound;
      order = λ written handed front. by written handed front s.writer.ended refl;
      stays = keeps.stays;
      silent = λ is. none_handed whom moves (keeps.offers is);
      mute = mute;
      once = loses_once whom ran piece s moves after sound none keeps;
      good = good;
      closed = closed_of whom ran piece s moves after keeps;
      ends = regular_of whom ran piece s moves after none keeps;
    }
  where
    by : (written handed : List ℕ) → IsFront written handed s → (ended : Bool) → s.writer.ended ≡ ended
        → IsFront (written ++ piece) (handed ++ handed_in whom moves) after
    by written handed front true is =
        over_front whom piece s moves after (none_handed whom moves (keeps.offers is)) (keeps.stays is) written handed front
    by written handed front false is =
        let order = keeps.order written handed (record { rest = front.rest; front = front.front; unsent = λ whole. front.unsent is }) in
        record {
          rest = order.rest;
          front = order.front;
          unsent = λ live. order.unsent (is_live after (sym keeps.sound.over ∙ live)).broken;
        }

-- ---- nothing is handed on, and nothing changes
pub none_good : (whom : Handed) (piece : List ℕ) (s : Sender) (moves : List Move) → good_losses whom moves ≡ 0 → IsGood whom piece s moves
none_good whom piece s moves none some = absurd (omega (arith, none, some))

apart_good : (whom : Handed) (moves : List Move) → IsApart whom moves → good_losses whom moves ≡ 0
apart_good whom moves apart = let fewer = good_fewer whom moves in let none = apart.loses in omega (arith, fewer, none)

pub still_rest : (written handed : List ℕ) (whom : Handed) (moves : List Move) (rest : List ℕ) → handed_in whom moves ≡ [] → written ≡ handed ++ rest
    → written ++ [] ≡ (handed ++ handed_in whom moves) ++ rest
still_rest written handed whom moves rest none front =
    append-nil written ∙ front ∙ ap (λ bytes. bytes ++ rest) (sym (append-nil handed) ∙ ap (λ bytes. handed ++ bytes) (sym none))

pub front_still : (whom : Handed) (s : Sender) (moves : List Move) → IsSoundSender s → IsApart whom moves → KeepsFrontBy Continues whom [] s moves s
front_still whom s moves sound apart =
    let none = apart.hands in
    let no = apart.loses in
    let open_ = apart.closes in
    record {
      sound = sound;
      order = λ written handed front.
          record { rest = front.rest; front = still_rest written handed whom moves front.rest none front.front; unsent = front.unsent };
      stays = λ is. is;
      silent = λ is. none;
      mute = λ is. refl;
      once = omega (arith, no);
      good = none_good whom [] s moves (apart_good whom moves apart);
      closed = λ some. absurd (omega (arith, open_, some));
      ends = record {
        order = λ written handed order.
            record { rest = order.rest; front = still_rest written handed whom moves order.rest none order.front; unsent = order.unsent };
        losses = omega (arith, no);
        closes = omega (arith, open_);
      };
    }

-- what goes on may as well end so
as_any : (way : Way) (whom : Handed) (piece : List ℕ) (s : Sender) (moves : List Move) (after : Sender) → IsRegular whom piece s moves after
    → EndsAs way whom piece s moves after
as_any Continues whom piece s moves after it = it
as_any (MayGiveUp conn) whom piece s moves after it = inl it
as_any (Loses who broken) whom piece s moves after it = inl it

pub front_as : (way : Way) (whom : Handed) (piece : List ℕ) (s : Sender) (moves : List Move) (after : Sender)
    → KeepsFrontBy Continues whom piece s moves after → KeepsFrontBy way whom piece s moves after
front_as way whom piece s moves after it =
    record {
      sound = it.sound;
      order = it.order;
      stays = it.stays;
      silent = it.silent;
      mute = it.mute;
      once = it.once;
      good = it.good;
      closed = it.closed;
      ends = as_any way whom piece s moves after it.ends;
    }

-- ---- one after another
losses_both : (whom : Handed) (moves more : List Move) → losses whom (moves ++ more) ≡ losses whom moves + losses whom more
losses_both whom [] more = omega arith
losses_both whom (Did change ∷ moves) more = let rest = losses_both whom moves more in omega (arith, rest)
losses_both whom (Heard it came ∷ moves) more = losses_both whom moves more

good_both : (whom : Handed) (moves more : List Move) → good_losses whom (moves ++ more) ≡ good_losses whom moves + good_losses whom more
good_both whom [] more = omega arith
good_both whom (Did change ∷ moves) more = let rest = good_both whom moves more in omega (arith, rest)
good_both whom (Heard it came ∷ moves) more = good_both whom moves more

closes_both : (whom : Handed) (moves more : List Move) → closes whom (moves ++ more) ≡ closes whom moves + closes whom more
closes_both whom [] more = omega arith
closes_both whom (Did change ∷ moves) more = closes_both whom moves more
closes_both whom (Heard it came ∷ moves) more = let rest = closes_both whom moves more in omega (arith, rest)

-- what is no matter of it comes first
module _ (whom : Handed) (piece : List ℕ) (s : Sender) (moves more : List Move) (after : Sender) (apart : IsApart whom moves) where
  hands_same : handed_in whom (moves ++ more) ≡ handed_in whom more
  hands_same = handed_both whom moves more ∙ ap (λ bytes. bytes ++ handed_in whom more) apart.hands

  losses_same : losses whom (moves ++ more) ≡ losses whom more
  losses_same = let sum = losses_both whom moves more in let none = apart.loses in omega (arith, sum, none)

  closes_same : closes whom (moves ++ more) ≡ closes whom more
  closes_same = let sum = closes_both whom moves more in let none = apart.closes in omega (arith, sum, none)

  good_same : good_losses whom (moves ++ more) ≡ good_losses whom more
  good_same = let sum = good_both whom moves more in let none = apart_good whom moves apart in omega (arith, sum, none)

  regular_after : IsRegular whom piece s more after → IsRegular whom piece s (moves ++ more) after
  regular_after it =
      record {
        order = λ written handed order. subst (λ bytes. IsInOrder (written ++ piece) (handed ++ bytes) after) (sym hands_same) (it.order written handed order);
        losses = let same = losses_same in let sum = it.losses in omega (arith, same, sum);
        closes = let same = closes_same in let sum = it.closes in omega (arith, same, sum);
      }

  ends_after : (way : Way) → EndsAs way whom piece s more after → EndsAs way whom piece s (moves ++ more) after
  ends_after Continues it = regular_after it
  ends_after (MayGiveUp conn) (inl it) = inl (regular_after it)
  ends_after (MayGiveUp conn) (inr it) = inr (it.0, closes_same ∙ it.1)
  ends_after (Loses who broken) (inl it) = inl (regular_after it)
  ends_after (Loses who broken) (inr it) =
      inr (it.0, record { lost = it.1.lost; losses = losses_same ∙ it.1.losses; closes = closes_same ∙ it.1.closes })

  pub front_after : (way : Way) → KeepsFrontBy way whom piece s more after → KeepsFrontBy way whom piece s (moves ++ more) after
  front_after way it =
      record {
        sound = it.sound;
        order = λ written handed front. subst (λ bytes. IsFront (written ++ piece) (handed ++ bytes) after) (sym hands_same) (it.order written handed front);
        stays = it.stays;
        silent = λ is. hands_same ∙ it.silent is;
        mute = it.mute;
        once = let same = losses_same in let sum = it.once in omega (arith, same, sum);
        good = λ some written handed front.
            it.good (let same = good_same in omega (arith, same, some)) written handed front ∙ ap (λ bytes. handed ++ bytes) (sym hands_same);
        closed = λ some. it.closed (let same = closes_same in omega (arith, same, some));
        ends = ends_after way it.ends;
      }

-- two that go on
module _ (whom : Handed) (piece last : List ℕ) (s mid after : Sender) (moves more : List Move) (first : KeepsFrontBy Continues whom piece s moves mid)
    (second : KeepsFrontBy Continues whom last mid more after) where
  both_rest : (written handed rest : List ℕ) → (written ++ piece) ++ last ≡ ((handed ++ handed_in whom moves) ++ handed_in whom more) ++ rest
      → written ++ (piece ++ last) ≡ (handed ++ handed_in whom (moves ++ more)) ++ rest
  both_rest written handed rest front =
      sym (append_assoc written piece last) ∙ front
      ∙ ap (λ bytes. bytes ++ rest)
      (append_assoc handed (handed_in whom moves) (handed_in whom more) ∙ ap (λ bytes. handed ++ bytes) (sym (handed_both whom moves more)))

  -- where a loss without an exception is scheduled first, nothing follows
  good_first : 1 ≤ good_losses whom moves → (written handed : List ℕ) → IsFront written handed s
      → written ++ (piece ++ last) ≡ handed ++ handed_in whom (moves ++ more)
  good_first some written handed front =
      let fewer = good_fewer whom moves in
      let once = first.once in
      let over : mid.writer.ended ≡ true = ended_by mid.writer.ended (omega (arith, some, fewer, once)) in
      ap (λ bytes. written ++ (piece ++ bytes)) (second.mute over) ∙ ap (λ bytes. written ++ bytes) (append-nil piece)
      ∙ first.good some written handed front
      ∙ ap (λ bytes. handed ++ bytes)
      (sym (append-nil (handed_in whom moves)) ∙ ap (λ bytes. handed_in whom moves ++ bytes) (sym (second.silent over)) ∙ sym (handed_both whom moves more))
    where
      ended_by : (b : Bool) → 1 ≤ one_if b → b ≡ true
      ended_by true is = refl
      ended_by false is = absurd (omega (arith, is))

  good_second : 1 ≤ good_losses whom more → (written handed : List ℕ) → IsFront written handed s
      → written ++ (piece ++ last) ≡ handed ++ handed_in whom (moves ++ more)
  good_second some written handed front =
      sym (append_assoc written piece last)
      ∙ second.good some (written ++ piece) (handed ++ handed_in whom moves) (first.order written handed front)
      ∙ append_assoc handed (handed_in whom moves) (handed_in whom more) ∙ ap (λ bytes. handed ++ bytes) (sym (handed_both whom moves more))

  good_then : IsGood whom (piece ++ last) s (moves ++ more)
  good_then some written handed front = by (good_losses whom moves) refl
    where
      by : (n : ℕ) → good_losses whom moves ≡ n → written ++ (piece ++ last) ≡ handed ++ handed_in whom (moves ++ more)
      by (suc n) is = good_first (omega (arith, is)) written handed front
      by zero is = let sum = good_both whom moves more in good_second (omega (arith, is, sum, some)) written handed front

  closed_then : 1 ≤ closes whom (moves ++ more) → after.writer.ended ≡ true
  closed_then some = by (closes whom moves) refl
    where
      by : (n : ℕ) → closes whom moves ≡ n → after.writer.ended ≡ true
      by (suc n) is = second.stays (first.closed (omega (arith, is)))
      by zero is = let sum = closes_both whom moves more in second.closed (omega (arith, is, sum, some))

  regular_both : IsRegular whom (piece ++ last) s (moves ++ more) after
  regular_both =
      let one = first.ends in
      let two = second.ends in
      record {
        order = λ written handed order.
            let then_ = two.order (written ++ piece) (handed ++ handed_in whom moves) (one.order written handed order) in
            record { rest = then_.rest; front = both_rest written handed then_.rest then_.front; unsent = then_.unsent };
        losses = let sum = losses_both whom moves more in let a = one.losses in let b = two.losses in omega (arith, sum, a, b);
        closes = let sum = closes_both whom moves more in let a = one.closes in let b = two.closes in omega (arith, sum, a, b);
      }

  pub front_both : KeepsFrontBy Continues whom (piece ++ last) s (moves ++ more) after
  front_both =
      record {
        sound = second.sound;
        order = λ written handed front.
            let order = second.order (written ++ piece) (handed ++ handed_in whom moves) (first.order written handed front) in
            record { rest = order.rest; front = both_rest written handed order.rest order.front; unsent = order.unsent };
        stays = λ is. second.stays (first.stays is);
        silent = λ is.
            handed_both whom moves more ∙ ap (λ bytes. bytes ++ handed_in whom more) (first.silent is) ∙ second.silent (first.stays is);
        mute = λ is. ap (λ bytes. bytes ++ last) (first.mute is) ∙ second.mute (first.stays is);
        once = let sum = losses_both whom moves more in let one = first.once in let two = second.once in omega (arith, sum, one, two);
        good = good_then;
        closed = closed_then;
        ends = regular_both;
      }
