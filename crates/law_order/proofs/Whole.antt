-- Each state of a run is whole.
use Rattle.std.proofs.Common.{◌≡◌, ◌⊎◌, inl, inr, ℕ, zero, suc, ◌+◌, ◌≤◌, Bool, true, false, List, [], ◌∷◌, ◌++◌, Some, refl, sym, ap, subst, ◌∙◌}
use Rattle.std.proofs.Common.{le_refl, arith}
use Rattle.std.proofs.lemmas.List.{append-nil}
use Rattle.model_tree.specs.Syntax.{Program}
use Rattle.model_value.specs.Action.{Action}
use Rattle.model_wire.specs.declared.event.Event.TheVariants as event
use Rattle.model_wire.specs.declared.event.Handed.{Handed}
use Rattle.model_wire.specs.declared.event.Handed.TheVariants as to
use Rattle.model_wire.specs.Event.{Event}
use Rattle.model_wire.specs.Journal.{Entry}
use Rattle.model_loop.specs.Parts.{Handle, Parts}
use Rattle.model_stream.specs.declared.phase.Phase.{Phase}
use Rattle.model_stream.specs.declared.phase.Phase.TheVariants as phase
use Rattle.model_stream.specs.Doing.{MakeFuture, CallSoon, Settle}
use Rattle.model_stream.specs.History.{handed, written_to}
use Rattle.model_stream.specs.Requests.{sender_of}
use Rattle.model_stream.specs.Senders.{Sender, is_lost}
use Rattle.model_stream.specs.Streams.{Streams}
use Rattle.model_machine.specs.State.{State, start}
use Rattle.law_order.specs.Quiet.{IsOfLosses, IsQuiet as Quiet, pending_of}
use Rattle.law_order.proofs.Moves.{counted, first_goes, first_runs, loss_of, losses_counted, made_by}
use Rattle.law_order.proofs.Parts.{losses_of}
use Rattle.law_stream.specs.SoundSenders.{IsInOrder, IsSoundSender, is_broken, is_losing, is_over, outlet_of}
use Rattle.law_stream.specs.Ways.{Move, Did, Heard, closes, losses, one_if, told_by}
use Rattle.law_stream.proofs.SoundSenders.{loses_counts}
use Rattle.law_order.specs.Mild.{good_losses, is_good_loss}
use Rattle.law_order.proofs.Mildly.{good_fewer, good_is_loss}
use Rattle.law_order.specs.Fronts.{Continues, IsLoss, IsRegular, Loses, MayGiveUp, Way}
use Rattle.law_order.specs.Sides.{AreKeptBy, KeepsSide, standing_as, standing_of}
use Rattle.law_walk.specs.Walks.{In, made_on}
use Rattle.law_order.specs.Order.{IsLostOnce, IsOver, closes_asked, may_give_up}
use Rattle.law_order.proofs.Losing.{begins_lost, lost_kept}
use Rattle.law_order.proofs.Moving.{EndsGiving, IsKept, IsQuiet, quiet_same, ran_hands, told_same}
use Rattle.law_order.specs.Losses.{IsOrderly, IsWhole, ends_well, given_up, given_up_after, good_pending}
use Rattle.law_order.proofs.Given.{asked_both, asked_told, gives, not_before}

ended_of : (b : Bool) → 1 ≤ one_if b → b ≡ true
ended_of true is = refl
ended_of false is = absurd (omega (arith, is))

no_both : (b : Bool) → b ≡ true → b ≡ false → ⊥
no_both true t f = let bad : ⊥ = cc in bad
no_both false t f = let bad : ⊥ = cc in bad

-- ---- losses without an exception
abbrev good_of : Handed → Action → Bool
good_of whom it = is_good_loss whom (CallSoon it)

goods_of : (whom : Handed) → IsOfLosses (good_of whom)
goods_of whom it is = losses_of whom it (good_is_loss whom (CallSoon it) is)

good_counted : (whom : Handed) (moves : List Move) → counted (good_of whom) moves ≤ good_losses whom moves
good_counted whom [] = omega arith
good_counted whom (Did MakeFuture ∷ moves) = let rest = good_counted whom moves in omega (arith, rest)
good_counted whom (Did (Settle future outcome) ∷ moves) = let rest = good_counted whom moves in omega (arith, rest)
good_counted whom (Did (CallSoon it) ∷ moves) = let rest = good_counted whom moves in omega (arith, rest)
good_counted whom (Heard it came ∷ moves) = good_counted whom moves

good_counts : (whom : Handed) → is_good_loss whom (CallSoon ((outlet_of whom).loses false)) ≡ true
good_counts (to.Conn id) = loses_counts (to.Conn id) false
good_counts (to.Child id) = loses_counts (to.Child id) false

-- ---- where the streams stay
module _ (s : Streams) (events more : List Event) (p q : Parts) (it : IsWhole s events p) where
  same_orderly : (whom : Handed) → handed whom (events ++ more) ≡ handed whom events → closes_asked whom more ≡ 0
      → pending_of (loss_of whom) q ≤ pending_of (loss_of whom) p → given_up whom (events ++ more) ≡ false → IsOrderly whom s (events ++ more) q
  same_orderly whom hands asks fewer not_given =
      let o = it.orderly whom (not_before whom events more not_given) in
      record {
        order = subst (λ bytes. IsInOrder (written_to whom s.written) bytes (standing_of whom s)) (sym hands) o.order;
        losses = let a = o.losses in omega (arith, a, fewer);
        closes = let sum = asked_both whom events more in let a = o.closes in omega (arith, sum, asks, a);
      }

  same_whole : IsLostOnce s (events ++ more) q → ((whom : Handed) → handed whom (events ++ more) ≡ handed whom events)
      → ((whom : Handed) → closes_asked whom more ≡ 0) → ((counts : Action → Bool) → IsOfLosses counts → pending_of counts q ≤ pending_of counts p)
      → IsWhole s (events ++ more) q
  same_whole lost hands asks fewer =
      record {
        lost = lost;
        good = λ whom some.
            let g = it.good whom (let a = fewer (good_of whom) (goods_of whom) in omega (arith, a, some)) in
            (g.0, hands whom ∙ g.1);
        orderly = λ whom not_given. same_orderly whom (hands whom) (asks whom) (fewer (loss_of whom) (losses_of whom)) not_given;
        closed = λ whom some.
            it.closed whom (let sum = asked_both whom events more in let none = asks whom in omega (arith, sum, none, some));
      }

whole_quiet : (s : Streams) (events more : List Event) (p : Parts) → IsQuiet more → IsWhole s events p → IsWhole s (events ++ more) p
whole_quiet s events more p quiet it =
    same_whole s events more p p it (lost_kept.quiet s events more p quiet it.lost) (λ whom. quiet_same whom events more quiet.hands) quiet.closes
    (λ counts of. le_refl _)

whole_loops : (s : Streams) (events : List Event) (p q : Parts) → Quiet p q → IsWhole s events p → IsWhole s events q
whole_loops s events p q quiet it =
    subst (λ es. IsWhole s es q) (append-nil events)
    (same_whole s events [] p q it
    (subst (λ es. IsLostOnce s es q) (sym (append-nil events)) (lost_kept.loops s events p q quiet it.lost))
    (λ whom. ap (handed whom) (append-nil events)) (λ whom. refl) (quiet.pending it.lost.registers))

whole_taken : (s : Streams) (events : List Event) (p : Parts) (handle : Handle) (rest : List Handle) → p.pending ≡ handle ∷ rest → handle.dead ≡ true
    → IsWhole s events p → IsWhole s events (record p { pending = rest })
whole_taken s events p handle rest first dead it =
    subst (λ es. IsWhole s es (record p { pending = rest })) (append-nil events)
    (same_whole s events [] p (record p { pending = rest }) it
    (subst (λ es. IsLostOnce s es (record p { pending = rest })) (sym (append-nil events)) (lost_kept.taken s events p handle rest first dead it.lost))
    (λ whom. ap (handed whom) (append-nil events)) (λ whom. refl) (λ counts of. first_goes counts p handle rest first))

whole_runs : (s : Streams) (events : List Event) (p : Parts) (handle : Handle) (rest : List Handle) → p.pending ≡ handle ∷ rest → handle.dead ≡ false
    → IsWhole s events p → IsWhole s (events ++ event.Ran handle.action ∷ []) (record p { pending = rest })
whole_runs s events p handle rest first live it =
    same_whole s events (event.Ran handle.action ∷ []) p (record p { pending = rest }) it (lost_kept.runs s events p handle rest first live it.lost)
    (λ whom. quiet_same whom events (event.Ran handle.action ∷ []) (ran_hands handle.action)) (λ whom. refl)
    (λ counts of. first_goes counts p handle rest first)

-- ---- something is done
module _ (way : Way) (s : Streams) (events : List Event) (p : Parts) (it : IsWhole s events p) (moves : List Move) (after : Streams)
    (kept : AreKeptBy way s moves after) where
  side : (whom : Handed) → (piece : List ℕ) × KeepsSide way whom piece s moves after
  side whom = kept whom (it.lost.ordered whom).sound

  -- of one whose loss is scheduled or done nothing is written and handed on
  still_whole : (whom : Handed) → (standing_of whom s).writer.ended ≡ true → handed whom events ≡ written_to whom s.written
      → handed whom (events ++ told_by moves) ≡ written_to whom after.written
  still_whole whom over whole =
      let k = (side whom).1.keeps in
      told_same whom events moves ∙ ap (λ bytes. handed whom events ++ bytes) (k.silent over) ∙ append-nil (handed whom events) ∙ whole
      ∙ sym (append-nil (written_to whom s.written)) ∙ ap (λ bytes. written_to whom s.written ++ bytes) (sym (k.mute over))
      ∙ sym (side whom).1.written

  good_after : (whom : Handed) → 1 ≤ pending_of (good_of whom) (made_on moves p)
      → ((standing_of whom after).writer.ended ≡ true) × (handed whom (events ++ told_by moves) ≡ written_to whom after.written)
  good_after whom some = by (pending_of (good_of whom) p) refl
    where
      by : (n : ℕ) → pending_of (good_of whom) p ≡ n
          → ((standing_of whom after).writer.ended ≡ true) × (handed whom (events ++ told_by moves) ≡ written_to whom after.written)
      by (suc n) is =
          let g = it.good whom (omega (arith, is)) in
          ((side whom).1.keeps.stays g.0, still_whole whom g.0 g.1)
      by zero is =
          let k = (side whom).1.keeps in
          let made = (made_by moves p it.lost.registers).pending (good_of whom) (goods_of whom) in
          let few = good_counted whom moves in
          let goods : 1 ≤ good_losses whom moves = omega (arith, is, made, few, some) in
          let fewer = good_fewer whom moves in
          let once = k.once in (
            ended_of (standing_of whom after).writer.ended (omega (arith, goods, fewer, once)),
            told_same whom events moves ∙ sym (k.good goods (written_to whom s.written) (handed whom events) (it.lost.ordered whom).order)
                ∙ sym (side whom).1.written,
          )

  closed_after : (whom : Handed) → 1 ≤ closes_asked whom (events ++ told_by moves) → (standing_of whom after).writer.ended ≡ true
  closed_after whom some = by (closes_asked whom events) refl
    where
      by : (n : ℕ) → closes_asked whom events ≡ n → (standing_of whom after).writer.ended ≡ true
      by (suc n) is = (side whom).1.keeps.stays (it.closed whom (omega (arith, is)))
      by zero is =
          let sum = asked_both whom events (told_by moves) in
          let told = asked_told whom moves in
          (side whom).1.keeps.closed (omega (arith, is, sum, told, some))

  -- as the streams say it
  in_order_as : (whom : Handed)
      → IsInOrder (written_to whom s.written ++ (side whom).0) (handed whom events ++ handed whom (told_by moves)) (standing_of whom after)
      → IsInOrder (written_to whom after.written) (handed whom (events ++ told_by moves)) (standing_of whom after)
  in_order_as whom order =
      subst (λ bytes. IsInOrder bytes (handed whom (events ++ told_by moves)) (standing_of whom after)) (sym (side whom).1.written)
      (subst (λ bytes. IsInOrder (written_to whom s.written ++ (side whom).0) bytes (standing_of whom after)) (sym (told_same whom events moves)) order)

  pending_after : (whom : Handed) → pending_of (loss_of whom) (made_on moves p) ≤ pending_of (loss_of whom) p + losses whom moves
  pending_after whom =
      let made = (made_by moves p it.lost.registers).pending (loss_of whom) (losses_of whom) in
      let few = losses_counted whom moves in
      omega (arith, made, few)

  orderly_after : (whom : Handed) → given_up whom (events ++ told_by moves) ≡ false
      → IsRegular whom (side whom).0 (standing_of whom s) moves (standing_of whom after)
      → IsOrderly whom after (events ++ told_by moves) (made_on moves p)
  orderly_after whom not_given regular =
      let o = it.orderly whom (not_before whom events (told_by moves) not_given) in
      record {
        order = in_order_as whom (regular.order (written_to whom s.written) (handed whom events) o.order);
        losses =
            let made = pending_after whom in
            let before = o.losses in
            let sum = regular.losses in
            omega (arith, made, before, sum);
        closes =
            let both = asked_both whom events (told_by moves) in
            let told = asked_told whom moves in
            let before = o.closes in
            let sum = regular.closes in
            omega (arith, both, told, before, sum);
      }

  whole_after : IsLostOnce after (events ++ told_by moves) (made_on moves p)
      → ((whom : Handed) → given_up whom (events ++ told_by moves) ≡ false → IsOrderly whom after (events ++ told_by moves) (made_on moves p))
      → IsWhole after (events ++ told_by moves) (made_on moves p)
  whole_after lost orderly = record { lost = lost; good = good_after; orderly = orderly; closed = closed_after }

whole_tree : (s : Streams) (events : List Event) (p : Parts) (moves : List Move) (after : Streams) → AreKeptBy Continues s moves after → IsWhole s events p
    → IsWhole after (events ++ told_by moves) (made_on moves p)
whole_tree s events p moves after kept it =
    whole_after Continues s events p it moves after kept (lost_kept.tree s events p moves after kept it.lost)
    (λ whom not_given.
    orderly_after Continues s events p it moves after kept whom not_given (side Continues s events p it moves after kept whom).1.keeps.ends)

-- ---- a connection may be given up
module _ (conn : ℕ) (s : Streams) (events : List Event) (p : Parts) (it : IsWhole s events p) (moves : List Move) (after : Streams)
    (ends : EndsGiving events) (kept : AreKeptBy (MayGiveUp conn) s moves after) where
  given_so : (whom : Handed) → whom ≡ to.Conn conn → closes whom moves ≡ 1 → given_up whom (events ++ told_by moves) ≡ true
  given_so whom same one =
      let here : closes (to.Conn conn) moves ≡ 1 = subst (λ who. closes who moves ≡ 1) same one in
      subst (λ who. given_up who (events ++ told_by moves) ≡ true) (sym same) (gives conn events moves ends (omega (arith, here)))

  given_orderly : (whom : Handed) → given_up whom (events ++ told_by moves) ≡ false → IsOrderly whom after (events ++ told_by moves) (made_on moves p)
  given_orderly whom not_given = by (side (MayGiveUp conn) s events p it moves after kept whom).1.keeps.ends
    where
      by : IsRegular whom (side (MayGiveUp conn) s events p it moves after kept whom).0 (standing_of whom s) moves (standing_of whom after)
          ⊎ ((whom ≡ to.Conn conn) × (closes whom moves ≡ 1))
          → IsOrderly whom after (events ++ told_by moves) (made_on moves p)
      by (inl regular) = orderly_after (MayGiveUp conn) s events p it moves after kept whom not_given regular
      by (inr so) = absurd (no_both (given_up whom (events ++ told_by moves)) (given_so whom so.0 so.1) not_given)

  whole_given : IsWhole after (events ++ told_by moves) (made_on moves p)
  whole_given =
      whole_after (MayGiveUp conn) s events p it moves after kept (lost_kept.gives_up conn s events p moves after ends kept it.lost) given_orderly

-- ---- a loss runs
abbrev losing_at : Phase → Bool
losing_at p = elim p [ phase.Open ↦ false | phase.Closing ↦ false | phase.Losing broken ↦ true | phase.Lost broken ↦ false ]

abbrev lost_at : Phase → Bool
lost_at p = elim p [ phase.Open ↦ false | phase.Closing ↦ false | phase.Losing broken ↦ false | phase.Lost broken ↦ true ]

abbrev broken_at : Phase → Bool
broken_at p = elim p [ phase.Open ↦ false | phase.Closing ↦ false | phase.Losing broken ↦ broken | phase.Lost broken ↦ broken ]

-- one is losing or lost
apart_at : (p : Phase) → one_if (losing_at p) + one_if (lost_at p) ≤ 1
apart_at phase.Open = omega arith
apart_at phase.Closing = omega arith
apart_at (phase.Losing broken) = omega arith
apart_at (phase.Lost broken) = omega arith

apart : (s : Sender) → one_if (is_losing s) + one_if (is_lost s) ≤ 1
apart s = apart_at s.phase

lost_so : (s : Sender) (broken : Bool) → s.phase ≡ phase.Lost broken → is_lost s ≡ true
lost_so s broken is = ap lost_at is

broken_so : (s : Sender) (broken : Bool) → s.phase ≡ phase.Lost broken → is_broken s ≡ broken
broken_so s broken is = ap broken_at is

module _ (who : Handed) (broken : Bool) (s : Streams) (events : List Event) (p : Parts) (it : IsWhole s events p) (handle : Handle) (rest : List Handle)
    (first : p.pending ≡ handle ∷ rest) (live : handle.dead ≡ false) (is : handle.action ≡ (outlet_of who).loses broken) (moves : List Move)
    (after : Streams) (kept : AreKeptBy (Loses who broken) s moves after) where
  abbrev q : Parts
  q = record p { pending = rest }

  abbrev ran : List Event
  ran = event.Ran ((outlet_of who).loses broken) ∷ []

  begun : IsWhole s (events ++ ran) q
  begun = subst (λ act. IsWhole s (events ++ event.Ran act ∷ []) q) is (whole_runs s events p handle rest first live it)

  abbrev side_of : (whom : Handed) → (piece : List ℕ) × KeepsSide (Loses who broken) whom piece s moves after
  side_of whom = side (Loses who broken) s (events ++ ran) q begun moves after kept whom

  was_loss : (whom : Handed) → whom ≡ who → pending_of (loss_of whom) p ≡ 1 + pending_of (loss_of whom) q
  was_loss whom same =
      let counts : loss_of whom handle.action ≡ true =
      ap (loss_of whom) is ∙ subst (λ w. loss_of whom ((outlet_of w).loses broken) ≡ true) same (loses_counts whom broken) in
      let one : one_if (loss_of whom handle.action) ≡ 1 = ap one_if counts in
      let sum = first_runs (loss_of whom) p handle rest first live in
      omega (arith, one, sum)

  was_good : (whom : Handed) → whom ≡ who → broken ≡ false → 1 ≤ pending_of (good_of whom) p
  was_good whom same unbroken =
      let named : handle.action ≡ (outlet_of who).loses false = is ∙ ap (λ b. (outlet_of who).loses b) unbroken in
      let counts : good_of whom handle.action ≡ true =
      ap (good_of whom) named ∙ subst (λ w. good_of whom ((outlet_of w).loses false) ≡ true) same (good_counts whom) in
      let one : one_if (good_of whom handle.action) ≡ 1 = ap one_if counts in
      let sum = first_runs (good_of whom) p handle rest first live in
      omega (arith, one, sum)

  loss_order : (whom : Handed) → whom ≡ who → (standing_of whom after).phase ≡ phase.Lost broken
      → IsInOrder (written_to whom after.written) (handed whom ((events ++ ran) ++ told_by moves)) (standing_of whom after)
  loss_order whom same lost = by broken refl
    where
      by : (b : Bool) → broken ≡ b → IsInOrder (written_to whom after.written) (handed whom ((events ++ ran) ++ told_by moves)) (standing_of whom after)
      by true e =
          let order = (side_of whom).1.keeps.order (written_to whom s.written) (handed whom (events ++ ran)) (begun.lost.ordered whom).order in
          in_order_as (Loses who broken) s (events ++ ran) q begun moves after kept whom
          (record {
            rest = order.rest;
            front = order.front;
            unsent = λ whole. absurd (no_both (is_broken (standing_of whom after)) (broken_so (standing_of whom after) broken lost ∙ e) whole);
          })
      by false e =
          let g = it.good whom (was_good whom same e) in
          let hands = quiet_same whom events ran (ran_hands ((outlet_of who).loses broken)) in
          let whole = still_whole (Loses who broken) s (events ++ ran) q begun moves after kept whom g.0 (hands ∙ g.1) in
          record {
            rest = [];
            front = sym whole ∙ sym (append-nil (handed whom ((events ++ ran) ++ told_by moves)));
            unsent = λ unbroken. (side_of whom).1.keeps.sound.nothing ((side_of whom).1.keeps.stays g.0);
          }

  loss_orderly : (whom : Handed) → whom ≡ who → IsLoss whom broken moves (standing_of whom after)
      → given_up whom ((events ++ ran) ++ told_by moves) ≡ false → IsOrderly whom after ((events ++ ran) ++ told_by moves) (made_on moves q)
  loss_orderly whom same loss not_given =
      let o = it.orderly whom (not_before whom events ran (not_before whom (events ++ ran) (told_by moves) not_given)) in
      let sum = was_loss whom same in
      let pending = o.losses in
      let phases = apart (standing_of whom s) in
      record {
        order = loss_order whom same loss.lost;
        losses =
            let made = pending_after (Loses who broken) s (events ++ ran) q begun moves after kept whom in
            let none = loss.losses in
            omega (arith, sum, pending, phases, made, none);
        closes =
            let both = asked_both whom (events ++ ran) (told_by moves) in
            let early = asked_both whom events ran in
            let told = asked_told whom moves in
            let before = o.closes in
            let one = loss.closes in
            let now : one_if (is_lost (standing_of whom after)) ≡ 1 = ap one_if (lost_so (standing_of whom after) broken loss.lost) in
            let nothing : closes_asked whom ran ≡ 0 = refl in
            omega (arith, sum, pending, phases, both, early, told, before, one, now, nothing);
      }

  whole_loses : IsWhole after ((events ++ ran) ++ told_by moves) (made_on moves q)
  whole_loses =
      whole_after (Loses who broken) s (events ++ ran) q begun moves after kept
      (lost_kept.loses who broken s events p handle rest first live is moves after kept it.lost) orderly
    where
      at : (whom : Handed) → given_up whom ((events ++ ran) ++ told_by moves) ≡ false
          → IsRegular whom (side_of whom).0 (standing_of whom s) moves (standing_of whom after)
          ⊎ ((whom ≡ who) × IsLoss whom broken moves (standing_of whom after))
          → IsOrderly whom after ((events ++ ran) ++ told_by moves) (made_on moves q)
      at whom not_given (inl regular) = orderly_after (Loses who broken) s (events ++ ran) q begun moves after kept whom not_given regular
      at whom not_given (inr so) = loss_orderly whom so.0 so.1 not_given

      orderly : (whom : Handed) → given_up whom ((events ++ ran) ++ told_by moves) ≡ false
          → IsOrderly whom after ((events ++ ran) ++ told_by moves) (made_on moves q)
      orderly whom not_given = at whom not_given (side_of whom).1.keeps.ends

pub whole_kept : IsKept IsWhole
whole_kept =
    record {
      quiet = λ s events more p quiet it. whole_quiet s events more p quiet it;
      loops = λ s events p q quiet it. whole_loops s events p q quiet it;
      taken = λ s events p handle rest first dead it. whole_taken s events p handle rest first dead it;
      runs = λ s events p handle rest first live it. whole_runs s events p handle rest first live it;
      tree = λ s events p moves after kept it. whole_tree s events p moves after kept it;
      gives_up = λ conn s events p moves after ends kept it. whole_given conn s events p it moves after ends kept;
      loses = λ who broken s events p handle rest first live is moves after kept it.
          whole_loses who broken s events p it handle rest first live is moves after kept;
    }

-- ---- a run begins so
module _ {S : Type 0} (most : ℕ) (state : S) (program : Program) (answers : List Entry) where
  abbrev begun_so : State S
  begun_so = start most state program answers

  good_first : (whom : Handed) → 1 ≤ good_pending whom begun_so.loop.parts
      → ((standing_of whom begun_so.streams).writer.ended ≡ true) × (handed whom [] ≡ written_to whom begun_so.streams.written)
  good_first (to.Conn id) some = let bad : 1 ≤ 0 = some in absurd (omega (arith, bad))
  good_first (to.Child id) some = let bad : 1 ≤ 0 = some in absurd (omega (arith, bad))

  orderly_first : (whom : Handed) → given_up whom [] ≡ false → IsOrderly whom begun_so.streams [] begun_so.loop.parts
  orderly_first (to.Conn id) not_given =
      record { order = record { rest = []; front = refl; unsent = λ whole. refl }; losses = le_refl _; closes = refl }
  orderly_first (to.Child id) not_given =
      record { order = record { rest = []; front = refl; unsent = λ whole. refl }; losses = le_refl _; closes = refl }

  closed_first : (whom : Handed) → 1 ≤ closes_asked whom [] → (standing_of whom begun_so.streams).writer.ended ≡ true
  closed_first whom some = let bad : 1 ≤ 0 = some in absurd (omega (arith, bad))

  pub begins_whole : In IsWhole begun_so
  begins_whole = record { lost = begins_lost most state program answers; good = good_first; orderly = orderly_first; closed = closed_first }

-- ---- what that says
well_at : (s : Sender) (p : Phase) → ends_well (record s { phase = p }) ≡ true
    → (is_over (record s { phase = p }) ≡ true) × (is_broken (record s { phase = p }) ≡ false)
well_at s phase.Open is = absurd (let bad : ⊥ = cc in bad)
well_at s phase.Closing is = absurd (let bad : ⊥ = cc in bad)
well_at s (phase.Losing true) is = absurd (let bad : ⊥ = cc in bad)
well_at s (phase.Losing false) is = (refl, refl)
well_at s (phase.Lost true) is = absurd (let bad : ⊥ = cc in bad)
well_at s (phase.Lost false) is = (refl, refl)

all_of : (written hands : List ℕ) (s : Sender) → IsSoundSender s → IsInOrder written hands s → ends_well s ≡ true → hands ≡ written
all_of written hands s sound order well =
    let parts = well_at s s.phase well in
    let none : order.rest ≡ [] = sym (order.unsent parts.1) ∙ sound.nothing (sound.over ∙ parts.0) in
    sym (order.front ∙ ap (λ bytes. hands ++ bytes) none ∙ append-nil hands)

module _ {S : Type 0} (s : State S) (it : In IsWhole s) where
  pub all_scheduled : (whom : Handed) → 1 ≤ good_pending whom s.loop.parts → handed whom s.events ≡ written_to whom s.streams.written
  all_scheduled whom some = (it.good whom some).1

  pub all_handed : (whom : Handed) (sender : Sender) → sender_of whom s.streams ≡ Some sender → ends_well sender ≡ true → given_up whom s.events ≡ false
      → handed whom s.events ≡ written_to whom s.streams.written
  all_handed whom sender found well not_given =
      let stands : standing_of whom s.streams ≡ sender = ap standing_as found in
      all_of (written_to whom s.streams.written) (handed whom s.events) (standing_of whom s.streams) (it.lost.ordered whom).sound
      (it.orderly whom not_given).order (ap ends_well stands ∙ well)

  pub all_closed : (whom : Handed) → given_up whom s.events ≡ false
      → closes_asked whom s.events ≡ one_if (is_lost (standing_of whom s.streams))
  all_closed whom not_given = (it.orderly whom not_given).closes

  pub is_ended : (whom : Handed) → 1 ≤ closes_asked whom s.events → IsOver whom (handed whom s.events) s.streams s.events s.loop.parts
  is_ended whom some = record { ordered = it.lost.ordered; over = it.closed whom some; hands = refl }

-- a child is never given up
never_after : (id : ℕ) (giving : Bool) (events : List Event) → given_up_after (to.Child id) giving events ≡ false
never_after id giving [] = refl
never_after id giving (event.Ran it ∷ events) = never_after id (may_give_up it) events
never_after id true (event.Called it ∷ events) = never_after id true events
never_after id false (event.Called it ∷ events) = never_after id false events
never_after id giving (event.Got came ∷ events) = never_after id giving events
never_after id giving (event.Said task text ∷ events) = never_after id giving events

pub never_child : (id : ℕ) (events : List Event) → given_up (to.Child id) events ≡ false
never_child id events = never_after id false events
