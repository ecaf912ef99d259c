-- Posters that come home, as the definitions have it, and the seats in hand.
use Rattle.std.proofs.Common.{◌≡◌, ℕ, ◌==◌, Bool, true, false, cond, ◌&&◌, ◌||◌, List, [], ◌∷◌, ◌++◌, Option, Some, None, length}
use Rattle.std.proofs.Common.{refl, sym, ap, ◌∙◌, subst, append-nil}
use Rattle.std.specs.Prelude.{is_some, nat_lt, option_to_list, slice_get, slice_set}
use Rattle.std.proofs.lemmas.List.{map-append}
use Rattle.std.specs.List.{AllByRecursion as Each}
use Rattle.std.proofs.lemmas.Bool.{false≢true, eqb-true}
use Rattle.model_pump.specs.Posts.{posts_of}
use Rattle.model_hub.specs.declared.child.Child.{Child}
use Rattle.model_hub.specs.declared.child.Seats.{Seats}
use Rattle.model_hub.specs.declared.child.Stay.{Stay}
use Rattle.model_hub.specs.declared.child.Stay.TheVariants.{Holding, Gone}
use Rattle.model_hub.specs.declared.pump.Pump.{Pump}
use Rattle.model_hub.specs.Children.{runs, is_over, pump_at}
use Rattle.model_hub.specs.Others.{Back}
use Rattle.model_hub.specs.Select.{are_home, is_home as is_home_by}
use Rattle.aio_inbox.specs.declared.view.PosterView.{PosterView}
use Rattle.aio_inbox.specs.declared.view.TakerView.{TakerView}
use Rattle.aio_postbox.specs.declared.four.Four.{Four}
use Rattle.aio_postbox.specs.Counts.{is_home}
use Rattle.aio_postbox.specs.Fours.{seats_of, seats_in}
use Rattle.aio_lanes.specs.declared.child_lanes.ChildLanes.{ChildLanes}
use Rattle.aio_roster.specs.Rosters.{running_of}
use Rattle.aio_roster.specs.Changes.{MayBeLent, AreApart, LeavesFree, RosterLeaves, GivesBack}
use Rattle.aio_roster.proofs.Seated.{some_is}
use Rattle.aio_intake.specs.Homes.{are_all_home, back_of, backs_of, Apart}
use Rattle.aio_intake.specs.Taken.{hub_at, AreInHand, TakesOne}

both : (a b : Bool) → (a && b) ≡ true → (a ≡ true) × (b ≡ true)
both true b h = (refl, h)
both false b h = absurd (false≢true h)

module _ {N : Type 0} (taker : TakerView) (four : Four N) (seats : Seats) where
  -- a poster that is home reports so
  tells : (poster : PosterView) (seat : ℕ) → is_home taker poster seat ≡ true
      → ((back_of poster).seat == seat && (back_of poster).count == length (posts_of seat taker.taken)) ≡ true
  tells poster seat h =
      (both (nat_lt seat taker.seats) (poster.seat == seat && length poster.posted == length (posts_of seat taker.taken)) h).1

  on_it : (poster : PosterView) (seat : ℕ) → is_home taker poster seat ≡ true → poster.seat ≡ seat
  on_it poster seat h =
      eqb-true poster.seat seat (both (poster.seat == seat) (length poster.posted == length (posts_of seat taker.taken)) (tells poster seat h)).0

  record AllHome : Type 0 where
    stdin : is_home taker four.stdin seats.stdin ≡ true
    out : is_home taker four.out seats.out ≡ true
    errs : is_home taker four.errs seats.errs ≡ true
    exit : is_home taker four.exit seats.exit ≡ true

  all_of : are_all_home taker four seats ≡ true → AllHome
  all_of h =
      let first = both (is_home taker four.stdin seats.stdin) _ h in
      let second = both (is_home taker four.out seats.out) _ first.1 in
      let third = both (is_home taker four.errs seats.errs) _ second.1 in
      record { stdin = first.0; out = second.0; errs = third.0; exit = third.1 }

  pub seats_home : are_all_home taker four seats ≡ true → seats_of four ≡ seats
  seats_home h =
      let all = all_of h in
      ap (λ n. record { stdin = n; out = four.out.seat; errs = four.errs.seat; exit = four.exit.seat }) (on_it four.stdin seats.stdin all.stdin)
      ∙ ap (λ n. record { stdin = seats.stdin; out = n; errs = four.errs.seat; exit = four.exit.seat }) (on_it four.out seats.out all.out)
      ∙ ap (λ n. record { stdin = seats.stdin; out = seats.out; errs = n; exit = four.exit.seat }) (on_it four.errs seats.errs all.errs)
      ∙ ap (λ n. record { stdin = seats.stdin; out = seats.out; errs = seats.errs; exit = n }) (on_it four.exit seats.exit all.exit)

  -- ---- as the definitions have it
  abbrev all_backs : List Back
  all_backs = back_of four.stdin ∷ back_of four.out ∷ back_of four.errs ∷ back_of four.exit ∷ []

  any_first : (a b c d : Bool) → a ≡ true → (a || (b || (c || (d || false)))) ≡ true
  any_first a b c d h = ap (λ x. x || (b || (c || (d || false)))) h

  any_second : (a b c d : Bool) → b ≡ true → (a || (b || (c || (d || false)))) ≡ true
  any_second true b c d h = refl
  any_second false b c d h = ap (λ x. x || (c || (d || false))) h

  any_third : (a b c d : Bool) → c ≡ true → (a || (b || (c || (d || false)))) ≡ true
  any_third true b c d h = refl
  any_third false true c d h = refl
  any_third false false c d h = ap (λ x. x || (d || false)) h

  any_fourth : (a b c d : Bool) → d ≡ true → (a || (b || (c || (d || false)))) ≡ true
  any_fourth true b c d h = refl
  any_fourth false true c d h = refl
  any_fourth false false true d h = refl
  any_fourth false false false d h = ap (λ x. x || false) h

  all_true : (a b c d : Bool) → a ≡ true → b ≡ true → c ≡ true → d ≡ true → (a && b && c && d) ≡ true
  all_true a b c d ha hb hc hd =
      ap (λ x. x && b && c && d) ha ∙ ap (λ x. x && c && d) hb ∙ ap (λ x. x && d) hc ∙ hd

  abbrev said : PosterView → ℕ → Bool
  said poster seat = (back_of poster).seat == seat && (back_of poster).count == length (posts_of seat taker.taken)

  were_home : are_all_home taker four seats ≡ true → are_home (hub_at taker.taken) all_backs seats ≡ true
  were_home h =
      let all = all_of h in
      all_true (is_home_by (hub_at taker.taken) all_backs seats.stdin) (is_home_by (hub_at taker.taken) all_backs seats.out)
      (is_home_by (hub_at taker.taken) all_backs seats.errs) (is_home_by (hub_at taker.taken) all_backs seats.exit)
      (any_first (said four.stdin seats.stdin) (said four.out seats.stdin) (said four.errs seats.stdin) (said four.exit seats.stdin)
      (tells four.stdin seats.stdin all.stdin))
      (any_second (said four.stdin seats.out) (said four.out seats.out) (said four.errs seats.out) (said four.exit seats.out)
      (tells four.out seats.out all.out))
      (any_third (said four.stdin seats.errs) (said four.out seats.errs) (said four.errs seats.errs) (said four.exit seats.errs)
      (tells four.errs seats.errs all.errs))
      (any_fourth (said four.stdin seats.exit) (said four.out seats.exit) (said four.errs seats.exit) (said four.exit seats.exit)
      (tells four.exit seats.exit all.exit))

  by_home : (b : Bool) → are_all_home taker four seats ≡ b → are_home (hub_at taker.taken) (cond b all_backs []) seats ≡ b
  by_home true is = were_home is
  by_home false is = refl

  pub home_is : are_home (hub_at taker.taken) (backs_of taker four seats) seats ≡ are_all_home taker four seats
  home_is = by_home (are_all_home taker four seats) refl

-- ---- the seats in hand
each_lent : (children next : List Child) → LeavesFree children next → (free : List Seats) → Each (MayBeLent children) free
    → Each (MayBeLent next) free
each_lent children next leaves [] lent = tt
each_lent children next leaves (seats ∷ more) lent = (leaves seats lent.0, each_lent children next leaves more lent.1)

each_more : (P : Seats → Type 0) (free : List Seats) (seats : Seats) → Each P free → P seats → Each P (free ++ seats ∷ [])
each_more P [] seats all one = (one, tt)
each_more P (first ∷ more) seats all one = (all.0, each_more P more seats all.1 one)

none_if : (o : Option Pump) → (is_some o ≡ true → ⊥) → o ≡ None
none_if None h = refl
none_if (Some pump) h = absurd (h refl)

apart_swapped : (seats others : Seats) → AreApart seats others → AreApart others seats
apart_swapped seats others apart seat has =
    none_if (pump_at seat seats) (λ had. false≢true (ap is_some (sym (apart seat had)) ∙ has))

module _ (children : List Child) (seats : Seats) (apart : (others : Seats) → MayBeLent children others → AreApart others seats) where
  apart_more : (free : List Seats) → Each (MayBeLent children) free → Apart free → Apart (free ++ seats ∷ [])
  apart_more [] lent all = (tt, tt)
  apart_more (first ∷ more) lent all = (
    each_more (λ (other : Seats). AreApart other first) more seats all.0 (apart_swapped first seats (apart first lent.0)),
    apart_more more lent.1 all.1,
  )

pub in_hand : (children next : List Child) (free : List Seats) → LeavesFree children next → AreInHand children free → AreInHand next free
in_hand children next free leaves hand = record { lent = each_lent children next leaves free hand.lent; apart = hand.apart }

pub in_hand_more : (children next : List Child) (free : List Seats) (seats : Seats) → LeavesFree children next → MayBeLent next seats
    → ((others : Seats) → MayBeLent children others → AreApart others seats) → AreInHand children free
    → AreInHand next (free ++ seats ∷ [])
in_hand_more children next free seats leaves lent apart hand =
    record {
      lent = each_more (MayBeLent next) free seats (each_lent children next leaves free hand.lent) lent;
      apart = apart_more children seats apart free hand.lent hand.apart;
    }

-- ---- one child
same_child : (children : List Child) (k : ℕ) (a b : Child) → slice_get (running_of children) k ≡ Some a.number
    → slice_get (running_of children) k ≡ Some b.number → slice_get children a.number ≡ Some a → slice_get children b.number ≡ Some b → a ≡ b
same_child children k a b named_a named_b at_a at_b =
    some_is a b (sym at_a ∙ ap (slice_get children) (some_is a.number b.number (sym named_a ∙ named_b)) ∙ at_b)

module _ {N Run : Type 0} (taker : TakerView) (k : ℕ) (children next : List Child) (fours fours_now : List (Four N))
    (lanes lanes_now : List (Option (ChildLanes Run))) (child : Child) (four : Four N) (home : Option (Four N)) (stay : Stay)
    (named : slice_get (running_of children) k ≡ Some child.number) (at : slice_get children child.number ≡ Some child)
    (home_is_it : home ≡ cond (are_all_home taker four child.seats) (Some four) None) (stay_is : stay ≡ cond (is_some home) Gone Holding)
    (fours_are : fours_now ≡ fours ++ option_to_list home) (left : RosterLeaves k stay children next) where
  some_if : (b : Bool) → is_some (cond b (Some four) None) ≡ b
  some_if true = refl
  some_if false = refl

  is_home_now : is_some home ≡ are_home (hub_at taker.taken) (backs_of taker four child.seats) child.seats
  is_home_now =
      ap is_some home_is_it ∙ some_if (are_all_home taker four child.seats) ∙ sym (home_is taker four child.seats)

  listed : (b : Bool) → are_all_home taker four child.seats ≡ b → seats_in (option_to_list (cond b (Some four) None)) ≡ cond b (child.seats ∷ []) []
  listed true is = ap (λ (s : Seats). s ∷ []) (seats_home taker four child.seats is)
  listed false is = refl

  seats_now : seats_in fours_now ≡ seats_in fours ++ cond (are_all_home taker four child.seats) (child.seats ∷ []) []
  seats_now =
      ap seats_in fours_are ∙ map-append seats_of fours (option_to_list home)
      ∙ ap (λ (o : Option (Four N)). seats_in fours ++ seats_in (option_to_list o)) home_is_it
      ∙ ap (λ (l : List Seats). seats_in fours ++ l) (listed (are_all_home taker four child.seats) refl)

  pub takes_one : runs child.stay ≡ true → is_over child ≡ true → lanes_now ≡ slice_set lanes child.number None
      → TakesOne taker.taken k children next (seats_in fours) (seats_in fours_now) lanes lanes_now
  takes_one goes over gives_up =
      let same = same_child children k left.child child left.named named left.at at in
      record {
        child = child;
        backs = backs_of taker four child.seats;
        named = named;
        at = at;
        goes = goes;
        over = over;
        now =
            left.now
            ∙ ap (λ (c : Child). slice_set children c.number (record c { stay = stay })) same
            ∙ ap (λ (s : Stay). slice_set children child.number (record child { stay = s }))
            (stay_is ∙ ap (λ b. cond b Gone Holding) is_home_now);
        back =
            seats_now
            ∙ ap (λ b. seats_in fours ++ cond b (child.seats ∷ []) []) (sym (home_is taker four child.seats));
        gives_up = gives_up;
      }

  module _ (leaves : LeavesFree children next) (back : GivesBack k stay children next) (hand : AreInHand children (seats_in fours)) where
    in_hand_by : (b : Bool) → are_all_home taker four child.seats ≡ b → AreInHand next (seats_in fours ++ cond b (child.seats ∷ []) [])
    in_hand_by true is =
        let same = same_child children k back.child child back.named named back.at at in
        let gone = stay_is ∙ ap (λ (o : Option (Four N)). cond (is_some o) Gone Holding) (home_is_it ∙ ap (λ b. cond b (Some four) None) is) in
        in_hand_more children next (seats_in fours) child.seats leaves
        (subst (λ (c : Child). MayBeLent next c.seats) same (back.free gone))
        (subst (λ (c : Child). (others : Seats) → MayBeLent children others → AreApart others c.seats) same back.apart) hand
    in_hand_by false is = subst (AreInHand next) (sym (append-nil (seats_in fours))) (in_hand children next (seats_in fours) leaves hand)

    pub hand_on : AreInHand next (seats_in fours_now)
    hand_on = subst (AreInHand next) (sym seats_now) (in_hand_by (are_all_home taker four child.seats) refl)

-- room was made, and the four were added
pub seats_back : {N : Type 0} (fours fours_mid fours_now : List (Four N)) (home : Option (Four N)) → fours_mid ≡ fours
    → fours_now ≡ fours_mid ++ option_to_list home → fours_now ≡ fours ++ option_to_list home
seats_back {N} fours fours_mid fours_now home same added = added ∙ ap (λ (l : List (Four N)). l ++ option_to_list home) same
