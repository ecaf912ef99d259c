-- Seats that can be lent, when the children change.
use Rattle.std.proofs.Common.{◌≡◌, ℕ, zero, suc, ◌<◌, ◌==◌, Bool, true, false, cond, List, [], ◌∷◌, ◌++◌, Option, Some, None}
use Rattle.std.proofs.Common.{length, refl, sym, ap, ◌∙◌, subst, inl, inr, eq-eqb, arith}
use Rattle.std.specs.Prelude.{is_some, slice_get, slice_set, ◌⊎◌}
use Rattle.std.proofs.lemmas.Bool.{false≢true, eqb-true}
use Rattle.std.proofs.lemmas.Option.{slice_get_within}
use Rattle.model_hub.specs.declared.child.Child.{Child}
use Rattle.model_hub.specs.declared.child.Seats.{Seats}
use Rattle.model_hub.specs.declared.child.Stay.{Stay}
use Rattle.model_hub.specs.declared.child.Stay.TheVariants.{Running, Holding, Gone}
use Rattle.model_hub.specs.declared.pump.Pump.{Pump}
use Rattle.model_hub.specs.declared.pump.Pump.TheVariants as pump
use Rattle.model_hub.specs.Children.{new_child, pump_of, pump_at, runs}
use Rattle.aio_roster.specs.Rosters.{IsRoster, IsFree, IsSameChild, running_of}
use Rattle.aio_roster.specs.Changes.{MayBeLent, LeavesFree, AreApart, GivesBack}
use Rattle.aio_roster.proofs.Seated.{some_is, get_set, lent_same}
use Rattle.aio_roster.proofs.Running.{snoc_case}

none_if : (o : Option Pump) → (is_some o ≡ true → ⊥) → o ≡ None
none_if None h = refl
none_if (Some pump) h = absurd (h refl)

module _ (children : List Child) (number : ℕ) (old new : Child) (at : slice_get children number ≡ Some old)
    (has_old : (seat : ℕ) → is_some (pump_of seat new) ≡ true → is_some (pump_of seat old) ≡ true) where
  free_at : (seat : ℕ) → IsFree seat children → (n : ℕ) (child : Child) → ((n ≡ number) × (child ≡ new)) ⊎ (slice_get children n ≡ Some child)
      → pump_of seat child ≡ None
  free_at seat free n child (inl here) =
      ap (pump_of seat) here.1
      ∙ none_if (pump_of seat new) (λ has. false≢true (ap is_some (sym (free number old at)) ∙ has_old seat has))
  free_at seat free n child (inr there) = free n child there

  free_set : (seat : ℕ) → IsFree seat children → IsFree seat (slice_set children number new)
  free_set seat free n child is = free_at seat free n child (get_set children number n new child is)

  pub set_lent : LeavesFree children (slice_set children number new)
  set_lent seats lent =
      record {
        within = lent.within;
        stdin = free_set seats.stdin lent.stdin;
        out = free_set seats.out lent.out;
        errs = free_set seats.errs lent.errs;
        exit = free_set seats.exit lent.exit;
      }

pub same_lent : (children : List Child) (number : ℕ) (old new : Child) → slice_get children number ≡ Some old → IsSameChild old new
    → LeavesFree children (slice_set children number new)
same_lent children number old new at same =
    set_lent children number old new at (λ seat has. ap is_some (sym (lent_same seat old new same)) ∙ has)

-- ---- each of the four is one of them
if_true : (x y z w : Bool) → w ≡ true
    → is_some (cond x (Some pump.Stdin) (cond y (Some pump.Out) (cond z (Some pump.Errs) (cond w (Some pump.Exit) None)))) ≡ true
if_true true y z w h = refl
if_true false true z w h = refl
if_true false false true w h = refl
if_true false false false w h = ap (λ v. is_some (cond v (Some pump.Exit) None)) h

if_third : (x y z : Bool) (r : Option Pump) → z ≡ true → is_some (cond x (Some pump.Stdin) (cond y (Some pump.Out) (cond z (Some pump.Errs) r))) ≡ true
if_third true y z r h = refl
if_third false true z r h = refl
if_third false false z r h = ap (λ v. is_some (cond v (Some pump.Errs) r)) h

if_second : (x y : Bool) (r : Option Pump) → y ≡ true → is_some (cond x (Some pump.Stdin) (cond y (Some pump.Out) r)) ≡ true
if_second true y r h = refl
if_second false y r h = ap (λ v. is_some (cond v (Some pump.Out) r)) h

if_first : (x : Bool) (r : Option Pump) → x ≡ true → is_some (cond x (Some pump.Stdin) r) ≡ true
if_first x r h = ap (λ v. is_some (cond v (Some pump.Stdin) r)) h

-- ---- a child is launched
module _ (children : List Child) (seats others : Seats) (apart : AreApart others seats) (lent : MayBeLent children others) where
  abbrev added : Child
  added = new_child (length children) seats

  free_too : (seat : ℕ) → is_some (pump_at seat others) ≡ true → IsFree seat children → IsFree seat (children ++ added ∷ [])
  free_too seat has free = snoc_case (λ n c. pump_of seat c ≡ None) children added free (apart seat has)

  pub added_lent : MayBeLent (children ++ added ∷ []) others
  added_lent =
      record {
        within = lent.within;
        stdin = free_too others.stdin (if_first (others.stdin == others.stdin) _ (eq-eqb others.stdin others.stdin refl)) lent.stdin;
        out = free_too others.out (if_second (others.out == others.stdin) (others.out == others.out) _ (eq-eqb others.out others.out refl)) lent.out;
        errs =
            free_too others.errs
            (if_third (others.errs == others.stdin) (others.errs == others.out) (others.errs == others.errs) _ (eq-eqb others.errs others.errs refl))
            lent.errs;
        exit =
            free_too others.exit
            (if_true (others.exit == others.stdin) (others.exit == others.out) (others.exit == others.errs) (others.exit == others.exit)
            (eq-eqb others.exit others.exit refl))
            lent.exit;
      }

-- ---- a child leaves
get_other : (xs : List Child) (n m : ℕ) (v x : Child) → slice_get (slice_set xs n v) m ≡ Some x
    → ((m ≡ n) × (x ≡ v)) ⊎ ((m ≡ n → ⊥) × (slice_get xs m ≡ Some x))
get_other [] n m v x h = inr (λ same. absurd (cc), h)
get_other (y ∷ ys) zero zero v x h = inl (refl, sym (some_is v x h))
get_other (y ∷ ys) zero (suc m) v x h = inr (λ same. absurd (omega arith), h)
get_other (y ∷ ys) (suc n) zero v x h = inr (λ same. absurd (omega arith), h)
get_other (y ∷ ys) (suc n) (suc m) v x h =
    elim (get_other ys n m v x h) [
      | inl same ↦ inl (ap suc same.0, same.1)
      | inr old ↦ inr (λ same. old.0 (omega arith), old.1)
    ]

-- whoever has a seat of these has one that nobody has
free_of : (children : List Child) (others : Seats) → MayBeLent children others → (seat : ℕ) → is_some (pump_at seat others) ≡ true
    → IsFree seat children
free_of children others lent seat has =
    by_tests (seat == others.stdin) (seat == others.out) (seat == others.errs) (seat == others.exit) refl refl refl refl has
  where
    at : (other : ℕ) → IsFree other children → seat ≡ other → IsFree seat children
    at other free same = subst (λ s. IsFree s children) (sym same) free

    by_tests : (a b c d : Bool) → (seat == others.stdin) ≡ a → (seat == others.out) ≡ b → (seat == others.errs) ≡ c
        → (seat == others.exit) ≡ d
        → is_some (cond a (Some pump.Stdin) (cond b (Some pump.Out) (cond c (Some pump.Errs) (cond d (Some pump.Exit) None)))) ≡ true
        → IsFree seat children
    by_tests true b c d ha hb hc hd h = at others.stdin lent.stdin (eqb-true seat others.stdin ha)
    by_tests false true c d ha hb hc hd h = at others.out lent.out (eqb-true seat others.out hb)
    by_tests false false true d ha hb hc hd h = at others.errs lent.errs (eqb-true seat others.errs hc)
    by_tests false false false true ha hb hc hd h = at others.exit lent.exit (eqb-true seat others.exit hd)
    by_tests false false false false ha hb hc hd h = absurd (false≢true h)

module _ (children : List Child) (holders : List (Option ℕ)) (running : List ℕ) (noted : ℕ)
    (roster : IsRoster children holders running noted) (n : ℕ) (child : Child) (stay : Stay)
    (at : slice_get children n ≡ Some child) (goes : runs child.stay ≡ true) where
  has_all : (seat : ℕ) → is_some (pump_at seat child.seats) ≡ true → is_some (pump_of seat child) ≡ true
  has_all seat has = by_stays child.stay refl goes
    where
      by_stays : (s : Stay) → child.stay ≡ s → runs s ≡ true → is_some (pump_of seat child) ≡ true
      by_stays Running is h = ap (λ (x : Stay). is_some (pump_of seat (record child { stay = x }))) is ∙ has
      by_stays Holding is h = absurd (false≢true h)
      by_stays Gone is h = absurd (false≢true h)

  named : (seat : ℕ) → is_some (pump_at seat child.seats) ≡ true → slice_get holders seat ≡ Some (Some n)
  named seat has = roster.held n seat child at (has_all seat has)

  below : (seat : ℕ) → is_some (pump_at seat child.seats) ≡ true → seat < 1024
  below seat has =
      let within = slice_get_within holders seat (Some n) (named seat has) in
      omega (arith, within, roster.sized)

  pub apart_from : (others : Seats) → MayBeLent children others → AreApart others child.seats
  apart_from others lent seat has =
      none_if (pump_at seat child.seats)
      (λ had. false≢true (ap is_some (sym (free_of children others lent seat has n child at)) ∙ has_all seat had))

  abbrev left : Child
  left = record child { stay = stay }

  free_now : stay ≡ Gone → (seat : ℕ) → is_some (pump_at seat child.seats) ≡ true → IsFree seat (slice_set children n left)
  free_now gone seat has m c is = by_place (get_other children n m left c is)
    where
      some_is_name : (x y : Option ℕ) → Some x ≡ Some y → x ≡ y
      some_is_name x y h = cc

      other_is : (x y : ℕ) → Some x ≡ Some y → x ≡ y
      other_is x y h = cc

      by_place : ((m ≡ n) × (c ≡ left)) ⊎ ((m ≡ n → ⊥) × (slice_get children m ≡ Some c)) → pump_of seat c ≡ None
      by_place (inl here) = ap (pump_of seat) here.1 ∙ ap (λ (s : Stay). pump_of seat (record child { stay = s })) gone
      by_place (inr there) =
          none_if (pump_of seat c)
          (λ had. there.0 (other_is m n (some_is_name (Some m) (Some n) (sym (roster.held m seat c there.1 had) ∙ named seat has))))

  first_of : is_some (pump_at child.seats.stdin child.seats) ≡ true
  first_of = if_first (child.seats.stdin == child.seats.stdin) _ (eq-eqb child.seats.stdin child.seats.stdin refl)

  second_of : is_some (pump_at child.seats.out child.seats) ≡ true
  second_of =
      if_second (child.seats.out == child.seats.stdin) (child.seats.out == child.seats.out) _ (eq-eqb child.seats.out child.seats.out refl)

  third_of : is_some (pump_at child.seats.errs child.seats) ≡ true
  third_of =
      if_third (child.seats.errs == child.seats.stdin) (child.seats.errs == child.seats.out) (child.seats.errs == child.seats.errs) _
      (eq-eqb child.seats.errs child.seats.errs refl)

  fourth_of : is_some (pump_at child.seats.exit child.seats) ≡ true
  fourth_of =
      if_true (child.seats.exit == child.seats.stdin) (child.seats.exit == child.seats.out) (child.seats.exit == child.seats.errs)
      (child.seats.exit == child.seats.exit) (eq-eqb child.seats.exit child.seats.exit refl)

  pub freed : stay ≡ Gone → MayBeLent (slice_set children n left) child.seats
  freed gone =
      record {
        within = (
          below child.seats.stdin first_of,
          below child.seats.out second_of,
          below child.seats.errs third_of,
          below child.seats.exit fourth_of,
        );
        stdin = free_now gone child.seats.stdin first_of;
        out = free_now gone child.seats.out second_of;
        errs = free_now gone child.seats.errs third_of;
        exit = free_now gone child.seats.exit fourth_of;
      }

  pub gives_back_at : (k : ℕ) → slice_get (running_of children) k ≡ Some n → GivesBack k stay children (slice_set children n left)
  gives_back_at k is_named =
      let same = roster.numbered n child at in
      record {
        child = child;
        named = is_named ∙ ap Some (sym same);
        at = ap (slice_get children) same ∙ at;
        free = freed;
        apart = apart_from;
      }

pub gives_back : (children : List Child) (holders : List (Option ℕ)) (running : List ℕ) (noted : ℕ)
    (roster : IsRoster children holders running noted) (k n : ℕ) (child : Child) (stay : Stay)
    → slice_get (running_of children) k ≡ Some n → slice_get children n ≡ Some child → runs child.stay ≡ true
    → GivesBack k stay children (slice_set children n (record child { stay = stay }))
gives_back children holders running noted roster k n child stay named at goes =
    gives_back_at children holders running noted roster n child stay at goes k named
