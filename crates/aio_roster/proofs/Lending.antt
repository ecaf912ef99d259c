-- A child is launched, and its seats are lent to it; or it runs no longer.
use Rattle.std.proofs.Common.{◌≡◌, ℕ, zero, suc, ◌-◌, ◌^◌, ◌<◌, ◌==◌, Bool, true, false, cond, List, [], ◌∷◌, ◌++◌, Option}
use Rattle.std.proofs.Common.{Some, None, length, refl, sym, ap, ◌∙◌, subst, arith, length-append}
use Rattle.std.specs.Prelude.{is_some, slice_get, slice_set}
use Rattle.std.specs.List.{remove}
use Rattle.std.proofs.lemmas.Bool.{eqb-true, false≢true}
use Rattle.std.proofs.lemmas.List.{length-set}
use Rattle.model_hub.specs.declared.child.Child.{Child}
use Rattle.model_hub.specs.declared.child.Seats.{Seats}
use Rattle.model_hub.specs.declared.child.Stay.{Stay}
use Rattle.model_hub.specs.declared.child.Stay.TheVariants.{Running, Holding, Gone}
use Rattle.model_hub.specs.declared.pump.Pump.TheVariants as pump
use Rattle.model_hub.specs.Children.{new_child, pump_of, pump_at, runs}
use Rattle.aio_serving.specs.Served.{IsModest}
use Rattle.aio_roster.specs.Rosters.{IsRoster, IsShort, IsFree, running_of}
use Rattle.aio_roster.specs.Changes.{AreSeats, MayBeLent, lend_to, RosterLeaves}
use Rattle.aio_roster.proofs.Seated.{put_at}
use Rattle.aio_roster.proofs.Running.{Found, find, running_cons, running_append, get_middle, set_middle, snoc_case}

-- ---- who is named for a seat
set_here : {A : Type 0} (xs : List A) (n : ℕ) (x : A) → n < length xs → slice_get (slice_set xs n x) n ≡ Some x
set_here [] n x lt = absurd (omega arith)
set_here (y ∷ ys) zero x lt = refl
set_here (y ∷ ys) (suc n) x lt = set_here ys n x (omega arith)

set_there : {A : Type 0} (xs : List A) (n m : ℕ) (x : A) → (m ≡ n → ⊥) → slice_get (slice_set xs n x) m ≡ slice_get xs m
set_there [] n m x ne = refl
set_there (y ∷ ys) zero zero x ne = absurd (ne refl)
set_there (y ∷ ys) zero (suc m) x ne = refl
set_there (y ∷ ys) (suc n) zero x ne = refl
set_there (y ∷ ys) (suc n) (suc m) x ne = set_there ys n m x (λ same. ne (ap suc same))

-- what stands there already stays, where it is written somewhere again
set_again : {A : Type 0} (xs : List A) (n m : ℕ) (x : A) → slice_get xs m ≡ Some x → slice_get (slice_set xs n x) m ≡ Some x
set_again [] n m x h = h
set_again (y ∷ ys) zero zero x h = refl
set_again (y ∷ ys) zero (suc m) x h = h
set_again (y ∷ ys) (suc n) zero x h = h
set_again (y ∷ ys) (suc n) (suc m) x h = set_again ys n m x h

-- the seat of none of the four
record Beside (seat : ℕ) (seats : Seats) : Type 0 where
  stdin : seat ≡ seats.stdin → ⊥
  out : seat ≡ seats.out → ⊥
  errs : seat ≡ seats.errs → ⊥
  exit : seat ≡ seats.exit → ⊥

module _ (number : ℕ) (seats : Seats) (holders : List (Option ℕ)) where
  abbrev name : Option ℕ
  name = Some number

  abbrev one : List (Option ℕ)
  one = slice_set holders seats.stdin name

  abbrev two : List (Option ℕ)
  two = slice_set one seats.out name

  abbrev three : List (Option ℕ)
  three = slice_set two seats.errs name

  pub lent_size : length (lend_to number seats holders) ≡ length holders
  lent_size =
      length-set three seats.exit name ∙ length-set two seats.errs name ∙ length-set one seats.out name
      ∙ length-set holders seats.stdin name

  lent_there : (seat : ℕ) → Beside seat seats → slice_get (lend_to number seats holders) seat ≡ slice_get holders seat
  lent_there seat beside =
      set_there three seats.exit seat name beside.exit ∙ set_there two seats.errs seat name beside.errs
      ∙ set_there one seats.out seat name beside.out ∙ set_there holders seats.stdin seat name beside.stdin

  module _ (within : AreSeats (length holders) seats) where
    at_stdin : slice_get (lend_to number seats holders) seats.stdin ≡ Some name
    at_stdin =
        set_again three seats.exit seats.stdin name
        (set_again two seats.errs seats.stdin name
        (set_again one seats.out seats.stdin name (set_here holders seats.stdin name within.0)))

    at_out : slice_get (lend_to number seats holders) seats.out ≡ Some name
    at_out =
        set_again three seats.exit seats.out name
        (set_again two seats.errs seats.out name
        (set_here one seats.out name (omega (arith, within.1, length-set holders seats.stdin name))))

    at_errs : slice_get (lend_to number seats holders) seats.errs ≡ Some name
    at_errs =
        set_again three seats.exit seats.errs name
        (set_here two seats.errs name
        (omega (arith, within.2, length-set one seats.out name, length-set holders seats.stdin name)))

    at_exit : slice_get (lend_to number seats holders) seats.exit ≡ Some name
    at_exit =
        set_here three seats.exit name
        (omega (
          arith,
          within.3,
          length-set two seats.errs name,
          length-set one seats.out name,
          length-set holders seats.stdin name,
        ))

    lent_at : (seat : ℕ) (a b c d : Bool) → (seat == seats.stdin) ≡ a → (seat == seats.out) ≡ b → (seat == seats.errs) ≡ c
        → (seat == seats.exit) ≡ d → cond a true (cond b true (cond c true (cond d true false))) ≡ true
        → slice_get (lend_to number seats holders) seat ≡ Some name
    lent_at seat true b c d ha hb hc hd h =
        ap (slice_get (lend_to number seats holders)) (eqb-true seat seats.stdin ha) ∙ at_stdin
    lent_at seat false true c d ha hb hc hd h =
        ap (slice_get (lend_to number seats holders)) (eqb-true seat seats.out hb) ∙ at_out
    lent_at seat false false true d ha hb hc hd h =
        ap (slice_get (lend_to number seats holders)) (eqb-true seat seats.errs hc) ∙ at_errs
    lent_at seat false false false true ha hb hc hd h =
        ap (slice_get (lend_to number seats holders)) (eqb-true seat seats.exit hd) ∙ at_exit
    lent_at seat false false false false ha hb hc hd h = absurd (false≢true h)

    -- whoever has a seat of the four is named for it
    pub lent_here : (seat : ℕ) → is_some (pump_at seat seats) ≡ true → slice_get (lend_to number seats holders) seat ≡ Some name
    lent_here seat has =
        lent_at seat (seat == seats.stdin) (seat == seats.out) (seat == seats.errs) (seat == seats.exit) refl refl refl refl
        (sym (each (seat == seats.stdin) (seat == seats.out) (seat == seats.errs) (seat == seats.exit)) ∙ has)
      where
        each : (a b c d : Bool)
            → is_some (cond a (Some pump.Stdin) (cond b (Some pump.Out) (cond c (Some pump.Errs) (cond d (Some pump.Exit) None))))
            ≡ cond a true (cond b true (cond c true (cond d true false)))
        each true b c d = refl
        each false true c d = refl
        each false false true d = refl
        each false false false true = refl
        each false false false false = refl

-- ---- a child is launched
module _ (children : List Child) (holders : List (Option ℕ)) (running : List ℕ) (noted : ℕ)
    (roster : IsRoster children holders running noted) (seats : Seats) (lent : MayBeLent children seats)
    (less : length children < 2 ^ 32 - 1) where
  abbrev added : Child
  added = new_child (length children) seats

  free_none : (seat n : ℕ) (child : Child) → slice_get children n ≡ Some child → is_some (pump_of seat child) ≡ true → IsFree seat children → ⊥
  free_none seat n child at has free = false≢true (ap is_some (sym (free n child at)) ∙ has)

  beside : (seat n : ℕ) (child : Child) → slice_get children n ≡ Some child → is_some (pump_of seat child) ≡ true → Beside seat seats
  beside seat n child at has =
      record {
        stdin = λ same. free_none seat n child at has (subst (λ s. IsFree s children) (sym same) lent.stdin);
        out = λ same. free_none seat n child at has (subst (λ s. IsFree s children) (sym same) lent.out);
        errs = λ same. free_none seat n child at has (subst (λ s. IsFree s children) (sym same) lent.errs);
        exit = λ same. free_none seat n child at has (subst (λ s. IsFree s children) (sym same) lent.exit);
      }

  sized : AreSeats (length holders) seats
  sized =
      let all = lent.within in (
        omega (arith, all.0, roster.sized),
        omega (arith, all.1, roster.sized),
        omega (arith, all.2, roster.sized),
        omega (arith, all.3, roster.sized),
      )

  new_modest : IsModest added
  new_modest = record { out = (omega arith, λ h. omega arith); errs = (omega arith, λ h. omega arith); writes = omega arith }

  pub added_one : IsRoster (children ++ added ∷ []) (lend_to (length children) seats holders) (running ++ length children ∷ []) noted
  added_one =
      record {
        sized = lent_size (length children) seats holders ∙ roster.sized;
        few = omega (arith, less, length-append children (added ∷ []));
        numbered = snoc_case (λ n c. c.number ≡ n) children added roster.numbered refl;
        held = λ n seat child at has.
            snoc_case (λ m c. is_some (pump_of seat c) ≡ true → slice_get (lend_to (length children) seats holders) seat ≡ Some (Some m))
            children added
            (λ m c is had.
            lent_there (length children) seats holders seat (beside seat m c is had) ∙ roster.held m seat c is had)
            (λ had. lent_here (length children) seats holders sized seat had) n child at has;
        short = snoc_case (λ n c. IsShort noted c) children added roster.short (omega arith, omega arith, omega arith);
        modest = snoc_case (λ n c. IsModest c) children added roster.modest new_modest;
        runs =
            ap (λ (l : List ℕ). l ++ length children ∷ []) roster.runs
            ∙ ap (λ (l : List ℕ). running_of children ++ l) (sym (running_cons added [] true refl))
            ∙ sym (running_append children (added ∷ []));
      }

  pub added_is : (number : ℕ) (new : Child) (children_now : List Child) (holders_now : List (Option ℕ)) (running_now : List ℕ)
      → number ≡ length children → new ≡ new_child number seats → children_now ≡ children ++ new ∷ []
      → holders_now ≡ lend_to number seats holders → running_now ≡ running ++ number ∷ []
      → IsRoster children_now holders_now running_now noted
  added_is number new children_now holders_now running_now is_last is_new is_children is_holders is_running =
      let last : running_now ≡ running ++ length children ∷ [] = is_running ∙ ap (λ n. running ++ n ∷ []) is_last in
      let named : holders_now ≡ lend_to (length children) seats holders = is_holders ∙ ap (λ n. lend_to n seats holders) is_last in
      let all : children_now ≡ children ++ added ∷ [] =
      is_children ∙ ap (λ (c : Child). children ++ c ∷ []) (is_new ∙ ap (λ n. new_child n seats) is_last) in
      subst (λ (cs : List Child). IsRoster cs holders_now running_now noted) (sym all)
      (subst (λ (hs : List (Option ℕ)). IsRoster (children ++ added ∷ []) hs running_now noted) (sym named)
      (subst (λ (rs : List ℕ). IsRoster (children ++ added ∷ []) (lend_to (length children) seats holders) rs noted) (sym last) added_one))

-- ---- a child runs no longer
removed_middle : (xs : List ℕ) (y : ℕ) (ys : List ℕ) → remove (xs ++ y ∷ ys) (length xs) ≡ xs ++ ys
removed_middle [] y ys = refl
removed_middle (x ∷ xs) y ys = ap (λ (l : List ℕ). x ∷ l) (removed_middle xs y ys)

module _ (children : List Child) (k n : ℕ) (old new : Child) (named : slice_get (running_of children) k ≡ Some n)
    (at : slice_get children n ≡ Some old) (number : (m : ℕ) (child : Child) → slice_get children m ≡ Some child → child.number ≡ m)
    (over : runs new.stay ≡ false) where
  abbrev found : Found children k n
  found = find children k n named

  place : n ≡ length found.before
  place =
      sym found.number
      ∙ number (length found.before) found.child
      (ap (λ (l : List Child). slice_get l (length found.before)) found.whole ∙ get_middle found.before found.child found.after)

  set_whole : slice_set children n new ≡ found.before ++ new ∷ found.after
  set_whole =
      ap (λ (l : List Child). slice_set l n new) found.whole
      ∙ ap (λ m. slice_set (found.before ++ found.child ∷ found.after) m new) place
      ∙ set_middle found.before found.child found.after new

  run_whole : running_of children ≡ running_of found.before ++ found.child.number ∷ running_of found.after
  run_whole =
      ap running_of found.whole ∙ running_append found.before (found.child ∷ found.after)
      ∙ ap (λ (l : List ℕ). running_of found.before ++ l) (running_cons found.child found.after true found.goes)

  pub running_less : running_of (slice_set children n new) ≡ remove (running_of children) k
  running_less =
      ap running_of set_whole ∙ running_append found.before (new ∷ found.after)
      ∙ ap (λ (l : List ℕ). running_of found.before ++ l) (running_cons new found.after false over)
      ∙ sym (removed_middle (running_of found.before) found.child.number (running_of found.after))
      ∙ ap (λ (l : List ℕ). remove l (length (running_of found.before))) (sym run_whole)
      ∙ ap (λ m. remove (running_of children) m) found.earlier

-- one that ran has all the seats that it has afterwards
pub has_before : (child : Child) (stay : Stay) (seat : ℕ) → runs child.stay ≡ true → is_some (pump_of seat (record child { stay = stay })) ≡ true
    → is_some (pump_of seat child) ≡ true
has_before child stay seat goes has = by_stays child.stay refl goes
  where
    now_at : (s : Stay) → is_some (pump_of seat (record child { stay = s })) ≡ true → is_some (pump_at seat child.seats) ≡ true
    now_at Running h = h
    now_at Holding h = h
    now_at Gone h = absurd (false≢true h)

    by_stays : (s : Stay) → child.stay ≡ s → runs s ≡ true → is_some (pump_of seat child) ≡ true
    by_stays Running is h = ap (λ (x : Stay). is_some (pump_of seat (record child { stay = x }))) is ∙ now_at stay has
    by_stays Holding is h = absurd (false≢true h)
    by_stays Gone is h = absurd (false≢true h)

module _ (children : List Child) (holders : List (Option ℕ)) (running : List ℕ) (noted : ℕ)
    (roster : IsRoster children holders running noted) (k n : ℕ) (child : Child) (stay : Stay)
    (named : slice_get (running_of children) k ≡ Some n) (at : slice_get children n ≡ Some child) (goes : runs child.stay ≡ true)
    (over : runs stay ≡ false) where
  abbrev left : Child
  left = record child { stay = stay }

  pub left_one : IsRoster (slice_set children n left) holders (remove running k) noted
  left_one =
      put_at children holders running noted roster n child left at refl (λ seat has. has_before child stay seat goes has) noted
      (omega arith) (roster.short n child at)
      (let modest = roster.modest n child at in record { out = modest.out; errs = modest.errs; writes = modest.writes })
      (remove running k)
      (ap (λ (l : List ℕ). remove l k) roster.runs
      ∙ sym (running_less children k n child left named at roster.numbered over))

  pub leaves : RosterLeaves k stay children (slice_set children n left)
  leaves =
      let same = roster.numbered n child at in
      record {
        child = child;
        named = named ∙ ap Some (sym same);
        at = ap (slice_get children) same ∙ at;
        now = ap (λ m. slice_set children m left) (sym same);
        running = running_less children k n child left named at roster.numbered over;
      }
