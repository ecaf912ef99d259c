-- The seats of all launches are nobody's as a hub is made, and no two fours share one.
use Rattle.std.proofs.Common.{◌≡◌, ℕ, zero, suc, ◌+◌, ◌*◌, ◌≤◌, ◌<◌, ◌==◌, Bool, true, false, cond, List, [], ◌∷◌, ◌++◌, Option, Some, None}
use Rattle.std.proofs.Common.{refl, sym, ap, ◌∙◌, subst, arith}
use Rattle.std.specs.Prelude.{is_some}
use Rattle.std.specs.List.{AllByRecursion as Each}
use Rattle.std.proofs.lemmas.Bool.{false≢true, eqb-true}
use Rattle.model_wire.specs.Call.{Item}
use Rattle.model_pump.specs.Posts.{Post}
use Rattle.model_hub.specs.declared.child.Child.{Child}
use Rattle.model_hub.specs.declared.child.Seats.{Seats}
use Rattle.model_hub.specs.declared.pump.Pump.{Pump}
use Rattle.model_hub.specs.declared.pump.Pump.TheVariants as pump
use Rattle.model_hub.specs.Children.{pump_at}
use Rattle.model_hub.specs.Hub.{Hub, seats_for}
use Rattle.aio_lanes.specs.declared.child_lanes.ChildLanes.{ChildLanes}
use Rattle.aio_lanes.specs.Given.{seen_of}
use Rattle.aio_roster.specs.Changes.{MayBeLent, AreApart}
use Rattle.aio_intake.specs.Homes.{Apart}
use Rattle.aio_live.specs.States.{IsState}

none_if : (o : Option Pump) → (is_some o ≡ true → ⊥) → o ≡ None
none_if None h = refl
none_if (Some pump) h = absurd (h refl)

-- ---- the seats of one launch
abbrev seats_at : ℕ → Seats
seats_at n = record { stdin = 4 * n; out = 4 * n + 1; errs = 4 * n + 2; exit = 4 * n + 3 }

abbrev IsOf : ℕ → ℕ → Type 0
IsOf n seat = (4 * n ≤ seat) × (seat ≤ 4 * n + 3)

by_tests : (n seat : ℕ) (a b c d : Bool) → (seat == 4 * n) ≡ a → (seat == 4 * n + 1) ≡ b → (seat == 4 * n + 2) ≡ c
    → (seat == 4 * n + 3) ≡ d
    → is_some (cond a (Some pump.Stdin) (cond b (Some pump.Out) (cond c (Some pump.Errs) (cond d (Some pump.Exit) None)))) ≡ true
    → IsOf n seat
by_tests n seat true b c d ha hb hc hd h =
    let is = eqb-true seat (4 * n) ha in (omega arith, omega arith)
by_tests n seat false true c d ha hb hc hd h =
    let is = eqb-true seat (4 * n + 1) hb in (omega arith, omega arith)
by_tests n seat false false true d ha hb hc hd h =
    let is = eqb-true seat (4 * n + 2) hc in (omega arith, omega arith)
by_tests n seat false false false true ha hb hc hd h =
    let is = eqb-true seat (4 * n + 3) hd in (omega arith, omega arith)
by_tests n seat false false false false ha hb hc hd h = absurd (false≢true h)

is_of : (n seat : ℕ) → is_some (pump_at seat (seats_at n)) ≡ true → IsOf n seat
is_of n seat has =
    by_tests n seat (seat == 4 * n) (seat == 4 * n + 1) (seat == 4 * n + 2) (seat == 4 * n + 3) refl refl refl refl has

apart_four : (n m : ℕ) → (n < m → ⊥) → (n ≡ m → ⊥) → AreApart (seats_at n) (seats_at m)
apart_four n m less same seat has = none_if (pump_at seat (seats_at m)) (λ had. both (is_of n seat has) (is_of m seat had))
  where
    both : IsOf n seat → IsOf m seat → ⊥
    both here there = omega (arith, here.0, here.1, there.0, there.1, less, same)

-- ---- lists with one more
each_snoc : (P : Seats → Type 0) (xs : List Seats) (x : Seats) → Each P xs → P x → Each P (xs ++ x ∷ [])
each_snoc P [] x all last = (last, tt)
each_snoc P (y ∷ ys) x all last = (all.0, each_snoc P ys x all.1 last)

apart_snoc : (xs : List Seats) (x : Seats) → Apart xs → Each (λ (first : Seats). AreApart x first) xs → Apart (xs ++ x ∷ [])
apart_snoc [] x apart each = (tt, tt)
apart_snoc (y ∷ ys) x apart each =
    (each_snoc (λ (other : Seats). AreApart other y) ys x apart.0 each.0, apart_snoc ys x apart.1 each.1)

-- ---- the seats of all launches
apart_from : (n m : ℕ) → m ≤ n → Each (λ (first : Seats). AreApart (seats_at n) first) (seats_for m)
apart_from n zero le = tt
apart_from n (suc m) le =
    each_snoc (λ (first : Seats). AreApart (seats_at n) first) (seats_for m) (seats_at m) (apart_from n m (omega arith))
    (apart_four n m (λ less. omega (arith, le, less)) (λ same. omega (arith, le, same)))

all_apart : (n : ℕ) → Apart (seats_for n)
all_apart zero = tt
all_apart (suc n) = apart_snoc (seats_for n) (seats_at n) (all_apart n) (apart_from n n (omega arith))

all_lent : (n : ℕ) → 4 * n ≤ 1024 → Each (MayBeLent []) (seats_for n)
all_lent zero le = tt
all_lent (suc n) le =
    each_snoc (MayBeLent []) (seats_for n) (seats_at n) (all_lent n (omega arith))
    (record {
      within = (omega arith, omega arith, omega arith, omega arith);
      stdin = λ m child at. absurd (cc);
      out = λ m child at. absurd (cc);
      errs = λ m child at. absurd (cc);
      exit = λ m child at. absurd (cc);
    })

is_state : (Run : Type 0) (n : ℕ) → 4 * n ≤ 1024 → IsState [] (seats_for n) (seen_of {Run = Run} [])
is_state Run n le =
    record {
      lanes = λ k m named. absurd (cc);
      few = λ m at. omega arith;
      lent = all_lent n le;
      apart = all_apart n;
    }

pub new_state : {Run : Type 0} (children : List Child) (free : List Seats) (lanes : List (Option (ChildLanes Run))) (n : ℕ) → n ≡ 256
    → children ≡ [] → free ≡ seats_for n → lanes ≡ [] → IsState children free (seen_of lanes)
new_state {Run} children free lanes n is none all no_lanes =
    subst (λ (cs : List Child). IsState cs free (seen_of lanes)) (sym none)
    (subst (λ (fs : List Seats). IsState [] fs (seen_of lanes)) (sym all)
    (subst (λ (ls : List (Option (ChildLanes Run))). IsState [] (seats_for n) (seen_of ls)) (sym no_lanes) (is_state Run n (omega arith))))

abbrev hub_of : List Child → List Item → List Seats → List Post → Hub
hub_of children kept free taken = record { children = children; kept = kept; free = free; taken = taken; starved = false }

pub hub_is : (children : List Child) (kept : List Item) (free all : List Seats) (taken : List Post) → children ≡ [] → kept ≡ [] → free ≡ all
    → taken ≡ [] → hub_of children kept free taken ≡ hub_of [] [] all []
hub_is children kept free all taken none no_items is no_posts =
    ap (λ (cs : List Child). hub_of cs kept free taken) none ∙ ap (λ (is : List Item). hub_of [] is free taken) no_items
    ∙ ap (λ (fs : List Seats). hub_of [] [] fs taken) is ∙ ap (λ (ps : List Post). hub_of [] [] all ps) no_posts
