-- A seat has one holder, and only that notes a post on it.
use Rattle.std.proofs.Common.{◌≡◌, ℕ, zero, suc, ◌+◌, ◌≤◌, Bool, true, false, cond, List, [], ◌∷◌, ◌++◌, Option}
use Rattle.std.proofs.Common.{Some, None, map, refl, sym, ap, ◌∙◌, append-nil, subst, arith, inl, inr}
use Rattle.std.specs.Prelude.{is_some, slice_get, slice_set, ◌⊎◌}
use Rattle.std.specs.List.{filter}
use Rattle.std.proofs.lemmas.Bool.{false≢true}
use Rattle.std.proofs.lemmas.List.{length-set}
use Rattle.model_pump.specs.Posts.{Post}
use Rattle.model_hub.specs.declared.child.Child.{Child}
use Rattle.model_hub.specs.declared.pump.Pump.{Pump}
use Rattle.model_hub.specs.Children.{pump_of, pump_at, runs, holds as holds_seats}
use Rattle.model_hub.specs.Closing.{number_of}
use Rattle.model_hub.specs.Posts.{note, note_by, told_of, items_from}
use Rattle.aio_serving.specs.Served.{IsModest}
use Rattle.aio_roster.specs.declared.roster.Holder.{Holder}
use Rattle.aio_roster.specs.Holders.{HeldBy, HoldsSeat, named_in}
use Rattle.aio_roster.specs.Rosters.{IsRoster, IsShort, IsSameChild, IsFree, IsHis, running_of}

unless_some : (o : Option Pump) → (is_some o ≡ true → o ≡ None) → o ≡ None
unless_some None h = refl
unless_some (Some pump) h = h refl

pub none_some : {A : Type 0} (x : A) → None ≡ Some x → ⊥
none_some x h = false≢true (ap is_some h)

pub some_is : {A : Type 0} (x y : A) → Some x ≡ Some y → x ≡ y
some_is {A} x y h = ap (get x) h
  where
    get : A → Option A → A
    get other None = other
    get other (Some z) = z

module _ (children : List Child) (holders : List (Option ℕ)) (running : List ℕ) (noted : ℕ) (roster : IsRoster children holders running noted) (seat : ℕ) where
  -- where the one that is named for a seat doesn't have it, nobody does
  free : ((n : ℕ) (child : Child) → slice_get holders seat ≡ Some (Some n) → slice_get children n ≡ Some child → pump_of seat child ≡ None)
      → IsFree seat children
  free none n child at = unless_some (pump_of seat child) (λ has. none n child (roster.held n seat child at has) at)

  his : (number : ℕ) → slice_get holders seat ≡ Some (Some number) → IsHis seat children number
  his number named n child at other =
      unless_some (pump_of seat child)
      (λ has. absurd (other (some_is n number (some_is (Some n) (Some number) (sym (roster.held n seat child at has) ∙ named)))))

  named_is : (o : Option (Option ℕ)) (number : ℕ) → elim o [ None ↦ None | Some named ↦ named ] ≡ Some number → o ≡ Some (Some number)
  named_is None number h = absurd (none_some number h)
  named_is (Some named) number h = ap Some h

  pub unnamed : named_in holders seat ≡ None → IsFree seat children
  unnamed none = free (λ n child named at. absurd (none_some n (sym none ∙ ap (λ o. elim o [ None ↦ None | Some held ↦ held ]) named)))

  module _ (number : ℕ) (is : named_in holders seat ≡ Some number) where
    named : slice_get holders seat ≡ Some (Some number)
    named = named_is (slice_get holders seat) number is

    pub holds : (room : Bool) (o : Option Holder) → HeldBy seat children number o
        → HoldsSeat seat (record { children = children; noted = noted; room = room }) o
    holds room None none =
        free (λ n child held at.
        let same = some_is n number (some_is (Some n) (Some number) (sym held ∙ named)) in
        none child (ap (slice_get children) (sym same) ∙ at))
    holds room (Some holder) held =
        let at = ap (slice_get children) held.0 ∙ held.1 in
        record {
          at = at;
          has = held.2;
          only = λ n child is_at other. his number named n child is_at (λ same. other (same ∙ sym held.0));
          numbered = roster.numbered holder.number holder.child at;
          short = roster.short holder.number holder.child at;
          modest = roster.modest holder.number holder.child at;
        }

-- ---- what a post on a seat changes and tells
module _ (came : Post) where
  note_none : (child : Child) → pump_of came.seat child ≡ None → note came child ≡ child
  note_none child none = ap (λ from. note_by from came.kind child) none

  pub free_notes : (children : List Child) → IsFree came.seat children → map (note came) children ≡ children
  free_notes [] none = refl
  free_notes (child ∷ children) none =
      ap (λ c. c ∷ map (note came) children) (note_none child (none 0 child refl))
      ∙ ap (λ cs. child ∷ cs) (free_notes children (λ n other at. none (suc n) other at))

  pub free_tells : (children : List Child) → IsFree came.seat children → told_of children came ≡ []
  free_tells [] none = refl
  free_tells (child ∷ children) none =
      ap (λ from. items_from child.number came.kind from ++ told_of children came) (none 0 child refl)
      ∙ free_tells children (λ n other at. none (suc n) other at)

  zero-suc : (n : ℕ) → suc n ≡ zero → ⊥
  zero-suc n h = absurd (omega arith)

  suc-zero : (n : ℕ) → zero ≡ suc n → ⊥
  suc-zero n h = absurd (omega arith)

  same-suc : (n m : ℕ) → suc n ≡ suc m → n ≡ m
  same-suc n m h = omega arith

  behind : (child : Child) (children : List Child) → IsHis came.seat (child ∷ children) zero → IsFree came.seat children
  behind child children only n other at = only (suc n) other at (zero-suc n)

  before : (child : Child) (children : List Child) (number : ℕ) → IsHis came.seat (child ∷ children) (suc number) → pump_of came.seat child ≡ None
  before child children number only = only zero child refl (suc-zero number)

  rest : (child : Child) (children : List Child) (number : ℕ) → IsHis came.seat (child ∷ children) (suc number) → IsHis came.seat children number
  rest child children number only n other at ne = only (suc n) other at (λ same. ne (same-suc n number same))

  pub one_notes : (children : List Child) (number : ℕ) (child new : Child) → slice_get children number ≡ Some child
      → IsHis came.seat children number → note came child ≡ new → map (note came) children ≡ slice_set children number new
  one_notes [] number child new at only is = refl
  one_notes (first ∷ children) zero child new at only is =
      ap (λ c. note came c ∷ map (note came) children) (some_is first child at)
      ∙ ap (λ c. c ∷ map (note came) children) is ∙ ap (λ cs. new ∷ cs) (free_notes children (behind first children only))
  one_notes (first ∷ children) (suc number) child new at only is =
      ap (λ c. c ∷ map (note came) children) (note_none first (before first children number only))
      ∙ ap (λ cs. first ∷ cs) (one_notes children number child new at (rest first children number only) is)

  pub one_tells : (children : List Child) (number : ℕ) (child : Child) → slice_get children number ≡ Some child
      → IsHis came.seat children number → told_of children came ≡ items_from child.number came.kind (pump_of came.seat child)
  one_tells [] number child at only = absurd (none_some child at)
  one_tells (first ∷ children) zero child at only =
      ap (λ (c : Child). items_from c.number came.kind (pump_of came.seat c) ++ told_of children came) (some_is first child at)
      ∙ ap (λ l. items_from child.number came.kind (pump_of came.seat child) ++ l) (free_tells children (behind first children only))
      ∙ append-nil (items_from child.number came.kind (pump_of came.seat child))
  one_tells (first ∷ children) (suc number) child at only =
      ap (λ from. items_from first.number came.kind from ++ told_of children came) (before first children number only)
      ∙ one_tells children number child at (rest first children number only)

-- ---- the roster after a post
pub get_set : {A : Type 0} (xs : List A) (n m : ℕ) (v x : A) → slice_get (slice_set xs n v) m ≡ Some x → ((m ≡ n) × (x ≡ v)) ⊎ (slice_get xs m ≡ Some x)
get_set [] n m v x h = inr h
get_set (y ∷ ys) zero zero v x h = inl (refl, sym (some_is v x h))
get_set (y ∷ ys) zero (suc m) v x h = inr h
get_set (y ∷ ys) (suc n) zero v x h = inr h
get_set (y ∷ ys) (suc n) (suc m) v x h =
    elim (get_set ys n m v x h) [ inl same ↦ inl (ap suc same.0, same.1) | inr old ↦ inr old ]

headed : (b : Bool) (x y : Child) (cs : List Child) → x.number ≡ y.number
    → map number_of (cond b (x ∷ cs) cs) ≡ map number_of (cond b (y ∷ cs) cs)
headed true x y cs h = ap (λ n. n ∷ map number_of cs) h
headed false x y cs h = refl

behind_head : (c : Child) (cs ds : List Child) (b : Bool) → running_of ds ≡ running_of cs
    → map number_of (cond b (c ∷ filter (λ (child : Child). runs child.stay) ds) (filter (λ (child : Child). runs child.stay) ds))
    ≡ map number_of (cond b (c ∷ filter (λ (child : Child). runs child.stay) cs) (filter (λ (child : Child). runs child.stay) cs))
behind_head c cs ds true same = ap (λ l. c.number ∷ l) same
behind_head c cs ds false same = same

-- those that run are the same, where one child is another with the same number and stay
pub running_set : (children : List Child) (n : ℕ) (old new : Child) → slice_get children n ≡ Some old → new.number ≡ old.number
    → new.stay ≡ old.stay → running_of (slice_set children n new) ≡ running_of children
running_set [] n old new at num stay = refl
running_set (c ∷ cs) zero old new at num stay =
    let was = some_is c old at in
    ap (λ s. map number_of (cond (runs s) (new ∷ filter (λ (child : Child). runs child.stay) cs) (filter (λ (child : Child). runs child.stay) cs)))
    (stay ∙ ap (λ (x : Child). x.stay) (sym was))
    ∙ headed (runs c.stay) new c (filter (λ (child : Child). runs child.stay) cs) (num ∙ ap (λ (x : Child). x.number) (sym was))
running_set (c ∷ cs) (suc n) old new at num stay = behind_head c cs (slice_set cs n new) (runs c.stay) (running_set cs n old new at num stay)

pub lent_same : (seat : ℕ) (old new : Child) → IsSameChild old new → pump_of seat new ≡ pump_of seat old
lent_same seat old new same =
    ap (λ stay. cond (holds_seats stay) (pump_at seat new.seats) None) same.stay
    ∙ ap (λ seats. cond (holds_seats old.stay) (pump_at seat seats) None) same.seats

module _ (children : List Child) (holders : List (Option ℕ)) (running : List ℕ) (noted : ℕ) (roster : IsRoster children holders running noted) where
  shorter : (child : Child) → IsShort noted child → IsShort (noted + 1) child
  shorter child short = (omega (arith, short.0), omega (arith, short.1), omega (arith, short.2))

  pub one_more_noted : IsRoster children holders running (noted + 1)
  one_more_noted =
      record {
        sized = roster.sized;
        few = roster.few;
        numbered = roster.numbered;
        held = roster.held;
        short = λ n child at. shorter child (roster.short n child at);
        modest = roster.modest;
        runs = roster.runs;
      }

  -- a child is another, with the same number, that has no seat which it hadn't
  module _ (number : ℕ) (old new : Child) (at : slice_get children number ≡ Some old) (number_same : new.number ≡ old.number)
      (has_old : (seat : ℕ) → is_some (pump_of seat new) ≡ true → is_some (pump_of seat old) ≡ true)
      (more : ℕ) (noted_more : noted ≤ more) (short : IsShort more new) (modest : IsModest new)
      (running_now : List ℕ) (runs_now : running_now ≡ running_of (slice_set children number new)) where
    numbered_now : (n : ℕ) (child : Child) → ((n ≡ number) × (child ≡ new)) ⊎ (slice_get children n ≡ Some child) → child.number ≡ n
    numbered_now n child (inl here) =
        ap (λ (c : Child). c.number) here.1 ∙ number_same ∙ roster.numbered number old at ∙ sym here.0
    numbered_now n child (inr there) = roster.numbered n child there

    held_now : (n seat : ℕ) (child : Child) → is_some (pump_of seat child) ≡ true → ((n ≡ number) × (child ≡ new)) ⊎ (slice_get children n ≡ Some child)
        → slice_get holders seat ≡ Some (Some n)
    held_now n seat child has (inl here) =
        roster.held number seat old at
        (has_old seat (ap (λ (c : Child). is_some (pump_of seat c)) (sym here.1) ∙ has))
        ∙ ap (λ m. Some (Some m)) (sym here.0)
    held_now n seat child has (inr there) = roster.held n seat child there has

    short_now : (n : ℕ) (child : Child) → ((n ≡ number) × (child ≡ new)) ⊎ (slice_get children n ≡ Some child) → IsShort more child
    short_now n child (inl here) = subst (IsShort more) (sym here.1) short
    short_now n child (inr there) =
        let was = roster.short n child there in (omega (arith, was.0), omega (arith, was.1), omega (arith, was.2))

    modest_now : (n : ℕ) (child : Child) → ((n ≡ number) × (child ≡ new)) ⊎ (slice_get children n ≡ Some child) → IsModest child
    modest_now n child (inl here) = subst IsModest (sym here.1) modest
    modest_now n child (inr there) = roster.modest n child there

    pub put_at : IsRoster (slice_set children number new) holders running_now more
    put_at =
        record {
          sized = roster.sized;
          few = omega (arith, length-set children number new, roster.few);
          numbered = λ n child is. numbered_now n child (get_set children number n new child is);
          held = λ n seat child is has. held_now n seat child has (get_set children number n new child is);
          short = λ n child is. short_now n child (get_set children number n new child is);
          modest = λ n child is. modest_now n child (get_set children number n new child is);
          runs = runs_now;
        }

  -- a child is another, with the same number, seats and stay
  module _ (number : ℕ) (old new : Child) (at : slice_get children number ≡ Some old) (same : IsSameChild old new)
      (more : ℕ) (noted_more : noted ≤ more) (short : IsShort more new) (modest : IsModest new) where
    pub changed_at : IsRoster (slice_set children number new) holders running more
    changed_at =
        put_at number old new at same.number (λ seat has. ap is_some (sym (lent_same seat old new same)) ∙ has) more noted_more short modest
        running (roster.runs ∙ sym (running_set children number old new at same.number same.stay))
