-- Names of tags, where one tag more is given.
use Rattle.std.proofs.Common.{◌≡◌, ℕ, ◌+◌, ◌<◌, ◌≤◌, ◌⊎◌, ◌==◌, Bool, true, false, cond, List, [], ◌∷◌, map, refl, ap, sym, ◌∙◌, inl, inr, arith}
use Rattle.std.specs.Prelude.{nat_eq, nat_lt}
use Rattle.std.specs.List.{AllByRecursion as Each}
use Rattle.std.proofs.lemmas.Bool.{cases_eq, eq-eqb, ne_eqb, eqb-true, lt-ltb}
use Rattle.model_loop.specs.Parts.{Handle, Timer, Parts}
use Rattle.model_loop.specs.Handles.{placed, by_deadline}
use Rattle.model_loop.specs.Numbered.{IsNumbered}
use Rattle.law_changes.proofs.Numbering.{tagged, tag_of, timer_tag}
use Rattle.aio_ready.specs.declared.handle.HandleName.{HandleName}
use Rattle.aio_ready.specs.declared.handle.HandleName.TheVariants.{Nameless, Given, Timer as OfTimer}
use Rattle.aio_ready.specs.Names.{is_same}
use Rattle.aio_ready.specs.Queue.{Queue, next_name, given_after, most_given}
use Rattle.aio_task.specs.Keeps.{Known, name_of, number_of, handle_as, timer_as, WasGiven, AreNames}
use Rattle.refine_parts.proofs.Lists.{all_below, all_more, map_same}

-- ---- tags are below the next one
pub tags_pending : (p : Parts) → IsNumbered p → Each (λ (h : Handle). h.tag < p.next_tag) p.pending
tags_pending p is =
    all_below tag_of p.next_tag p.pending
    (λ k h. let a = is.tags.below k h in let b = tagged k p in omega (arith, a, b))

pub tags_timers : (p : Parts) → IsNumbered p → Each (λ (timer : Timer). timer.tag < p.next_tag) p.timers
tags_timers p is =
    all_below timer_tag p.next_tag p.timers
    (λ k h. let a = is.tags.below k h in let b = tagged k p in omega (arith, a, b))

pub all-placed : (P : Timer → Type 0) (timer : Timer) (timers : List Timer) → P timer → Each P timers → Each P (placed timer timers)
all-placed P timer [] h a = (h, tt)
all-placed P timer (other ∷ others) h a = go (nat_lt other.when timer.when) (all-placed P timer others h a.1)
  where
    go : (b : Bool) → Each P (placed timer others) → Each P (cond b (other ∷ placed timer others) (timer ∷ other ∷ others))
    go true more = (a.0, more)
    go false more = (h, a)

pub all-by_deadline : (P : Timer → Type 0) (timers : List Timer) → Each P timers → Each P (by_deadline timers)
all-by_deadline P [] a = tt
all-by_deadline P (timer ∷ timers) a = all-placed P timer (by_deadline timers) a.0 (all-by_deadline P timers a.1)

-- ---- where names agree below the next tag
module _ (known later : ℕ → Known) (next : ℕ) (same : (tag : ℕ) → tag < next → later tag ≡ known tag) where
  pub handles_same : (handles : List Handle) → Each (λ (h : Handle). h.tag < next) handles
      → map (handle_as later) handles ≡ map (handle_as known) handles
  handles_same handles below =
      map_same (handle_as later) (handle_as known) handles
      (all_more (λ (h : Handle). h.tag < next) (λ (h : Handle). handle_as later h ≡ handle_as known h)
      (λ h b. ap (λ (k : Known). record { name = name_of k; action = h.action; dead = h.dead }) (same h.tag b)) handles below)

  pub timers_same : (timers : List Timer) → Each (λ (timer : Timer). timer.tag < next) timers
      → map (timer_as later) timers ≡ map (timer_as known) timers
  timers_same timers below =
      map_same (timer_as later) (timer_as known) timers
      (all_more (λ (timer : Timer). timer.tag < next) (λ (timer : Timer). timer_as later timer ≡ timer_as known timer)
      (λ timer b. ap (λ (k : Known). record { when = timer.when; tag = number_of k; action = timer.action }) (same timer.tag b)) timers below)

-- ---- one tag more
abbrev pub known_as : ℕ → Known → (ℕ → Known) → ℕ → Known
known_as next new known tag = cond (nat_eq tag next) new (known tag)

pub known_new : (next : ℕ) (new : Known) (known : ℕ → Known) → known_as next new known next ≡ new
known_new next new known = rw (eq-eqb next next refl) refl

pub known_same : (next : ℕ) (new : Known) (known : ℕ → Known) (tag : ℕ) → tag < next → known_as next new known tag ≡ known tag
known_same next new known tag h = rw (ne_eqb tag next (omega arith)) refl

pub given_more : (name : HandleName) (handles timers handles' timers' : ℕ) → handles ≤ handles' → timers ≤ timers'
    → WasGiven handles timers name → WasGiven handles' timers' name
given_more Nameless handles timers handles' timers' h t given = tt
given_more (Given number) handles timers handles' timers' h t given = omega arith
given_more (OfTimer number) handles timers handles' timers' h t given = omega arith

eqb_sym : (a b : ℕ) → (a == b) ≡ true → (b == a) ≡ true
eqb_sym a b h = let e : a ≡ b = eqb-true a b h in eq-eqb b a (sym e)

pub same_sym : (a b : HandleName) → is_same a b ≡ true → is_same b a ≡ true
same_sym (Given a) (Given b) h = eqb_sym a b h
same_sym (OfTimer a) (OfTimer b) h = eqb_sym a b h
same_sym Nameless Nameless h = absurd (cc)
same_sym Nameless (Given b) h = absurd (cc)
same_sym Nameless (OfTimer b) h = absurd (cc)
same_sym (Given a) Nameless h = absurd (cc)
same_sym (Given a) (OfTimer b) h = absurd (cc)
same_sym (OfTimer a) Nameless h = absurd (cc)
same_sym (OfTimer a) (Given b) h = absurd (cc)

-- a name that was given is none that comes next
abbrev pub IsFresh : HandleName → (handles timers : ℕ) → Type 0
IsFresh name handles timers = (other : HandleName) → WasGiven handles timers other → is_same name other ≡ true → ⊥

pub names_more : (known : ℕ → Known) (next handles timers handles' timers' : ℕ) (new : Known) → AreNames known next handles timers
    → handles ≤ handles' → timers ≤ timers' → WasGiven handles' timers' (name_of new) → IsFresh (name_of new) handles timers
    → AreNames (known_as next new known) (next + 1) handles' timers'
names_more known next handles timers handles' timers' new is h t given fresh = record {
  given = λ tag below. given_at tag below (cases_eq tag next);
  own = λ tag other a b same. own_at tag other a b (cases_eq tag next) (cases_eq other next) same;
}
  where
    given_at : (tag : ℕ) → tag < next + 1 → (tag ≡ next) ⊎ (tag ≡ next → ⊥)
        → WasGiven handles' timers' (name_of (known_as next new known tag))
    given_at tag below (inl e) = rw (eq-eqb tag next e) given
    given_at tag below (inr n) =
        rw (ne_eqb tag next n)
        (given_more (name_of (known tag)) handles timers handles' timers' h t (is.given tag (omega arith)))

    own_at : (tag other : ℕ) → tag < next + 1 → other < next + 1 → (tag ≡ next) ⊎ (tag ≡ next → ⊥)
        → (other ≡ next) ⊎ (other ≡ next → ⊥)
        → is_same (name_of (known_as next new known tag)) (name_of (known_as next new known other)) ≡ true → tag ≡ other
    own_at tag other a b (inl e) (inl f) same = e ∙ sym f
    own_at tag other a b (inl e) (inr n) same =
        let s = rw (eq-eqb tag next e, ne_eqb other next n) at same in
        absurd (fresh (name_of (known other)) (is.given other (omega arith)) s)
    own_at tag other a b (inr n) (inl f) same =
        let s = rw (ne_eqb tag next n, eq-eqb other next f) at same in
        absurd (fresh (name_of (known tag)) (is.given tag (omega arith)) (same_sym (name_of (known tag)) (name_of new) s))
    own_at tag other a b (inr n) (inr m) same =
        let s = rw (ne_eqb tag next n, ne_eqb other next m) at same in
        is.own tag other (omega arith) (omega arith) s

-- the name of the next handle
pub next_given : (q : Queue) (timers : ℕ) → WasGiven (given_after q) timers (next_name q)
next_given q timers = go (nat_lt q.given most_given)
  where
    go : (b : Bool) → WasGiven (cond b (q.given + 1) q.given) timers (cond b (Given q.given) Nameless)
    go true = omega arith
    go false = tt

pub given_rises : (q : Queue) → q.given ≤ given_after q
given_rises q = go (nat_lt q.given most_given)
  where
    go : (b : Bool) → q.given ≤ cond b (q.given + 1) q.given
    go true = omega arith
    go false = omega arith

pub next_fresh : (q : Queue) (timers : ℕ) → IsFresh (next_name q) q.given timers
next_fresh q timers = go (nat_lt q.given most_given)
  where
    given : (other : HandleName) → WasGiven q.given timers other → is_same (Given q.given) other ≡ true → ⊥
    given Nameless w h = absurd (cc)
    given (Given number) w h = let e : q.given ≡ number = eqb-true q.given number h in omega arith
    given (OfTimer number) w h = absurd (cc)

    none : (other : HandleName) → WasGiven q.given timers other → is_same Nameless other ≡ true → ⊥
    none Nameless w h = absurd (cc)
    none (Given number) w h = absurd (cc)
    none (OfTimer number) w h = absurd (cc)

    go : (b : Bool) → IsFresh (cond b (Given q.given) Nameless) q.given timers
    go true = given
    go false = none

-- where a number is left it names a handle
pub next_named : (q : Queue) → q.given < most_given → is_same (next_name q) (next_name q) ≡ true
next_named q h = rw (lt-ltb q.given most_given h) (eq-eqb q.given q.given refl)

pub timer_fresh : (number handles timers : ℕ) → timers ≤ number → IsFresh (OfTimer number) handles timers
timer_fresh number handles timers h Nameless w s = absurd (cc)
timer_fresh number handles timers h (Given other) w s = absurd (cc)
timer_fresh number handles timers h (OfTimer other) w s = let e : number ≡ other = eqb-true number other s in omega arith
