-- Keys are drawn: the handles of a request tell it alone, and so many are registered at most as it counts members.
use Rattle.std.proofs.Common.{◌≡◌, ◌<◌, ◌≤◌, ◌+◌, ◌-◌, ◌==◌, inl, inr, ℕ, ℤ, zero, suc, Bool, true, false, List, [], ◌∷◌, ◌++◌, Option, Some, None}
use Rattle.std.proofs.Common.{length, length-append, slice_get, refl, sym, ap, subst, ◌∙◌, arith}
use Rattle.std.specs.List.{AllByRecursion as Each, count_by, sum_by}
use Rattle.std.proofs.lemmas.Bool.{eq-eqb, false≢true, lt-leb, ne_eqb}
use Rattle.std.proofs.lemmas.List.Sums.{sum_by-cons, sum_by_push}
use Rattle.std.proofs.lemmas.Option.{none-some, same_Some, slice_get_past}
use Rattle.model_value.specs.Action.{Action}
use Rattle.model_value.specs.declared.action.Action.TheVariants as action
use Rattle.model_value.specs.Value.{Outcome}
use Rattle.model_loop.proofs.FutureCases.{registered as registered_by, registered_on}
use Rattle.model_loop.specs.Futures.{is_pending, is_pending_at, next_future, register}
use Rattle.model_loop.specs.Loop.{Loop}
use Rattle.model_loop.specs.Parts.{Future, Parts}
use Rattle.model_loop.specs.Totals.{callbacks_at, callbacks_of}
use Rattle.model_machine.specs.Extra.{CallsLater, CallsSoon, Cancels, ExtraStep, MakesMany, MakesPlain, Registers, Releases, Revokes, Settles, Uncancels}
use Rattle.model_machine.specs.Extra.{made_by, made_by_all}
use Rattle.model_reach.specs.Part.{key_at}
use Rattle.model_gather.specs.Gathered.{Drawn, Gathered, Gathers, Tells, Waits, drawn_after, futures_of, gather_part, registered_from, settled_as}
use Rattle.model_gather.specs.Wait.{rings_after}
use Rattle.law_cancel.proofs.Lookups.{get-set_same}
use Rattle.law_waiters.proofs.Drawing.{append_new, append_old}
use Rattle.law_waiters.specs.Timed.{is_key}
use Rattle.law_members.proofs.Coming.{one_of}
use Rattle.law_members.proofs.Counted.{Counted, Counts, IsIn, drawn_counted, from_at_key, is_from, is_told, same_counted, tells_at_key, tells_of}
use Rattle.law_members.proofs.Counted.{the_key}
use Rattle.law_members.proofs.Onward.{makes, step_stays, steps_stay}

-- ---- what is kept, as it counts and is told
abbrev pub counts_in : Option Drawn → Option Counts
counts_in (Some (Gathers it)) = Some (record { own = it.outer; members = it.awaited; left = it.left })
counts_in (Some (Waits it)) = Some (record { own = it.on; members = futures_of it.arguments; left = it.left })
counts_in _ = None

abbrev pub tells_in : Option Drawn → Option (ℕ × ℕ)
tells_in (Some (Tells place future)) = Some (place, future)
tells_in _ = None

abbrev pub counts_at : Gathered → ℕ → Option Counts
counts_at kept place = counts_in (slice_get kept.drawn place)

abbrev pub tells_at : Gathered → ℕ → Option (ℕ × ℕ)
tells_at kept place = tells_in (slice_get kept.drawn place)

abbrev pub KeepsCounted : Gathered → Parts → Type 0
KeepsCounted kept p = Counted (counts_at kept) (tells_at kept) (length kept.drawn) p

-- ---- steps whose handles have keys at places from `low` up to `high`
abbrev pub KeyWithin : (low high key : ℕ) → Type 0
KeyWithin low high key = (j : ℕ) × ((key ≡ the_key j) × ((low ≤ j) × (j < high)))

abbrev pub IsWithin : (low high : ℕ) → ExtraStep → Type 0
IsWithin low high (Registers future key) = KeyWithin low high key
IsWithin low high (CallsSoon key) = KeyWithin low high key
IsWithin low high (CallsLater when key) = KeyWithin low high key
IsWithin low high _ = Unit {0}

none_at : (test : Action → Bool) (low high : ℕ) → ((j : ℕ) → low ≤ j → j < high → test (action.Extra (the_key j)) ≡ false) → (key : ℕ)
    → KeyWithin low high key → ◌≡◌ {A = ℕ} (one_of (test (action.Extra key))) 0
none_at test low high none key is =
    ap (λ n. one_of (test (action.Extra n))) is.1.0 ∙ ap one_of (none is.0 is.1.1.0 is.1.1.1)

makes_none : (test : Action → Bool) (low high : ℕ) → ((j : ℕ) → low ≤ j → j < high → test (action.Extra (the_key j)) ≡ false) → (step : ExtraStep)
    → IsWithin low high step → makes test step ≡ 0
makes_none test low high none (Registers future key) is = none_at test low high none key is
makes_none test low high none (CallsSoon key) is = none_at test low high none key is
makes_none test low high none (CallsLater when key) is = none_at test low high none key is
makes_none test low high none MakesPlain is = refl
makes_none test low high none (MakesMany members) is = refl
makes_none test low high none (Settles future outcome) is = refl
makes_none test low high none (Releases future) is = refl
makes_none test low high none (Revokes tag) is = refl
makes_none test low high none (Cancels key future) is = refl
makes_none test low high none (Uncancels key task) is = refl

within_none : (test : Action → Bool) (low high : ℕ) → ((j : ℕ) → low ≤ j → j < high → test (action.Extra (the_key j)) ≡ false)
    → (steps : List ExtraStep) → Each (IsWithin low high) steps → sum_by (makes test) steps ≡ 0
within_none test low high none [] is = refl
within_none test low high none (step ∷ steps) is =
    let a = makes_none test low high none step is.0 in
    let b = within_none test low high none steps is.1 in
    let c = sum_by-cons (makes test) step steps in
    omega (arith, a, b, c)

pub registered_within : (low high place : ℕ) (ids : List ℕ) → low ≤ place → place + length ids ≤ high
    → Each (IsWithin low high) (registered_from gather_part place ids)
registered_within low high place [] a b = tt
registered_within low high place (id ∷ ids) a b = (
  (place, (refl, (a, omega (arith, b)))),
  registered_within low high (suc place) ids (omega (arith, a)) (omega (arith, b)),
)

pub settled_within : (low high : ℕ) (o : Option Outcome) (id : ℕ) → Each (IsWithin low high) (settled_as o id)
settled_within low high None id = tt
settled_within low high (Some outcome) id = (tt, tt)

pub rings_within : (low high j : ℕ) (delay : Option ℤ) (p : Parts) → low ≤ j → j < high → Each (IsWithin low high) (rings_after delay (the_key j) p)
rings_within low high j None p a b = tt
rings_within low high j (Some delay) p a b = ((j, (refl, (a, b))), tt)

-- each makes one handle at most
one_at_most : (b : Bool) → one_of b ≤ 1
one_at_most true = omega arith
one_at_most false = omega arith

pub registered_most : (test : Action → Bool) (place : ℕ) (ids : List ℕ) → sum_by (makes test) (registered_from gather_part place ids) ≤ length ids
registered_most test place [] = omega arith
registered_most test place (id ∷ ids) =
    let a = sum_by-cons (makes test) (Registers id (key_at gather_part place)) (registered_from gather_part (suc place) ids) in
    let b = one_at_most (test (action.Extra (key_at gather_part place))) in
    let c = registered_most test (suc place) ids in
    omega (arith, a, b, c)

pub settled_makes : (test : Action → Bool) (o : Option Outcome) (id : ℕ) → sum_by (makes test) (settled_as o id) ≡ 0
settled_makes test None id = refl
settled_makes test (Some outcome) id = refl

-- ---- a handle that is registered on what is pending is there
register_there : (id key : ℕ) (p : Parts) → is_pending (register id (action.Extra key) p) id ≡ true
    → 0 < count_by (is_key key) (callbacks_of (register id (action.Extra key) p) id)
register_there id key p = at (slice_get p.futures id) refl
  where
    it : Action
    it = action.Extra key

    until : (future : Future) (o : Option Outcome) → future.outcome ≡ o → slice_get p.futures id ≡ Some future
        → is_pending (registered_on o id future (action.Extra key) p) id ≡ true
        → 0 < count_by (is_key key) (callbacks_of (registered_on o id future (action.Extra key) p) id)
    until future (Some done) is found pending =
        absurd (false≢true (sym (ap is_pending_at found ∙ ap (λ o. is_pending_at (Some (record future { outcome = o }))) is) ∙ pending))
    until future None is found pending =
        let new = record future { callbacks = future.callbacks ++ it ∷ [] } in
        let a = ap (λ o. count_by (is_key key) (callbacks_at o)) (get-set_same p.futures id future new found) in
        let b = sum_by_push (λ (it : Action). one_of (is_key key it)) future.callbacks it in
        let c : ◌≡◌ {A = ℕ} (one_of (key == key)) 1 = ap one_of (eq-eqb key key refl) in
        omega (arith, a, b, c)

    at : (f : Option Future) → slice_get p.futures id ≡ f → is_pending (registered_by f id (action.Extra key) p) id ≡ true
        → 0 < count_by (is_key key) (callbacks_of (registered_by f id (action.Extra key) p) id)
    at None found pending = absurd (false≢true (sym (ap is_pending_at found) ∙ pending))
    at (Some future) found pending = until future future.outcome refl found pending

-- the handle of a future at its place in a list
abbrev pub IsOn : (place : ℕ) (ids : List ℕ) (m : ℕ) → Parts → Type 0
IsOn place ids m p = (i : ℕ) × ((slice_get ids i ≡ Some m) × (0 < count_by (is_key (the_key (place + i))) (callbacks_of p m)))

-- whichever place that is
pub registered_at_place : (more : List ExtraStep) (place : ℕ) (ids : List ℕ) (l : Loop) (i m : ℕ) → slice_get ids i ≡ Some m
    → m < next_future l.parts → is_pending (made_by_all (registered_from gather_part place ids ++ more) l).parts m ≡ true
    → 0 < count_by (is_key (the_key (place + i))) (callbacks_of (made_by_all (registered_from gather_part place ids ++ more) l).parts m)
registered_at_place more place [] l i m e low pending = absurd (none-some m e)
registered_at_place more place (id ∷ ids) l zero m e low pending =
    let step = Registers id (key_at gather_part place) in
    let rest = registered_from gather_part (suc place) ids ++ more in
    let first = made_by step l in
    let made = (step_stays step l).made in
    let same = same_Some id m e in
    let was = (steps_stay rest first).pending m (omega (arith, low, made)) pending in
    let on = register_there id (the_key place) l.parts (ap (is_pending first.parts) same ∙ was.0) in
    let a = was.1 (is_key (the_key place)) in
    let b = ap (λ n. count_by (is_key (the_key place)) (callbacks_of first.parts n)) same in
    let z : place ≡ place + 0 = omega arith in
    subst (λ n. 0 < count_by (is_key (the_key n)) (callbacks_of (made_by_all rest first).parts m)) z (omega (arith, on, a, b))
registered_at_place more place (id ∷ ids) l (suc i) m e low pending =
    let step = Registers id (key_at gather_part place) in
    let first = made_by step l in
    let made = (step_stays step l).made in
    let it = registered_at_place more (suc place) ids first i m e (omega (arith, low, made)) pending in
    let z : suc place + i ≡ place + suc i = omega arith in
    subst (λ n. 0 < count_by (is_key (the_key n))
    (callbacks_of (made_by_all (registered_from gather_part (suc place) ids ++ more) first).parts m)) z it

pub place_of_in : (m : ℕ) (ids : List ℕ) → IsIn m ids → (i : ℕ) × (slice_get ids i ≡ Some m)
place_of_in m [] h = absurd h
place_of_in m (id ∷ ids) (inl e) = (0, ap Some e)
place_of_in m (id ∷ ids) (inr h) = let it = place_of_in m ids h in (suc it.0, it.1)

pub registered_on_each : (more : List ExtraStep) (place : ℕ) (ids : List ℕ) (l : Loop) (m : ℕ) → IsIn m ids → m < next_future l.parts
    → is_pending (made_by_all (registered_from gather_part place ids ++ more) l).parts m ≡ true
    → IsOn place ids m (made_by_all (registered_from gather_part place ids ++ more) l).parts
registered_on_each more place ids l m among low pending =
    let at = place_of_in m ids among in
    (at.0, (at.1, registered_at_place more place ids l at.0 m at.1 low pending))

-- ---- entries for keys that are drawn together, and the steps that make their handles
pub record MoreFit (n : ℕ) (more : List Drawn) (steps : List ExtraStep) (l : Loop) : Type 0 where
  pub counts : (i : ℕ) (it : Counts) → counts_in (slice_get more i) ≡ Some it → i ≡ 0
  pub tells : (i k m : ℕ) → tells_in (slice_get more i) ≡ Some (k, m) → (k ≡ n) × (0 < i)
  pub within : Each (IsWithin n (n + length more)) steps
  pub own : (it : Counts) → counts_in (slice_get more 0) ≡ Some it → it.own < next_future (made_by_all steps l).parts
  pub left : (it : Counts) → counts_in (slice_get more 0) ≡ Some it → (test : Action → Bool)
      → ((i : ℕ) → test (action.Extra (the_key (n + i))) ≡ is_told n (tells_in (slice_get more i))) → sum_by (makes test) steps ≤ it.left
  pub there : (it : Counts) → counts_in (slice_get more 0) ≡ Some it → (m : ℕ) → IsIn m it.members → m < it.own
      → is_pending (made_by_all steps l).parts m ≡ true
      → (i : ℕ) × ((tells_in (slice_get more i) ≡ Some (n, m))
      × (0 < count_by (is_key (the_key (n + i))) (callbacks_of (made_by_all steps l).parts m)))

module _ (kept : Gathered) (l : Loop) (c : KeepsCounted kept l.parts) where
  abbrev n : ℕ
  n = length kept.drawn

  pub more_counted : (more : List Drawn) (steps : List ExtraStep) → MoreFit n more steps l
      → KeepsCounted (drawn_after more kept) (made_by_all steps l).parts
  more_counted more steps fit =
      same_counted
      (drawn_counted c (counts_at (drawn_after more kept)) (tells_at (drawn_after more kept)) (length more) steps l refl old past begins tells_new none_past
      none_old own left there)
      (counts_at (drawn_after more kept)) (tells_at (drawn_after more kept)) (length (kept.drawn ++ more)) (λ k. refl) (λ k. refl)
      (length-append kept.drawn more)
    where
      new : (k : ℕ) → n ≤ k → slice_get (kept.drawn ++ more) k ≡ slice_get more (k - n)
      new k h = append_new kept.drawn more k h

      at : (i : ℕ) → slice_get (kept.drawn ++ more) (n + i) ≡ slice_get more i
      at i = let e : n + i - n ≡ i = omega arith in new (n + i) (omega arith) ∙ ap (slice_get more) e

      first : slice_get (kept.drawn ++ more) n ≡ slice_get more 0
      first = let e : n - n ≡ 0 = omega arith in new n (omega arith) ∙ ap (slice_get more) e

      old : (k : ℕ) → k < n → (counts_at (drawn_after more kept) k ≡ counts_at kept k) × (tells_at (drawn_after more kept) k ≡ tells_at kept k)
      old k h = let e = append_old kept.drawn more k h in (ap counts_in e, ap tells_in e)

      past : (k : ℕ) → n + length more ≤ k → (counts_at (drawn_after more kept) k ≡ None) × (tells_at (drawn_after more kept) k ≡ None)
      past k h =
          let e = length-append kept.drawn more in
          let z = slice_get_past (kept.drawn ++ more) k (omega (arith, h, e)) in
          (ap counts_in z, ap tells_in z)

      begins : (k : ℕ) (it : Counts) → n ≤ k → counts_at (drawn_after more kept) k ≡ Some it → k ≡ n
      begins k it h e = let z = fit.counts (k - n) it (sym (ap counts_in (new k h)) ∙ e) in omega (arith, z, h)

      tells_new : (j k m : ℕ) → n ≤ j → tells_at (drawn_after more kept) j ≡ Some (k, m) → (k ≡ n) × (n < j)
      tells_new j k m h e =
          let z = fit.tells (j - n) k m (sym (ap tells_in (new j h)) ∙ e) in
          (z.0, let a = z.1 in omega (arith, a, h))

      none_past : sum_by (makes (is_from (n + length more))) steps ≡ 0
      none_past =
          within_none (is_from (n + length more)) n (n + length more)
          (λ j low high. from_at_key (n + length more) j ∙ lt-leb (n + length more) j high) steps fit.within

      none_old : (k : ℕ) → k < n → sum_by (makes (tells_of (tells_at (drawn_after more kept)) k)) steps ≡ 0
      none_old k h =
          within_none (tells_of (tells_at (drawn_after more kept)) k) n (n + length more)
          (λ j low high. tells_at_key (tells_at (drawn_after more kept)) k j ∙ untold j low (tells_at (drawn_after more kept) j) refl) steps fit.within
        where
          untold : (j : ℕ) → n ≤ j → (o : Option (ℕ × ℕ)) → tells_at (drawn_after more kept) j ≡ o → is_told k o ≡ false
          untold j low None e = refl
          untold j low (Some it) e =
              let z = (tells_new j it.0 it.1 low e).0 in
              ne_eqb it.0 k (λ same. absurd (omega (arith, z, same, h)))

      own : (it : Counts) → counts_at (drawn_after more kept) n ≡ Some it → it.own < next_future (made_by_all steps l).parts
      own it e = fit.own it (sym (ap counts_in first) ∙ e)

      left : (it : Counts) → counts_at (drawn_after more kept) n ≡ Some it → sum_by (makes (tells_of (tells_at (drawn_after more kept)) n)) steps ≤ it.left
      left it e =
          fit.left it (sym (ap counts_in first) ∙ e) (tells_of (tells_at (drawn_after more kept)) n)
          (λ i. tells_at_key (tells_at (drawn_after more kept)) n (n + i) ∙ ap (λ o. is_told n (tells_in o)) (at i))

      there : (it : Counts) → counts_at (drawn_after more kept) n ≡ Some it → (m : ℕ) → IsIn m it.members → m < it.own
          → is_pending (made_by_all steps l).parts m ≡ true
          → (j : ℕ) × ((tells_at (drawn_after more kept) j ≡ Some (n, m))
          × (0 < count_by (is_key (the_key j)) (callbacks_of (made_by_all steps l).parts m)))
      there it e m among before pending =
          let z = fit.there it (sym (ap counts_in first) ∙ e) m among before pending in
          (n + z.0, (ap tells_in (at z.0) ∙ z.1.0, z.1.1))
