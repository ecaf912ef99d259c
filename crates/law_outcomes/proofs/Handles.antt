-- Of each key there is one handle at most, and steps settle the future of their own request alone.
use Rattle.std.proofs.Common.{◌≡◌, ◌<◌, ◌≤◌, ◌+◌, ◌-◌, ◌==◌, ◌⊎◌, inl, inr, ℕ, ℤ, zero, suc, Bool, true, false, List, [], ◌∷◌, ◌++◌, Option, Some, None}
use Rattle.std.proofs.Common.{length, slice_get, refl, sym, ap, ◌∙◌, arith}
use Rattle.std.specs.Prelude.{◌%◌}
use Rattle.std.specs.List.{AllByRecursion as Each, sum_by}
use Rattle.std.proofs.lemmas.Bool.{cases_eq, eq-eqb, false≢true, ne_eqb}
use Rattle.std.proofs.lemmas.List.Sums.{sum_by-append, sum_by-cons}
use Rattle.std.proofs.lemmas.Option.{none-some}
use Rattle.model_value.specs.Action.{Action}
use Rattle.model_value.specs.declared.action.Action.TheVariants as action
use Rattle.model_value.specs.Value.{Outcome}
use Rattle.model_loop.proofs.FutureCases.{registered, registered_on, settled, settled_as as settled_by}
use Rattle.model_loop.specs.Futures.{future_outcome, next_future, outcome_at, register, settle, with_future}
use Rattle.model_loop.specs.Loop.{Loop}
use Rattle.model_loop.specs.Parts.{Future, Many, Parts, Plain, Task}
use Rattle.model_machine.specs.Extra.{CallsLater, CallsSoon, Cancels, ExtraStep, MakesMany, MakesPlain, Registers, Releases, Revokes, Settles, Uncancels}
use Rattle.model_machine.specs.Extra.{made_by, made_by_all}
use Rattle.model_gather.specs.Gathered.{gather_part, registered_from, settled_as}
use Rattle.model_gather.specs.Wait.{revoked, rings_after}
use Rattle.law_apart.proofs.Parts.{settle_others}
use Rattle.model_loop.specs.Tasks.{must_still_cancel}
use Rattle.law_cancel.proofs.Effects.{change_task-futures, done_as, soon_all-futures}
use Rattle.law_cancel.proofs.Lookups.{get-push_other, get-set_kept, get-set_same}
use Rattle.law_waiters.specs.Timed.{is_key}
use Rattle.law_members.proofs.Coming.{one_of}
use Rattle.law_members.proofs.Counted.{the_key}
use Rattle.law_members.proofs.Drawing.{IsWithin, KeyWithin}
use Rattle.law_members.proofs.Onward.{IsOf, makes, step_stays}

-- ---- keys
pub key_is_of : (j : ℕ) → IsOf (is_key (the_key j))
key_is_of j (action.Extra key) e = at (cases_eq key (the_key j))
  where
    at : (key ≡ the_key j) ⊎ (key ≡ the_key j → ⊥) → (key == the_key j) ≡ false
    at (inl same) =
        let z : key % 4 ≡ 0 = omega (arith, same) in
        absurd (false≢true (sym e ∙ eq-eqb (key % 4) 0 z))
    at (inr n) = ne_eqb key (the_key j) n
key_is_of j _ e = refl

abbrev made_at : (j key : ℕ) → ℕ
made_at j key = one_of (key == the_key j)

apart_none : (a j : ℕ) → (a ≡ j → ⊥) → made_at j (the_key a) ≡ 0
apart_none a j n = ap one_of (ne_eqb (the_key a) (the_key j) (λ e. n (omega (arith, e))))

most_one : (b : Bool) → one_of b ≤ 1
most_one true = omega arith
most_one false = omega arith

pub registered_apart : (j place : ℕ) (ids : List ℕ) → (j < place) ⊎ (place + length ids ≤ j)
    → sum_by (makes (is_key (the_key j))) (registered_from gather_part place ids) ≡ 0
registered_apart j place [] h = refl
registered_apart j place (id ∷ ids) (inl h) =
    let a = sum_by-cons (makes (is_key (the_key j))) (Registers id (the_key place)) (registered_from gather_part (suc place) ids) in
    let b = apart_none place j (λ e. absurd (omega (arith, h, e))) in
    let c = registered_apart j (suc place) ids (inl (omega (arith, h))) in
    omega (arith, a, b, c)
registered_apart j place (id ∷ ids) (inr h) =
    let a = sum_by-cons (makes (is_key (the_key j))) (Registers id (the_key place)) (registered_from gather_part (suc place) ids) in
    let b = apart_none place j (λ e. absurd (omega (arith, h, e))) in
    let c = registered_apart j (suc place) ids (inr (omega (arith, h))) in
    omega (arith, a, b, c)

pub registered_single : (j place : ℕ) (ids : List ℕ) → sum_by (makes (is_key (the_key j))) (registered_from gather_part place ids) ≤ 1
registered_single j place [] = omega arith
registered_single j place (id ∷ ids) = at (cases_eq place j) (registered_single j (suc place) ids)
  where
    at : (place ≡ j) ⊎ (place ≡ j → ⊥) → sum_by (makes (is_key (the_key j))) (registered_from gather_part (suc place) ids) ≤ 1
        → sum_by (makes (is_key (the_key j))) (Registers id (the_key place) ∷ registered_from gather_part (suc place) ids) ≤ 1
    at (inl e) ih =
        let a = sum_by-cons (makes (is_key (the_key j))) (Registers id (the_key place)) (registered_from gather_part (suc place) ids) in
        let b = most_one (the_key place == the_key j) in
        let c = registered_apart j (suc place) ids (inl (omega (arith, e))) in
        omega (arith, a, b, c)
    at (inr n) ih =
        let a = sum_by-cons (makes (is_key (the_key j))) (Registers id (the_key place)) (registered_from gather_part (suc place) ids) in
        let b = apart_none place j n in
        omega (arith, a, b, ih)

-- with one more behind them, for a timer's handle
pub rings_single : (j place : ℕ) (ids : List ℕ) (delay : Option ℤ) (p : Parts)
    → sum_by (makes (is_key (the_key j))) (registered_from gather_part place ids ++ rings_after delay (the_key (place + length ids)) p) ≤ 1
rings_single j place ids None p =
    let a = sum_by-append (makes (is_key (the_key j))) (registered_from gather_part place ids) [] in
    let b = registered_single j place ids in
    omega (arith, a, b)
rings_single j place ids (Some delay) p = at (cases_eq (place + length ids) j)
  where
    ring : ℕ
    ring = place + length ids

    rings : List ExtraStep
    rings = rings_after (Some delay) (the_key (place + length ids)) p

    at : (place + length ids ≡ j) ⊎ (place + length ids ≡ j → ⊥)
        → sum_by (makes (is_key (the_key j))) (registered_from gather_part place ids ++ rings_after (Some delay) (the_key (place + length ids)) p) ≤ 1
    at (inl e) =
        let a = sum_by-append (makes (is_key (the_key j))) (registered_from gather_part place ids) rings in
        let b = registered_apart j place ids (inr (omega (arith, e))) in
        let c = most_one (the_key ring == the_key j) in
        omega (arith, a, b, c)
    at (inr n) =
        let a = sum_by-append (makes (is_key (the_key j))) (registered_from gather_part place ids) rings in
        let b = registered_single j place ids in
        let c = apart_none ring j n in
        omega (arith, a, b, c)

-- a step whose handles have keys at places from `low` on makes none of one before
before_none : (j low high key : ℕ) → j < low → KeyWithin low high key → made_at j key ≡ 0
before_none j low high key h is =
    let a = is.1.1.0 in
    ap (made_at j) is.1.0 ∙ apart_none is.0 j (λ e. absurd (omega (arith, h, a, e)))

step_before : (j low high : ℕ) → j < low → (step : ExtraStep) → IsWithin low high step → makes (is_key (the_key j)) step ≡ 0
step_before j low high h (Registers future key) is = before_none j low high key h is
step_before j low high h (CallsSoon key) is = before_none j low high key h is
step_before j low high h (CallsLater when key) is = before_none j low high key h is
step_before j low high h MakesPlain is = refl
step_before j low high h (MakesMany members) is = refl
step_before j low high h (Settles future outcome) is = refl
step_before j low high h (Releases future) is = refl
step_before j low high h (Revokes tag) is = refl
step_before j low high h (Cancels key future) is = refl
step_before j low high h (Uncancels key task) is = refl

pub steps_before : (j low high : ℕ) → j < low → (steps : List ExtraStep) → Each (IsWithin low high) steps → sum_by (makes (is_key (the_key j))) steps ≡ 0
steps_before j low high h [] is = refl
steps_before j low high h (step ∷ steps) is =
    let a = step_before j low high h step is.0 in
    let b = steps_before j low high h steps is.1 in
    let c = sum_by-cons (makes (is_key (the_key j))) step steps in
    omega (arith, a, b, c)

-- ---- outcomes
pub register_outcome : (id : ℕ) (it : Action) (p : Parts) (on : ℕ) → future_outcome (register id it p) on ≡ future_outcome p on
register_outcome id it p on = at (slice_get p.futures id) refl
  where
    until : (future : Future) (o : Option Outcome) → slice_get p.futures id ≡ Some future
        → future_outcome (registered_on o id future it p) on ≡ future_outcome p on
    until future (Some done) found = refl
    until future None found =
        get-set_kept outcome_at p.futures id on future (record future { callbacks = future.callbacks ++ it ∷ [] }) found refl

    at : (f : Option Future) → slice_get p.futures id ≡ f → future_outcome (registered f id it p) on ≡ future_outcome p on
    at None found = refl
    at (Some future) found = until future future.outcome found

-- a step that settles this future alone
abbrev pub SettlesAt : ℕ → ExtraStep → Type 0
SettlesAt on (Settles future outcome) = future ≡ on
SettlesAt on (Cancels key future) = ⊥
SettlesAt on _ = Unit {0}

step_others : (id : ℕ) (step : ExtraStep) (l : Loop) → SettlesAt id step → (on : ℕ) → (id ≡ on → ⊥) → on < next_future l.parts
    → future_outcome (made_by step l).parts on ≡ future_outcome l.parts on
step_others id MakesPlain l at on n low =
    ap outcome_at (get-push_other l.parts.futures (record { kind = Plain; outcome = None; callbacks = [] }) on (λ e. absurd (omega (arith, low, e))))
step_others id (MakesMany members) l at on n low =
    ap outcome_at (get-push_other l.parts.futures (record { kind = Many members false; outcome = None; callbacks = [] }) on
    (λ e. absurd (omega (arith, low, e))))
step_others id (Settles future outcome) l at on n low = settle_others future outcome l.parts on (λ e. n (sym at ∙ e))
step_others id (Releases future) l at on n low = refl
step_others id (Registers future key) l at on n low = register_outcome future (action.Extra key) l.parts on
step_others id (CallsSoon key) l at on n low = refl
step_others id (CallsLater when key) l at on n low = refl
step_others id (Revokes tag) l at on n low = refl
step_others id (Cancels key future) l at on n low = absurd at
step_others id (Uncancels key task) l at on n low =
    ap (λ (fs : List Future). outcome_at (slice_get fs on))
    (change_task-futures task (λ (it : Task). record it { cancels = it.cancels - 1; must_cancel = must_still_cancel l.profile it }) l.parts)

pub steps_others : (id : ℕ) (steps : List ExtraStep) (l : Loop) → Each (SettlesAt id) steps → (on : ℕ) → (id ≡ on → ⊥) → on < next_future l.parts
    → future_outcome (made_by_all steps l).parts on ≡ future_outcome l.parts on
steps_others id [] l at on n low = refl
steps_others id (step ∷ steps) l at on n low =
    let made = (step_stays step l).made in
    steps_others id steps (made_by step l) at.1 on n (omega (arith, low, made)) ∙ step_others id step l at.0 on n low

pub made_append : (first next : List ExtraStep) (l : Loop) → made_by_all (first ++ next) l ≡ made_by_all next (made_by_all first l)
made_append [] next l = refl
made_append (step ∷ first) next l = made_append first next (made_by step l)

-- what is pending gets its outcome
pub settle_gives : (id : ℕ) (outcome : Outcome) (p : Parts) → id < next_future p → future_outcome p id ≡ None
    → future_outcome (settle id outcome p) id ≡ Some outcome
settle_gives id outcome p low none = at (slice_get p.futures id) refl
  where
    there : (fs : List Future) (id : ℕ) → id < length fs → slice_get fs id ≡ None → ⊥
    there [] id low e = absurd (omega (arith, low))
    there (x ∷ xs) zero low e = none-some x (sym e)
    there (x ∷ xs) (suc id) low e = there xs id (omega (arith, low)) e

    until : (future : Future) (o : Option Outcome) → future.outcome ≡ o → slice_get p.futures id ≡ Some future
        → future_outcome (settled_by o id future outcome p) id ≡ Some outcome
    until future (Some done) is found = absurd (none-some done (sym none ∙ ap outcome_at found ∙ is))
    until future None is found =
        ap (λ (fs : List Future). outcome_at (slice_get fs id)) (soon_all-futures future.callbacks (with_future id (done_as outcome future) p))
        ∙ ap outcome_at (get-set_same p.futures id future (done_as outcome future) found)

    at : (f : Option Future) → slice_get p.futures id ≡ f → future_outcome (settled f id outcome p) id ≡ Some outcome
    at None found = absurd (there p.futures id low found)
    at (Some future) found = until future future.outcome refl found

pub registered_settles : (id place : ℕ) (ids : List ℕ) → Each (SettlesAt id) (registered_from gather_part place ids)
registered_settles id place [] = tt
registered_settles id place (other ∷ ids) = (tt, registered_settles id (suc place) ids)

pub settled_settles : (id : ℕ) (o : Option Outcome) → Each (SettlesAt id) (settled_as o id)
settled_settles id None = tt
settled_settles id (Some outcome) = (refl, tt)

pub rings_settles : (id key : ℕ) (delay : Option ℤ) (p : Parts) → Each (SettlesAt id) (rings_after delay key p)
rings_settles id key None p = tt
rings_settles id key (Some delay) p = (tt, tt)

pub revoked_settles : (id : ℕ) (timer : Option ℕ) → Each (SettlesAt id) (revoked timer)
revoked_settles id None = tt
revoked_settles id (Some tag) = (tt, tt)
