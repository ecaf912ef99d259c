-- Handles that are appended come after the bar, so as many stand before it as did.
use Rattle.std.proofs.Common.{◌≡◌, ℕ, ◌≤◌, Bool, false, cond, List, [], ◌∷◌, ◌++◌, append_assoc, length, ◌∙◌, refl, sym, ap, subst, arith}
use Rattle.std.specs.Prelude.{nat_lt}
use Rattle.std.specs.List.{AllByRecursion as Each, count_by}
use Rattle.std.proofs.lemmas.Bool.{le-ltb}
use Rattle.std.proofs.lemmas.List.{append-nil}
use Rattle.std.proofs.lemmas.List.Sums.{sum_by-cons}
use Rattle.model_value.specs.Action.{Action}
use Rattle.model_loop.specs.Handles.{soon, soon_all}
use Rattle.model_loop.specs.Parts.{Handle, Parts}
use Rattle.refine_parts.proofs.Lists.{all-append, all_more}
use Rattle.refine_parts.proofs.Running.{count_early}
use Rattle.refine_parts.proofs.Only.{OnlyAppends}
use Rattle.aio_task.specs.View.{View}
use Rattle.aio_task.specs.Keeps.{NameMap, Keeps}

-- what came is stamped as it came
pub record Appends (p q : Parts) : Type 0 where
  pub late : List Handle
  pub pending : q.pending ≡ p.pending ++ late
  pub stamped : Each (λ (h : Handle). p.next_stamp ≤ h.stamp) late
  pub stamps : p.next_stamp ≤ q.next_stamp

pub appends_same : (p : Parts) → Appends p p
appends_same p = record { late = []; pending = sym (append-nil p.pending); stamped = tt; stamps = omega arith }

pub appends_on : (p q r : Parts) → Appends p q → Appends q r → Appends p r
appends_on p q r a b =
    let m = a.stamps in
    let n = b.stamps in
    record {
      late = a.late ++ b.late;
      pending = b.pending ∙ ap (λ hs. hs ++ b.late) a.pending ∙ append_assoc p.pending a.late b.late;
      stamped =
          all-append (λ (h : Handle). p.next_stamp ≤ h.stamp) a.late b.late a.stamped
          (all_more (λ (h : Handle). q.next_stamp ≤ h.stamp) (λ (h : Handle). p.next_stamp ≤ h.stamp) (λ h e. omega (arith, e, m)) b.late b.stamped);
      stamps = omega (arith, m, n);
    }

appends_soon : (action : Action) (p : Parts) → Appends p (soon action p)
appends_soon action p = record {
  late = record { stamp = p.next_stamp; tag = p.next_tag; action = action; dead = false } ∷ [];
  pending = refl;
  stamped = (omega arith, tt);
  stamps = omega arith;
}

appends_soon_all : (actions : List Action) (p : Parts) → Appends p (soon_all actions p)
appends_soon_all [] p = appends_same p
appends_soon_all (action ∷ actions) p =
    appends_on p (soon action p) (soon_all actions (soon action p)) (appends_soon action p) (appends_soon_all actions (soon action p))

pub appends_only : (p q : Parts) → OnlyAppends p q → Appends p q
appends_only p q only =
    let a = appends_soon_all only.actions p in
    record {
      late = a.late;
      pending = ap (λ (x : Parts). x.pending) only.is ∙ a.pending;
      stamped = a.stamped;
      stamps = subst (λ (n : ℕ). p.next_stamp ≤ n) (sym (ap (λ (x : Parts). x.next_stamp) only.is)) a.stamps;
    }

abbrev early : ℕ → Handle → Bool
early bar h = nat_lt h.stamp bar

count_late : (bar : ℕ) (late : List Handle) → Each (λ (h : Handle). bar ≤ h.stamp) late → count_by (early bar) late ≡ 0
count_late bar [] a = refl
count_late bar (h ∷ late) a =
    let c = sum_by-cons (λ (x : Handle). cond (nat_lt x.stamp bar) 1 0) h late in
    let none : ◌≡◌ {A = ℕ} (cond (nat_lt h.stamp bar) 1 0) 0 = rw (le-ltb h.stamp bar a.0) refl in
    let more = count_late bar late a.1 in
    omega (arith, c, none, more)

count_past : (bar : ℕ) (hs late : List Handle) → Each (λ (h : Handle). bar ≤ h.stamp) late
    → count_by (early bar) (hs ++ late) ≡ count_by (early bar) hs
count_past bar [] late a = count_late bar late a
count_past bar (h ∷ hs) late a =
    let c = sum_by-cons (λ (x : Handle). cond (nat_lt x.stamp bar) 1 0) h (hs ++ late) in
    let d = sum_by-cons (λ (x : Handle). cond (nat_lt x.stamp bar) 1 0) h hs in
    let more = count_past bar hs late a in
    omega (arith, c, d, more)

pub below_kept : (t u : NameMap) (v w : View) (p q : Parts) → Keeps t v p → Keeps u w q → u.bar ≡ t.bar → Appends p q
    → length w.queue.below ≡ length v.queue.below
below_kept t u v w p q k n same a =
    let given = k.handles.bar_given in
    count_early u w q n ∙ ap (λ bar. count_by (early bar) q.pending) same ∙ ap (count_by (early t.bar)) a.pending
    ∙ count_past t.bar p.pending a.late
    (all_more (λ (h : Handle). p.next_stamp ≤ h.stamp) (λ (h : Handle). t.bar ≤ h.stamp) (λ h e. omega (arith, e, given)) a.late a.stamped)
    ∙ sym (count_early t v p k)
