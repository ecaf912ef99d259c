-- The handle of a timer, told by its key: there is one at most, with the tag that is kept, and none where none is kept.
use Rattle.std.proofs.Common.{◌≡◌, ◌≤◌, ◌+◌, ◌==◌, ℕ, Bool, true, false, cond, not, ◌&&◌, List, [], ◌∷◌, Option, Some, None, refl, ap, ◌∙◌, arith}
use Rattle.std.proofs.lemmas.Bool.{eq-eqb}
use Rattle.std.proofs.lemmas.List.Sums.{sum_by-cons}
use Rattle.model_value.specs.Action.{Action}
use Rattle.model_value.specs.declared.action.Action.TheVariants as action
use Rattle.model_loop.specs.Entries.{entries, handles_where, timers_where}
use Rattle.model_loop.specs.Handles.{later, revoke}
use Rattle.model_loop.specs.Parts.{Handle, Parts, Timer}
use Rattle.law_groups.proofs.Entries.{entries-later, entries-revoke, of_tag}
use Rattle.law_waiters.specs.Timed.{is_key}
use Rattle.law_waiters.proofs.Fewer.{Fewer, NoCallback}

abbrev pub any_of : ℕ → ℕ → Action → Bool
any_of key tag it = is_key key it

abbrev pub apart_of : (key tag : ℕ) → ℕ → Action → Bool
apart_of key tag other it = not (other == tag) && is_key key it

abbrev pub TimerFits : ℕ → Option ℕ → Parts → Type 0
TimerFits key None p = NoCallback key p × (entries (any_of key) p ≡ 0)
TimerFits key (Some tag) p = NoCallback key p × (entries (any_of key) p ≤ 1) × (entries (apart_of key tag) p ≡ 0)

off : (b : Bool) → (b && false) ≡ false
off true = refl
off false = refl

pub timer_on : (key : ℕ) (timer : Option ℕ) (p q : Parts) → Fewer key p q → TimerFits key timer p → TimerFits key timer q
timer_on key None p q fewer it = (
  fewer.none it.0,
  let a = fewer.few it.0 (any_of key) (λ tag action e. e) in let b = it.1 in omega (arith, a, b),
)
timer_on key (Some tag) p q fewer it = (
  fewer.none it.0,
  let a = fewer.few it.0 (any_of key) (λ tag action e. e) in let b = it.1 in omega (arith, a, b),
  let a = fewer.few it.0 (apart_of key tag) (λ other action e. ap (λ b. not (other == tag) && b) e ∙ off (not (other == tag))) in
      let b = it.2 in omega (arith, a, b),
)

-- ---- it is given up
split_one : (live b k : Bool)
    → ◌≡◌ {A = ℕ} (cond (live && k) 1 0) (cond (live && (b && k)) 1 0 + cond (live && (not b && k)) 1 0)
split_one false b k = omega arith
split_one true true true = omega arith
split_one true true false = omega arith
split_one true false true = omega arith
split_one true false false = omega arith

module _ (key tag : ℕ) where
  handles_split : (hs : List Handle)
      → handles_where (any_of key) hs ≡ handles_where (of_tag tag (any_of key)) hs + handles_where (apart_of key tag) hs
  handles_split [] = omega arith
  handles_split (h ∷ hs) =
      let a = sum_by-cons (λ (h : Handle). cond (not h.dead && any_of key h.tag h.action) 1 0) h hs in
      let b = sum_by-cons (λ (h : Handle). cond (not h.dead && of_tag tag (any_of key) h.tag h.action) 1 0) h hs in
      let c = sum_by-cons (λ (h : Handle). cond (not h.dead && apart_of key tag h.tag h.action) 1 0) h hs in
      let d = split_one (not h.dead) (h.tag == tag) (is_key key h.action) in
      let ih = handles_split hs in
      omega (arith, a, b, c, d, ih)

  timers_split : (ts : List Timer)
      → timers_where (any_of key) ts ≡ timers_where (of_tag tag (any_of key)) ts + timers_where (apart_of key tag) ts
  timers_split [] = omega arith
  timers_split (t ∷ ts) =
      let a = sum_by-cons (λ (t : Timer). cond (any_of key t.tag t.action) 1 0) t ts in
      let b = sum_by-cons (λ (t : Timer). cond (of_tag tag (any_of key) t.tag t.action) 1 0) t ts in
      let c = sum_by-cons (λ (t : Timer). cond (apart_of key tag t.tag t.action) 1 0) t ts in
      let d = split_one true (t.tag == tag) (is_key key t.action) in
      let ih = timers_split ts in
      omega (arith, a, b, c, d, ih)

  pub revoked_fits : (p : Parts) → TimerFits key (Some tag) p → TimerFits key None (revoke tag p)
  revoked_fits p it = (
    λ on. it.0 on,
    let a = entries-revoke (any_of key) tag p in
        let b = handles_split p.pending in
        let c = timers_split p.timers in
        let d = it.2 in
        omega (arith, a, b, c, d),
  )

-- ---- it is made
same_tag : (tag : ℕ) (b : Bool) → (not (tag == tag) && b) ≡ false
same_tag tag b = ap (λ c. not c && b) (eq-eqb tag tag refl)

pub later_fits : (key when : ℕ) (p : Parts) → TimerFits key None p → TimerFits key (Some p.next_tag) (later when (action.Extra key) p)
later_fits key when p it = (
  λ on. it.0 on,
  let a = entries-later (any_of key) when (action.Extra key) p in
      let b = it.1 in
      let c : ◌≡◌ {A = ℕ} (cond (key == key) 1 0) 1 = ap (λ b. cond b 1 0) (eq-eqb key key refl) in
      omega (arith, a, b, c),
  let a = entries-later (apart_of key p.next_tag) when (action.Extra key) p in
      let b = it.1 in
      let c : ◌≡◌ {A = ℕ} (cond (not (p.next_tag == p.next_tag) && (key == key)) 1 0) 0 = ap (λ b. cond b 1 0) (same_tag p.next_tag (key == key)) in
      let d = apart_fewer p in
      omega (arith, a, b, c, d),
)
  where
    apart_fewer : (p : Parts) → entries (apart_of key p.next_tag) p ≤ entries (any_of key) p
    apart_fewer p =
        let b = handles_split key p.next_tag p.pending in
        let c = timers_split key p.next_tag p.timers in
        omega (arith, b, c)

-- ---- it runs
pub taken_fits : (key : ℕ) (timer : Option ℕ) (handle : Handle) (rest : List Handle) (p : Parts) → p.pending ≡ handle ∷ rest → handle.dead ≡ false
    → handle.action ≡ action.Extra key → TimerFits key timer p
    → (tag : ℕ) × ((timer ≡ Some tag) × TimerFits key None (record p { pending = rest }))
taken_fits key timer handle rest p first live is it = at timer it
  where
    mine : ◌≡◌ {A = ℕ} (cond (not handle.dead && is_key key handle.action) 1 0) 1
    mine = ap (λ b. cond (not b && is_key key handle.action) 1 0) live ∙ ap (λ a. cond (is_key key a) 1 0) is
        ∙ ap (λ b. cond b 1 0) (eq-eqb key key refl)

    whole : entries (any_of key) p ≡ 1 + entries (any_of key) (record p { pending = rest })
    whole =
        let a = ap (handles_where (any_of key)) first in
        let c = sum_by-cons (λ (h : Handle). cond (not h.dead && any_of key h.tag h.action) 1 0) handle rest in
        let m = mine in
        omega (arith, a, c, m)

    at : (o : Option ℕ) → TimerFits key o p → (tag : ℕ) × ((o ≡ Some tag) × TimerFits key None (record p { pending = rest }))
    at None fits = absurd (let w = whole in let z = fits.1 in omega (arith, w, z))
    at (Some tag) fits = (tag, (refl, (λ on. fits.0 on, let w = whole in let f = fits.1 in omega (arith, w, f))))
