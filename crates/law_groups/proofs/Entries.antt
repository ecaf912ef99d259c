-- What changes of handles and timers do to the number of those that pass a test.
use Rattle.std.proofs.Common.{◌≡◌, ℕ, ◌+◌, ◌≤◌, ◌⊎◌, Bool, true, false, cond, not, ◌&&◌, ◌==◌, List, [], ◌∷◌, map, filter, nat_eq, refl, sym, ◌∙◌, inl, inr}
use Rattle.std.proofs.Common.{arith}
use Rattle.std.proofs.lemmas.Bool.{cases_eq, eq-eqb, ne_eqb}
use Rattle.std.proofs.lemmas.List.Sums.{sum_by-cons, sum_by_push, sum_by-le-sum_by}
use Rattle.model_value.specs.Action.{Action}
use Rattle.model_loop.specs.Parts.{Handle, Timer, Parts}
use Rattle.model_loop.specs.Handles.{soon, later, revoke, cancelled_if}
use Rattle.model_loop.specs.Numbered.{occurrences, IsNumbered}
use Rattle.law_changes.proofs.Numbering.{tagged, tag_of, timer_tag}
use Rattle.model_loop.specs.Entries.{entries, handles_where, timers_where}

pub entries-soon : (test : ℕ → Action → Bool) (action : Action) (p : Parts)
    → entries test (soon action p) ≡ entries test p + cond (test p.next_tag action) 1 0
entries-soon test action p =
    let a = sum_by_push (λ (handle : Handle). cond (not handle.dead && test handle.tag handle.action) 1 0) p.pending
    (record { stamp = p.next_stamp; tag = p.next_tag; action = action; dead = false }) in
    omega (arith, a)

pub entries-later : (test : ℕ → Action → Bool) (when : ℕ) (action : Action) (p : Parts)
    → entries test (later when action p) ≡ entries test p + cond (test p.next_tag action) 1 0
entries-later test when action p =
    let a = sum_by_push (λ (timer : Timer). cond (test timer.tag timer.action) 1 0) p.timers (record { when = when; tag = p.next_tag; action = action }) in
    omega (arith, a)

-- those of a tag
abbrev pub of_tag : ℕ → (ℕ → Action → Bool) → ℕ → Action → Bool
of_tag tag test other action = (other == tag) && test other action

pub off : (b : Bool) → ◌≡◌ {A = ℕ} (cond (b && false) 1 0) 0
off true = refl
off false = refl

revoked_one : (test : ℕ → Action → Bool) (h : Handle) (b : Bool)
    → cond (not (cond b (record h { dead = true }) h).dead && test (cond b (record h { dead = true }) h).tag
    (cond b (record h { dead = true }) h).action) 1 0 + cond (not h.dead && (b && test h.tag h.action)) 1 0 ≡ cond (not h.dead && test h.tag h.action) 1 0
revoked_one test h true = omega arith
revoked_one test h false = let z = off (not h.dead) in omega (arith, z)

pub revoked_pending : (test : ℕ → Action → Bool) (tag : ℕ) (handles : List Handle)
    → handles_where test (map (cancelled_if tag) handles) + handles_where (of_tag tag test) handles ≡ handles_where test handles
revoked_pending test tag [] = refl
revoked_pending test tag (h ∷ hs) =
    let ih = revoked_pending test tag hs in
    let a = sum_by-cons (λ (handle : Handle). cond (not handle.dead && test handle.tag handle.action) 1 0) (cancelled_if tag h) (map (cancelled_if tag) hs) in
    let c = sum_by-cons (λ (handle : Handle). cond (not handle.dead && of_tag tag test handle.tag handle.action) 1 0) h hs in
    let d = sum_by-cons (λ (handle : Handle). cond (not handle.dead && test handle.tag handle.action) 1 0) h hs in
    let o = revoked_one test h (h.tag == tag) in
    omega (arith, ih, a, c, d, o)

pub revoked_timers : (test : ℕ → Action → Bool) (tag : ℕ) (timers : List Timer)
    → timers_where test (filter (λ timer. not (timer.tag == tag)) timers) + timers_where (of_tag tag test) timers ≡ timers_where test timers
revoked_timers test tag [] = refl
revoked_timers test tag (t ∷ ts) = go (t.tag == tag) refl (revoked_timers test tag ts)
  where
    go : (b : Bool) → (t.tag == tag) ≡ b
        → timers_where test (filter (λ timer. not (timer.tag == tag)) ts) + timers_where (of_tag tag test) ts ≡ timers_where test ts
        → timers_where test (cond (not b) (t ∷ filter (λ timer. not (timer.tag == tag)) ts) (filter (λ timer. not (timer.tag == tag)) ts)) + timers_where
        (of_tag tag test) (t ∷ ts) ≡ timers_where test (t ∷ ts)
    go true e ih =
        let c : timers_where (of_tag tag test) (t ∷ ts) ≡ cond (test t.tag t.action) 1 0 + timers_where (of_tag tag test) ts =
        sum_by-cons (λ (timer : Timer). cond (of_tag tag test timer.tag timer.action) 1 0) t ts ∙ rw e refl in
        let d = sum_by-cons (λ (timer : Timer). cond (test timer.tag timer.action) 1 0) t ts in
        omega (arith, ih, c, d)
    go false e ih =
        let a = sum_by-cons (λ (timer : Timer). cond (test timer.tag timer.action) 1 0) t (filter (λ timer. not (timer.tag == tag)) ts) in
        let c : timers_where (of_tag tag test) (t ∷ ts) ≡ 0 + timers_where (of_tag tag test) ts =
        sum_by-cons (λ (timer : Timer). cond (of_tag tag test timer.tag timer.action) 1 0) t ts ∙ rw e refl in
        let d = sum_by-cons (λ (timer : Timer). cond (test timer.tag timer.action) 1 0) t ts in
        omega (arith, ih, a, c, d)

pub entries-revoke : (test : ℕ → Action → Bool) (tag : ℕ) (p : Parts) → entries test (revoke tag p) + entries (of_tag tag test) p ≡ entries test p
entries-revoke test tag p =
    let a = revoked_pending test tag p.pending in
    let b = revoked_timers test tag p.timers in
    omega (arith, a, b)

-- a test that is harder passes fewer
pub entries-fewer : (f g : ℕ → Action → Bool) (p : Parts) → ((tag : ℕ) (action : Action) → f tag action ≡ true → g tag action ≡ true)
    → entries f p ≤ entries g p
entries-fewer f g p harder =
    let a = sum_by-le-sum_by (λ (h : Handle). cond (not h.dead && f h.tag h.action) 1 0)
    (λ (h : Handle). cond (not h.dead && g h.tag h.action) 1 0) p.pending
    (λ h. one (not h.dead) (f h.tag h.action) (g h.tag h.action) (harder h.tag h.action)) in
    let b = sum_by-le-sum_by (λ (t : Timer). cond (f t.tag t.action) 1 0) (λ (t : Timer). cond (g t.tag t.action) 1 0) p.timers
    (λ t. one true (f t.tag t.action) (g t.tag t.action) (harder t.tag t.action)) in
    omega (arith, a, b)
  where
    one : (live x y : Bool) → (x ≡ true → y ≡ true) → cond (live && x) 1 0 ≤ cond (live && y) 1 0
    one false x y h = omega arith
    one true false true h = omega arith
    one true false false h = omega arith
    one true true y h = rw (h refl) (omega arith)

-- a tag that wasn't given is nobody's
tag_pending : (test : ℕ → Action → Bool) (tag : ℕ) (hs : List Handle) → handles_where (of_tag tag test) hs ≤ occurrences tag (map tag_of hs)
tag_pending test tag [] = omega arith
tag_pending test tag (h ∷ hs) =
    let ih = tag_pending test tag hs in
    let a = sum_by-cons (λ (handle : Handle). cond (not handle.dead && of_tag tag test handle.tag handle.action) 1 0) h hs in
    let b = sum_by-cons (λ y. cond (nat_eq tag y) 1 0) h.tag (map tag_of hs) in
    let o = one (cases_eq h.tag tag) (not h.dead) (test h.tag h.action) in
    omega (arith, ih, a, b, o)
  where
    one : (h.tag ≡ tag) ⊎ (h.tag ≡ tag → ⊥) → (live t : Bool) → cond (live && ((h.tag == tag) && t)) 1 0 ≤ cond (nat_eq tag h.tag) 1 0
    one (inl e) live t = rw (eq-eqb tag h.tag (sym e)) (most (live && ((h.tag == tag) && t)))
      where
        most : (b : Bool) → cond b 1 0 ≤ 1
        most true = omega arith
        most false = omega arith
    one (inr n) live t = rw (ne_eqb h.tag tag n) (let z = off live in omega (arith, z))

tag_timers : (test : ℕ → Action → Bool) (tag : ℕ) (ts : List Timer) → timers_where (of_tag tag test) ts ≤ occurrences tag (map timer_tag ts)
tag_timers test tag [] = omega arith
tag_timers test tag (t ∷ ts) =
    let ih = tag_timers test tag ts in
    let a = sum_by-cons (λ (timer : Timer). cond (of_tag tag test timer.tag timer.action) 1 0) t ts in
    let b = sum_by-cons (λ y. cond (nat_eq tag y) 1 0) t.tag (map timer_tag ts) in
    let o = one (cases_eq t.tag tag) (test t.tag t.action) in
    omega (arith, ih, a, b, o)
  where
    one : (t.tag ≡ tag) ⊎ (t.tag ≡ tag → ⊥) → (x : Bool) → cond ((t.tag == tag) && x) 1 0 ≤ cond (nat_eq tag t.tag) 1 0
    one (inl e) x = rw (eq-eqb tag t.tag (sym e)) (most ((t.tag == tag) && x))
      where
        most : (b : Bool) → cond b 1 0 ≤ 1
        most true = omega arith
        most false = omega arith
    one (inr n) x = rw (ne_eqb t.tag tag n) (omega arith)

pub entries-given : (test : ℕ → Action → Bool) (tag : ℕ) (p : Parts) → IsNumbered p → p.next_tag ≤ tag → entries (of_tag tag test) p ≡ 0
entries-given test tag p is h =
    let a = tag_pending test tag p.pending in
    let b = tag_timers test tag p.timers in
    let c = tagged tag p in
    let d = is.tags.below tag h in
    omega (arith, a, b, c, d)

-- a tag that was given is given once
pub entries-once : (test : ℕ → Action → Bool) (tag : ℕ) (p : Parts) → IsNumbered p → entries (of_tag tag test) p ≤ 1
entries-once test tag p is =
    let a = tag_pending test tag p.pending in
    let b = tag_timers test tag p.timers in
    let c = tagged tag p in
    let d = is.tags.once tag in
    omega (arith, a, b, c, d)
