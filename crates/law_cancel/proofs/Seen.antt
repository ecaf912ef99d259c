-- The tasks that a request visited, and how many are left.
use Rattle.std.proofs.Common.{◌≡◌, ◌≢◌, ℕ, zero, suc, ◌+◌, ◌<◌, ◌≤◌, ◌⊎◌, Bool, true, false, cond, ◌||◌, List, [], ◌∷◌, ◌++◌, nat_eq, refl, ◌∙◌, arith, inl}
use Rattle.std.proofs.Common.{inr}
use Rattle.std.proofs.lemmas.Bool.{cases_eq, eq-eqb, ne_eqb}
use Rattle.model_loop.specs.Cancel.{has_seen}

pub has_seen-append : (s t : List ℕ) (u : ℕ) → has_seen (s ++ t) u ≡ (has_seen s u || has_seen t u)
has_seen-append [] t u = refl
has_seen-append (x ∷ s) t u =
    elim (nat_eq u x) as (λ b. (b || has_seen (s ++ t) u) ≡ ((b || has_seen s u) || has_seen t u)) [
      | true ↦ refl
      | false ↦ has_seen-append s t u
    ]

-- how many tasks below a number were not visited
abbrev pub left : ℕ → List ℕ → ℕ
left zero s = 0
left (suc n) s = cond (has_seen s n) 0 1 + left n s

pub has_seen_last : (s : List ℕ) (t : ℕ) → has_seen (s ++ t ∷ []) t ≡ true
has_seen_last s t = has_seen-append s (t ∷ []) t ∙ rw eq-eqb (or_true (has_seen s t))
  where
    or_true : (b : Bool) → (b || (true || false)) ≡ true
    or_true true = refl
    or_true false = refl

pub has_seen_other : (s : List ℕ) (t u : ℕ) → u ≢ t → has_seen (s ++ t ∷ []) u ≡ has_seen s u
has_seen_other s t u n = has_seen-append s (t ∷ []) u ∙ rw (ne_eqb u t n) (or_false (has_seen s u))
  where
    or_false : (b : Bool) → (b || (false || false)) ≡ b
    or_false true = refl
    or_false false = refl

pub left_le : (n : ℕ) (s : List ℕ) → left n s ≤ n
left_le zero s = omega arith
left_le (suc n) s =
    let h = left_le n s in
    elim (has_seen s n) as (λ b. cond b 0 1 + left n s ≤ suc n) [ true ↦ omega arith | false ↦ omega arith ]

pub left_past : (n : ℕ) (s : List ℕ) (t : ℕ) → n ≤ t → left n (s ++ t ∷ []) ≡ left n s
left_past zero s t h = refl
left_past (suc n) s t h =
    let ne : n ≢ t = omega arith in
    let ih : left n (s ++ t ∷ []) ≡ left n s = left_past n s t (omega arith) in
    rw (has_seen_other s t n ne, ih)

-- a task that is visited first is no longer left
pub left-push : (n : ℕ) (s : List ℕ) (t : ℕ) → t < n → has_seen s t ≡ false → left n (s ++ t ∷ []) + 1 ≡ left n s
left-push zero s t h u = absurd (omega arith)
left-push (suc n) s t h u = go (cases_eq n t) (λ below. left-push n s t below u)
  where
    go : (n ≡ t) ⊎ (n ≡ t → ⊥) → (t < n → left n (s ++ t ∷ []) + 1 ≡ left n s) → cond (has_seen (s ++ t ∷ []) n) 0 1 + left n (s ++ t ∷ []) + 1
        ≡ cond (has_seen s n) 0 1 + left n s
    go (inl e) ih =
        let a : has_seen (s ++ t ∷ []) n ≡ true = rw e (has_seen_last s t) in
        let b : has_seen s n ≡ false = rw e u in
        let c : left n (s ++ t ∷ []) ≡ left n s = left_past n s t (omega arith) in
        rw (a, b, c) (omega arith)
    go (inr ne) ih =
        let a : has_seen (s ++ t ∷ []) n ≡ has_seen s n = has_seen_other s t n ne in
        let c : left n (s ++ t ∷ []) + 1 ≡ left n s = ih (omega arith) in
        rw a (omega arith)

-- what was visited stays so
pub left_falls : (n : ℕ) (s t : List ℕ) → left n (s ++ t) ≤ left n s
left_falls zero s t = omega arith
left_falls (suc n) s t =
    let h = left_falls n s t in
    rw has_seen-append (elim (has_seen s n) as (λ b. cond (b || has_seen t n) 0 1 + left n (s ++ t) ≤ cond b 0 1 + left n s) [
      | true ↦ omega arith
      | false ↦
          elim (has_seen t n) as (λ c. cond c 0 1 + left n (s ++ t) ≤ 1 + left n s) [ true ↦ omega arith | false ↦ omega arith ]
    ])

-- the same for a task in front
pub left-cons : (n : ℕ) (s : List ℕ) (t : ℕ) → t < n → has_seen s t ≡ false → left n (t ∷ s) + 1 ≡ left n s
left-cons zero s t h u = absurd (omega arith)
left-cons (suc n) s t h u = go (cases_eq n t) (λ below. left-cons n s t below u)
  where
    past : (m : ℕ) → m ≤ t → left m (t ∷ s) ≡ left m s
    past zero below = refl
    past (suc m) below =
        let ne : m ≢ t = omega arith in
        rw (ne_eqb m t ne, past m (omega arith)) refl

    go : (n ≡ t) ⊎ (n ≡ t → ⊥) → (t < n → left n (t ∷ s) + 1 ≡ left n s) → cond (has_seen (t ∷ s) n) 0 1 + left n (t ∷ s) + 1
        ≡ cond (has_seen s n) 0 1 + left n s
    go (inl e) ih =
        let b : has_seen s n ≡ false = rw e u in
        let c : left n (t ∷ s) ≡ left n s = past n (omega arith) in
        rw (eq-eqb n t e, b, c) (omega arith)
    go (inr ne) ih =
        let c : left n (t ∷ s) + 1 ≡ left n s = ih (omega arith) in
        rw (ne_eqb n t ne) (omega arith)
