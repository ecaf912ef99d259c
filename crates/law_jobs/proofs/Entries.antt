-- Entries by numbers, each of which stands once, and what is found of them.
use Rattle.std.proofs.Common.{◌≡◌, ℕ, ◌⊎◌, inl, inr, Bool, true, false, cond, List, [], ◌∷◌, ◌++◌, Option, Some, None, refl, sym, ap, subst, ◌∙◌}
use Rattle.std.specs.Prelude.{◌==◌}
use Rattle.std.specs.Map.{lookup, remove_entry, set_value}
use Rattle.std.proofs.lemmas.Bool.{cases_eq, eq-eqb, ne_eqb}
use Rattle.model_exec.specs.Execed.{is_number}

some_none : {A : Type 0} (x : A) → Some x ≡ None → ⊥
some_none x e = absurd (cc)

module _ {A : Type 0} where
  abbrev pub at : ℕ → List (ℕ × A) → Option A
  at n es = lookup (is_number n) es

  -- each number stands once
  abbrev pub Distinct : List (ℕ × A) → Type 0
  Distinct [] = Unit {0}
  Distinct (e ∷ es) = (at e.0 es ≡ None) × Distinct es

  -- ---- of one entry and others
  here : (n : ℕ) (e : ℕ × A) (es : List (ℕ × A)) → e.0 ≡ n → at n (e ∷ es) ≡ Some e.1
  here n e es same = ap (λ b. cond b (Some e.1) (at n es)) (eq-eqb e.0 n same)

  past : (n : ℕ) (e : ℕ × A) (es : List (ℕ × A)) → (e.0 ≡ n → ⊥) → at n (e ∷ es) ≡ at n es
  past n e es other = ap (λ b. cond b (Some e.1) (at n es)) (ne_eqb e.0 n other)

  none_past : (n : ℕ) (e : ℕ × A) (es : List (ℕ × A)) → at n (e ∷ es) ≡ None → (e.0 ≡ n → ⊥) × (at n es ≡ None)
  none_past n e es none = go (cases_eq e.0 n)
    where
      go : (e.0 ≡ n) ⊎ (e.0 ≡ n → ⊥) → (e.0 ≡ n → ⊥) × (at n es ≡ None)
      go (inl same) = absurd (some_none e.1 (sym (here n e es same) ∙ none))
      go (inr other) = (other, sym (past n e es other) ∙ none)

  -- ---- one more, at the end
  pub last_some : (n : ℕ) (es : List (ℕ × A)) (more : ℕ × A) (x : A) → at n es ≡ Some x → at n (es ++ more ∷ []) ≡ Some x
  last_some n [] more x e = absurd (some_none x (sym e))
  last_some n (y ∷ es) more x e = go (λ f. last_some n es more x f) (cases_eq y.0 n)
    where
      go : (at n es ≡ Some x → at n (es ++ more ∷ []) ≡ Some x) → (y.0 ≡ n) ⊎ (y.0 ≡ n → ⊥) → at n (y ∷ (es ++ more ∷ [])) ≡ Some x
      go rest (inl same) = here n y (es ++ more ∷ []) same ∙ sym (here n y es same) ∙ e
      go rest (inr other) = past n y (es ++ more ∷ []) other ∙ rest (sym (past n y es other) ∙ e)

  pub last_none : (n : ℕ) (es : List (ℕ × A)) (more : ℕ × A) → at n es ≡ None → at n (es ++ more ∷ []) ≡ at n (more ∷ [])
  last_none n [] more e = refl
  last_none n (y ∷ es) more e = let w = none_past n y es e in past n y (es ++ more ∷ []) w.0 ∙ last_none n es more w.1

  pub last_here : (n : ℕ) (es : List (ℕ × A)) (x : A) → at n es ≡ None → at n (es ++ (n, x) ∷ []) ≡ Some x
  last_here n es x e = last_none n es (n, x) e ∙ here n (n, x) [] refl

  pub last_other : (n m : ℕ) (es : List (ℕ × A)) (x : A) → (m ≡ n → ⊥) → at n (es ++ (m, x) ∷ []) ≡ at n es
  last_other n m es x other = go (at n es) refl
    where
      go : (o : Option A) → at n es ≡ o → at n (es ++ (m, x) ∷ []) ≡ at n es
      go None e = last_none n es (m, x) e ∙ past n (m, x) [] other ∙ sym e
      go (Some y) e = last_some n es (m, x) y e ∙ sym e

  pub last_distinct : (n : ℕ) (es : List (ℕ × A)) (x : A) → at n es ≡ None → Distinct es → Distinct (es ++ (n, x) ∷ [])
  last_distinct n [] x e d = (refl, tt)
  last_distinct n (y ∷ es) x e d =
      let w = none_past n y es e in (last_other y.0 n es x (λ same. w.0 (sym same)) ∙ d.0, last_distinct n es x w.1 d.1)

  -- ---- one less
  pub removed_other : (n m : ℕ) (es : List (ℕ × A)) → (m ≡ n → ⊥) → at n (remove_entry (is_number m) es) ≡ at n es
  removed_other n m [] other = refl
  removed_other n m (y ∷ es) other = go (removed_other n m es other) (cases_eq y.0 m)
    where
      go : at n (remove_entry (is_number m) es) ≡ at n es → (y.0 ≡ m) ⊎ (y.0 ≡ m → ⊥) → at n (cond (y.0 == m) es (y ∷ remove_entry (is_number m) es)) ≡ at n (y ∷ es)
      go rest (inl same) = ap (λ b. at n (cond b es (y ∷ remove_entry (is_number m) es))) (eq-eqb y.0 m same)
          ∙ sym (past n y es (λ e. other (sym same ∙ e)))
      go rest (inr apart) = ap (λ b. at n (cond b es (y ∷ remove_entry (is_number m) es))) (ne_eqb y.0 m apart) ∙ both (cases_eq y.0 n)
        where
          both : (y.0 ≡ n) ⊎ (y.0 ≡ n → ⊥) → at n (y ∷ remove_entry (is_number m) es) ≡ at n (y ∷ es)
          both (inl e) = here n y (remove_entry (is_number m) es) e ∙ sym (here n y es e)
          both (inr e) = past n y (remove_entry (is_number m) es) e ∙ rest ∙ sym (past n y es e)

  pub removed_here : (n : ℕ) (es : List (ℕ × A)) → Distinct es → at n (remove_entry (is_number n) es) ≡ None
  removed_here n [] d = refl
  removed_here n (y ∷ es) d = go (removed_here n es d.1) (cases_eq y.0 n)
    where
      go : at n (remove_entry (is_number n) es) ≡ None → (y.0 ≡ n) ⊎ (y.0 ≡ n → ⊥) → at n (cond (y.0 == n) es (y ∷ remove_entry (is_number n) es)) ≡ None
      go rest (inl same) = ap (λ b. at n (cond b es (y ∷ remove_entry (is_number n) es))) (eq-eqb y.0 n same)
          ∙ subst (λ k. at k es ≡ None) same d.0
      go rest (inr apart) = ap (λ b. at n (cond b es (y ∷ remove_entry (is_number n) es))) (ne_eqb y.0 n apart)
          ∙ past n y (remove_entry (is_number n) es) apart ∙ rest

  removed_still : (n m : ℕ) (es : List (ℕ × A)) → at n es ≡ None → at n (remove_entry (is_number m) es) ≡ None
  removed_still n m [] e = refl
  removed_still n m (y ∷ es) e = let w = none_past n y es e in go (removed_still n m es w.1) w.0 w.1 (cases_eq y.0 m)
    where
      go : at n (remove_entry (is_number m) es) ≡ None → (y.0 ≡ n → ⊥) → at n es ≡ None → (y.0 ≡ m) ⊎ (y.0 ≡ m → ⊥) → at n (cond (y.0 == m) es (y ∷ remove_entry (is_number m) es)) ≡ None
      go rest other none (inl same) = ap (λ b. at n (cond b es (y ∷ remove_entry (is_number m) es))) (eq-eqb y.0 m same) ∙ none
      go rest other none (inr apart) = ap (λ b. at n (cond b es (y ∷ remove_entry (is_number m) es))) (ne_eqb y.0 m apart)
          ∙ past n y (remove_entry (is_number m) es) other ∙ rest

  pub removed_distinct : (m : ℕ) (es : List (ℕ × A)) → Distinct es → Distinct (remove_entry (is_number m) es)
  removed_distinct m [] d = tt
  removed_distinct m (y ∷ es) d = go (removed_distinct m es d.1) (y.0 == m)
    where
      go : Distinct (remove_entry (is_number m) es) → (b : Bool) → Distinct (cond b es (y ∷ remove_entry (is_number m) es))
      go rest true = d.1
      go rest false = (removed_still y.0 m es d.0, rest)

  -- what is found of fewer was found before
  pub removed_found : (n m : ℕ) (es : List (ℕ × A)) (x : A) → Distinct es → at n (remove_entry (is_number m) es) ≡ Some x → at n es ≡ Some x
  removed_found n m es x d e = go (cases_eq m n)
    where
      go : (m ≡ n) ⊎ (m ≡ n → ⊥) → at n es ≡ Some x
      go (inl same) =
          absurd (some_none x (sym e ∙ subst (λ k. at n (remove_entry (is_number k) es) ≡ None) (sym same) (removed_here n es d)))
      go (inr other) = sym (removed_other n m es other) ∙ e

  -- ---- one that becomes another
  pub set_other : (n m : ℕ) (es : List (ℕ × A)) (it : A) → (m ≡ n → ⊥) → at n (set_value (is_number m) es it) ≡ at n es
  set_other n m [] it other = refl
  set_other n m (y ∷ es) it other = go (set_other n m es it other) (cases_eq y.0 m)
    where
      go : at n (set_value (is_number m) es it) ≡ at n es → (y.0 ≡ m) ⊎ (y.0 ≡ m → ⊥) → at n (cond (y.0 == m) ((y.0, it) ∷ es) (y ∷ set_value (is_number m) es it)) ≡ at n (y ∷ es)
      go rest (inl same) =
          ap (λ b. at n (cond b ((y.0, it) ∷ es) (y ∷ set_value (is_number m) es it))) (eq-eqb y.0 m same)
          ∙ past n (y.0, it) es (λ e. other (sym same ∙ e)) ∙ sym (past n y es (λ e. other (sym same ∙ e)))
      go rest (inr apart) =
          ap (λ b. at n (cond b ((y.0, it) ∷ es) (y ∷ set_value (is_number m) es it))) (ne_eqb y.0 m apart) ∙ both (cases_eq y.0 n)
        where
          both : (y.0 ≡ n) ⊎ (y.0 ≡ n → ⊥) → at n (y ∷ set_value (is_number m) es it) ≡ at n (y ∷ es)
          both (inl e) = here n y (set_value (is_number m) es it) e ∙ sym (here n y es e)
          both (inr e) = past n y (set_value (is_number m) es it) e ∙ rest ∙ sym (past n y es e)

  pub set_here : (n : ℕ) (es : List (ℕ × A)) (old it : A) → at n es ≡ Some old → at n (set_value (is_number n) es it) ≡ Some it
  set_here n [] old it e = absurd (some_none old (sym e))
  set_here n (y ∷ es) old it e = go (λ f. set_here n es old it f) (cases_eq y.0 n)
    where
      go : (at n es ≡ Some old → at n (set_value (is_number n) es it) ≡ Some it) → (y.0 ≡ n) ⊎ (y.0 ≡ n → ⊥) → at n (cond (y.0 == n) ((y.0, it) ∷ es) (y ∷ set_value (is_number n) es it)) ≡ Some it
      go rest (inl same) =
          ap (λ b. at n (cond b ((y.0, it) ∷ es) (y ∷ set_value (is_number n) es it))) (eq-eqb y.0 n same) ∙ here n (y.0, it) es same
      go rest (inr apart) =
          ap (λ b. at n (cond b ((y.0, it) ∷ es) (y ∷ set_value (is_number n) es it))) (ne_eqb y.0 n apart)
          ∙ past n y (set_value (is_number n) es it) apart ∙ rest (sym (past n y es apart) ∙ e)

  set_still : (n m : ℕ) (es : List (ℕ × A)) (it : A) → at n es ≡ None → at n (set_value (is_number m) es it) ≡ None
  set_still n m [] it e = refl
  set_still n m (y ∷ es) it e = let w = none_past n y es e in go (set_still n m es it w.1) w.0 w.1 (y.0 == m)
    where
      go : at n (set_value (is_number m) es it) ≡ None → (y.0 ≡ n → ⊥) → at n es ≡ None → (b : Bool) → at n (cond b ((y.0, it) ∷ es) (y ∷ set_value (is_number m) es it)) ≡ None
      go rest other none true = past n (y.0, it) es other ∙ none
      go rest other none false = past n y (set_value (is_number m) es it) other ∙ rest

  pub set_distinct : (m : ℕ) (es : List (ℕ × A)) (it : A) → Distinct es → Distinct (set_value (is_number m) es it)
  set_distinct m [] it d = tt
  set_distinct m (y ∷ es) it d = go (set_distinct m es it d.1) (y.0 == m)
    where
      go : Distinct (set_value (is_number m) es it) → (b : Bool) → Distinct (cond b ((y.0, it) ∷ es) (y ∷ set_value (is_number m) es it))
      go rest true = d
      go rest false = (set_still y.0 m es it d.0, rest)
