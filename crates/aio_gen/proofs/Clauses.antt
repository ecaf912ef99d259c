-- The first clause that takes an exception, clause by clause.
use Rattle.std.proofs.Common.{◌≡◌, ℕ, ◌+◌, ◌<◌, true, false, cond, List, ◌∷◌, length, drop, slice_index_or, Some, sym, ap, ◌∙◌}
use Rattle.std.proofs.lemmas.List.{drop_more}
use Rattle.model_value.specs.Kinds.{matches}
use Rattle.model_value.specs.Value.{Exc, kind_of}
use Rattle.algorithm_flat.specs.Ops.{Clause}
use Rattle.algorithm_flat.specs.Moves.{clause_for}

module _ (fault : Exc) (clauses : List Clause) (at : ℕ) (clause : Clause) (inside : at < length clauses)
    (is : clause ≡ slice_index_or clauses at clause) where
  here : clause_for fault (drop at clauses) ≡ clause_for fault (clause ∷ drop (at + 1) clauses)
  here =
      ap (clause_for fault) (drop_more clauses at clause inside)
      ∙ ap (λ (first : Clause). clause_for fault (first ∷ drop (at + 1) clauses)) (sym is)

  pub first-clause : matches clause.kind (kind_of fault) ≡ true → Some clause ≡ clause_for fault (drop at clauses)
  first-clause taken =
      ap (λ b. cond b (Some clause) (clause_for fault (drop (at + 1) clauses))) (sym taken) ∙ sym here

  pub next-clause : matches clause.kind (kind_of fault) ≡ false →
      clause_for fault (drop at clauses) ≡ clause_for fault (drop (at + 1) clauses)
  next-clause passed = here ∙ ap (λ b. cond b (Some clause) (clause_for fault (drop (at + 1) clauses))) passed
