-- Lists of expressions over numbers.
use Rattle.std.proofs.Common.{◌≡◌, List, [], ◌∷◌, map, refl, ap}
use Rattle.model_tree.specs.Syntax.{Name, Expr, Exprs, exprs, exprs_of, expr_then}
use Rattle.algorithm_locals.specs.Numbered.{numbered_expr, numbered_exprs}

pub numbered_list : (names : List Name) (items : List Expr) → exprs_of (numbered_exprs names (exprs items)) ≡ map (numbered_expr names) items
numbered_list names [] = refl
numbered_list names (first ∷ others) = ap (λ l. numbered_expr names first ∷ l) (numbered_list names others)

pub numbered_row : (names : List Name) (items : List Expr) → exprs (map (numbered_expr names) items) ≡ numbered_exprs names (exprs items)
numbered_row names [] = refl
numbered_row names (first ∷ others) = ap (λ (row : Exprs). expr_then (numbered_expr names first) row) (numbered_row names others)
