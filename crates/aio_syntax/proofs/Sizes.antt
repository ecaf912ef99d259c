-- Each expression of a list is smaller than the list.
use Rattle.std.proofs.Common.{◌≡◌, ℕ, zero, suc, ◌<◌, List, [], ◌∷◌, length, slice_index_or, ap, arith}
use Rattle.model_tree.specs.Syntax.{ExprOver}
use Rattle.aio_syntax.specs.ExprSize.{expr_size, expr_list_size}

pub expr_size-item : {V : Type 0} (items : List (ExprOver V)) (at : ℕ) (item : ExprOver V) → at < length items → item ≡ slice_index_or items at item
    → expr_size item < expr_list_size items
expr_size-item [] at item inside is = absurd (omega arith)
expr_size-item (first ∷ items) zero item inside is = omega (arith, ap expr_size is)
expr_size-item (first ∷ items) (suc at) item inside is = omega (arith, expr_size-item items at item (omega arith) is)
