-- The clauses of a `try`, and what is left of an iterator without an item.
use Rattle.std.proofs.Common.{◌≡◌, List, [], ◌∷◌, ◌++◌, length, refl, ap, arith}
use Rattle.model_tree.specs.Syntax.{Try, statements, Handlers, no_handlers, handler_then, Handler, handlers, Branch, no_branch, branch}
use Rattle.aio_program.specs.declared.block.OpenTry.{OpenTry}
use Rattle.aio_program.specs.Target.{plain_branch}
use Rattle.aio_program.specs.Block.{handlers_before, first_branch, try_with}

pub handlers_before-append : (first : List Handler) (next : Handler) (others : Handlers) → handlers_before (first ++ next ∷ []) others
    ≡ handlers_before first (handler_then next.kind next.name next.body others)
handlers_before-append [] next others = refl
handlers_before-append (h ∷ first) next others = ap (handler_then h.kind h.name h.body) (handlers_before-append first next others)

pub handlers_before-nothing : (first : List Handler) → handlers_before first no_handlers ≡ handlers first
handlers_before-nothing [] = refl
handlers_before-nothing (h ∷ first) = ap (handler_then h.kind h.name h.body) (handlers_before-nothing first)

pub first_branch-nothing : (first : Branch) → first_branch first no_branch ≡ first
first_branch-nothing no_branch = refl
first_branch-nothing (branch body) = refl

pub nothing_left : {X : Type 0} (l : List X) → length l ≡ 0 → l ≡ []
nothing_left [] h = refl
nothing_left (x ∷ xs) h = absurd (omega arith)

pub try_with-nothing : (begun : OpenTry) → try_with begun [] ≡ Try (statements begun.body) (handlers begun.handlers.items) (plain_branch begun.finally)
try_with-nothing begun =
    λ i. Try (statements begun.body) (handlers_before-nothing begun.handlers.items i) (first_branch-nothing (plain_branch begun.finally) i)
