-- The text of a row with one more item: what stands between, and then that one. Each item is smaller than its row.
use Rattle.std.proofs.Common.{◌≡◌, ℕ, zero, suc, ◌<◌, refl, ap, sym, ◌∙◌, List, [], ◌∷◌, ◌++◌, map, length, append_assoc, arith}
use Rattle.std.specs.Prelude.{slice_index_or}
use Rattle.std.proofs.lemmas.List.{append-nil}
use Rattle.std.specs.List.{repeat}
use lib.Chars.{codes}
use Rattle.model_tree.specs.Syntax.{Name, Expr, exprs, Statement, statements, Handler, handlers, Coroutine}
use Rattle.model_text.specs.Canonical.{expr_text, exprs_text, more_text, statement_text, statements_text, handlers_text, more_names, names_text, coroutine_text}
use Rattle.model_text.specs.Canonical.{coroutines_text}
use Rattle.law_value.proofs.Joined.{separator}
use Rattle.aio_program.specs.StatementSize.{statement_size, statement_list_size, handler_size, handler_list_size}

-- ---- texts
pub more_text-push : (es : List Expr) (e : Expr) → more_text (exprs (es ++ e ∷ [])) ≡ more_text (exprs es) ++ (codes ", " ++ expr_text e)
more_text-push [] e = ap (λ r. codes ", " ++ r) (append-nil (expr_text e))
more_text-push (f ∷ es) e = simp (more_text-push es e, append_assoc)

pub exprs_text-push : (es : List Expr) (e : Expr) → exprs_text (exprs (es ++ e ∷ [])) ≡ exprs_text (exprs es) ++ (separator es ++ expr_text e)
exprs_text-push [] e = append-nil (expr_text e)
exprs_text-push (f ∷ es) e = simp (more_text-push es e, append_assoc)

pub statements_text-push : (ss : List Statement) (s : Statement) (blocks : ℕ) → statements_text (statements (ss ++ s ∷ [])) blocks
    ≡ statements_text (statements ss) blocks ++ statement_text s blocks
statements_text-push [] s blocks = append-nil (statement_text s blocks)
statements_text-push (r ∷ ss) s blocks = simp (statements_text-push ss s blocks, append_assoc)

pub handlers_text-push : (hs : List Handler) (h : Handler) (blocks : ℕ) → handlers_text (handlers (hs ++ h ∷ [])) blocks ≡ handlers_text (handlers hs) blocks
    ++ handlers_text (handlers (h ∷ [])) blocks
handlers_text-push [] h blocks = refl
handlers_text-push (g ∷ hs) h blocks = simp (handlers_text-push hs h blocks, append_assoc)

more_names-push : {A : Type 0} (f : A → Name) (xs : List A) (x : A) → more_names (map f (xs ++ x ∷ [])) ≡ more_names (map f xs) ++ (codes ", " ++ f x)
more_names-push f [] x = ap (λ r. codes ", " ++ r) (append-nil (f x))
more_names-push f (y ∷ xs) x = simp (more_names-push f xs x, append_assoc)

pub names_text-push : {A : Type 0} (f : A → Name) (xs : List A) (x : A) → names_text (map f (xs ++ x ∷ [])) ≡ names_text (map f xs) ++ (separator xs ++ f x)
names_text-push f [] x = append-nil (f x)
names_text-push f (y ∷ xs) x = simp (more_names-push f xs x, append_assoc)

pub coroutines_text-push : (cs : List Coroutine) (c : Coroutine) → coroutines_text (cs ++ c ∷ []) ≡ coroutines_text cs ++ coroutine_text c
coroutines_text-push [] c = append-nil (coroutine_text c)
coroutines_text-push (d ∷ cs) c =
    ap (λ r. coroutine_text d ++ r) (coroutines_text-push cs c)
    ∙ sym (append_assoc (coroutine_text d) (coroutines_text cs) (coroutine_text c))

pub repeat-push : {A : Type 0} (n : ℕ) (xs : List A) → repeat (suc n) xs ≡ repeat n xs ++ xs
repeat-push zero xs = append-nil xs
repeat-push (suc n) xs = ap (λ r. xs ++ r) (repeat-push n xs) ∙ sym (append_assoc xs (repeat n xs) xs)

-- ---- sizes
pub statement_size-item : (ss : List Statement) (i : ℕ) (s : Statement) → i < length ss → s ≡ slice_index_or ss i s → statement_size s < statement_list_size ss
statement_size-item [] i s h is = absurd (omega arith)
statement_size-item (r ∷ ss) zero s h is = omega (arith, ap statement_size is)
statement_size-item (r ∷ ss) (suc i) s h is = omega (arith, statement_size-item ss i s (omega arith) is)

pub handler_size-item : (hs : List Handler) (i : ℕ) (h : Handler) → i < length hs → h ≡ slice_index_or hs i h → handler_size h < handler_list_size hs
handler_size-item [] i h inside is = absurd (omega arith)
handler_size-item (g ∷ hs) zero h inside is = omega (arith, ap handler_size is)
handler_size-item (g ∷ hs) (suc i) h inside is = omega (arith, handler_size-item hs i h (omega arith) is)
