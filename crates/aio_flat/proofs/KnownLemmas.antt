-- One name more, in a set and in a list; names of one statement more.
use Rattle.std.proofs.Common.{◌≡◌, ℕ, suc, zero, ◌<◌, Bool, true, false, cond, ◌||◌, List, [], ◌∷◌, ◌++◌, fold, option_to_list, length, slice_index_or}
use Rattle.std.proofs.Common.{append_assoc, arith, refl, ap, sym, ◌∙◌}
use Rattle.std.specs.Cmp.{decided}
use Rattle.std.specs.Cmp.Lexicographic.{slice_cmp}
use Rattle.std.specs.List.{list_any}
use Rattle.std.specs.Ordering.{nat_cmp}
use Rattle.std.specs.Str.{bytes_eq}
use Rattle.std.specs.BTreeSet as sorted
use denote.Ref.{Bor}
use Rattle.std.proofs.lemmas.List.{append-nil}
use Rattle.std.proofs.lemmas.List.Folds.{list_any-append}
use Rattle.std.proofs.lemmas.Map.Text.{is_eq-slice_cmp}
use Rattle.std.proofs.lemmas.Slice.Eq.{bytes_eq-Decides}
use Rattle.model_tree.specs.Syntax.{Name, Statement, Handler, statements, handlers}
use Rattle.model_says.specs.Variables.{names_bound, names_of, names_of_handlers, with_name}
use Rattle.aio_program.specs.StatementSize.{statement_size, statement_list_size, handler_size, handler_list_size}
use Rattle.aio_flat.specs.Known.{Knows}

bytes_eq-flip : (xs ys : List ℕ) → bytes_eq xs ys ≡ bytes_eq ys xs
bytes_eq-flip xs ys = (decided bytes_eq bytes_eq-Decides).symm xs ys

last-or : (e b : Bool) → cond e true b ≡ (b || (e || false))
last-or true true = refl
last-or true false = refl
last-or false true = refl
last-or false false = refl

pub Knows-insert : (old new : sorted.BTreeSet (Bor (List ℕ))) (key : Bor (List ℕ)) (names : List Name) →
    sorted.Updates (λ x y. slice_cmp nat_cmp x.now y.now) old new key true → Knows old names → Knows new (names ++ key.now ∷ [])
Knows-insert old new key names updates knows = λ name.
    let query : Bor (List ℕ) = record { ref_ptr = (0, 0); now = name } in
    let before = sorted.contains_by (λ (k : Bor (List ℕ)). slice_cmp nat_cmp name k.now) old in
    updates.0 query
    ∙ ap (λ e. cond e true before) (is_eq-slice_cmp key.now name ∙ bytes_eq-flip key.now name)
    ∙ ap (λ b. cond (bytes_eq name key.now) true b) (knows name)
    ∙ last-or (bytes_eq name key.now) (list_any (bytes_eq name) names)
    ∙ sym (list_any-append (bytes_eq name) names (key.now ∷ []))

-- a name that is known, or not
pub with_name-known : (names : List Name) (name : Name) → list_any (bytes_eq name) names ≡ true → names ≡ with_name names name
with_name-known names name known = ap (λ b. cond b names (names ++ name ∷ [])) (sym known)

pub with_name-new : (names : List Name) (name : Name) → list_any (bytes_eq name) names ≡ false →
    names ++ name ∷ [] ≡ with_name names name
with_name-new names name new = ap (λ b. cond b names (names ++ name ∷ [])) (sym new)

pub fold-more : {A B : Type 0} (f : B → A → B) (first : B) (xs : List A) (x : A) →
    fold f first (xs ++ x ∷ []) ≡ f (fold f first xs) x
fold-more f first [] x = refl
fold-more f first (y ∷ ys) x = fold-more f (f first y) ys x

-- ---- statements and clauses in order
pub names_of-push : (items : List Statement) (item : Statement) →
    names_of (statements (items ++ item ∷ [])) ≡ names_of (statements items) ++ names_bound item
names_of-push [] item = append-nil (names_bound item)
names_of-push (first ∷ items) item =
    ap (λ names. names_bound first ++ names) (names_of-push items item)
    ∙ sym (append_assoc (names_bound first) (names_of (statements items)) (names_bound item))

pub statement_size-item : (items : List Statement) (at : ℕ) (item : Statement) → at < length items →
    item ≡ slice_index_or items at item → statement_size item < statement_list_size items
statement_size-item [] at item inside is = absurd (omega arith)
statement_size-item (first ∷ items) zero item inside is = omega (arith, ap statement_size is)
statement_size-item (first ∷ items) (suc at) item inside is = omega (arith, statement_size-item items at item (omega arith) is)

pub handler_size-item : (clauses : List Handler) (at : ℕ) (clause : Handler) → at < length clauses →
    clause ≡ slice_index_or clauses at clause → handler_size clause < handler_list_size clauses
handler_size-item [] at clause inside is = absurd (omega arith)
handler_size-item (first ∷ clauses) zero clause inside is = omega (arith, ap handler_size is)
handler_size-item (first ∷ clauses) (suc at) clause inside is =
    omega (arith, handler_size-item clauses at clause (omega arith) is)

pub names_of_handlers-push : (clauses : List Handler) (clause : Handler) →
    names_of_handlers (handlers (clauses ++ clause ∷ []))
    ≡ names_of_handlers (handlers clauses) ++ (option_to_list clause.name ++ names_of clause.body)
names_of_handlers-push [] clause = append-nil (option_to_list clause.name ++ names_of clause.body)
names_of_handlers-push (first ∷ clauses) clause =
    ap (λ names. (option_to_list first.name ++ names_of first.body) ++ names) (names_of_handlers-push clauses clause)
    ∙ sym
    (append_assoc (option_to_list first.name ++ names_of first.body) (names_of_handlers (handlers clauses))
    (option_to_list clause.name ++ names_of clause.body))
