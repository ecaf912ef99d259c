-- The tokens of rows, of names and of targets are read as these.
use Rattle.std.proofs.Common.{◌≡◌, ℕ, Bool, true, false, List, [], ◌∷◌, ◌++◌, map, Option, Some, None, refl, sym, ap, ◌∙◌}
use Rattle.std.specs.Prelude.{option_and_then, option_map}
use Rattle.std.specs.Str.{bytes_eq}
use Rattle.std.proofs.lemmas.Slice.Eq.{bytes_eq-Decides}
use Rattle.model_tree.specs.declared.request_name.RequestName.{RequestName}
use Rattle.model_tree.specs.declared.request_name.RequestName.TheVariants as request
use Rattle.model_tree.specs.Syntax.{Name, Expr, Exprs, no_exprs, expr_then, Target, Await, Call, Ask, SpawnTask, CreateTask, ListenAt}
use Rattle.model_tree.specs.Known.{request_text, spawn_text, create_text, listen_text, is_taken}
use Rattle.model_text.specs.declared.symbol.Symbol.TheVariants as symbol
use Rattle.model_text.specs.Words.{Lexeme, Named, Sign}
use Rattle.model_text.specs.Cutting.{Pieces, pieces_from, parts}
use Rattle.model_text.specs.Terms.{Term}
use Rattle.model_text.specs.Levels.{all_of, bare_name, Arguments, with_bare, from_bare, arguments_of, term_of}
use Rattle.model_text.specs.Forms.{Asked, coroutine_place, goal_of}
use Rattle.law_lines.specs.Lexemes.{within_parentheses, expr_lexemes, exprs_lexemes, more_lexemes, term_from}
use Rattle.law_lines.proofs.Shapes.{before-last}
use Rattle.law_lines.proofs.Read.{at_comma}
use Rattle.law_lines.proofs.Facts.{groups, front-pieces, parts-front, facts, mores, expression-read}
use Rattle.law_lines.specs.LineTexts.{more_named, named, target_lexemes, row_from, arguments_from, goal_from}
use Rattle.law_lines.specs.WellWritten.{WellWrittenTarget}

-- ---- rows
abbrev pub slots : Exprs → List (List Lexeme)
slots row = map (λ other. other.1) (groups row)

read-then : (first : Expr) (others : List (List Lexeme)) (ts : List Term) → all_of term_of others ≡ Some ts → all_of term_of (expr_lexemes first ∷ others)
    ≡ Some (term_from first ∷ ts)
read-then first others ts e =
    ap (option_and_then (λ y. option_map (λ ys. y ∷ ys) (all_of term_of others))) (expression-read first) ∙ ap (option_map (λ ys. term_from first ∷ ys)) e

slots-read : (row : Exprs) → all_of term_of (slots row) ≡ Some (row_from row)
slots-read no_exprs = refl
slots-read (expr_then first others) = read-then first (slots others) (row_from others) (slots-read others)

-- what stands between commas behind an expression
front-parts : (first : Expr) (others : List Lexeme) (cut : List (Lexeme × List Lexeme)) → pieces_from at_comma 0 true others
    ≡ (let c : Pieces Lexeme = record { first = []; others = cut } in c) → parts (expr_lexemes first ++ others) ≡ expr_lexemes first
    ∷ map (λ other. other.1) cut
front-parts first others cut e =
    let shape = (facts first).shape in
    parts-front shape.first (shape.others ++ others) (expr_lexemes first ++ others) (ap (λ l. l ++ others) shape.split)
    ∙ ap (λ (c : Pieces Lexeme). c.first ∷ map (λ other. other.1) c.others) (front-pieces (expr_lexemes first) others cut shape e)

pub row-read : (row : Exprs) → all_of term_of (parts (exprs_lexemes row)) ≡ Some (row_from row)
row-read no_exprs = refl
row-read (expr_then first others) =
    ap (all_of term_of) (front-parts first (more_lexemes others) (groups others) (mores others).cuts) ∙ slots-read (expr_then first others)

-- ---- names
abbrev name_groups : List Name → List (Lexeme × List Lexeme)
name_groups [] = []
name_groups (name ∷ names) = (Sign symbol.Comma, Named name ∷ []) ∷ name_groups names

names-cut : (names : List Name) → pieces_from at_comma 0 true (more_named names)
    ≡ (let c : Pieces Lexeme = record { first = []; others = name_groups names } in c)
names-cut [] = refl
names-cut (name ∷ names) =
    ap (λ (c : Pieces Lexeme). let p : Pieces Lexeme = record { first = []; others = (Sign symbol.Comma, Named name ∷ c.first) ∷ c.others } in p)
    (names-cut names)

name-slots : (names : List Name) → all_of bare_name (map (λ other. other.1) (name_groups names)) ≡ Some names
name-slots [] = refl
name-slots (name ∷ names) = ap (option_map (λ ys. name ∷ ys)) (name-slots names)

pub names-read : (names : List Name) → all_of bare_name (parts (named names)) ≡ Some names
names-read [] = refl
names-read (name ∷ names) =
    ap (λ (c : Pieces Lexeme). all_of bare_name ((Named name ∷ c.first) ∷ map (λ other. other.1) c.others)) (names-cut names) ∙ name-slots (name ∷ names)

-- ---- arguments
all-arguments : (row : Exprs) → arguments_of term_of None (parts (exprs_lexemes row)) ≡ Some (arguments_from (row_from row) None [])
all-arguments row = ap (option_map (λ all. arguments_from all None [])) (row-read row)

-- a bare name, and arguments behind it
named-parts : (name : Name) (row : Exprs) → parts (Named name ∷ more_lexemes row) ≡ (Named name ∷ []) ∷ slots row
named-parts name row =
    ap (λ (c : Pieces Lexeme). (Named name ∷ c.first) ∷ map (λ other. other.1) c.others) (mores row).cuts

bare-arguments : (before : List Term) (name : Name) (row : Exprs) → from_bare term_of before ((Named name ∷ []) ∷ slots row)
    ≡ Some (arguments_from before (Some name) (row_from row))
bare-arguments before name row = ap (option_map (with_bare before name)) (slots-read row)

first-bare : (name : Name) (row : Exprs) → arguments_of term_of (Some 0) (parts (Named name ∷ more_lexemes row))
    ≡ Some (arguments_from [] (Some name) (row_from row))
first-bare name row = ap (arguments_of term_of (Some 0)) (named-parts name row) ∙ bare-arguments [] name row

-- an argument, a bare name, and arguments behind it
bare-cut : (name : Name) (row : Exprs) → pieces_from at_comma 0 true (Sign symbol.Comma ∷ Named name ∷ more_lexemes row)
    ≡ (let c : Pieces Lexeme = record { first = []; others = (Sign symbol.Comma, Named name ∷ []) ∷ groups row } in c)
bare-cut name row =
    ap (λ (c : Pieces Lexeme). let p : Pieces Lexeme = record { first = []; others = (Sign symbol.Comma, Named name ∷ c.first) ∷ c.others } in p)
    (mores row).cuts

second-bare : (first : Expr) (name : Name) (row : Exprs)
    → arguments_of term_of (Some 1) (parts (expr_lexemes first ++ Sign symbol.Comma ∷ Named name ∷ more_lexemes row))
    ≡ Some (arguments_from (term_from first ∷ []) (Some name) (row_from row))
second-bare first name row =
    ap (arguments_of term_of (Some 1))
    (front-parts first (Sign symbol.Comma ∷ Named name ∷ more_lexemes row) ((Sign symbol.Comma, Named name ∷ []) ∷ groups row) (bare-cut name row))
    ∙ (ap (option_and_then (λ before. from_bare term_of before ((Named name ∷ []) ∷ slots row))) (read-then first [] [] refl)
    ∙ bare-arguments (term_from first ∷ []) name row)

-- ---- targets
-- a name that the language hasn't for itself is none of its own
not-same : (name text : Name) → is_taken text ≡ true → is_taken name ≡ false → (same : Bool) → bytes_eq name text ≡ same → same ≡ false
not-same name text t f true e =
    let named : name ≡ text = (bytes_eq-Decides name text).0 e in
    sym t ∙ (ap is_taken (sym named) ∙ f)
not-same name text t f false e = refl

untaken : (name text : Name) → is_taken text ≡ true → is_taken name ≡ false → bytes_eq name text ≡ false
untaken name text t f = not-same name text t f (bytes_eq name text) refl

no-place : (name : Name) → is_taken name ≡ false → coroutine_place name ≡ None
no-place name f =
    let s = untaken name spawn_text refl f in
    let c = untaken name create_text refl f in
    let l = untaken name listen_text refl f in
    rw (s, c, l) refl

pub request-place : (r : RequestName) → coroutine_place (request_text r) ≡ None
request-place request.MakeFuture = refl
request-place _ = refl

asked : (name : Name) (place : Option ℕ) (inner : List Lexeme) (arguments : Arguments) → coroutine_place name ≡ place → arguments_of term_of place (parts inner)
    ≡ Some arguments → goal_of (Named name ∷ within_parentheses inner) ≡ Some (Asked name arguments)
asked name place inner arguments p e =
    ap (option_and_then (λ found. option_map (Asked name) (arguments_of term_of (coroutine_place name) (parts found))))
    (before-last symbol.RightParenthesis (Sign symbol.RightParenthesis) inner refl)
    ∙ (ap (λ found. option_map (Asked name) (arguments_of term_of found (parts inner))) p ∙ ap (option_map (Asked name)) e)

pub target-read : (target : Target) → WellWrittenTarget target → goal_of (target_lexemes target) ≡ Some (goal_from target)
target-read (Await name) w = refl
target-read (Call coroutine arguments) w =
    asked coroutine None (exprs_lexemes arguments) (arguments_from (row_from arguments) None []) (no-place coroutine w.1) (all-arguments arguments)
target-read (Ask request arguments) w =
    asked (request_text request) None (exprs_lexemes arguments) (arguments_from (row_from arguments) None []) (request-place request) (all-arguments arguments)
target-read (SpawnTask coroutine arguments) w =
    asked spawn_text (Some 0) (Named coroutine ∷ more_lexemes arguments) (arguments_from [] (Some coroutine) (row_from arguments)) refl
    (first-bare coroutine arguments)
target-read (CreateTask group coroutine arguments) w =
    asked create_text (Some 1) (expr_lexemes group ++ Sign symbol.Comma ∷ Named coroutine ∷ more_lexemes arguments)
    (arguments_from (term_from group ∷ []) (Some coroutine) (row_from arguments)) refl (second-bare group coroutine arguments)
target-read (ListenAt port handler) w =
    asked listen_text (Some 1) (expr_lexemes port ++ Sign symbol.Comma ∷ Named handler ∷ []) (arguments_from (term_from port ∷ []) (Some handler) []) refl
    (second-bare port handler no_exprs)
