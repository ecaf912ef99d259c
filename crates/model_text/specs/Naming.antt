-- What the names of an expression and of a `yield from` mean in their coroutine: with the meaning, or the least cause why
-- there is none. A name without a meaning comes before a wrong number of arguments.
-- Source: the Python language reference, "Naming and binding", "Calls"; a script is refused where Python raises at the call.
use Rattle.std.specs.Prelude.{ℕ, Bool, ◌&&◌, not, List, [], ◌∷◌, length, Option, Some, None, Result, Ok, Err, find, nat_eq, if◌then◌else◌}
use Rattle.std.specs.List.{list_any}
use Rattle.std.specs.Str.{bytes_eq}
use Rattle.model_value.specs.declared.kind.Kind.{Kind}
use Rattle.model_tree.specs.declared.function.Function.{Function}
use Rattle.model_tree.specs.declared.request_name.RequestName.{RequestName}
use Rattle.model_tree.specs.Syntax as plain
use Rattle.model_tree.specs.Syntax.{Name, Expr, Exprs, exprs, Target}
use Rattle.model_tree.specs.Known.{function_of, error_text, request_of, request_arity, spawn_text, create_text, listen_text, kind_of_name, is_made_by_error}
use Rattle.model_tree.specs.Known.{is_taken}
use Rattle.model_text.specs.declared.cause.Cause.{Cause}
use Rattle.model_text.specs.declared.cause.Cause.TheVariants as cause
use Rattle.model_text.specs.Terms.{Term, Or, And, Not, Compare, Calculate, Negate, Index, Constantly, Variable, ListOf, Called, Terms, no_terms, term_then}
use Rattle.model_text.specs.Forms.{Goal, Awaited, Asked}

-- a coroutine of the script, by what a call must know of it
pub record Callee : Type 0 where
  pub name : Name
  pub parameters : ℕ

-- what names mean in a coroutine
pub record Scope : Type 0 where
  -- the coroutines of the script, in order
  pub callees : List Callee
  -- the names that the coroutine binds
  pub variables : List Name

-- a meaning, or the least cause why there is none: Name, or Arity
abbrev pub Meant : Type 0 → Type 0
Meant A = Result A Cause

abbrev pub lesser : Cause → Cause → Cause
lesser cause.Name other = cause.Name
lesser _ other = other

abbrev pub both : {A B C : Type 0} → (A → B → C) → Meant A → Meant B → Meant C
both f (Ok a) (Ok b) = Ok (f a b)
both f (Ok a) (Err cause) = Err cause
both f (Err cause) (Ok b) = Err cause
both f (Err cause) (Err other) = Err (lesser cause other)

abbrev pub meant_map : {A B : Type 0} → (A → B) → Meant A → Meant B
meant_map f (Ok a) = Ok (f a)
meant_map f (Err cause) = Err cause

-- the number of arguments is right, or Arity
abbrev pub if_arity : {A : Type 0} → Bool → A → Meant A
if_arity is_right meaning = if is_right then Ok meaning else Err cause.Arity

abbrev pub if_known : {A : Type 0} → Bool → A → Meant A
if_known is_known meaning = if is_known then Ok meaning else Err cause.Name

-- ---- expressions
abbrev pub is_variable : Scope → Name → Bool
is_variable scope name = list_any (bytes_eq name) scope.variables && not (is_taken name)

abbrev pub one_argument : (Expr → Expr) → Meant (List Expr) → Meant Expr
one_argument call (Ok (argument ∷ [])) = Ok (call argument)
one_argument call (Ok _) = Err cause.Arity
one_argument call (Err cause) = Err cause

-- so many arguments
abbrev pub counted : {A : Type 0} → ℕ → (List Expr → A) → Meant (List Expr) → Meant A
counted count meaning (Ok all) = if_arity (nat_eq (length all) count) (meaning all)
counted count meaning (Err cause) = Err cause

-- too few arguments
abbrev pub missing : {A : Type 0} → Meant (List Expr) → Meant A
missing (Ok all) = Err cause.Arity
missing (Err cause) = Err cause

-- `error(KIND, t)`, by its kind and the arguments behind it
abbrev pub error_of : Option Kind → Meant (List Expr) → Meant Expr
error_of None arguments = Err cause.Name
error_of (Some kind) arguments =
    if is_made_by_error kind then one_argument (plain.MakeError kind) arguments else Err cause.Name

abbrev pub error_call : Option Name → Meant (List Expr) → Meant Expr
error_call None arguments = Err cause.Arity
error_call (Some kind) arguments = error_of (kind_of_name kind) arguments

-- A call of a function by its name, with the arguments before and behind a kind.
abbrev pub function_call : Name → Option Function → Meant (List Expr) → Option Name → Meant (List Expr) → Meant Expr
function_call name (Some function) before bare after = one_argument (plain.Apply function) before
function_call name None before bare after =
    if bytes_eq name error_text then error_call bare after else Err cause.Name

module _ (scope : Scope) where
  abbrev mutual
    pub meaning_of : Term → Meant Expr
    meaning_of (Or left right) = both plain.Or (meaning_of left) (meaning_of right)
    meaning_of (And left right) = both plain.And (meaning_of left) (meaning_of right)
    meaning_of (Not operand) = meant_map plain.Not (meaning_of operand)
    meaning_of (Compare comparison left right) = both (plain.Compare comparison) (meaning_of left) (meaning_of right)
    meaning_of (Calculate operator left right) = both (plain.Calculate operator) (meaning_of left) (meaning_of right)
    meaning_of (Negate operand) = meant_map plain.Negate (meaning_of operand)
    meaning_of (Index sequence index) = both plain.Index (meaning_of sequence) (meaning_of index)
    meaning_of (Constantly constant) = Ok (plain.Literal constant)
    meaning_of (Variable name) = if_known (is_variable scope name) (plain.Variable name)
    meaning_of (ListOf items) = meant_map (λ all. plain.ListOf (exprs all)) (meanings_of items)
    meaning_of (Called name before bare after) =
        function_call name (function_of name) (meanings_of before) bare (meanings_of after)

    pub meanings_of : Terms → Meant (List Expr)
    meanings_of no_terms = Ok []
    meanings_of (term_then first others) = both (λ x xs. x ∷ xs) (meaning_of first) (meanings_of others)

  abbrev pub all_meant : List Term → Meant (List Expr)
  all_meant [] = Ok []
  all_meant (first ∷ others) = both (λ x xs. x ∷ xs) (meaning_of first) (all_meant others)

  -- ---- `yield from`
  -- the first coroutine of this name
  abbrev pub callee_of : Name → Option Callee
  callee_of name = if is_taken name then None else find (λ callee. bytes_eq callee.name name) scope.callees

  -- arguments for a coroutine, as many as it has parameters
  abbrev pub passed : Option Callee → (Exprs → Target) → Meant (List Expr) → Meant Target
  passed None target arguments = Err cause.Name
  passed (Some callee) target arguments = counted callee.parameters (λ all. target (exprs all)) arguments

  abbrev pub request_target : RequestName → Meant (List Expr) → Meant Target
  request_target request arguments =
      counted (request_arity request) (λ all. plain.Ask request (exprs all)) arguments

  -- `spawn(NAME, ..)`
  abbrev pub spawn_target : Option Name → Meant (List Expr) → Meant Target
  spawn_target None arguments = Err cause.Arity
  spawn_target (Some name) arguments = passed (callee_of name) (plain.SpawnTask name) arguments

  -- `create(g, NAME, ..)`
  abbrev pub create_by : Option Callee → Name → Meant (List Expr) → Meant (List Expr) → Meant Target
  create_by None name before after = Err cause.Name
  create_by (Some callee) name before after =
      both (λ group arguments. plain.CreateTask group name (exprs arguments)) (one_argument (λ group. group) before)
      (counted callee.parameters (λ all. all) after)

  abbrev pub create_target : Meant (List Expr) → Option Name → Meant (List Expr) → Meant Target
  create_target before None after = missing before
  create_target before (Some name) after = create_by (callee_of name) name before after

  -- `listen(n, NAME)`, whose handler has one parameter
  abbrev pub listen_by : Option Callee → Name → Meant (List Expr) → Meant (List Expr) → Meant Target
  listen_by None name before after = Err cause.Name
  listen_by (Some callee) name before after =
      both plain.ListenAt (one_argument (λ port. port) before)
      (both (λ none handler. handler) (counted 0 (λ all. all) after) (if_arity (nat_eq callee.parameters 1) name))

  abbrev pub listen_target : Meant (List Expr) → Option Name → Meant (List Expr) → Meant Target
  listen_target before None after = missing before
  listen_target before (Some name) after = listen_by (callee_of name) name before after

  -- A request, or else a coroutine of the script.
  abbrev pub called_target : Name → Option RequestName → Meant (List Expr) → Option Name → Meant (List Expr) → Meant Target
  called_target name (Some request) before bare after = request_target request before
  called_target name None before bare after =
      if bytes_eq name spawn_text then spawn_target bare after
      else (if bytes_eq name create_text then create_target before bare after
      else (if bytes_eq name listen_text then listen_target before bare after
      else passed (callee_of name) (plain.Call name) before))

  abbrev pub target_of : Goal → Meant Target
  target_of (Awaited name) = if_known (is_variable scope name) (plain.Await name)
  target_of (Asked name arguments) =
      called_target name (request_of name) (all_meant arguments.before) arguments.bare (all_meant arguments.after)
