-- The variables of a coroutine and what they hold.
-- Source: the language reference, "Naming and binding": a name that a body binds anywhere is the coroutine's own.
use Rattle.std.specs.Prelude.{List, [], ◌∷◌, ◌++◌, option_to_list, fold, if◌then◌else◌}
use Rattle.std.specs.List.{list_any}
use Rattle.std.specs.Str.{bytes_eq}
use Rattle.model_value.specs.Value.{Value, Nothing}
use Rattle.model_tree.specs.Syntax.{Name, Statement, Assign, YieldFrom, If, While, Try, With, Statements, no_statements, statement_then, Branch, no_branch}
use Rattle.model_tree.specs.Syntax.{branch, Handlers, no_handlers, handler_then, Coroutine}

-- the names that statements bind, in order of their places
abbrev mutual
  pub names_bound : Statement → List Name
  names_bound (Assign name value) = name ∷ []
  names_bound (YieldFrom into target) = option_to_list into
  names_bound (If test body otherwise) = names_of body ++ names_of_branch otherwise
  names_bound (While test body) = names_of body
  names_bound (Try body handlers finally) = names_of body ++ names_of_handlers handlers ++ names_of_branch finally
  names_bound (With manager name body) = name ∷ names_of body
  names_bound _ = []

  pub names_of : Statements → List Name
  names_of no_statements = []
  names_of (statement_then first others) = names_bound first ++ names_of others

  pub names_of_branch : Branch → List Name
  names_of_branch no_branch = []
  names_of_branch (branch body) = names_of body

  pub names_of_handlers : Handlers → List Name
  names_of_handlers no_handlers = []
  names_of_handlers (handler_then kind name body others) = option_to_list name ++ names_of body ++ names_of_handlers others

abbrev pub with_name : List Name → Name → List Name
with_name names name = if list_any (bytes_eq name) names then names else names ++ name ∷ []

-- the parameters, and then the other names, each once
abbrev pub variables_of : Coroutine → List Name
variables_of coroutine = fold with_name coroutine.parameters (names_of coroutine.body)

-- a variable with its value
pub record Binding : Type 0 where
  pub name : Name
  pub value : Value

-- the variables of a coroutine that runs
abbrev pub Env : Type 0
Env = List Binding

-- Variables get the values in order. Those that are left hold None, as long as nothing was assigned to them.
abbrev pub bound : List Name → List Value → Env
bound [] values = []
bound (name ∷ names) [] = record { name = name; value = Nothing } ∷ bound names []
bound (name ∷ names) (value ∷ values) = record { name = name; value = value } ∷ bound names values

-- the variables as a call of the coroutine begins
abbrev pub entered : Coroutine → List Value → Env
entered coroutine arguments = bound (variables_of coroutine) arguments

abbrev pub held : Env → Name → Value
held [] name = Nothing
held (binding ∷ bindings) name = if bytes_eq binding.name name then binding.value else held bindings name

abbrev pub assigned : Name → Value → Env → Env
assigned name value [] = []
assigned name value (binding ∷ bindings) =
    if bytes_eq binding.name name then record binding { value = value } ∷ bindings
    else binding ∷ assigned name value bindings
