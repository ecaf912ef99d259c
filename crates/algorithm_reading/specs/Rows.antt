-- What stands between commas, read with what is too high left out: items, and the arguments of a call or a request.
-- Source: the Python language reference, "Expression lists" and "Calls".
use Rattle.std.specs.Prelude.{ℕ, List, [], ◌∷◌, Option, Some, None, take, drop, map, option_map, option_and_then}
use Rattle.model_tree.specs.Syntax.{Name}
use Rattle.model_text.specs.Words.{Lexeme}
use Rattle.model_text.specs.Levels.{Arguments, all_of, bare_name}
use Rattle.algorithm_reading.specs.Operands.{Operand, capped}
use Rattle.algorithm_reading.specs.Feeding.{read}

abbrev pub read_items : List (List Lexeme) → Option (List Operand)
read_items slots = all_of read slots

pub record OperandArguments : Type 0 where
  pub before : List Operand
  pub bare : Option Name
  pub after : List Operand

abbrev pub capped_arguments : Arguments → OperandArguments
capped_arguments arguments = record {
  before = map capped arguments.before;
  bare = arguments.bare;
  after = map capped arguments.after;
}

-- all arguments are values
abbrev pub only_values : List Operand → OperandArguments
only_values all = record { before = all; bare = None; after = [] }

abbrev pub around_bare : List Operand → Name → List Operand → OperandArguments
around_bare before name after = record { before = before; bare = Some name; after = after }

-- the arguments behind those before a bare name
abbrev pub read_from_bare : List Operand → List (List Lexeme) → Option OperandArguments
read_from_bare before [] = Some (only_values before)
read_from_bare before (slot ∷ slots) =
    option_and_then (λ name. option_map (around_bare before name) (read_items slots)) (bare_name slot)

-- Arguments between commas. Where the call wants a bare name at a place, the argument there is one name.
abbrev pub read_arguments : Option ℕ → List (List Lexeme) → Option OperandArguments
read_arguments None slots = option_map only_values (read_items slots)
read_arguments (Some place) slots =
    option_and_then (λ before. read_from_bare before (drop place slots)) (read_items (take place slots))
