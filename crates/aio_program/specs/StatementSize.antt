-- How many statements stand inside a statement: what falls in each recursion over statements.
use Rattle.std.specs.Prelude.{ℕ, ◌+◌, List}
use Rattle.model_tree.specs.Syntax.{Statement, If, While, Try, With, Statements, no_statements, statement_then, Branch, no_branch, branch, Handlers}
use Rattle.model_tree.specs.Syntax.{no_handlers, handler_then, Handler, statements, handlers}

abbrev mutual
  pub statement_size : Statement → ℕ
  statement_size (If test body otherwise) = 1 + statements_size body + branch_size otherwise
  statement_size (While test body) = 1 + statements_size body
  statement_size (Try body handlers finally) = 1 + statements_size body + handlers_size handlers + branch_size finally
  statement_size (With manager name body) = 1 + statements_size body
  statement_size _ = 0

  pub statements_size : Statements → ℕ
  statements_size no_statements = 0
  statements_size (statement_then first others) = 1 + statement_size first + statements_size others

  pub branch_size : Branch → ℕ
  branch_size no_branch = 0
  branch_size (branch body) = statements_size body

  pub handlers_size : Handlers → ℕ
  handlers_size no_handlers = 0
  handlers_size (handler_then kind name body others) = 2 + statements_size body + handlers_size others

-- a list is larger than each of its statements
abbrev pub statement_list_size : List Statement → ℕ
statement_list_size items = statements_size (statements items)

-- a clause is larger than its body
abbrev pub handler_size : Handler → ℕ
handler_size handler = 1 + statements_size handler.body

-- clauses are larger than each of them
abbrev pub handler_list_size : List Handler → ℕ
handler_list_size clauses = handlers_size (handlers clauses)
