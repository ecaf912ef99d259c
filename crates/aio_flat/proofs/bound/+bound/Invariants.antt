use Rattle.std.proofs.Common.{◌≡◌, ◌+◌, ◌*◌, ◌++◌, take}
use Rattle.std.specs.Option.{option_copied}
use Rattle.model_tree.specs.Syntax.{statements, handlers}
use Rattle.model_says.specs.Variables.{names_of, names_of_handlers}
use Rattle.aio_program.specs.StatementSize.{statement_size, statement_list_size, branch_size, handler_list_size}
use Rattle.aio_program.specs.Target.{plain_branch}
use Rattle.aio_flat.proofs.bound.+bound.Given as goal

abbrev pub decreases-push_all : goal.decreases-push_all
decreases-push_all l = 2 * statement_list_size l.items.now

abbrev pub decreases-push_bound : goal.decreases-push_bound
decreases-push_bound l = 2 * statement_size l.statement.now

abbrev pub decreases-push_branch : goal.decreases-push_branch
decreases-push_branch l = 2 * branch_size (plain_branch (option_copied l.branch)) + 1

abbrev pub decreases-push_handlers : goal.decreases-push_handlers
decreases-push_handlers l = 2 * handler_list_size l.clauses.now

abbrev pub invariant-push_all-loop-item : goal.invariant-push_all-loop-item
invariant-push_all-loop-item l =
    l.names.items ≡ l.initial.names.items ++ names_of (statements (take l.item-index l.items))

abbrev pub invariant-push_handlers-loop-clause : goal.invariant-push_handlers-loop-clause
invariant-push_handlers-loop-clause l =
    l.names.items ≡ l.initial.names.items ++ names_of_handlers (handlers (take l.clause-index l.clauses))
