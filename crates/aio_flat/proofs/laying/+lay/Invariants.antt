use Rattle.std.proofs.Common.{◌+◌, ◌*◌, take}
use Rattle.std.specs.Option.{option_copied}
use Rattle.model_tree.specs.Syntax.{statements, handlers}
use Rattle.algorithm_locals.specs.Numbered.{numbered_statements, numbered_handlers}
use Rattle.algorithm_flat.specs.Laid.{LaidAll, LaidHandlers}
use Rattle.aio_program.specs.StatementSize.{statement_size, statement_list_size, branch_size, handler_size, handler_list_size}
use Rattle.aio_program.specs.Target.{plain_branch}
use Rattle.aio_flat.specs.Built.{built, Lays}
use Rattle.aio_flat.specs.Grows.{Grows}
use Rattle.aio_flat.proofs.laying.+lay.Given as goal

abbrev pub decreases-lay_all : goal.decreases-lay_all
decreases-lay_all l = 4 * statement_list_size l.items.now

abbrev pub decreases-lay : goal.decreases-lay
decreases-lay l = 4 * statement_size l.statement.now + 2

abbrev pub decreases-lay_block : goal.decreases-lay_block
decreases-lay_block l = 4 * statement_size l.statement.now + 1

abbrev pub decreases-lay_if : goal.decreases-lay_if
decreases-lay_if l =
    4 * (1 + statement_list_size l.body.now + branch_size (plain_branch (option_copied l.otherwise)))

abbrev pub decreases-lay_else : goal.decreases-lay_else
decreases-lay_else l = 4 * branch_size (plain_branch (option_copied l.otherwise)) + 2

abbrev pub decreases-lay_while : goal.decreases-lay_while
decreases-lay_while l = 4 * (1 + statement_list_size l.body.now)

abbrev pub decreases-lay_try : goal.decreases-lay_try
decreases-lay_try l =
    4 * (1 + statement_list_size l.body.now + handler_list_size l.clauses.now + branch_size (plain_branch (option_copied l.finally)))

abbrev pub decreases-lay_with : goal.decreases-lay_with
decreases-lay_with l = 4 * (1 + statement_list_size l.body.now)

abbrev pub decreases-lay_branch : goal.decreases-lay_branch
decreases-lay_branch l = 4 * branch_size (plain_branch (option_copied l.branch)) + 1

abbrev pub decreases-lay_handlers : goal.decreases-lay_handlers
decreases-lay_handlers l = 4 * handler_list_size l.clauses.now

abbrev pub decreases-lay_clause : goal.decreases-lay_clause
decreases-lay_clause l = 4 * handler_size l.handler.now

abbrev pub invariant-lay_all-loop-item : goal.invariant-lay_all-loop-item
invariant-lay_all-loop-item l =
    Lays l.initial.builder l.builder (λ code. LaidAll l.places code (numbered_statements l.numbers (statements (take l.item-index l.items))))

abbrev pub invariant-lay_handlers-loop-clause : goal.invariant-lay_handlers-loop-clause
invariant-lay_handlers-loop-clause l =
    Grows (built l.initial.builder) (built l.builder)
    (λ code. LaidHandlers l.places code l.list.items (numbered_handlers l.numbers (handlers (take l.clause-index l.clauses))))
