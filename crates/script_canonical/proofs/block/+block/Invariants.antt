use Rattle.std.proofs.Common.{◌≡◌, ◌+◌, ◌*◌, ◌++◌, take}
use Rattle.std.specs.Option.{option_copied}
use Rattle.model_tree.specs.Syntax.{statements, handlers}
use Rattle.model_text.specs.Canonical.{statements_text, handlers_text}
use Rattle.aio_program.specs.StatementSize.{statement_size, statement_list_size, branch_size, handler_size, handler_list_size}
use Rattle.aio_program.specs.Target.{plain_branch}
use Rattle.script_canonical.proofs.block.+block.Given as goal

abbrev pub decreases-push_section : goal.decreases-push_section
decreases-push_section l = 3 * statement_list_size l.section.now + 1

abbrev pub decreases-push_statements : goal.decreases-push_statements
decreases-push_statements l = 3 * statement_list_size l.items.now

abbrev pub decreases-push_statement : goal.decreases-push_statement
decreases-push_statement l = 3 * statement_size l.statement.now + 1

abbrev pub decreases-push_sections : goal.decreases-push_sections
decreases-push_sections l = 3 * statement_size l.statement.now

abbrev pub decreases-push_branch : goal.decreases-push_branch
decreases-push_branch l = 3 * branch_size (plain_branch (option_copied l.branch)) + 2

abbrev pub decreases-push_handlers : goal.decreases-push_handlers
decreases-push_handlers l = 3 * handler_list_size l.clauses.now

abbrev pub decreases-push_handler : goal.decreases-push_handler
decreases-push_handler l = 3 * handler_size l.handler.now

abbrev pub invariant-push_statements-loop-item : goal.invariant-push_statements-loop-item
invariant-push_statements-loop-item l =
    l.out.items ≡ l.initial.out.items ++ statements_text (statements (take l.item-index l.items)) l.blocks

abbrev pub invariant-push_handlers-loop-clause : goal.invariant-push_handlers-loop-clause
invariant-push_handlers-loop-clause l =
    l.out.items ≡ l.initial.out.items ++ handlers_text (handlers (take l.clause-index l.clauses)) l.blocks
