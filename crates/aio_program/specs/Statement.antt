-- How a statement of the code is seen as plain data.
use Rattle.std.specs.Rc.{rc_str_bytes}
use Rattle.model_tree.specs.Syntax.{Statement, Assign, Yield, YieldFrom, Print, Raise, Return, Pass, If, While, Try, With, exprs, statements, handlers}
use Rattle.aio_program.specs.declared.statement.StatementNode.{StatementNode}
use Rattle.aio_program.specs.declared.statement.StatementNode.TheVariants as node
use Rattle.aio_program.specs.Target.{plain_name, plain_target, plain_manager, plain_branch}

abbrev pub statement_of : StatementNode → Statement
statement_of (node.Assign name value) = Assign (rc_str_bytes name) value
statement_of node.Yield = Yield
statement_of (node.YieldFrom into target) = YieldFrom (plain_name into) (plain_target target)
statement_of (node.Print items) = Print (exprs items)
statement_of (node.Raise fault) = Raise fault
statement_of (node.Return value) = Return value
statement_of node.Pass = Pass
statement_of (node.If test body otherwise) = If test (statements body) (plain_branch otherwise)
statement_of (node.While test body) = While test (statements body)
statement_of (node.Try body clauses finally) = Try (statements body) (handlers clauses.items) (plain_branch finally)
statement_of (node.With manager name body) = With (plain_manager manager) (rc_str_bytes name) (statements body)
