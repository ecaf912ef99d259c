-- The statement that a case, with the parts that it lends, stands for.
use Rattle.std.specs.Option.{option_copied}
use Rattle.std.specs.Rc.{rc_str_bytes}
use Rattle.model_tree.specs.Syntax.{Statement, Assign, Yield, YieldFrom, Print, Raise, Return, Pass, If, While, Try, With, exprs, statements, handlers}
use Rattle.aio_program.specs.declared.statement.StatementCase.{StatementCase}
use Rattle.aio_program.specs.declared.statement.StatementCase.TheVariants as case
use Rattle.aio_program.specs.Target.{plain_name, plain_target, plain_manager, plain_branch}

abbrev pub statement_of_case : StatementCase → Statement
statement_of_case (case.Assign name value) = Assign (rc_str_bytes name.now) value.now
statement_of_case case.Yield = Yield
statement_of_case (case.YieldFrom into target) = YieldFrom (plain_name (option_copied into)) (plain_target target.now)
statement_of_case (case.Print items) = Print (exprs items.now)
statement_of_case (case.Raise fault) = Raise fault.now
statement_of_case (case.Return value) = Return (option_copied value)
statement_of_case case.Pass = Pass
statement_of_case (case.If test body otherwise) = If test.now (statements body.now) (plain_branch (option_copied otherwise))
statement_of_case (case.While test body) = While test.now (statements body.now)
statement_of_case (case.Try body clauses finally) =
    Try (statements body.now) (handlers clauses.now) (plain_branch (option_copied finally))
statement_of_case (case.With manager name body) = With (plain_manager manager.now) (rc_str_bytes name.now) (statements body.now)
