-- The program of a seed's script, as plain data.
use Rattle.std.specs.Prelude.{ℕ, pos, [], ◌∷◌, ◌++◌, Some, None, map, codes}
use Prim.Native.String.{String}
use Rattle.model_value.specs.declared.kind.Kind.TheVariants.{TimeoutError}
use Rattle.model_tree.specs.declared.operator.Operator.TheVariants.{Add}
use Rattle.model_tree.specs.declared.operator.Comparison.TheVariants.{Less}
use Rattle.model_tree.specs.declared.request_name.RequestName.TheVariants.{Sleep, Connect, ReadLine}
use Rattle.model_tree.specs.Syntax.{IntConstant, TextConstant, Expr, Compare, Calculate, Literal, Variable, exprs, Ask, CreateTask, GroupBlock, TimeoutBlock}
use Rattle.model_tree.specs.Syntax.{Statement, Assign, YieldFrom, Print, While, Try, With, statements, no_branch, Handler, handlers, Coroutine, Program}
use Rattle.model_work.specs.Work.{group_size, delay, numbers_from}

-- ---- expressions
abbrev pub variable : String → Expr
variable name = Variable (codes name)

abbrev pub number : ℕ → Expr
number value = Literal (IntConstant (pos value))

abbrev pub text : String → Expr
text value = Literal (TextConstant (codes value))

-- ---- a task of the group
abbrev pub sleeping : Statement
sleeping = With (TimeoutBlock (number 500)) (codes "o") (statements (YieldFrom None (Ask Sleep (exprs (variable "d" ∷ []))) ∷ []))

-- it prints its number and this
abbrev pub printing : String → Statement
printing outcome = Print (exprs (variable "i" ∷ text outcome ∷ []))

abbrev pub late : Handler
late = record { kind = TimeoutError; name = None; body = statements (printing "late" ∷ []) }

abbrev pub sleeper : Coroutine
sleeper = record {
  name = codes "w";
  parameters = codes "i" ∷ codes "d" ∷ [];
  body = statements (Try (statements (sleeping ∷ printing "slept" ∷ [])) (handlers (late ∷ [])) no_branch ∷ []);
}

-- ---- main
-- it makes this task, which sleeps so long
abbrev pub create : ℕ → ℕ → Statement
create delay task = YieldFrom None (CreateTask (variable "g") (codes "w") (exprs (number task ∷ number delay ∷ [])))

abbrev pub reading : Statement
reading =
    While (Compare Less (variable "n") (number 300))
    (statements (YieldFrom (Some (codes "b")) (Ask ReadLine (exprs (variable "c" ∷ []))) ∷ Assign (codes "n") (Calculate Add (variable "n") (number 1)) ∷ []))

-- the tasks are made, and then the lines are read
abbrev pub grouped : ℕ → Statement
grouped seed =
    With GroupBlock (codes "g")
    (statements (map (λ task. create (delay seed task) task) (numbers_from 1 (group_size seed)) ++ reading ∷ []))

abbrev pub main : ℕ → Coroutine
main seed = record {
  name = codes "main";
  parameters = [];
  body = statements (
      YieldFrom (Some (codes "c")) (Ask Connect (exprs (number 9 ∷ [])))
      ∷ Assign (codes "n") (number 0)
      ∷ grouped seed
      ∷ Print (exprs (variable "n" ∷ []))
      ∷ []
      );
}

abbrev pub program : ℕ → Program
program seed = record { profile = 1; coroutines = sleeper ∷ main seed ∷ [] }
