-- Code as it is laid, statement by statement. Its variables come last.
use Rattle.std.specs.Prelude.{◌≡◌, ℕ, ◌+◌, List, [], length, Option, Some, None}
use Rattle.model_tree.specs.Syntax.{Name, exprs_of, Statement, Assign, Yield, YieldFrom, Print, Raise, Return, Pass, Branch, Handler, Program}
use Rattle.algorithm_flat.specs.declared.op.Op.TheVariants as op
use Rattle.algorithm_flat.specs.Ops.{Op, Clause, CoroutineCode, Has}
use Rattle.algorithm_flat.specs.Laid.{target_op, LaidAll, LaidBranch}
use Rattle.algorithm_locals.specs.Numbered.{numbered_option, numbered_statements}
use Rattle.aio_flat.specs.declared.builder.BodyBuilder.{BodyBuilder}
use Rattle.aio_flat.specs.Grows.{Grows}

abbrev pub built : BodyBuilder → CoroutineCode
built builder = record { ops = builder.ops.items; ranges = builder.ranges.items; variables = [] }

-- what was laid stands from where the builder was up to where it is
abbrev pub Lays : BodyBuilder → BodyBuilder → (CoroutineCode → ℕ → ℕ → Type 0) → Type 0
Lays old new Laid =
    Grows (built old) (built new) (λ code. Laid code (length old.ops.items) (length new.ops.items))

-- the operation of a statement that is a single one
abbrev pub single_op : Program → Statement → Option Op
single_op program (Assign name value) = Some (op.Assign name value)
single_op program Yield = Some op.Pause
single_op program (YieldFrom into target) = Some (target_op program into target)
single_op program (Print items) = Some (op.Print (exprs_of items))
single_op program (Raise fault) = Some (op.Raise fault)
single_op program (Return value) = Some (op.Return value)
single_op program Pass = Some op.Pass
single_op program _ = None

-- a clause whose variables go by their numbers
abbrev pub numbered_handler : List Name → Handler → Handler
numbered_handler names handler = record {
  kind = handler.kind;
  name = numbered_option names handler.name;
  body = numbered_statements names handler.body;
}

module _ (program : Program) (code : CoroutineCode) where
  -- a jump past an `else`, and the `else`
  abbrev pub LaidElse : Branch → ℕ → ℕ → Type 0
  LaidElse otherwise from to = Has code from (op.Jump to) × LaidBranch program code otherwise (from + 1) to

  -- a clause with its body somewhere
  abbrev pub LaidClause : Clause → Handler → Type 0
  LaidClause clause handler =
      (last : ℕ) × (clause.kind ≡ handler.kind) × (clause.name ≡ handler.name)
      × LaidAll program code handler.body clause.at last × Has code last op.Leave
