-- The parts of a statement are smaller than it, each statement of a list is smaller than the list, and a body than its clause.
use Rattle.std.specs.Prelude.{◌+◌, ◌≤◌, max, List, [], ◌∷◌, Option, Some, None}
use Rattle.std.proofs.Common.{arith}
use denote.Param.Weighed.{most}
use Rattle.std.specs.declared.rc.RcStr.{RcStr}
use Rattle.std.specs.declared.alloc.Global.{Global}
use Rattle.model_value.specs.declared.kind.Kind.{Kind}
use Rattle.model_tree.specs.Syntax.{Statement, Handler}
use Rattle.aio_program.specs.StatementSize.{statement_size, statement_list_size, handler_size, handler_list_size}
use Rattle.aio_program.specs.declared.statement.StatementNode.{StatementNode}
use Rattle.aio_program.specs.declared.statement.StatementNode.TheVariants as node
use Rattle.aio_program.specs.declared.statement.Handler.TheDeep.{deep-StatementNode, deep-Handler}
use Rattle.aio_program.specs.Statement.{statement_of}

pub items_fall : (items : List Statement) → max (most (λ s. statement_size s + 1) items) 0 ≤ statement_list_size items
items_fall [] = omega arith
items_fall (s ∷ ss) = omega (arith, items_fall ss)

clauses_fall : (clauses : List Handler) → most (λ h. handler_size h + 1) clauses ≤ handler_list_size clauses
clauses_fall [] = omega arith
clauses_fall (h ∷ hs) = omega (arith, clauses_fall hs)

pub node_falls : (c : StatementNode) → max (deep-StatementNode c) 0 ≤ statement_size (statement_of c)
node_falls (node.If test body None) = omega arith
node_falls (node.If test body (Some otherwise)) = omega arith
node_falls (node.Try body clauses None) = omega (arith, clauses_fall clauses.items)
node_falls (node.Try body clauses (Some finally)) = omega (arith, clauses_fall clauses.items)
node_falls _ = omega arith

pub body_falls : (kind : Kind) (name : Option (RcStr Global)) (body : List Statement)
    → deep-Handler (record { kind = kind; name = name; body = body }) ≤ 1 + statement_list_size body
body_falls kind name body = omega arith
