-- Which lines spell which statements, by cases: a line alone; a block, which is its head, its bodies and its `end`.
-- Source: the Python language reference, "Compound statements".
use Rattle.std.specs.Prelude.{◌≡◌, List, [], ◌∷◌, ◌++◌, Option, Some}
use Rattle.model_value.specs.declared.kind.Kind.{Kind}
use Rattle.model_tree.specs.Syntax as plain
use Rattle.model_tree.specs.Syntax.{Name, Expr, Statement, Statements, no_statements, statement_then, Branch, no_branch, branch, Handlers, no_handlers}
use Rattle.model_tree.specs.Syntax.{handler_then}
use Rattle.model_text.specs.Forms.{If, Else, While, Try, Except, Finally, WithGroup, WithTimeout, End}
use Rattle.model_text.specs.SecondPass.{Line}
use Rattle.model_text.specs.Bodies.{simple}

mutual
  pub data Spells : List Line → Statements → Type 0 where
    spells_nothing : Spells [] no_statements
    spells_next : {first others : List Line} {statement : Statement} {statements : Statements} → SpellsOne first statement → Spells others statements
        → Spells (first ++ others) (statement_then statement statements)

  pub data SpellsOne : List Line → Statement → Type 0 where
    spells_line : {line : Line} {statement : Statement} → simple line ≡ Some statement → SpellsOne (line ∷ []) statement
    spells_if : {test : Expr} {lines others : List Line} {body : Statements} {otherwise : Branch} → Spells lines body → SpellsSection Else others otherwise
        → SpellsOne (If test ∷ (lines ++ (others ++ End ∷ []))) (plain.If test body otherwise)
    spells_while : {test : Expr} {lines : List Line} {body : Statements} → Spells lines body
        → SpellsOne (While test ∷ (lines ++ End ∷ [])) (plain.While test body)
    spells_try : {lines clauses others : List Line} {body : Statements} {handlers : Handlers} {finally : Branch} → Spells lines body
        → SpellsHandlers clauses handlers → SpellsSection Finally others finally
        → SpellsOne (Try ∷ (lines ++ (clauses ++ (others ++ End ∷ [])))) (plain.Try body handlers finally)
    spells_group : {name : Name} {lines : List Line} {body : Statements} → Spells lines body
        → SpellsOne (WithGroup name ∷ (lines ++ End ∷ [])) (plain.With plain.GroupBlock name body)
    spells_timeout : {delay : Expr} {name : Name} {lines : List Line} {body : Statements} → Spells lines body
        → SpellsOne (WithTimeout delay name ∷ (lines ++ End ∷ [])) (plain.With (plain.TimeoutBlock delay) name body)

  -- an `else` or a `finally` with its body, or nothing
  pub data SpellsSection : Line → List Line → Branch → Type 0 where
    no_section : {word : Line} → SpellsSection word [] no_branch
    section_with : {word : Line} {lines : List Line} {body : Statements} → Spells lines body → SpellsSection word (word ∷ lines) (branch body)

  -- `except` clauses in order
  pub data SpellsHandlers : List Line → Handlers → Type 0 where
    no_clauses : SpellsHandlers [] no_handlers
    clause_then : {kind : Kind} {name : Option Name} {lines others : List Line} {body : Statements} {handlers : Handlers} → Spells lines body
        → SpellsHandlers others handlers → SpellsHandlers (Except kind name ∷ (lines ++ others)) (handler_then kind name body handlers)
