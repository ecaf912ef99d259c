-- Which statements lines spell: a line alone is a statement, and a block is its head, its bodies and its `end`.
-- Source: the Python language reference, "Compound statements".
use Rattle.std.specs.Prelude.{ℕ, zero, suc, pred, List, [], ◌∷◌, length, map, Option, Some, None}
use Rattle.model_tree.specs.Syntax as plain
use Rattle.model_tree.specs.Syntax.{exprs, Statement, Statements, no_statements, statement_then, Branch, no_branch, branch, Handlers, no_handlers}
use Rattle.model_tree.specs.Syntax.{handler_then}
use Rattle.model_text.specs.Forms.{Assign, Yield, YieldFrom, Print, Raise, Return, Pass, If, While, Try, Except, Finally, WithGroup, WithTimeout}
use Rattle.model_text.specs.Places.{Role, Opens, Begins, Closes, Stands, role_of}
use Rattle.model_text.specs.SecondPass.{Line}

-- a section of a block: its line, and the lines behind it
pub record SectionLines : Type 0 where
  pub head : Line
  pub lines : List Line

-- what stands behind a block's head: its lines, its sections, and what stands behind its `end`
pub record BlockLines : Type 0 where
  pub body : List Line
  pub sections : List SectionLines
  pub behind : List Line

abbrev pub with_line : Line → BlockLines → BlockLines
with_line line cut = record cut { body = line ∷ cut.body }

abbrev pub with_section : Line → BlockLines → BlockLines
with_section line cut =
    record cut { body = []; sections = record { head = line; lines = cut.body } ∷ cut.sections }

-- how many blocks are open behind a line inside a block
abbrev pub depth_behind : ℕ → Role → ℕ
depth_behind depth (Opens block) = suc depth
depth_behind depth (Begins section) = depth
depth_behind depth Closes = pred depth
depth_behind depth Stands = depth

-- The cut at a line, by what stands behind it. Lines of inner blocks are lines of the body.
abbrev pub cut_at : Role → ℕ → Line → List Line → BlockLines → BlockLines
cut_at (Opens block) depth line lines cut = with_line line cut
cut_at Stands depth line lines cut = with_line line cut
cut_at (Begins section) zero line lines cut = with_section line cut
cut_at (Begins section) (suc depth) line lines cut = with_line line cut
cut_at Closes zero line lines cut = record { body = []; sections = []; behind = lines }
cut_at Closes (suc depth) line lines cut = with_line line cut

-- lines inside a block before which so many of its inner blocks are open
abbrev pub cut_from : ℕ → List Line → BlockLines
cut_from depth [] = record { body = []; sections = []; behind = [] }
cut_from depth (line ∷ lines) =
    cut_at (role_of line) depth line lines (cut_from (depth_behind depth (role_of line)) lines)

-- ---- statements
-- a line that is a statement by itself
abbrev pub simple : Line → Option Statement
simple (Assign name value) = Some (plain.Assign name value)
simple Yield = Some plain.Yield
simple (YieldFrom into target) = Some (plain.YieldFrom into target)
simple (Print items) = Some (plain.Print (exprs items))
simple (Raise fault) = Some (plain.Raise fault)
simple (Return value) = Some (plain.Return value)
simple Pass = Some plain.Pass
simple _ = None

-- a section with its statements
pub record SectionBody : Type 0 where
  pub head : Line
  pub body : Statements

abbrev pub branch_in : List SectionBody → Branch
branch_in [] = no_branch
branch_in (section ∷ sections) = branch section.body

-- `except` clauses, and the `finally` behind them
abbrev pub handler_before : Line → Statements → Handlers → Handlers
handler_before (Except kind name) body handlers = handler_then kind name body handlers
handler_before _ body handlers = handlers

abbrev pub handlers_in : List SectionBody → Handlers
handlers_in [] = no_handlers
handlers_in (section ∷ sections) = handler_before section.head section.body (handlers_in sections)

abbrev pub finally_before : Line → Statements → Branch → Branch
finally_before Finally body others = branch body
finally_before _ body others = others

abbrev pub finally_in : List SectionBody → Branch
finally_in [] = no_branch
finally_in (section ∷ sections) = finally_before section.head section.body (finally_in sections)

-- the block of a head, by its statements and those of its sections
abbrev pub block : Line → Statements → List SectionBody → Option Statement
block (If test) body sections = Some (plain.If test body (branch_in sections))
block (While test) body sections = Some (plain.While test body)
block Try body sections = Some (plain.Try body (handlers_in sections) (finally_in sections))
block (WithGroup name) body sections = Some (plain.With plain.GroupBlock name body)
block (WithTimeout delay name) body sections = Some (plain.With (plain.TimeoutBlock delay) name body)
block _ body sections = None

abbrev pub then_statements : Option Statement → Statements → Statements
then_statements None others = others
then_statements (Some statement) others = statement_then statement others

-- sections with what their lines spell
abbrev pub bodies : (List Line → Statements) → List SectionLines → List SectionBody
bodies spelled sections = map (λ section. record { head = section.head; body = spelled section.lines }) sections

-- what a head, its bodies and its `end` spell, with what the lines behind spell
abbrev pub block_then : (List Line → Statements) → Line → BlockLines → Statements
block_then spelled line cut =
    then_statements (block line (spelled cut.body) (bodies spelled cut.sections)) (spelled cut.behind)

-- a line by itself, or a head with its block, and what stands behind
abbrev pub first_then : Role → (List Line → Statements) → Line → List Line → Statements
first_then (Opens block) spelled line lines = block_then spelled line (cut_from 0 lines)
first_then _ spelled line lines = then_statements (simple line) (spelled lines)

-- the statements of at most so many lines
abbrev pub statements_within : ℕ → List Line → Statements
statements_within zero lines = no_statements
statements_within (suc count) [] = no_statements
statements_within (suc count) (line ∷ lines) = first_then (role_of line) (statements_within count) line lines

-- The statements that lines spell, which fit together.
unfoldable pub statements_in : List Line → Statements
statements_in lines = statements_within (length lines) lines

-- what the lines behind the head of a coroutine spell: those before its `end`
abbrev pub body_in : List Line → Statements
body_in lines = statements_in (cut_from 0 lines).body
