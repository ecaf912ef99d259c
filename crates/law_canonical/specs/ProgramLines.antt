-- The lines of a program's canonical text, each inside so many blocks.
-- Source: PEP 8, "Indentation", with two spaces for a block.
use Rattle.std.specs.Prelude.{ℕ, suc, List, [], ◌∷◌, ◌++◌, nat_eq, if◌then◌else◌}
use Rattle.model_tree.specs.Syntax as plain
use Rattle.model_tree.specs.Syntax.{Name, exprs_of, Manager, GroupBlock, TimeoutBlock, Statement, Statements, no_statements, statement_then, Branch, no_branch}
use Rattle.model_tree.specs.Syntax.{branch, Handlers, no_handlers, handler_then, Coroutine, Program}
use Rattle.model_text.specs.Forms.{Profile, Def, Assign, Yield, YieldFrom, Print, Raise, Return, Pass, If, Else, While, Try, Except, Finally, WithGroup}
use Rattle.model_text.specs.Forms.{WithTimeout, End}
use Rattle.model_text.specs.SecondPass.{Line}
use Rattle.model_text.specs.Canonical.{line_in}
use Rattle.law_lines.specs.LineTexts.{line_text}

pub record Indented : Type 0 where
  pub blocks : ℕ
  pub line : Line

abbrev pub indented : ℕ → Line → Indented
indented blocks line = record { blocks = blocks; line = line }

-- the text of a line, with its newline
abbrev pub indented_text : Indented → List ℕ
indented_text placed = line_in placed.blocks (line_text placed.line)

-- ---- statements inside so many blocks
abbrev pub with_line : Manager → Name → Line
with_line GroupBlock name = WithGroup name
with_line (TimeoutBlock delay) name = WithTimeout delay name

abbrev mutual
  pub statement_lines : Statement → ℕ → List Indented
  statement_lines (plain.Assign name value) blocks = indented blocks (Assign name value) ∷ []
  statement_lines plain.Yield blocks = indented blocks Yield ∷ []
  statement_lines (plain.YieldFrom into target) blocks = indented blocks (YieldFrom into target) ∷ []
  statement_lines (plain.Print items) blocks = indented blocks (Print (exprs_of items)) ∷ []
  statement_lines (plain.Raise fault) blocks = indented blocks (Raise fault) ∷ []
  statement_lines (plain.Return value) blocks = indented blocks (Return value) ∷ []
  statement_lines plain.Pass blocks = indented blocks Pass ∷ []
  statement_lines (plain.If test body otherwise) blocks =
      indented blocks (If test) ∷ (statements_lines body (suc blocks) ++ (branch_lines otherwise Else blocks ++ indented blocks End ∷ []))
  statement_lines (plain.While test body) blocks =
      indented blocks (While test) ∷ (statements_lines body (suc blocks) ++ indented blocks End ∷ [])
  statement_lines (plain.Try body handlers finally) blocks =
      indented blocks Try
      ∷ (statements_lines body (suc blocks) ++ (handlers_lines handlers blocks ++ (branch_lines finally Finally blocks ++ indented blocks End ∷ [])))
  statement_lines (plain.With manager name body) blocks =
      indented blocks (with_line manager name) ∷ (statements_lines body (suc blocks) ++ indented blocks End ∷ [])

  pub statements_lines : Statements → ℕ → List Indented
  statements_lines no_statements blocks = []
  statements_lines (statement_then first others) blocks = statement_lines first blocks ++ statements_lines others blocks

  -- a section behind its line, if it is there
  pub branch_lines : Branch → Line → ℕ → List Indented
  branch_lines no_branch word blocks = []
  branch_lines (branch body) word blocks = indented blocks word ∷ statements_lines body (suc blocks)

  pub handlers_lines : Handlers → ℕ → List Indented
  handlers_lines no_handlers blocks = []
  handlers_lines (handler_then kind name body others) blocks =
      indented blocks (Except kind name) ∷ (statements_lines body (suc blocks) ++ handlers_lines others blocks)

-- ---- the program
abbrev pub coroutine_lines : Coroutine → List Indented
coroutine_lines coroutine =
    indented 0 (Def coroutine.name coroutine.parameters) ∷ (statements_lines coroutine.body 1 ++ indented 0 End ∷ [])

abbrev pub coroutines_lines : List Coroutine → List Indented
coroutines_lines [] = []
coroutines_lines (first ∷ others) = coroutine_lines first ++ coroutines_lines others

abbrev pub profile_lines : ℕ → List Indented
profile_lines profile = if nat_eq profile 1 then [] else indented 0 (Profile profile) ∷ []

abbrev pub program_lines : Program → List Indented
program_lines program = profile_lines program.profile ++ coroutines_lines program.coroutines
