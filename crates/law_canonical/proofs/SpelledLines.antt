-- Lines that spell statements are the lines of their canonical text.
use Rattle.std.proofs.Common.{◌≡◌, ℕ, suc, List, [], ◌∷◌, ◌++◌, map, Option, Some, refl, ap, ap₂, ◌∙◌}
use Rattle.std.proofs.lemmas.List.{map-append}
use Rattle.model_tree.specs.Syntax as plain
use Rattle.model_tree.specs.Syntax.{Expr, exprs, exprs_of, Statement, Statements, Branch, Handlers}
use Rattle.model_text.specs.Forms.{Assign, Yield, YieldFrom, Print, Raise, Return, Pass, If, Else, While, Try, Except, Finally, WithGroup, WithTimeout, End}
use Rattle.model_text.specs.SecondPass.{Line}
use Rattle.model_text.specs.Bodies.{simple}
use Rattle.model_text.specs.Spells.{Spells, spells_nothing, spells_next, SpellsOne, spells_line, spells_if, spells_while, spells_try, spells_group}
use Rattle.model_text.specs.Spells.{spells_timeout, SpellsSection, no_section, section_with, SpellsHandlers, no_clauses, clause_then}
use Rattle.law_canonical.specs.ProgramLines.{Indented, indented, statement_lines, statements_lines, branch_lines, handlers_lines}

abbrev pub without_blocks : List Indented → List Line
without_blocks lines = map (λ placed. placed.line) lines

pub two-parts : (a b : List Indented) (s t : List Line) → without_blocks a ≡ s → without_blocks b ≡ t → without_blocks (a ++ b) ≡ s ++ t
two-parts a b s t e g = map-append (λ (placed : Indented). placed.line) a b ∙ ap₂ (λ (x y : List Line). x ++ y) e g

exprs-list : (items : List Expr) → exprs_of (exprs items) ≡ items
exprs-list [] = refl
exprs-list (first ∷ others) = ap (λ all. first ∷ all) (exprs-list others)

some_same : (statement other : Statement) (found : Option Statement) → found ≡ Some statement → found ≡ Some other → statement ≡ other
some_same statement other found e g = cc

-- a line that is a statement by itself
told : (line : Line) (statement other : Statement) (blocks : ℕ) → simple line ≡ Some other → simple line ≡ Some statement
    → without_blocks (statement_lines other blocks) ≡ line ∷ [] → without_blocks (statement_lines statement blocks) ≡ line ∷ []
told line statement other blocks e g f =
    ap (λ s. without_blocks (statement_lines s blocks)) (some_same statement other (simple line) g e) ∙ f

simple-line : (line : Line) (statement : Statement) → simple line ≡ Some statement → (blocks : ℕ) → without_blocks (statement_lines statement blocks) ≡ line
    ∷ []
simple-line (Assign name value) statement e blocks =
    told (Assign name value) statement (plain.Assign name value) blocks refl e refl
simple-line Yield statement e blocks = told Yield statement plain.Yield blocks refl e refl
simple-line (YieldFrom into target) statement e blocks =
    told (YieldFrom into target) statement (plain.YieldFrom into target) blocks refl e refl
simple-line (Print items) statement e blocks =
    told (Print items) statement (plain.Print (exprs items)) blocks refl e
    (ap (λ (all : List Expr). let line : Line = Print all in line ∷ []) (exprs-list items))
simple-line (Raise fault) statement e blocks = told (Raise fault) statement (plain.Raise fault) blocks refl e refl
simple-line (Return value) statement e blocks = told (Return value) statement (plain.Return value) blocks refl e refl
simple-line Pass statement e blocks = told Pass statement plain.Pass blocks refl e refl
simple-line line statement e blocks = cc

mutual
  pub spelled-lines : {lines : List Line} {statements : Statements} → Spells lines statements → (blocks : ℕ)
      → without_blocks (statements_lines statements blocks) ≡ lines
  spelled-lines spells_nothing blocks = refl
  spelled-lines (spells_next {first = first} {others = others} {statement = statement} {statements = statements} one more) blocks =
      two-parts (statement_lines statement blocks) (statements_lines statements blocks) first others (spelled-one one blocks) (spelled-lines more blocks)

  spelled-one : {lines : List Line} {statement : Statement} → SpellsOne lines statement → (blocks : ℕ) → without_blocks (statement_lines statement blocks)
      ≡ lines
  spelled-one (spells_line {line = line} {statement = statement} e) blocks = simple-line line statement e blocks
  spelled-one (spells_if {test = test} {lines = lines} {others = others} {body = body} {otherwise = otherwise} inner section) blocks =
      ap (λ l. If test ∷ l)
      (two-parts (statements_lines body (suc blocks)) _ lines _ (spelled-lines inner (suc blocks))
      (two-parts (branch_lines otherwise Else blocks) (indented blocks End ∷ []) others (End ∷ []) (spelled-section section blocks) refl))
  spelled-one (spells_while {test = test} {lines = lines} {body = body} inner) blocks =
      ap (λ l. While test ∷ l)
      (two-parts (statements_lines body (suc blocks)) (indented blocks End ∷ []) lines (End ∷ []) (spelled-lines inner (suc blocks)) refl)
  spelled-one
      (spells_try {lines = lines} {clauses = clauses} {others = others} {body = body} {handlers = handlers} {finally = finally} inner each section) blocks =
      ap (λ l. Try ∷ l)
      (two-parts (statements_lines body (suc blocks)) _ lines _ (spelled-lines inner (suc blocks))
      (two-parts (handlers_lines handlers blocks) _ clauses _ (spelled-clauses each blocks)
      (two-parts (branch_lines finally Finally blocks) (indented blocks End ∷ []) others (End ∷ []) (spelled-section section blocks) refl)))
  spelled-one (spells_group {name = name} {lines = lines} {body = body} inner) blocks =
      ap (λ l. WithGroup name ∷ l)
      (two-parts (statements_lines body (suc blocks)) (indented blocks End ∷ []) lines (End ∷ []) (spelled-lines inner (suc blocks)) refl)
  spelled-one (spells_timeout {delay = delay} {name = name} {lines = lines} {body = body} inner) blocks =
      ap (λ l. WithTimeout delay name ∷ l)
      (two-parts (statements_lines body (suc blocks)) (indented blocks End ∷ []) lines (End ∷ []) (spelled-lines inner (suc blocks)) refl)

  spelled-section : {word : Line} {lines : List Line} {body : Branch} → SpellsSection word lines body → (blocks : ℕ)
      → without_blocks (branch_lines body word blocks) ≡ lines
  spelled-section no_section blocks = refl
  spelled-section (section_with {word = word} inner) blocks = ap (λ l. word ∷ l) (spelled-lines inner (suc blocks))

  spelled-clauses : {lines : List Line} {handlers : Handlers} → SpellsHandlers lines handlers → (blocks : ℕ) → without_blocks (handlers_lines handlers blocks)
      ≡ lines
  spelled-clauses no_clauses blocks = refl
  spelled-clauses (clause_then {kind = kind} {name = name} {lines = lines} {others = others} {body = body} {handlers = handlers} inner more) blocks =
      ap (λ l. Except kind name ∷ l)
      (two-parts (statements_lines body (suc blocks)) (handlers_lines handlers blocks) lines others (spelled-lines inner (suc blocks))
      (spelled-clauses more blocks))
