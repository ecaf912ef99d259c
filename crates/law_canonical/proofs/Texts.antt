-- The canonical text of a program is the text of its lines, one after the other.
use Rattle.std.proofs.Common.{◌≡◌, ℕ, suc, Bool, true, false, List, [], ◌∷◌, ◌++◌, flat_map, refl, sym, ap, ap₂, ◌∙◌, append_assoc, append-nil, codes}
use Rattle.std.proofs.lemmas.List.Concat.{flat_map-append}
use Rattle.std.specs.Prelude.{nat_eq, if◌then◌else◌}
use Rattle.model_tree.specs.Syntax.{Name, Exprs, no_exprs, expr_then, exprs, exprs_of, Manager, GroupBlock, TimeoutBlock, Statement, Assign, Yield, YieldFrom}
use Rattle.model_tree.specs.Syntax.{Print, Raise, Return, Pass, If, While, Try, With, Statements, no_statements, statement_then, Branch, no_branch, branch}
use Rattle.model_tree.specs.Syntax.{Handlers, no_handlers, handler_then, Coroutine, Program}
use Rattle.model_text.specs.Forms as form
use Rattle.model_text.specs.SecondPass.{Line}
use Rattle.model_text.specs.Canonical.{line_in, exprs_text, manager_text, statement_text, statements_text, branch_text, handlers_text, coroutine_text}
use Rattle.model_text.specs.Canonical.{coroutines_text, canonical}
use Rattle.law_lines.specs.LineTexts.{line_text}
use Rattle.law_canonical.specs.ProgramLines.{Indented, indented, indented_text, with_line, statement_lines, statements_lines, branch_lines, handlers_lines}
use Rattle.law_canonical.specs.ProgramLines.{coroutine_lines, coroutines_lines, profile_lines, program_lines}

abbrev pub texts : List Indented → List ℕ
texts lines = flat_map indented_text lines

two-texts : (a b : List Indented) (s t : List ℕ) → texts a ≡ s → texts b ≡ t → texts (a ++ b) ≡ s ++ t
two-texts a b s t e g = flat_map-append indented_text a b ∙ ap₂ (λ (x y : List ℕ). x ++ y) e g

alone : (line : Indented) → texts (line ∷ []) ≡ indented_text line
alone line = append-nil (indented_text line)

pub exprs-row : (row : Exprs) → exprs (exprs_of row) ≡ row
exprs-row no_exprs = refl
exprs-row (expr_then first others) = ap (expr_then first) (exprs-row others)

with-text : (manager : Manager) (name : Name) → line_text (with_line manager name) ≡ codes "with " ++ manager_text manager ++ codes " as " ++ name
with-text GroupBlock name = refl
with-text (TimeoutBlock delay) name = refl

-- ---- grouped from the left
left_three : (a b c : List ℕ) → a ++ (b ++ c) ≡ (a ++ b) ++ c
left_three a b c = sym (append_assoc a b c)

left_four : (a b c d : List ℕ) → a ++ (b ++ (c ++ d)) ≡ ((a ++ b) ++ c) ++ d
left_four a b c d = left_three a b (c ++ d) ∙ left_three (a ++ b) c d

left_five : (a b c d e : List ℕ) → a ++ (b ++ (c ++ (d ++ e))) ≡ (((a ++ b) ++ c) ++ d) ++ e
left_five a b c d e = left_four a b c (d ++ e) ∙ left_three ((a ++ b) ++ c) d e

mutual
  statement-texts : (statement : Statement) (blocks : ℕ) → texts (statement_lines statement blocks) ≡ statement_text statement blocks
  statement-texts (Assign name value) blocks = alone (indented blocks (form.Assign name value))
  statement-texts Yield blocks = alone (indented blocks form.Yield)
  statement-texts (YieldFrom into target) blocks = alone (indented blocks (form.YieldFrom into target))
  statement-texts (Print items) blocks =
      alone (indented blocks (form.Print (exprs_of items))) ∙ ap (λ (row : Exprs). line_in blocks (codes "print " ++ exprs_text row)) (exprs-row items)
  statement-texts (Raise fault) blocks = alone (indented blocks (form.Raise fault))
  statement-texts (Return value) blocks = alone (indented blocks (form.Return value))
  statement-texts Pass blocks = alone (indented blocks form.Pass)
  statement-texts (If test body otherwise) blocks =
      ap (λ t. indented_text (indented blocks (form.If test)) ++ t)
      (two-texts (statements_lines body (suc blocks)) _ _ _ (statements-texts body (suc blocks))
      (two-texts (branch_lines otherwise form.Else blocks) _ _ _ (branch-texts otherwise form.Else blocks) (alone (indented blocks form.End))))
      ∙ left_four _ (statements_text body (suc blocks)) (branch_text otherwise (codes "else") blocks) _
  statement-texts (While test body) blocks =
      ap (λ t. indented_text (indented blocks (form.While test)) ++ t)
      (two-texts (statements_lines body (suc blocks)) _ _ _ (statements-texts body (suc blocks)) (alone (indented blocks form.End)))
      ∙ left_three _ (statements_text body (suc blocks)) _
  statement-texts (Try body handlers finally) blocks =
      ap (λ t. indented_text (indented blocks form.Try) ++ t)
      (two-texts (statements_lines body (suc blocks)) _ _ _ (statements-texts body (suc blocks))
      (two-texts (handlers_lines handlers blocks) _ _ _ (handlers-texts handlers blocks)
      (two-texts (branch_lines finally form.Finally blocks) _ _ _ (branch-texts finally form.Finally blocks) (alone (indented blocks form.End)))))
      ∙ left_five _ (statements_text body (suc blocks)) (handlers_text handlers blocks) (branch_text finally (codes "finally") blocks) _
  statement-texts (With manager name body) blocks =
      ap₂ (λ (s t : List ℕ). line_in blocks s ++ t) (with-text manager name)
      (two-texts (statements_lines body (suc blocks)) _ _ _ (statements-texts body (suc blocks)) (alone (indented blocks form.End)))
      ∙ left_three _ (statements_text body (suc blocks)) _

  statements-texts : (statements : Statements) (blocks : ℕ) → texts (statements_lines statements blocks) ≡ statements_text statements blocks
  statements-texts no_statements blocks = refl
  statements-texts (statement_then first others) blocks =
      two-texts (statement_lines first blocks) (statements_lines others blocks) _ _ (statement-texts first blocks) (statements-texts others blocks)

  branch-texts : (body : Branch) (word : Line) (blocks : ℕ) → texts (branch_lines body word blocks) ≡ branch_text body (line_text word) blocks
  branch-texts no_branch word blocks = refl
  branch-texts (branch body) word blocks = ap (λ t. line_in blocks (line_text word) ++ t) (statements-texts body (suc blocks))

  handlers-texts : (handlers : Handlers) (blocks : ℕ) → texts (handlers_lines handlers blocks) ≡ handlers_text handlers blocks
  handlers-texts no_handlers blocks = refl
  handlers-texts (handler_then kind name body others) blocks =
      ap (λ t. indented_text (indented blocks (form.Except kind name)) ++ t)
      (two-texts (statements_lines body (suc blocks)) _ _ _ (statements-texts body (suc blocks)) (handlers-texts others blocks))
      ∙ left_three _ (statements_text body (suc blocks)) (handlers_text others blocks)

coroutine-texts : (coroutine : Coroutine) → texts (coroutine_lines coroutine) ≡ coroutine_text coroutine
coroutine-texts coroutine =
    ap (λ t. indented_text (indented 0 (form.Def coroutine.name coroutine.parameters)) ++ t)
    (two-texts (statements_lines coroutine.body 1) _ _ _ (statements-texts coroutine.body 1) (alone (indented 0 form.End)))
    ∙ left_three (indented_text (indented 0 (form.Def coroutine.name coroutine.parameters))) (statements_text coroutine.body 1)
    (indented_text (indented 0 form.End))

coroutines-texts : (coroutines : List Coroutine) → texts (coroutines_lines coroutines) ≡ coroutines_text coroutines
coroutines-texts [] = refl
coroutines-texts (first ∷ others) =
    two-texts (coroutine_lines first) (coroutines_lines others) _ _ (coroutine-texts first) (coroutines-texts others)

profile-texts : (test : Bool) (profile : ℕ) → texts (if test then [] else indented 0 (form.Profile profile) ∷ [])
    ≡ (if test then [] else line_in 0 (line_text (form.Profile profile)))
profile-texts true profile = refl
profile-texts false profile = alone (indented 0 (form.Profile profile))

pub program-texts : (program : Program) → canonical program ≡ flat_map indented_text (program_lines program)
unfolding canonical
program-texts program =
    sym (two-texts (profile_lines program.profile) (coroutines_lines program.coroutines) _ _ (profile-texts (nat_eq program.profile 1) program.profile)
    (coroutines-texts program.coroutines))
