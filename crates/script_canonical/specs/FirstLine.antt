-- The text of a statement in two parts: its first line, without its indentation, and the lines behind it.
use Rattle.std.specs.Prelude.{ℕ, suc, List, [], ◌++◌, codes}
use Rattle.model_tree.specs.Syntax.{Statement, Assign, Yield, YieldFrom, Print, Raise, Return, Pass, If, While, Try, With}
use Rattle.model_text.specs.Canonical.{expr_text, exprs_text, target_text, into_text, returned_text, manager_text, statements_text, handlers_text, branch_text}
use Rattle.model_text.specs.Canonical.{end_in}

abbrev pub head_text : Statement → List ℕ
head_text (Assign name value) = name ++ codes " = " ++ expr_text value
head_text Yield = codes "yield"
head_text (YieldFrom into target) = into_text into ++ codes "yield from " ++ target_text target
head_text (Print items) = codes "print " ++ exprs_text items
head_text (Raise fault) = codes "raise " ++ expr_text fault
head_text (Return value) = codes "return" ++ returned_text value
head_text Pass = codes "pass"
head_text (If test body otherwise) = codes "if " ++ expr_text test
head_text (While test body) = codes "while " ++ expr_text test
head_text (Try body clauses finally) = codes "try"
head_text (With manager name body) = codes "with " ++ manager_text manager ++ codes " as " ++ name

abbrev pub sections_text : Statement → ℕ → List ℕ
sections_text (If test body otherwise) blocks =
    statements_text body (suc blocks) ++ branch_text otherwise (codes "else") blocks ++ end_in blocks
sections_text (While test body) blocks = statements_text body (suc blocks) ++ end_in blocks
sections_text (Try body clauses finally) blocks =
    statements_text body (suc blocks) ++ handlers_text clauses blocks ++ branch_text finally (codes "finally") blocks ++ end_in blocks
sections_text (With manager name body) blocks = statements_text body (suc blocks) ++ end_in blocks
sections_text _ blocks = []
