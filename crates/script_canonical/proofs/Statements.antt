-- A statement's text is its first line and its sections.
use Rattle.std.proofs.Common.{◌≡◌, ℕ, sym, ◌++◌, append_assoc}
use Rattle.std.proofs.lemmas.List.{append-nil}
use Rattle.model_tree.specs.Syntax.{Statement, Assign, Yield, YieldFrom, Print, Raise, Return, Pass, If, While, Try, With}
use Rattle.model_text.specs.Canonical.{statement_text, line_in}
use Rattle.script_canonical.specs.FirstLine.{head_text, sections_text}

pub statement_text-parts : (statement : Statement) (blocks : ℕ) → statement_text statement blocks ≡ line_in blocks (head_text statement)
    ++ sections_text statement blocks
statement_text-parts (If test body otherwise) blocks = simp append_assoc
statement_text-parts (While test body) blocks = simp append_assoc
statement_text-parts (Try body clauses finally) blocks = simp append_assoc
statement_text-parts (With manager name body) blocks = simp append_assoc
statement_text-parts (Assign name value) blocks = sym (append-nil (line_in blocks (head_text (Assign name value))))
statement_text-parts Yield blocks = sym (append-nil (line_in blocks (head_text Yield)))
statement_text-parts (YieldFrom into target) blocks = sym (append-nil (line_in blocks (head_text (YieldFrom into target))))
statement_text-parts (Print items) blocks = sym (append-nil (line_in blocks (head_text (Print items))))
statement_text-parts (Raise fault) blocks = sym (append-nil (line_in blocks (head_text (Raise fault))))
statement_text-parts (Return value) blocks = sym (append-nil (line_in blocks (head_text (Return value))))
statement_text-parts Pass blocks = sym (append-nil (line_in blocks (head_text Pass)))
