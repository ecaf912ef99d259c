use Rattle.std.proofs.Common.{◌∷◌, ◌+◌, length, ap, sym, ◌∙◌, arith}
use Rattle.std.proofs.lemmas.List.{take_rest, drop_all}
use Rattle.model_value.specs.Lines.{lines_of}
use Rattle.model_text.specs.TextLines.{text_lines}
use Rattle.script_form.proofs.LineLemmas.{first_cut}
use Rattle.script_form.proofs.text.next_text_line.Goals as goal

pub returns-then-line-text-clause-line : goal.returns-then-line-text-clause-line
returns-then-line-text-clause-line c =
    let text = c.args.text.now in
    let line = c.in_ok-line.line.now in
    (first_cut text line (lines_of c.in_ok-line.field-0-1.now) c.in_ok-line.ensures.line).cut c.if-line-text.true
    ∙ (λ i. sym c.without_return.ensures i ∷ text_lines (sym (take_rest text (length line + 1)) i))

pub returns-else-line-text-clause-line : goal.returns-else-line-text-clause-line
returns-else-line-text-clause-line c =
    let text = c.args.text.now in
    let line = c.in_ok-line.line.now in
    (first_cut text line (lines_of c.in_ok-line.field-0-1.now) c.in_ok-line.ensures.line).last c.if-line-text.false
    ∙ ap (λ rest. line ∷ text_lines rest) (sym (take_rest text (length text) ∙ drop_all (length text) text (omega arith)))
