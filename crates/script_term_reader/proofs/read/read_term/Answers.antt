use Rattle.std.proofs.Common.{◌≡◌, ◌+◌, map, option_map, reverse, get_or, sym, ap, ◌∙◌, arith}
use Rattle.std.proofs.lemmas.Result.{IfOk-weaker}
use Rattle.model_text.specs.Levels.{term_of}
use Rattle.algorithm_reading.specs.Reader.{ReaderState}
use Rattle.algorithm_reading.specs.Operands.{capped}
use Rattle.algorithm_reading.specs.Feeding.{fed, finished}
use Rattle.script_term.specs.declared.lexeme.Lexeme.{Lexeme}
use Rattle.script_term.specs.Lexeme.{plain_lexeme}
use Rattle.script_term.specs.Operand.{plain_operand}
use Rattle.script_term_reader.specs.Next.{come}
use Rattle.script_term_reader.proofs.Loop.{state_behind, fed-more, failed, ended-read}
use Rattle.script_term_reader.proofs.read.read_term.Goals as goal

pub returns-in-None : goal.returns-in-None
returns-in-None c =
    let xs = c.args.lexemes.now in
    let at = c.loop-lexeme in
    let i = at.lexeme-index in
    let opened = reverse at.opened.items in
    let after : Lexeme → ReaderState = λ lexeme. fed (record { progress = at.progress; opened = opened }) (plain_lexeme lexeme) in
    let more : after (get_or xs i c.lexeme-item.result) ≡ state_behind (i + 1) xs =
    fed-more xs i c.lexeme-item.result at.progress opened (omega (arith, c.loop-lexeme-test.true)) at.invariant in
    failed xs (i + 1) (ap (λ reached. come reached c.fed.new.opened.items) (sym c.in-None.is)
    ∙ (c.in_ok-reached.ensures
    ∙ (ap after c.lexeme-item.is ∙ more)))

pub returns : goal.returns
returns c =
    IfOk-weaker c.finished.result
    (λ read. option_map plain_operand read ≡ finished c.loop-lexeme.progress (reverse c.loop-lexeme.opened.items))
    (λ read. option_map plain_operand read ≡ option_map capped (term_of (map plain_lexeme c.args.lexemes.now)))
    (λ read made. made
    ∙ ended-read c.args.lexemes.now c.loop-lexeme.lexeme-index c.loop-lexeme.progress (reverse c.loop-lexeme.opened.items)
    (omega (arith, c.loop-lexeme-test.false)) c.loop-lexeme.invariant)
    c.finished.ensures
