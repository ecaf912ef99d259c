use Rattle.std.proofs.Common.{◌≡◌, map, take, reverse, fold}
use Rattle.algorithm_reading.specs.Reader.{reading, start}
use Rattle.algorithm_reading.specs.Feeding.{feed}
use Rattle.script_term.specs.Lexeme.{plain_lexeme}
use Rattle.script_term_reader.proofs.read.read_term.Given as goal

abbrev pub invariant-loop-lexeme : goal.invariant-loop-lexeme
invariant-loop-lexeme l =
    reading l.progress (reverse l.opened.items) ≡ fold feed start (map plain_lexeme (take l.lexeme-index l.lexemes))
