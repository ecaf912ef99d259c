use Rattle.std.proofs.Common.{◌≡◌, map, take}
use Rattle.model_text.specs.Words.{lexemes_of}
use Rattle.script_term.specs.Lexeme.{plain_lexeme}
use Rattle.script_term.proofs.lexeme.lexemes.Given as goal

abbrev pub invariant-loop-token : goal.invariant-loop-token
invariant-loop-token l = map plain_lexeme l.lexemes.items ≡ lexemes_of (take l.token-index l.token-items)
