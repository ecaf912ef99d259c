-- Parts of a line's lexemes, seen as plain data.
-- Source: the definition of lexemes (model_text, specs/Words.antt).
use Rattle.std.specs.Prelude.{List, map}
use denote.Bor.{Bor}
use Rattle.model_text.specs.Words as plain
use Rattle.script_term.specs.declared.lexeme.Lexeme.{Lexeme}
use Rattle.script_term.specs.Lexeme.{plain_lexeme}

abbrev pub plain_part : Bor (List Lexeme) → List plain.Lexeme
plain_part part = map plain_lexeme part.now
