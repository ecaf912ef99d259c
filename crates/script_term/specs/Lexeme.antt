-- What a lexeme of the code is, seen as plain data.
-- Source: the definition of lexemes (model_text, specs/Words.antt).
use Rattle.std.specs.Rc.{rc_str_bytes, rc_slice_items}
use Rattle.model_text.specs.Words as plain
use Rattle.script_term.specs.declared.lexeme.Lexeme.{Lexeme}
use Rattle.script_term.specs.declared.lexeme.Lexeme.TheVariants.{Reserved, Named, Number, Texts, Octets, Sign}

abbrev pub plain_lexeme : Lexeme → plain.Lexeme
plain_lexeme (Reserved reserved) = plain.Reserved reserved
plain_lexeme (Named name) = plain.Named (rc_str_bytes name)
plain_lexeme (Number number) = plain.Number number
plain_lexeme (Texts text) = plain.Texts (rc_str_bytes text)
plain_lexeme (Octets bytes) = plain.Octets (rc_slice_items bytes)
plain_lexeme (Sign symbol) = plain.Sign symbol
