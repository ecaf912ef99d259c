-- What a token is, seen as plain data.
use Rattle.std.specs.Prelude.{string_bytes}
use Rattle.model_text.specs.Tokens.{TokenClass as PlainClass, Token as PlainToken, Name as PlainName, Int as PlainInt, Text as PlainText, Bytes as PlainBytes}
use Rattle.model_text.specs.Tokens.{Symbol as PlainSymbol}
use Rattle.aio_lex.specs.declared.token.TokenClass.{TokenClass}
use Rattle.aio_lex.specs.declared.token.TokenClass.TheVariants.{Name, Int, Text, Bytes, Symbol}
use Rattle.aio_lex.specs.declared.token.Content.{Content}
use Rattle.aio_lex.specs.declared.token.Content.TheVariants as content
use Rattle.aio_lex.specs.declared.token.Token.TheInside.{Inside}

-- a token's class
abbrev pub plain_class : TokenClass → PlainClass
plain_class (Name name) = PlainName name.now
plain_class (Int number) = PlainInt number
plain_class (Text text) = PlainText text.now
plain_class (Bytes bytes) = PlainBytes bytes.now
plain_class (Symbol symbol) = PlainSymbol symbol

-- what a token owns
abbrev pub plain_content : Content → PlainClass
plain_content (content.Name name) = PlainName (string_bytes name)
plain_content (content.Int number) = PlainInt number
plain_content (content.Text text) = PlainText (string_bytes text)
plain_content (content.Bytes bytes) = PlainBytes bytes.items
plain_content (content.Symbol symbol) = PlainSymbol symbol

abbrev pub plain_token : Inside → PlainToken
plain_token token =
    record { class = plain_content token.content; start = token.span.start; end = token.span.end }
