-- The reserved words, and what stands in a line where columns don't matter.
-- Source: the Python language reference, "Keywords"; "Identifiers".
use Rattle.std.specs.Prelude.{ℕ, ℤ, Bool, false, List, [], ◌∷◌, Option, Some, None, map, find, codes}
use Rattle.std.specs.Str.{bytes_eq}
use denote.Enum.Bare.{sameb}
use Rattle.model_text.specs.contracts.symbol.Symbol.{the_type}
use Rattle.model_text.specs.declared.symbol.Symbol.{Symbol as AnySymbol}
use Rattle.model_text.specs.declared.reserved_word.ReservedWord.{ReservedWord}
use Rattle.model_text.specs.declared.reserved_word.ReservedWord.TheVariants as word
use Rattle.model_text.specs.Tokens.{Token, TokenClass, Name, Int, Text, Bytes, Symbol}

abbrev pub reserved_text : ReservedWord → List ℕ
reserved_text word.Profile = codes "profile"
reserved_text word.Def = codes "def"
reserved_text word.End = codes "end"
reserved_text word.Yield = codes "yield"
reserved_text word.From = codes "from"
reserved_text word.Print = codes "print"
reserved_text word.Raise = codes "raise"
reserved_text word.Return = codes "return"
reserved_text word.Pass = codes "pass"
reserved_text word.If = codes "if"
reserved_text word.Else = codes "else"
reserved_text word.While = codes "while"
reserved_text word.Try = codes "try"
reserved_text word.Except = codes "except"
reserved_text word.As = codes "as"
reserved_text word.Finally = codes "finally"
reserved_text word.With = codes "with"
reserved_text word.Group = codes "group"
reserved_text word.Timeout = codes "timeout"
reserved_text word.And = codes "and"
reserved_text word.Or = codes "or"
reserved_text word.Not = codes "not"
reserved_text word.TrueValue = codes "True"
reserved_text word.FalseValue = codes "False"
reserved_text word.NoneValue = codes "None"

abbrev pub reserved_words : List ReservedWord
reserved_words =
    word.Profile ∷ word.Def ∷ word.End ∷ word.Yield ∷ word.From ∷ word.Print ∷ word.Raise ∷ word.Return ∷ word.Pass ∷ word.If ∷ word.Else ∷ word.While
    ∷ word.Try
    ∷ word.Except ∷ word.As ∷ word.Finally ∷ word.With ∷ word.Group ∷ word.Timeout ∷ word.And ∷ word.Or ∷ word.Not ∷ word.TrueValue ∷ word.FalseValue
    ∷ word.NoneValue ∷ []

abbrev pub reserved_of : List ℕ → Option ReservedWord
reserved_of name = find (λ reserved. bytes_eq (reserved_text reserved) name) reserved_words

-- A token without its columns. Reserved words are no names.
pub data Lexeme : Type 0 where
  Reserved : (reserved : ReservedWord) → Lexeme
  Named : (name : List ℕ) → Lexeme
  Number : (number : ℤ) → Lexeme
  Texts : (text : List ℕ) → Lexeme
  Octets : (bytes : List ℕ) → Lexeme
  Sign : (symbol : AnySymbol) → Lexeme

abbrev pub word_or_name : List ℕ → Option ReservedWord → Lexeme
word_or_name name (Some reserved) = Reserved reserved
word_or_name name None = Named name

abbrev pub lexeme_of : TokenClass → Lexeme
lexeme_of (Name name) = word_or_name name (reserved_of name)
lexeme_of (Int number) = Number number
lexeme_of (Text text) = Texts text
lexeme_of (Bytes bytes) = Octets bytes
lexeme_of (Symbol symbol) = Sign symbol

abbrev pub lexemes_of : List Token → List Lexeme
lexemes_of tokens = map (λ token. lexeme_of token.class) tokens

-- the lexeme is this symbol
abbrev pub is_sign : AnySymbol → Lexeme → Bool
is_sign symbol (Sign other) = sameb the_type symbol other
is_sign symbol _ = false
