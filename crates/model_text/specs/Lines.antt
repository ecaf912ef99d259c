-- Which tokens a line has, told without a way to find them: the line is spaces and tokens, and perhaps a comment behind
-- them. `tokens_of` answers these tokens, and a fault only where there are none.
-- Source: the Python language reference, "Lexical analysis", cut to what scripts have.
use Rattle.std.specs.Prelude.{◌≡◌, ℕ, ◌+◌, ◌-◌, ◌^◌, ◌<◌, ◌≤◌, true, false, List, [], ◌∷◌, ◌++◌, length, drop, replicate, slice_range, pos, Some, codes}
use Rattle.std.specs.List.{list_all, AllByRecursion}
use Rattle.std.specs.Char.{is_ascii_digit}
use Rattle.model_text.specs.Letters.{is_allowed, is_word, is_hash, is_quote}
use Rattle.model_text.specs.Symbols.{symbol_text}
use Rattle.model_text.specs.declared.literal.Literal.{Literal}
use Rattle.model_text.specs.declared.literal.Literal.TheVariants.{OfText, OfBytes}
use Rattle.model_text.specs.Literals.{opening, part_value}
use Rattle.model_text.specs.Tokens.{TokenClass, Name, Int, Text, Bytes, Symbol, Token, number_of}
use Rattle.model_text.specs.Cuts.{FirstIs, IsName, IsLongest}

-- decimal digits, one at least
abbrev pub IsDecimal : List ℕ → Type 0
IsDecimal text = (0 < length text) × (list_all is_ascii_digit text ≡ true)

-- The inside of a literal says these bytes, each by a part of its own: a byte for itself, or an escape.
abbrev pub Says : Literal → List ℕ → List ℕ → Type 0
Says literal [] inside = inside ≡ []
Says literal (byte ∷ bytes) inside =
    (part others : List ℕ) × (inside ≡ part ++ others) × (part_value literal part ≡ Some byte) × Says literal bytes others

-- the text is a literal that says these bytes
abbrev pub IsLiteral : Literal → List ℕ → List ℕ → Type 0
IsLiteral literal bytes text =
    (inside : List ℕ) × (text ≡ opening literal ++ (inside ++ codes "\"")) × Says literal bytes inside

-- the text is one of this token, alone
abbrev pub SpellsToken : TokenClass → List ℕ → Type 0
SpellsToken (Name name) text = IsName name × (text ≡ name)
SpellsToken (Int number) text =
    IsDecimal text × (number_of text < 2 ^ 63) × (number ≡ pos (number_of text))
SpellsToken (Text bytes) text = IsLiteral OfText bytes text
SpellsToken (Bytes bytes) text = IsLiteral OfBytes bytes text
SpellsToken (Symbol symbol) text = text ≡ symbol_text symbol

-- the token doesn't go on in the bytes behind it
abbrev pub Ends : TokenClass → List ℕ → Type 0
Ends (Name name) rest =
    FirstIs is_word false rest × (name ≡ codes "b" → FirstIs is_quote false rest)
Ends (Int number) rest = FirstIs is_word false rest
Ends (Symbol symbol) rest = IsLongest symbol rest
Ends (Text bytes) rest = Unit {0}
Ends (Bytes bytes) rest = Unit {0}

-- The bytes from this column on are spaces, the token, and the rest.
pub record ReadsToken (column : ℕ) (bytes : List ℕ) (token : Token) (rest : List ℕ) : Type 0 where
  pub spaces : ℕ
  pub text : List ℕ
  pub whole : bytes ≡ replicate spaces 32 ++ (text ++ rest)
  pub spelled : SpellsToken token.class text
  pub ended : Ends token.class rest
  pub start : token.start ≡ column + spaces
  pub end : token.end ≡ token.start + length text

-- nothing, or # and allowed bytes behind it
abbrev pub IsComment : List ℕ → Type 0
IsComment [] = Unit {0}
IsComment (first ∷ others) = (is_hash first ≡ true) × (list_all is_allowed others ≡ true)

-- The bytes from this column on are spaces and these tokens, and then spaces and perhaps a comment.
abbrev pub Reads : ℕ → List ℕ → List Token → Type 0
Reads column bytes [] =
    (spaces : ℕ) × (comment : List ℕ) × (bytes ≡ replicate spaces 32 ++ comment) × IsComment comment
Reads column bytes (token ∷ tokens) =
    (rest : List ℕ) × ReadsToken column bytes token rest × Reads token.end rest tokens

-- A token by its span: it stands behind this column, spaces alone come before it, and its slice of the line spells it.
pub record IsGivenBack (line : List ℕ) (column : ℕ) (token : Token) : Type 0 where
  pub behind : column ≤ token.start
  pub rises : token.start < token.end
  pub within : token.end ≤ length line + 1
  pub blanks : slice_range line (column - 1) (token.start - 1) ≡ replicate (token.start - column) 32
  pub spelled : SpellsToken token.class (slice_range line (token.start - 1) (token.end - 1))

-- The tokens and their spans give the line back from this column on: spans rise, and between the tokens stand spaces
-- and behind them spaces and perhaps a comment.
abbrev pub GivesBack : List ℕ → ℕ → List Token → Type 0
GivesBack line column [] =
    (spaces : ℕ) × (comment : List ℕ) × (drop (column - 1) line ≡ replicate spaces 32 ++ comment) × IsComment comment
GivesBack line column (token ∷ tokens) = IsGivenBack line column token × GivesBack line token.end tokens

-- which values a token has
abbrev pub IsTokenValue : TokenClass → Type 0
IsTokenValue (Name name) = IsName name
IsTokenValue (Int number) = (size : ℕ) × (number ≡ pos size) × (size < 2 ^ 63)
IsTokenValue (Text text) = AllByRecursion (λ byte. byte < 128) text
IsTokenValue (Bytes bytes) = AllByRecursion (λ byte. byte < 256) bytes
IsTokenValue (Symbol symbol) = Unit {0}
