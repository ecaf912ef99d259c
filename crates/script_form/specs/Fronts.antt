-- Lexemes that begin so, by what stands behind.
-- Source: the definition of forms (model_text, specs/Forms.antt), whose cases begin so.
use Rattle.std.specs.Prelude.{Bool, false, List, [], ◌∷◌, Option, Some, None, option_map, option_and_then, if◌then◌else◌}
use denote.Enum.Bare.{sameb}
use Rattle.model_tree.specs.Syntax.{Name}
use Rattle.model_text.specs.contracts.reserved_word.ReservedWord.{the_type}
use Rattle.model_text.specs.declared.reserved_word.ReservedWord.{ReservedWord}
use Rattle.model_text.specs.declared.symbol.Symbol.{Symbol}
use Rattle.model_text.specs.declared.symbol.Symbol.TheVariants as symbol
use Rattle.model_text.specs.declared.reserved_word.ReservedWord.TheVariants as word
use Rattle.model_text.specs.Cutting.{before_last}
use Rattle.model_text.specs.Forms.{Spelled, WithTimeout, before_as}
use Rattle.model_text.specs.Levels.{bare_name, term_of}
use Rattle.model_text.specs.Words.{Lexeme, Reserved, Named, is_sign}

-- the lexeme is this reserved word
abbrev pub is_word : ReservedWord → Lexeme → Bool
is_word word (Reserved other) = sameb the_type word other
is_word word _ = false

abbrev pub name_in : Lexeme → Option Name
name_in (Named name) = Some name
name_in _ = None

-- what stands behind this symbol
abbrev pub behind_sign : Symbol → List Lexeme → Option (List Lexeme)
behind_sign symbol [] = None
behind_sign symbol (lexeme ∷ lexemes) = if is_sign symbol lexeme then Some lexemes else None

-- what stands behind this reserved word
abbrev pub behind_word : ReservedWord → List Lexeme → Option (List Lexeme)
behind_word word [] = None
behind_word word (lexeme ∷ lexemes) = if is_word word lexeme then Some lexemes else None

-- a name, and what stands behind it
abbrev pub behind_name : List Lexeme → Option (Name × List Lexeme)
behind_name [] = None
behind_name (lexeme ∷ lexemes) = option_map (λ name. (name, lexemes)) (name_in lexeme)

-- what stands between a parenthesis at the front and one at the end
abbrev pub in_parentheses : List Lexeme → Option (List Lexeme)
in_parentheses lexemes =
    option_and_then (before_last symbol.RightParenthesis) (behind_sign symbol.LeftParenthesis lexemes)

-- the name of `as NAME`
abbrev pub as_name : List Lexeme → Option Name
as_name lexemes = option_and_then bare_name (behind_word word.As lexemes)

-- the name of `) as NAME`
abbrev pub closing_name : List Lexeme → Option Name
closing_name lexemes = option_and_then as_name (behind_sign symbol.RightParenthesis lexemes)

-- the lexemes of the expression and the name of `timeout(EXPR) as NAME`
abbrev pub timeout_parts : List Lexeme → Option (List Lexeme × Name)
timeout_parts lexemes =
    option_and_then before_as (option_and_then (behind_sign symbol.LeftParenthesis) (behind_word word.Timeout lexemes))

abbrev pub timeout_form : List Lexeme → Option Spelled
timeout_form lexemes =
    option_and_then (λ found. option_map (λ delay. WithTimeout delay found.1) (term_of found.0)) (timeout_parts lexemes)
