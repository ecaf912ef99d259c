-- The forms of lines, and which tokens spell which form.
-- Source: the Python language reference, "Simple statements" and "Compound statements", cut to what scripts have; blocks end
-- by `end`.
use Rattle.std.specs.Prelude.{ℕ, nat_abs, List, [], ◌∷◌, Option, Some, None, option_map, option_and_then, if◌then◌else◌}
use Rattle.std.specs.Str.{bytes_eq}
use Rattle.model_tree.specs.Syntax.{Name}
use Rattle.model_tree.specs.Known.{spawn_text, create_text, listen_text}
use Rattle.model_text.specs.declared.symbol.Symbol.TheVariants as symbol
use Rattle.model_text.specs.declared.reserved_word.ReservedWord.{ReservedWord}
use Rattle.model_text.specs.declared.reserved_word.ReservedWord.TheVariants as word
use Rattle.model_text.specs.Words.{Lexeme, Reserved, Named, Number, Sign, is_sign}
use Rattle.model_text.specs.Terms.{Term}
use Rattle.model_text.specs.Cutting.{parts, before_last}
use Rattle.model_text.specs.Levels.{Parser, all_of, bare_name, Arguments, arguments_of, term_of}

-- A line's form, with expressions E, targets G of `yield from`, and kinds K.
pub data Form (E G K : Type 0) : Type 0 where
  Profile : (number : ℕ) → Form E G K
  Def : (name : Name) (parameters : List Name) → Form E G K
  Assign : (name : Name) (value : E) → Form E G K
  Yield : Form E G K
  YieldFrom : (into : Option Name) (target : G) → Form E G K
  Print : (items : List E) → Form E G K
  Raise : (fault : E) → Form E G K
  Return : (value : Option E) → Form E G K
  Pass : Form E G K
  If : (test : E) → Form E G K
  Else : Form E G K
  While : (test : E) → Form E G K
  Try : Form E G K
  Except : (kind : K) (name : Option Name) → Form E G K
  Finally : Form E G K
  WithGroup : (name : Name) → Form E G K
  WithTimeout : (delay : E) (name : Name) → Form E G K
  End : Form E G K

-- what `yield from` names: a variable, or a call
pub data Goal : Type 0 where
  Awaited : (name : Name) → Goal
  Asked : (name : Name) (arguments : Arguments) → Goal

-- a line before names are looked up
abbrev pub Spelled : Type 0
Spelled = Form Term Goal Name

-- the place of the coroutine among the arguments of a request
abbrev pub coroutine_place : Name → Option ℕ
coroutine_place name =
    if bytes_eq name spawn_text then Some 0
    else (if bytes_eq name create_text then Some 1
    else (if bytes_eq name listen_text then Some 1
    else None))

-- `NAME`, or `NAME(ARG, ..)`
abbrev pub goal_of : Parser Goal
goal_of (Named name ∷ []) = Some (Awaited name)
goal_of (Named name ∷ next ∷ lexemes) =
    if is_sign symbol.LeftParenthesis next
    then option_and_then (λ inner. option_map (Asked name) (arguments_of term_of (coroutine_place name) (parts inner)))
    (before_last symbol.RightParenthesis lexemes)
    else None
goal_of _ = None

-- ---- what stands behind the first word of a line
abbrev pub alone : Spelled → Parser Spelled
alone form [] = Some form
alone form _ = None

abbrev pub with_term : (Term → Spelled) → Parser Spelled
with_term form lexemes = option_map form (term_of lexemes)

abbrev pub profile_form : Parser Spelled
profile_form (Number number ∷ []) = Some (Profile (nat_abs number))
profile_form _ = None

-- `NAME(NAME, ..)`
abbrev pub def_form : Parser Spelled
def_form (Named name ∷ next ∷ lexemes) =
    if is_sign symbol.LeftParenthesis next
    then option_and_then (λ inner. option_map (Def name) (all_of bare_name (parts inner))) (before_last symbol.RightParenthesis lexemes)
    else None
def_form _ = None

-- a bare `yield`, or `yield from TARGET`
abbrev pub yield_from : Option Name → Parser Spelled
yield_from into (Reserved word.From ∷ lexemes) = option_map (YieldFrom into) (goal_of lexemes)
yield_from into _ = None

abbrev pub yield_form : Parser Spelled
yield_form [] = Some Yield
yield_form (lexeme ∷ lexemes) = yield_from None (lexeme ∷ lexemes)

-- `NAME = EXPR`, or `NAME = yield from TARGET`
abbrev pub assigned_form : Name → Parser Spelled
assigned_form name (Reserved word.Yield ∷ lexemes) = yield_from (Some name) lexemes
assigned_form name lexemes = with_term (Assign name) lexemes

abbrev pub name_form : Name → Parser Spelled
name_form name [] = None
name_form name (next ∷ lexemes) = if is_sign symbol.Assign next then assigned_form name lexemes else None

-- one expression or more
abbrev pub print_form : Parser Spelled
print_form [] = None
print_form (lexeme ∷ lexemes) = option_map Print (all_of term_of (parts (lexeme ∷ lexemes)))

abbrev pub return_form : Parser Spelled
return_form [] = Some (Return None)
return_form (lexeme ∷ lexemes) = with_term (λ value. Return (Some value)) (lexeme ∷ lexemes)

-- `KIND`, or `KIND as NAME`
abbrev pub except_form : Parser Spelled
except_form (Named kind ∷ []) = Some (Except kind None)
except_form (Named kind ∷ Reserved word.As ∷ Named name ∷ []) = Some (Except kind (Some name))
except_form _ = None

-- what stands before `) as NAME` at the end, with the name
abbrev pub closed_as : Lexeme → List Lexeme → Option (List Lexeme × Name) → Option (List Lexeme × Name)
closed_as (Sign symbol.RightParenthesis) (Reserved word.As ∷ Named name ∷ []) found = Some ([], name)
closed_as lexeme lexemes found = option_map (λ pair. (lexeme ∷ pair.0, pair.1)) found

abbrev pub before_as : List Lexeme → Option (List Lexeme × Name)
before_as [] = None
before_as (lexeme ∷ lexemes) = closed_as lexeme lexemes (before_as lexemes)

-- `group as NAME`, or `timeout(EXPR) as NAME`
abbrev pub with_form : Parser Spelled
with_form (Reserved word.Group ∷ Reserved word.As ∷ Named name ∷ []) = Some (WithGroup name)
with_form (Reserved word.Timeout ∷ Sign symbol.LeftParenthesis ∷ lexemes) =
    option_and_then (λ pair. option_map (λ delay. WithTimeout delay pair.1) (term_of pair.0)) (before_as lexemes)
with_form _ = None

abbrev pub form_behind : ReservedWord → Parser Spelled
form_behind word.Profile lexemes = profile_form lexemes
form_behind word.Def lexemes = def_form lexemes
form_behind word.End lexemes = alone End lexemes
form_behind word.Yield lexemes = yield_form lexemes
form_behind word.Print lexemes = print_form lexemes
form_behind word.Raise lexemes = with_term Raise lexemes
form_behind word.Return lexemes = return_form lexemes
form_behind word.Pass lexemes = alone Pass lexemes
form_behind word.If lexemes = with_term If lexemes
form_behind word.Else lexemes = alone Else lexemes
form_behind word.While lexemes = with_term While lexemes
form_behind word.Try lexemes = alone Try lexemes
form_behind word.Except lexemes = except_form lexemes
form_behind word.Finally lexemes = alone Finally lexemes
form_behind word.With lexemes = with_form lexemes
form_behind _ lexemes = None

-- The form of a line, which has lexemes.
unfoldable pub form_of : Parser Spelled
form_of (Reserved reserved ∷ lexemes) = form_behind reserved lexemes
form_of (Named name ∷ lexemes) = name_form name lexemes
form_of _ = None
