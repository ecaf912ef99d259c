-- What is read from the tokens of a line: names are names, constants are in range, and calls have the arguments that
-- their names want.
use Rattle.std.proofs.Common.{◌≡◌, ℕ, Bool, true, false, List, [], ◌∷◌, Option, Some, None, Ok, refl, sym, subst}
use Rattle.std.specs.Prelude.{option_and_then, option_map}
use Rattle.std.specs.List.{AllByRecursion}
use Rattle.std.specs.Str.{bytes_eq}
use Rattle.model_tree.specs.Syntax.{Name, IntConstant, TextConstant, BytesConstant}
use Rattle.model_tree.specs.Known.{error_text}
use Rattle.model_text.specs.declared.reserved_word.ReservedWord.{ReservedWord}
use Rattle.model_text.specs.Tokens.{TokenClass, Name as NameClass, Int, Text, Bytes, Symbol, Token, tokens_of}
use Rattle.model_text.specs.Cuts.{IsName}
use Rattle.model_text.specs.Lines.{IsTokenValue}
use Rattle.model_text.specs.Words.{Lexeme, Reserved, Named, Number, Texts, Octets, Sign, reserved_of, word_or_name, lexeme_of, lexemes_of}
use Rattle.model_text.specs.Terms.{Term, Or, And, Not, Compare, Calculate, Negate, Index, Constantly, Variable, ListOf, Called, Terms, no_terms, term_then}
use Rattle.model_text.specs.Terms.{terms}
use Rattle.model_text.specs.Levels.{all_of}
use Rattle.law_tokens.proofs.LineLemmas.{Reads-tokens_of}
use Rattle.law_tokens.proofs.RangeLemmas.{each_in_range}
use Rattle.law_lines.specs.WellWritten.{WellNamed, WellWrittenConstant}

-- ---- tokens
abbrev pub GoodLexeme : Lexeme → Type 0
GoodLexeme (Reserved reserved) = Unit {0}
GoodLexeme (Named name) = WellNamed name
GoodLexeme (Number number) = WellWrittenConstant (IntConstant number)
GoodLexeme (Texts text) = WellWrittenConstant (TextConstant text)
GoodLexeme (Octets bytes) = WellWrittenConstant (BytesConstant bytes)
GoodLexeme (Sign symbol) = Unit {0}

abbrev pub AllGood : List Lexeme → Type 0
AllGood lexemes = AllByRecursion GoodLexeme lexemes

good-name : (name : Name) → IsName name → (found : Option ReservedWord) → reserved_of name ≡ found → GoodLexeme (word_or_name name found)
good-name name n (Some reserved) e = tt
good-name name n None e = (n, e)

good-class : (class : TokenClass) → IsTokenValue class → GoodLexeme (lexeme_of class)
good-class (NameClass name) v = good-name name v (reserved_of name) refl
good-class (Int number) v = v
good-class (Text text) v = v
good-class (Bytes bytes) v = v
good-class (Symbol symbol) v = tt

good-classes : (tokens : List Token) → AllByRecursion (λ token. IsTokenValue token.class) tokens → AllGood (lexemes_of tokens)
good-classes [] v = tt
good-classes (token ∷ tokens) v = (good-class token.class v.0, good-classes tokens v.1)

-- the tokens of a line
pub good-tokens : (line : List ℕ) (tokens : List Token) → tokens_of line ≡ Ok tokens → AllGood (lexemes_of tokens)
good-tokens line tokens e = good-classes tokens (each_in_range 1 line tokens (Reads-tokens_of line tokens e))

-- ---- terms
-- A kind stands before all other arguments of `error`, and no other call has a bare name.
abbrev pub CalledAs : Bool → Terms → Option Name → Terms → Type 0
CalledAs true before bare after = before ≡ no_terms
CalledAs false before bare after = (bare ≡ None) × (after ≡ no_terms)

abbrev mutual
  pub GoodTerm : Term → Type 0
  GoodTerm (Or left right) = GoodTerm left × GoodTerm right
  GoodTerm (And left right) = GoodTerm left × GoodTerm right
  GoodTerm (Not operand) = GoodTerm operand
  GoodTerm (Compare comparison left right) = GoodTerm left × GoodTerm right
  GoodTerm (Calculate operator left right) = GoodTerm left × GoodTerm right
  GoodTerm (Negate operand) = GoodTerm operand
  GoodTerm (Index sequence index) = GoodTerm sequence × GoodTerm index
  GoodTerm (Constantly constant) = WellWrittenConstant constant
  GoodTerm (Variable name) = WellNamed name
  GoodTerm (ListOf items) = GoodTerms items
  GoodTerm (Called name before bare after) =
      CalledAs (bytes_eq name error_text) before bare after × GoodTerms before × GoodTerms after

  pub GoodTerms : Terms → Type 0
  GoodTerms no_terms = Unit {0}
  GoodTerms (term_then first others) = GoodTerm first × GoodTerms others

abbrev pub AllGoodTerms : List Term → Type 0
AllGoodTerms all = AllByRecursion GoodTerm all

pub good-row : (all : List Term) → AllGoodTerms all → GoodTerms (terms all)
good-row [] g = tt
good-row (first ∷ others) g = (g.0, good-row others g.1)

-- ---- what answers came from
pub then-some : {A B : Type 0} (f : A → Option B) (found : Option A) (b : B) → option_and_then f found ≡ Some b → (a : A) × (found ≡ Some a) × (f a ≡ Some b)
then-some f None b e = cc
then-some f (Some a) b e = (a, refl, e)

pub map-some : {A B : Type 0} (f : A → B) (found : Option A) (b : B) → option_map f found ≡ Some b → (a : A) × (found ≡ Some a) × (f a ≡ b)
map-some f None b e = cc
map-some f (Some a) b e = (a, refl, cc)

pub all-some : {A B : Type 0} (P : A → Type 0) (Q : B → Type 0) (f : A → Option B) → ((a : A) (b : B) → P a → f a ≡ Some b → Q b) → (xs : List A) (ys : List B)
    → AllByRecursion P xs → all_of f xs ≡ Some ys → AllByRecursion Q ys
all-some P Q f g [] ys p e = let none : ys ≡ [] = cc in subst (AllByRecursion Q) (sym none) tt
all-some P Q f g (x ∷ xs) ys p e =
    let first = then-some (λ y. option_map (λ ys. y ∷ ys) (all_of f xs)) (f x) ys e in
    let others = map-some (λ ys. first.0 ∷ ys) (all_of f xs) ys first.2 in
    subst (AllByRecursion Q) others.2 (g x first.0 p.0 first.1, all-some P Q f g xs others.0 p.1 others.1)
