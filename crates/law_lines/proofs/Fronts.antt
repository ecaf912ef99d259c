-- Texts that read as given tokens in front of each text behind which no token goes on.
use Rattle.std.proofs.Common.{◌≡◌, ℕ, zero, suc, ◌+◌, false, List, [], ◌∷◌, ◌++◌, length, drop, replicate, Some, refl, sym, ap, subst, ◌∙◌, arith, append_assoc}
use Rattle.std.proofs.Math.Seq.{drop-append_seam}
use Rattle.model_text.specs.declared.symbol.Symbol.{Symbol as AnySymbol}
use Rattle.model_text.specs.Letters.{is_word, is_quote}
use Rattle.model_text.specs.Symbols.{symbol_text, symbol_at}
use Rattle.model_text.specs.Tokens.{TokenClass, Symbol, Token, token_of}
use Rattle.model_text.specs.Cuts.{FirstIs, IsLongest}
use Rattle.model_text.specs.Lines.{SpellsToken, Ends, Reads}
use Rattle.model_text.specs.Words.{Lexeme, Sign, lexeme_of, lexemes_of}
use Rattle.law_tokens.proofs.LineLemmas.{Reads-blank}
use Rattle.law_tokens.proofs.SymbolLemmas.{SymbolIs, symbol_is}

-- from each column on the bytes are spaces and tokens with these lexemes
abbrev pub Has : List ℕ → List Lexeme → Type 0
Has bytes lexemes =
    (column : ℕ) → (tokens : List Token) × Reads column bytes tokens × (lexemes_of tokens ≡ lexemes)

-- behind the bytes no name and no number goes on
abbrev pub Quiet : List ℕ → Type 0
Quiet bytes = FirstIs is_word false bytes × FirstIs is_quote false bytes

-- the text reads so in front of each text
abbrev pub Leads : List ℕ → List Lexeme → Type 0
Leads text lexemes = (rest : List ℕ) (others : List Lexeme) → Has rest others → Has (text ++ rest) (lexemes ++ others)

-- the text reads so in front of each quiet text
abbrev pub Fronts : List ℕ → List Lexeme → Type 0
Fronts text lexemes =
    (rest : List ℕ) (others : List Lexeme) → Quiet rest → Has rest others → Has (text ++ rest) (lexemes ++ others)

pub quiet-append : (text rest : List ℕ) → Quiet text → Quiet rest → Quiet (text ++ rest)
quiet-append [] rest q r = r
quiet-append (byte ∷ text) rest q r = q

-- ---- one text behind the other
pub moved : (a b rest : List ℕ) (la lb others : List Lexeme) → Has (a ++ (b ++ rest)) (la ++ (lb ++ others)) → Has ((a ++ b) ++ rest) ((la ++ lb) ++ others)
moved a b rest la lb others h =
    subst (λ text. Has text ((la ++ lb) ++ others)) (sym (append_assoc a b rest)) (subst (Has (a ++ (b ++ rest))) (sym (append_assoc la lb others)) h)

pub fronts-then : (a b : List ℕ) (la lb : List Lexeme) → Fronts a la → Quiet b → Fronts b lb → Fronts (a ++ b) (la ++ lb)
fronts-then a b la lb f q g rest others r h =
    moved a b rest la lb others (f (b ++ rest) (lb ++ others) (quiet-append b rest q r) (g rest others r h))

pub leads-then : (a b : List ℕ) (la lb : List Lexeme) → Leads a la → Fronts b lb → Fronts (a ++ b) (la ++ lb)
leads-then a b la lb f g rest others r h = moved a b rest la lb others (f (b ++ rest) (lb ++ others) (g rest others r h))

-- the same text, grouped from the left
pub regrouped : (a b c : List ℕ) (lexemes : List Lexeme) → Fronts (a ++ (b ++ c)) lexemes → Fronts ((a ++ b) ++ c) lexemes
regrouped a b c lexemes f = subst (λ text. Fronts text lexemes) (sym (append_assoc a b c)) f

pub leads-leads : (a b : List ℕ) (la lb : List Lexeme) → Leads a la → Leads b lb → Leads (a ++ b) (la ++ lb)
leads-leads a b la lb f g rest others h = moved a b rest la lb others (f (b ++ rest) (lb ++ others) (g rest others h))

pub leads-fronts : (a : List ℕ) (la : List Lexeme) → Leads a la → Fronts a la
leads-fronts a la f rest others r h = f rest others h

pub nothing-fronts : Fronts [] []
nothing-fronts rest others r h = h

-- ---- blanks
pub blank-leads : Leads (32 ∷ []) []
blank-leads rest others h column =
    let t = h (column + 1) in
    (t.0, Reads-blank column rest t.0 t.1, t.2)

pub blanks-lead : (spaces : ℕ) → Leads (replicate spaces 32) []
blanks-lead zero rest others h = h
blanks-lead (suc spaces) rest others h =
    blank-leads (replicate spaces 32 ++ rest) others (blanks-lead spaces rest others h)

-- a text, and a blank behind it
pub spaced : (a : List ℕ) (la : List Lexeme) → Fronts a la → Leads (a ++ 32 ∷ []) la
spaced a la f rest others h =
    subst (λ text. Has text (la ++ others)) (sym (append_assoc a (32 ∷ []) rest)) (f (32 ∷ rest) others (refl, refl) (blank-leads rest others h))

-- ---- one token
one-token : (class : TokenClass) (text rest : List ℕ) (others : List Lexeme) → SpellsToken class text → Ends class rest → Has rest others
    → Has (text ++ rest) (lexeme_of class ∷ others)
one-token class text rest others spelled ended h column =
    let t = h (column + length text) in (
      token_of column text class ∷ t.0,
      (
        rest,
        record { spaces = 0; text = text; whole = refl; spelled = spelled; ended = ended; start = omega arith; end = refl },
        t.1,
      ),
      ap (λ l. lexeme_of class ∷ l) t.2,
    )

pub token-fronts : (class : TokenClass) (text : List ℕ) → SpellsToken class text → ((rest : List ℕ) → Quiet rest → Ends class rest)
    → Fronts text (lexeme_of class ∷ [])
token-fronts class text spelled ended rest others r h = one-token class text rest others spelled (ended rest r) h

-- ---- symbols
-- the symbol that is found is the longest
longest : (symbol : AnySymbol) (rest : List ℕ) → symbol_at (symbol_text symbol ++ rest) ≡ Some symbol → IsLongest symbol rest
longest symbol rest e =
    let text = symbol_text symbol in
    let found : SymbolIs (text ++ rest) (Some symbol) = subst (SymbolIs (text ++ rest)) e (symbol_is (text ++ rest)) in
    let same : rest ≡ found.0 =
    sym (drop-append_seam text rest) ∙ (ap (drop (length text)) found.1 ∙ drop-append_seam text found.0) in
    subst (IsLongest symbol) (sym same) found.2

pub sign-leads : (symbol : AnySymbol) → ((rest : List ℕ) → symbol_at (symbol_text symbol ++ rest) ≡ Some symbol) → Leads (symbol_text symbol) (Sign symbol ∷ [])
sign-leads symbol e rest others h =
    one-token (Symbol symbol) (symbol_text symbol) rest others refl (longest symbol rest (e rest)) h

-- a symbol between blanks
pub spaced-sign : (symbol : AnySymbol) → ((rest : List ℕ) → symbol_at (symbol_text symbol ++ 32 ∷ rest) ≡ Some symbol)
    → Leads (32 ∷ (symbol_text symbol ++ 32 ∷ [])) (Sign symbol ∷ [])
spaced-sign symbol e rest others h =
    blank-leads ((symbol_text symbol ++ 32 ∷ []) ++ rest) (Sign symbol ∷ others)
    (subst (λ text. Has text (Sign symbol ∷ others)) (sym (append_assoc (symbol_text symbol) (32 ∷ []) rest))
    (one-token (Symbol symbol) (symbol_text symbol) (32 ∷ rest) others refl (longest symbol (32 ∷ rest) (e rest)) (blank-leads rest others h)))
