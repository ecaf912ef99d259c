-- The longest symbol that fits is the first in the list that does.
use Rattle.std.proofs.Common.{◌≡◌, ℕ, ◌≤◌, Bool, true, false, cond, ◌⊎◌, inl, inr, List, [], ◌∷◌, ◌++◌, length, take, drop, refl, sym, ap, ◌∙◌, Option, Some}
use Rattle.std.proofs.Common.{None, arith, nat_eq, find}
use Rattle.std.specs.List.{starts_with}
use Rattle.std.proofs.Math.Seq.{take-append_seam}
use Rattle.std.proofs.lemmas.Slice.Eq.{starts_is}
use Rattle.std.proofs.lemmas.Bool.Decides.{Decides-eqb}
use Rattle.model_text.specs.declared.symbol.Symbol.{Symbol}
use Rattle.model_text.specs.declared.symbol.Symbol.TheVariants.{LeftParenthesis, RightParenthesis, LeftBracket, RightBracket, Comma, Assign, Equals, NotEquals}
use Rattle.model_text.specs.declared.symbol.Symbol.TheVariants.{LessThan, LessOrEqual, GreaterThan, GreaterOrEqual, Plus, Minus, Star, DoubleSlash, Percent}
use Rattle.model_text.specs.Symbols.{symbol_text, symbols, symbol_at}
use Rattle.model_text.specs.Cuts.{BeginsWith, IsLongest}

-- x is in the list, by its place from the front
abbrev Among : Symbol → List Symbol → Type 0
Among x [] = ⊥
Among x (y ∷ ys) = (x ≡ y) ⊎ Among x ys

-- no symbol of the list is longer than this one
abbrev NoneLonger : Symbol → List Symbol → Type 0
NoneLonger x [] = Unit {0}
NoneLonger x (y ∷ ys) = (length (symbol_text y) ≤ length (symbol_text x)) × NoneLonger x ys

-- none is longer than one that stands before it
abbrev Falls : List Symbol → Type 0
Falls [] = Unit {0}
Falls (x ∷ xs) = NoneLonger x xs × Falls xs

none_longer : (x y : Symbol) (ys : List Symbol) → NoneLonger x ys → Among y ys → length (symbol_text y) ≤ length (symbol_text x)
none_longer x y [] h a = absurd a
none_longer x y (z ∷ zs) h (inl e) = rw e h.0
none_longer x y (z ∷ zs) h (inr a) = none_longer x y zs h.1 a

among_all : (x : Symbol) → Among x symbols
among_all LeftParenthesis = inr (inr (inr (inr (inr (inl refl)))))
among_all RightParenthesis = inr (inr (inr (inr (inr (inr (inl refl))))))
among_all LeftBracket = inr (inr (inr (inr (inr (inr (inr (inl refl)))))))
among_all RightBracket = inr (inr (inr (inr (inr (inr (inr (inr (inl refl))))))))
among_all Comma = inr (inr (inr (inr (inr (inr (inr (inr (inr (inl refl)))))))))
among_all Assign = inr (inr (inr (inr (inr (inr (inr (inr (inr (inr (inl refl))))))))))
among_all Equals = inl refl
among_all NotEquals = inr (inl refl)
among_all LessThan = inr (inr (inr (inr (inr (inr (inr (inr (inr (inr (inr (inl refl)))))))))))
among_all LessOrEqual = inr (inr (inl refl))
among_all GreaterThan = inr (inr (inr (inr (inr (inr (inr (inr (inr (inr (inr (inr (inl refl))))))))))))
among_all GreaterOrEqual = inr (inr (inr (inl refl)))
among_all Plus = inr (inr (inr (inr (inr (inr (inr (inr (inr (inr (inr (inr (inr (inl refl)))))))))))))
among_all Minus = inr (inr (inr (inr (inr (inr (inr (inr (inr (inr (inr (inr (inr (inr (inl refl))))))))))))))
among_all Star = inr (inr (inr (inr (inr (inr (inr (inr (inr (inr (inr (inr (inr (inr (inr (inl refl)))))))))))))))
among_all DoubleSlash = inr (inr (inr (inr (inl refl))))
among_all Percent = inr (inr (inr (inr (inr (inr (inr (inr (inr (inr (inr (inr (inr (inr (inr (inr (inl refl))))))))))))))))

falls_all : Falls symbols
falls_all = omega arith

-- what `find` tells: what it found passes, and no longer one does; where it found nothing, none passes
abbrev Finds : (Symbol → Bool) → List Symbol → Option Symbol → Type 0
Finds p xs None = (y : Symbol) → Among y xs → p y ≡ false
Finds p xs (Some x) =
    (p x ≡ true) × ((y : Symbol) → Among y xs → p y ≡ true → length (symbol_text y) ≤ length (symbol_text x))

passed_over : (p : Symbol → Bool) (x : Symbol) (xs : List Symbol) (o : Option Symbol) → p x ≡ false → Finds p xs o → Finds p (x ∷ xs) o
passed_over p x xs None fails f = λ y a. at_first y a
  where
    at_first : (y : Symbol) → Among y (x ∷ xs) → p y ≡ false
    at_first y (inl e) = rw e fails
    at_first y (inr a) = f y a
passed_over p x xs (Some found) fails f = (f.0, λ y a passes. at_first y a passes)
  where
    at_first : (y : Symbol) → Among y (x ∷ xs) → p y ≡ true → length (symbol_text y) ≤ length (symbol_text found)
    at_first y (inl e) passes = let same = ap p e in cc
    at_first y (inr a) passes = f.1 y a passes

by_test : (p : Symbol → Bool) (x : Symbol) (xs : List Symbol) (b : Bool) → NoneLonger x xs → p x ≡ b → Finds p xs (find p xs)
    → Finds p (x ∷ xs) (cond b (Some x) (find p xs))
by_test p x xs true least e f = (e, λ y a passes. at_first y a)
  where
    at_first : (y : Symbol) → Among y (x ∷ xs) → length (symbol_text y) ≤ length (symbol_text x)
    at_first y (inl e) = rw e (omega arith)
    at_first y (inr a) = none_longer x y xs least a
by_test p x xs false least e f = passed_over p x xs (find p xs) e f

finds : (p : Symbol → Bool) (xs : List Symbol) → Falls xs → Finds p xs (find p xs)
finds p [] falls = λ y a. absurd a
finds p (x ∷ xs) falls = by_test p x xs (p x) falls.0 refl (finds p xs falls.1)

-- a symbol fits where the bytes begin with its text
begins : (bytes : List ℕ) (symbol : Symbol) → starts_with nat_eq bytes (symbol_text symbol) ≡ true → BeginsWith bytes (symbol_text symbol)
begins bytes symbol h =
    (drop (length (symbol_text symbol)) bytes, (starts_is Decides-eqb bytes (symbol_text symbol) (starts_with nat_eq bytes (symbol_text symbol)) refl).0 h)

fits : (bytes : List ℕ) (symbol : Symbol) → BeginsWith bytes (symbol_text symbol) → starts_with nat_eq bytes (symbol_text symbol) ≡ true
fits bytes symbol b =
    (starts_is Decides-eqb bytes (symbol_text symbol) (starts_with nat_eq bytes (symbol_text symbol)) refl).1 b.0 b.1

-- What stands at the front: a symbol that no longer one fits beside, or none that fits.
abbrev pub SymbolIs : List ℕ → Option Symbol → Type 0
SymbolIs bytes None = (other : Symbol) → BeginsWith bytes (symbol_text other) → ⊥
SymbolIs bytes (Some symbol) =
    (rest : List ℕ) × (bytes ≡ symbol_text symbol ++ rest) × IsLongest symbol rest

symbol_found : (bytes : List ℕ) (o : Option Symbol) → Finds (λ symbol. starts_with nat_eq bytes (symbol_text symbol)) symbols o → SymbolIs bytes o
symbol_found bytes None f = λ other b. let passes = fits bytes other b in let fails = f other (among_all other) in cc
symbol_found bytes (Some symbol) f =
    let b = begins bytes symbol f.0 in
    (b.0, b.1, λ other o. f.1 other (among_all other) (fits bytes other (o.0, b.1 ∙ o.1)))

pub symbol_is : (bytes : List ℕ) → SymbolIs bytes (symbol_at bytes)
symbol_is bytes =
    symbol_found bytes (symbol_at bytes) (finds (λ symbol. starts_with nat_eq bytes (symbol_text symbol)) symbols falls_all)

-- texts tell symbols apart
symbol_at-text : (symbol : Symbol) → symbol_at (symbol_text symbol) ≡ Some symbol
symbol_at-text LeftParenthesis = refl
symbol_at-text RightParenthesis = refl
symbol_at-text LeftBracket = refl
symbol_at-text RightBracket = refl
symbol_at-text Comma = refl
symbol_at-text Assign = refl
symbol_at-text Equals = refl
symbol_at-text NotEquals = refl
symbol_at-text LessThan = refl
symbol_at-text LessOrEqual = refl
symbol_at-text GreaterThan = refl
symbol_at-text GreaterOrEqual = refl
symbol_at-text Plus = refl
symbol_at-text Minus = refl
symbol_at-text Star = refl
symbol_at-text DoubleSlash = refl
symbol_at-text Percent = refl

same_front : (xs ys more others : List ℕ) → xs ++ more ≡ ys ++ others → length xs ≡ length ys → xs ≡ ys
same_front xs ys more others e l =
    sym (take-append_seam xs more) ∙ (ap (λ list. take (length xs) list) e ∙ (rw l (take-append_seam ys others)))

found_is : (symbol : Symbol) (rest : List ℕ) (o : Option Symbol) → IsLongest symbol rest → SymbolIs (symbol_text symbol ++ rest) o → o ≡ Some symbol
found_is symbol rest None longest none = absurd (none symbol (rest, refl))
found_is symbol rest (Some other) longest found =
    let shorter = longest other (found.0, found.1) in
    let longer = found.2 symbol (rest, sym found.1) in
    let same = same_front (symbol_text symbol) (symbol_text other) rest found.0 found.1 (omega arith) in
    sym (symbol_at-text other) ∙ (ap symbol_at (sym same) ∙ symbol_at-text symbol)

-- the longest symbol is found
pub symbol_at-longest : (symbol : Symbol) (rest : List ℕ) → IsLongest symbol rest → symbol_at (symbol_text symbol ++ rest) ≡ Some symbol
symbol_at-longest symbol rest longest =
    found_is symbol rest (symbol_at (symbol_text symbol ++ rest)) longest (symbol_is (symbol_text symbol ++ rest))

none_is : (bytes : List ℕ) (o : Option Symbol) → ((symbol : Symbol) → BeginsWith bytes (symbol_text symbol) → ⊥) → SymbolIs bytes o → o ≡ None
none_is bytes None apart found = refl
none_is bytes (Some symbol) apart found = absurd (apart symbol (found.0, found.1))

pub symbol_at-none : (bytes : List ℕ) → ((symbol : Symbol) → BeginsWith bytes (symbol_text symbol) → ⊥) → symbol_at bytes ≡ None
symbol_at-none bytes apart = none_is bytes (symbol_at bytes) apart (symbol_is bytes)
