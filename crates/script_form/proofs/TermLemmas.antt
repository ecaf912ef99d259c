-- One more expression or name of a row.
use Rattle.std.proofs.Common.{◌≡◌, ℕ, ◌+◌, ◌<◌, max, Bool, true, false, ◌&&◌, cond, List, [], ◌∷◌, ◌++◌, Option, Some, None, option_map, option_and_then}
use Rattle.std.proofs.Common.{length, get_or, take, drop, map, fold, nat_le, refl, sym, ap, ◌∙◌, arith}
use Rattle.std.proofs.lemmas.Bool.Decides.{nat_tests}
use Rattle.std.proofs.lemmas.List.{take_more, take-append-drop, drop_more, map-append}
use Rattle.std.proofs.lemmas.List.Sums.{fold_push}
use denote.Bor.{Bor}
use Rattle.model_text.specs.Words as plain
use Rattle.model_text.specs.Terms.{Term, height}
use Rattle.model_text.specs.Levels.{all_of, term_of}
use Rattle.model_text.specs.Places.{most_height, heights}
use Rattle.algorithm_reading.specs.Operands.{Operand, Fits, TooHigh, capped, that_fits}
use Rattle.script_term.specs.declared.lexeme.Lexeme.{Lexeme}
use Rattle.script_form.specs.Parts.{plain_part}
use Rattle.script_form.specs.Fitting.{fitting}

-- what is read of a row that begins so
record Begins {A B : Type 0} (f : A → Option B) (x : A) (xs : List A) (ys : List B) : Type 0 where
  first : B
  others : List B
  is_first : f x ≡ Some first
  are_others : all_of f xs ≡ Some others
  whole : ys ≡ first ∷ others

begins_of : {A B : Type 0} (f : A → Option B) (x : A) (xs : List A) (ys : List B) → all_of f (x ∷ xs) ≡ Some ys → Begins f x xs ys
begins_of {A} {B} f x xs ys e = by_first (f x) (all_of f xs) refl refl
  where
    by_first : (o : Option B) (rest : Option (List B)) → f x ≡ o → all_of f xs ≡ rest → Begins f x xs ys
    by_first None rest at_first at_rest =
        let no = sym e ∙ ap (option_and_then (λ z. option_map (λ zs. z ∷ zs) (all_of f xs))) at_first in cc
    by_first (Some z) None at_first at_rest =
        let no = sym e ∙ (λ i. option_and_then (λ z. option_map (λ zs. z ∷ zs) (at_rest i)) (at_first i)) in cc
    by_first (Some z) (Some zs) at_first at_rest =
        let all = sym e ∙ (λ i. option_and_then (λ z. option_map (λ zs. z ∷ zs) (at_rest i)) (at_first i)) in
        record { first = z; others = zs; is_first = at_first; are_others = at_rest; whole = cc }

all_of-append : {A B : Type 0} (f : A → Option B) (xs : List A) (x : A) (ys : List B) (y : B) → all_of f xs ≡ Some ys → f x ≡ Some y → all_of f (xs ++ x ∷ [])
    ≡ Some (ys ++ y ∷ [])
all_of-append f [] x ys y e here =
    let none : [] ≡ ys = cc in
    ap (option_and_then (λ y. Some (y ∷ []))) here ∙ ap (λ zs. Some (zs ++ y ∷ [])) none
all_of-append f (first ∷ xs) x ys y e here =
    let b = begins_of f first xs ys e in
    (λ i. option_and_then (λ z. option_map (λ zs. z ∷ zs) (all_of-append f xs x b.others y b.are_others here i)) (b.is_first i))
    ∙ ap (λ all. Some (all ++ y ∷ [])) (sym b.whole)

all_of-none : {A B : Type 0} (f : A → Option B) (xs : List A) (x : A) (others : List A) → f x ≡ None → all_of f (xs ++ x ∷ others) ≡ None
all_of-none f [] x others here = ap (option_and_then (λ y. option_map (λ ys. y ∷ ys) (all_of f others))) here
all_of-none {A} {B} f (first ∷ xs) x others here =
    ap (λ rest. option_and_then (λ y. option_map (λ ys. y ∷ ys) rest) (f first)) (all_of-none f xs x others here) ∙ by_first (f first)
  where
    by_first : (o : Option B) → option_and_then (λ (y : B). option_map (λ (ys : List B). y ∷ ys) None) o ≡ None
    by_first None = refl
    by_first (Some y) = refl

-- one more of a row is read
pub read_more : {B : Type 0} (f : List plain.Lexeme → Option B) (parts : List (Bor (List Lexeme))) (i : ℕ) (part : Bor (List Lexeme)) (ys : List B) (y : B)
    → i < length parts → part ≡ get_or parts i part → all_of f (map plain_part (take i parts)) ≡ Some ys → f (plain_part part) ≡ Some y
    → all_of f (map plain_part (take (i + 1) parts)) ≡ Some (ys ++ y ∷ [])
read_more f parts i part ys y within is so_far here =
    ap (λ all. all_of f (map plain_part all)) (take_more parts i part within ∙ ap (λ x. take i parts ++ x ∷ []) (sym is))
    ∙ ap (all_of f) (map-append plain_part (take i parts) (part ∷ []))
    ∙ all_of-append f (map plain_part (take i parts)) (plain_part part) ys y so_far here

-- one of a row isn't read
pub read_stops : {B : Type 0} (f : List plain.Lexeme → Option B) (parts : List (Bor (List Lexeme))) (i : ℕ) (part : Bor (List Lexeme)) → i < length parts → part
    ≡ get_or parts i part → f (plain_part part) ≡ None → all_of f (map plain_part parts) ≡ None
read_stops f parts i part within is here =
    ap (λ all. all_of f (map plain_part all))
    (sym (take-append-drop i parts) ∙ ap (λ rest. take i parts ++ rest) (drop_more parts i part within ∙ ap (λ x. x ∷ drop (i + 1) parts) (sym is)))
    ∙ ap (all_of f) (map-append plain_part (take i parts) (part ∷ drop (i + 1) parts))
    ∙ all_of-none f (map plain_part (take i parts)) (plain_part part) (map plain_part (drop (i + 1) parts)) here

pub nat_le-max : (a b n : ℕ) → nat_le (max a b) n ≡ (nat_le a n && nat_le b n)
nat_le-max a b n = grind (arith, nat_tests)

heights-push : (ts : List Term) (t : Term) → heights (ts ++ t ∷ []) ≡ max (heights ts) (height t)
heights-push ts t = ap (fold max 0) (map-append height ts (t ∷ [])) ∙ fold_push max 0 (map height ts) (height t)

fitting-push : (ts : List Term) (t : Term) → fitting heights (ts ++ t ∷ [])
    ≡ option_and_then (λ terms. option_map (λ term. terms ++ term ∷ []) (fitting height t)) (fitting heights ts)
fitting-push ts t =
    ap (λ n. cond (nat_le n most_height) (Some (ts ++ t ∷ [])) None) (heights-push ts t)
    ∙ ap (λ b. cond b (Some (ts ++ t ∷ [])) None) (nat_le-max (heights ts) (height t) most_height)
    ∙ by_tests (nat_le (heights ts) most_height) (nat_le (height t) most_height)
  where
    by_tests : (a b : Bool) → cond (a && b) (Some (ts ++ t ∷ [])) None
        ≡ option_and_then (λ terms. option_map (λ term. terms ++ term ∷ []) (cond b (Some t) None)) (cond a (Some ts) None)
    by_tests true true = refl
    by_tests true false = refl
    by_tests false true = refl
    by_tests false false = refl

-- what is read of a row, and what is kept of it
record KeptTerms (all : Option (List Term)) (kept : Option (List Term)) : Type 0 where
  terms : List Term
  are : all ≡ Some terms
  fit : fitting heights terms ≡ kept

kept_of : (all : Option (List Term)) (kept : Option (List Term)) → option_map (fitting heights) all ≡ Some kept → KeptTerms all kept
kept_of None kept e = cc
kept_of (Some terms) kept e = record { terms = terms; are = refl; fit = cc }

record KeptOne (one : Option Term) (kept : Option Term) : Type 0 where
  term : Term
  is : one ≡ Some term
  fits : fitting height term ≡ kept

kept_one : (one kept : Option Term) → Some kept ≡ option_map (fitting height) one → KeptOne one kept
kept_one None kept e = cc
kept_one (Some term) kept e = record { term = term; is = refl; fits = cc }

-- one more expression is read
pub terms_more : (parts : List (Bor (List Lexeme))) (i : ℕ) (part : Bor (List Lexeme)) (before : Option (List Term)) (here : Option Term) → i < length parts
    → part ≡ get_or parts i part → option_map (fitting heights) (all_of term_of (map plain_part (take i parts))) ≡ Some before → Some here
    ≡ option_map (fitting height) (term_of (plain_part part)) → option_map (fitting heights) (all_of term_of (map plain_part (take (i + 1) parts)))
    ≡ Some (option_and_then (λ terms. option_map (λ term. terms ++ term ∷ []) here) before)
terms_more parts i part before here within is so_far one =
    let b = kept_of (all_of term_of (map plain_part (take i parts))) before so_far in
    let h = kept_one (term_of (plain_part part)) here one in
    ap (option_map (fitting heights)) (read_more term_of parts i part b.terms h.term within is b.are h.is)
    ∙ ap Some (fitting-push b.terms h.term)
    ∙ (λ k. Some (option_and_then (λ terms. option_map (λ term. terms ++ term ∷ []) (h.fits k)) (b.fit k)))

-- one isn't read
pub terms_stop : (parts : List (Bor (List Lexeme))) (i : ℕ) (part : Bor (List Lexeme)) → i < length parts → part ≡ get_or parts i part → None
    ≡ option_map (fitting height) (term_of (plain_part part)) → all_of term_of (map plain_part parts) ≡ None
terms_stop parts i part within is none =
    read_stops term_of parts i part within is (nothing (term_of (plain_part part)) none)
  where
    nothing : (one : Option Term) → None ≡ option_map (fitting height) one → one ≡ None
    nothing None e = refl
    nothing (Some term) e = cc

-- ---- what is kept of one expression
kept_fits : (term : Term) → that_fits (capped term) ≡ fitting height term
kept_fits term = by_test (nat_le (height term) most_height)
  where
    by_test : (b : Bool) → that_fits (cond b (Fits term) TooHigh) ≡ cond b (Some term) None
    by_test true = refl
    by_test false = refl

pub one_kept : (operand : Operand) (read : Option Term) → Some operand ≡ option_map capped read → Some (that_fits operand) ≡ option_map (fitting height) read
one_kept operand None e = cc
one_kept operand (Some term) e =
    let same : operand ≡ capped term = cc in ap Some (ap that_fits same ∙ kept_fits term)

pub none_kept : (read : Option Term) → None ≡ option_map capped read → None ≡ option_map (fitting height) read
none_kept None e = refl
none_kept (Some term) e = cc
