-- What stands between commas is read as the definitions read it.
use Rattle.std.proofs.Common.{◌≡◌, Bool, ◌⊎◌, inl, inr, ℕ, max, ◌≤◌, ◌<◌, List, [], ◌∷◌, Option, Some, None, map, take, drop, fold, refl, ap, ◌∙◌, sym, nat_le}
use Rattle.std.proofs.Common.{le-leb, arith}
use Rattle.std.proofs.Math.Path.{fun_ext}
use Rattle.std.proofs.lemmas.Bool.{lt-leb, cases_lt}
use Rattle.std.specs.Prelude.{option_and_then, option_map, if◌then◌else◌}
use Rattle.model_tree.specs.Syntax.{Name}
use Rattle.model_text.specs.Words.{Lexeme}
use Rattle.model_text.specs.Terms.{Term, height, height_of_all, terms}
use Rattle.model_text.specs.Levels.{Parser, Arguments, all_of, bare_name, with_bare, from_bare, arguments_of, term_of}
use Rattle.model_text.specs.Places.{heights, most_height}
use Rattle.algorithm_reading.specs.Operands.{Operand, capped, that_fits}
use Rattle.algorithm_reading.specs.Feeding.{read}
use Rattle.algorithm_reading.specs.Rows.{capped_arguments, only_values, around_bare, read_items, read_from_bare, read_arguments}
use Rattle.algorithm_reading.proofs.Levels.{keeping}
use Rattle.algorithm_reading.proofs.Capping.{capped-low, capped-high, all_of-capped, CappedRow, row}
use Rattle.algorithm_reading.proofs.Read.{read-is}

read-same : read ≡ keeping term_of
read-same = fun_ext read-is

pub items-read : (slots : List (List Lexeme)) → read_items slots ≡ option_map (map capped) (all_of term_of slots)
items-read slots = ap (λ (reading : Parser Operand). all_of reading slots) read-same ∙ sym (all_of-capped term_of slots)

-- ---- arguments
after-bare : (before : List Term) (name : Name) (found : Option (List Term)) → option_map (around_bare (map capped before) name) (option_map (map capped) found)
    ≡ option_map capped_arguments (option_map (with_bare before name) found)
after-bare before name None = refl
after-bare before name (Some after) = refl

bare-read : (before : List Term) (slots : List (List Lexeme)) → read_from_bare (map capped before) slots
    ≡ option_map capped_arguments (from_bare term_of before slots)
bare-read before [] = refl
bare-read before (slot ∷ slots) = at (bare_name slot)
  where
    at : (found : Option Name) → option_and_then (λ name. option_map (around_bare (map capped before) name) (read_items slots)) found
        ≡ option_map capped_arguments (option_and_then (λ name. option_map (with_bare before name) (all_of term_of slots)) found)
    at None = refl
    at (Some name) = ap (option_map (around_bare (map capped before) name)) (items-read slots) ∙ after-bare before name (all_of term_of slots)

values-read : (found : Option (List Term)) → option_map only_values (option_map (map capped) found)
    ≡ option_map capped_arguments (option_map (λ all. let arguments : Arguments = record { before = all; bare = None; after = [] } in arguments) found)
values-read None = refl
values-read (Some all) = refl

place-read : (slots : List (List Lexeme)) (found : Option (List Term)) → option_and_then (λ before. read_from_bare before slots) (option_map (map capped) found)
    ≡ option_map capped_arguments (option_and_then (λ before. from_bare term_of before slots) found)
place-read slots None = refl
place-read slots (Some before) = bare-read before slots

pub arguments-read : (place : Option ℕ) (slots : List (List Lexeme)) → read_arguments place slots
    ≡ option_map capped_arguments (arguments_of term_of place slots)
arguments-read None slots = ap (option_map only_values) (items-read slots) ∙ values-read (all_of term_of slots)
arguments-read (Some place) slots =
    ap (option_and_then (λ before. read_from_bare before (drop place slots))) (items-read (take place slots))
    ∙ place-read (drop place slots) (all_of term_of (take place slots))

-- ---- heights
fits-at : (t : Term) → (most_height < height t) ⊎ (height t ≤ most_height) → that_fits (capped t) ≡ (if nat_le (height t) most_height then Some t else None)
fits-at t (inl high) =
    ap that_fits (capped-high t high) ∙ sym (ap (λ test. if test then Some t else None) (lt-leb (height t) most_height high))
fits-at t (inr low) =
    ap that_fits (capped-low t low) ∙ sym (ap (λ test. if test then Some t else None) (le-leb (height t) most_height low))

pub term-fits : (t : Term) → that_fits (capped t) ≡ (if nat_le (height t) most_height then Some t else None)
term-fits t = fits-at t (cases_lt most_height (height t))

heights-from : (n : ℕ) (all : List Term) → fold max n (map height all) ≡ max n (height_of_all (terms all))
heights-from n [] = omega arith
heights-from n (t ∷ ts) = heights-from (max n (height t)) ts ∙ omega arith

heights-are : (all : List Term) → heights all ≡ height_of_all (terms all)
heights-are all = heights-from 0 all ∙ omega arith

all-fit-at : (all : List Term) (found : Option (List Term)) → CappedRow all found
    → found ≡ (if nat_le (heights all) most_height then Some all else None)
all-fit-at all found row =
    let by : Bool → Option (List Term) = λ test. if test then Some all else None in
    elim row.is [
      | inl low ↦ low.1 ∙ sym (ap by (le-leb (heights all) most_height (omega (arith, low.0, heights-are all))))
      | inr high ↦ high.1 ∙ sym (ap by (lt-leb (heights all) most_height (omega (arith, high.0, heights-are all))))
    ]

pub terms-fit : (all : List Term) → all_of that_fits (map capped all) ≡ (if nat_le (heights all) most_height then Some all else None)
terms-fit all = all-fit-at all (all_of that_fits (map capped all)) (row all)
