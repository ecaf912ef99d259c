-- Where a literal ends.
use Rattle.std.proofs.Common.{◌≡◌, ℕ, Bool, true, false, ◌&&◌, not, List, [], ◌∷◌, ◌++◌, refl, sym, ap, ◌∙◌, Option, Some, None}
use Rattle.std.specs.Option.{option_map}
use Rattle.std.proofs.lemmas.Bool.{and_parts, eqb-true}
use Rattle.model_text.specs.Letters.{is_quote, is_backslash}
use Rattle.model_text.specs.Literals.{inside_of}

-- the bytes begin with an inside and the quote that closes it
pub record Closes (unpaired : Bool) (bytes inside : List ℕ) : Type 0 where
  pub rest : List ℕ
  pub whole : bytes ≡ inside ++ 34 ∷ rest
  pub closes : inside_of unpaired (inside ++ 34 ∷ []) ≡ Some inside

some_inside : (o : Option (List ℕ)) (byte : ℕ) (inside : List ℕ) → option_map (λ more. byte ∷ more) o ≡ Some inside
    → (more : List ℕ) × (o ≡ Some more) × (inside ≡ byte ∷ more)
some_inside None byte inside e = cc
some_inside (Some more) byte inside e = (more, refl, cc)

inside_of-quote : (unpaired : Bool) (byte : ℕ) (bytes : List ℕ) → (is_quote byte && not unpaired) ≡ true → inside_of unpaired (byte ∷ bytes) ≡ Some []
inside_of-quote unpaired byte bytes h = rw h refl

pub inside_of-other : (unpaired : Bool) (byte : ℕ) (bytes : List ℕ) → (is_quote byte && not unpaired) ≡ false → inside_of unpaired (byte ∷ bytes)
    ≡ option_map (λ inside. byte ∷ inside) (inside_of (is_backslash byte && not unpaired) bytes)
inside_of-other unpaired byte bytes h = rw h refl

at_quote : (unpaired : Bool) (byte : ℕ) (bytes inside : List ℕ) → (is_quote byte && not unpaired) ≡ true → inside_of unpaired (byte ∷ bytes) ≡ Some inside
    → Closes unpaired (byte ∷ bytes) inside
at_quote unpaired byte bytes inside h e =
    let none : inside ≡ [] = let f = inside_of-quote unpaired byte bytes h in cc in
    let quote : byte ≡ 34 = eqb-true byte 34 ((and_parts (is_quote byte) (not unpaired) h).0) in
    record {
      rest = bytes;
      whole = rw (none, quote) refl;
      closes = rw none (inside_of-quote unpaired 34 [] ((and_parts (is_quote byte) (not unpaired) h).1));
    }

at_other : (unpaired : Bool) (byte : ℕ) (bytes inside more : List ℕ) → (is_quote byte && not unpaired) ≡ false → inside ≡ byte ∷ more
    → Closes (is_backslash byte && not unpaired) bytes more → Closes unpaired (byte ∷ bytes) inside
at_other unpaired byte bytes inside more h e c = record {
  rest = c.rest;
  whole = rw e (ap (λ others. byte ∷ others) c.whole);
  closes =
      rw e (inside_of-other unpaired byte (more ++ 34 ∷ []) h ∙ ap (option_map (λ inside. byte ∷ inside)) c.closes);
}

by_quote : (unpaired : Bool) (byte : ℕ) (bytes inside : List ℕ) (b : Bool) → (is_quote byte && not unpaired) ≡ b → inside_of unpaired (byte ∷ bytes)
    ≡ Some inside → ((more : List ℕ) → inside_of (is_backslash byte && not unpaired) bytes ≡ Some more → Closes (is_backslash byte && not unpaired) bytes more)
    → Closes unpaired (byte ∷ bytes) inside
by_quote unpaired byte bytes inside true h e behind = at_quote unpaired byte bytes inside h e
by_quote unpaired byte bytes inside false h e behind =
    let s = some_inside (inside_of (is_backslash byte && not unpaired) bytes) byte inside (sym (inside_of-other unpaired byte bytes h) ∙ e) in
    at_other unpaired byte bytes inside s.0 h s.2 (behind s.0 s.1)

pub closes : (unpaired : Bool) (bytes inside : List ℕ) → inside_of unpaired bytes ≡ Some inside → Closes unpaired bytes inside
closes unpaired [] inside e = cc
closes unpaired (byte ∷ bytes) inside e =
    by_quote unpaired byte bytes inside (is_quote byte && not unpaired) refl e (λ more h. closes (is_backslash byte && not unpaired) bytes more h)

more_by_quote : (unpaired : Bool) (byte : ℕ) (bytes more inside : List ℕ) (b : Bool) → (is_quote byte && not unpaired) ≡ b → inside_of unpaired (byte ∷ bytes)
    ≡ Some inside
    → ((found : List ℕ) → inside_of (is_backslash byte && not unpaired) bytes ≡ Some found → inside_of (is_backslash byte && not unpaired) (bytes ++ more)
    ≡ Some found) → inside_of unpaired (byte ∷ (bytes ++ more)) ≡ Some inside
more_by_quote unpaired byte bytes more inside true h e behind =
    inside_of-quote unpaired byte (bytes ++ more) h ∙ (sym (inside_of-quote unpaired byte bytes h) ∙ e)
more_by_quote unpaired byte bytes more inside false h e behind =
    let s = some_inside (inside_of (is_backslash byte && not unpaired) bytes) byte inside (sym (inside_of-other unpaired byte bytes h) ∙ e) in
    inside_of-other unpaired byte (bytes ++ more) h ∙ (ap (option_map (λ inside. byte ∷ inside)) (behind s.0 s.1) ∙ ap (λ found. Some found) (sym s.2))

-- what stands behind the closing quote doesn't matter
pub inside_of-more : (unpaired : Bool) (bytes more inside : List ℕ) → inside_of unpaired bytes ≡ Some inside → inside_of unpaired (bytes ++ more) ≡ Some inside
inside_of-more unpaired [] more inside e = cc
inside_of-more unpaired (byte ∷ bytes) more inside e =
    more_by_quote unpaired byte bytes more inside (is_quote byte && not unpaired) refl e
    (λ found h. inside_of-more (is_backslash byte && not unpaired) bytes more found h)
