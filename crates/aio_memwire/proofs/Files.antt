-- A file that is read piece by piece.
use Rattle.std.proofs.Common.{◌≡◌, refl, ℕ, ◌+◌, ◌≤◌, List, ◌++◌, Option, Some, None, length, take, drop, ap, sym, ◌∙◌}
use Rattle.std.proofs.Common.{length-append, arith}
use Rattle.std.proofs.Math.Seq.{take-add}
use Rattle.std.proofs.lemmas.List.{take_all, take-take}
use Rattle.aio_wire.specs.Got.{ReadsAt}
use Rattle.aio_wire.specs.declared.source.SourceGot.TheVariants.{Bytes, End}
use Rattle.aio_memwire.specs.Reading.{Begins}

more_of : (all text bytes : List ℕ) (from : ℕ) → from ≡ length text → text ≡ take (length text) all
    → bytes ≡ take (length bytes) (drop from all) → text ++ bytes ≡ take (length (text ++ bytes)) all
more_of all text bytes from at begins read =
    let joined : take (length text) all ++ take (length bytes) (drop (length text) all) ≡ take (length text + length bytes) all =
    sym (take-add (length text) (length bytes) all) in
    ap (λ (t : List ℕ). t ++ bytes) begins
    ∙ ap (λ (b : List ℕ). take (length text) all ++ b) (read ∙ ap (λ (n : ℕ). take (length bytes) (drop n all)) at)
    ∙ joined ∙ ap (λ (n : ℕ). take n all) (sym (length-append text bytes))

-- bytes that were read from the place after a front go on with it
pub begins_more : (held : Option (List ℕ)) (text bytes : List ℕ) (from : ℕ) → from ≡ length text → Begins held text
    → ReadsAt held from (Bytes bytes) → Begins held (text ++ bytes)
begins_more None text bytes from at begins read = absurd (let e = read.1 in cc)
begins_more (Some all) text bytes from at begins read =
    let same : all ≡ read.0 = let e = read.1 in cc in
    more_of all text bytes from at begins (read.2 ∙ ap (λ (a : List ℕ). take (length bytes) (drop from a)) (sym same))

-- where the end comes after a front, it is all
pub begins_all : (held : Option (List ℕ)) (text : List ℕ) (from : ℕ) → from ≡ length text → Begins held text → ReadsAt held from End
    → held ≡ Some text
begins_all None text from at begins read = absurd (let e = read.1 in cc)
begins_all (Some all) text from at begins read =
    let same : all ≡ read.0 = let e = read.1 in cc in
    let short : length all ≤ length text = omega (arith, ap (λ (a : List ℕ). length a) same, read.2) in
    ap (λ (a : List ℕ). Some a) (sym (begins ∙ take_all (length text) all short))

-- where the end comes within the bound, all is the front
pub front_all : (limit : ℕ) (held : Option (List ℕ)) (text : List ℕ) → length text ≤ limit → held ≡ Some text
    → (all : List ℕ) × (held ≡ Some all) × (text ≡ take limit all)
front_all limit held text short whole = (text, whole, sym (take_all limit text short))

-- the first bytes of a front that is no shorter than the bound are those of all
pub front_full : (limit : ℕ) (held : Option (List ℕ)) (text : List ℕ) → 1 ≤ limit → limit ≤ length text → Begins held text
    → (all : List ℕ) × (held ≡ Some all) × (take limit text ≡ take limit all)
front_full limit None text some long begins =
    absurd (omega (arith, some, long, ap (λ (t : List ℕ). length t) begins))
front_full limit (Some all) text some long begins =
    (all, refl, ap (λ (t : List ℕ). take limit t) begins ∙ take-take limit (length text) all long)
