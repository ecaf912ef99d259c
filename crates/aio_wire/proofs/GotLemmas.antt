-- What is read of bytes in memory fits what every source and every shelf answer.
use Rattle.std.proofs.Common.{◌≡◌, ℕ, zero, suc, ◌≤◌, List, [], ◌∷◌, ◌++◌, length, take, drop, Some, refl, sym, ap, ◌∙◌, arith, length-take, length-drop}
use Rattle.std.proofs.lemmas.List.{take_min, take-append-drop}
use Rattle.std.proofs.Math.Seq.{drop-nil}
use Rattle.model_wire.specs.Told.{ShelfSeen, SourceSeen}
use Rattle.aio_wire.specs.Got.{got_of, FitsRead, ReadLeaves, ReadLeavesShelf, ReadsAt}
use Rattle.aio_wire.specs.declared.source.SourceGot.{SourceGot}
use Rattle.aio_wire.specs.declared.source.SourceGot.TheVariants.{Bytes, End}

-- an answer that gives bytes is the end where there are none, and else the bytes
got_of_cases : (P : SourceGot → Type 0) (bytes : List ℕ) → (bytes ≡ [] → P End) → (1 ≤ length bytes → P (Bytes bytes)) → P (got_of bytes)
got_of_cases P [] ended given = ended refl
got_of_cases P (byte ∷ bytes) ended given = given (omega arith)

none_left : (max : ℕ) (left : List ℕ) → 1 ≤ max → take max left ≡ [] → left ≡ []
none_left max [] some none = refl
none_left zero (byte ∷ left) some none = absurd (omega arith)
none_left (suc max) (byte ∷ left) some none = cc

-- at most as many bytes as were asked for
pub FitsRead-got_of : (max : ℕ) (left : List ℕ) → FitsRead max (got_of (take max left))
FitsRead-got_of max left =
    got_of_cases (FitsRead max) (take max left) (λ none. tt) (λ some. (some, omega (arith, length-take max left)))

-- a source that tells that this is left, and never failed
abbrev pub telling : List ℕ → SourceSeen
telling left = record { left = Some left; faults = 0 }

-- the first of those that are left, which are then gone
pub ReadLeaves-got_of : (max : ℕ) (left : List ℕ) → 1 ≤ max → ReadLeaves (telling left) (telling (drop max left)) (got_of (take max left))
ReadLeaves-got_of max left some =
    got_of_cases (ReadLeaves (telling left) (telling (drop max left))) (take max left)
    (λ none. let empty = none_left max left some none in (λ held is. let same : left ≡ held = cc in sym same ∙ empty, rw (empty, drop-nil max)))
    (λ given rest new held is. let told : rest ≡ drop max left = sym (new (drop max left) refl) in let same : left ≡ held = cc in sym same
    ∙ sym (take-append-drop max left) ∙ ap (λ later. take max left ++ later) (sym told))

-- a read of bytes in memory leaves a shelf as it was
pub ReadLeavesShelf-got_of : (name : List ℕ) (old new : ShelfSeen) (bytes : List ℕ) → new ≡ old → ReadLeavesShelf name old new (got_of bytes)
ReadLeavesShelf-got_of name old new bytes same = got_of_cases (ReadLeavesShelf name old new) bytes (λ none. same) (λ some. same)

-- the bytes of a file from a place on
pub ReadsAt-got_of : (all : List ℕ) (from max : ℕ) → 1 ≤ max → ReadsAt (Some all) from (got_of (take max (drop from all)))
ReadsAt-got_of all from max some =
    let rest = drop from all in
    got_of_cases (ReadsAt (Some all) from) (take max rest)
    (λ none. (all, refl, omega (arith, length-drop from all, ap length (none_left max rest some none))))
    (λ given. (
      all,
      refl,
      sym (take_min max rest) ∙ ap (λ count. take count rest) (sym (length-take max rest)),
      omega (arith, length-take max rest, length-drop from all),
    ))
