-- Fronts of lists of bytes.
use Rattle.std.proofs.Common.{◌≡◌, ℕ, ◌+◌, List, ◌++◌, take, drop, arith}
use Rattle.std.proofs.lemmas.List.{take-append-drop, take-take, drop-take}

-- a longer front is the front, and then the bytes that come next
pub longer : (heard count : ℕ) (bytes : List ℕ) → take (heard + count) bytes ≡ take heard bytes ++ take count (drop heard bytes)
longer heard count bytes =
    let whole : take heard (take (heard + count) bytes) ++ drop heard (take (heard + count) bytes) ≡ take (heard + count) bytes =
    take-append-drop heard (take (heard + count) bytes) in
    let front : take heard (take (heard + count) bytes) ≡ take heard bytes = take-take heard (heard + count) bytes (omega arith) in
    let next : drop heard (take (heard + count) bytes) ≡ take count (drop heard bytes) = drop-take heard count bytes in
    cc
