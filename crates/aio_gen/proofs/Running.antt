-- Moves of code come to an end.
use Rattle.std.proofs.Common.{ℕ, zero, suc, ◌+◌, ◌≤◌, List, [], ◌∷◌, Option, Some, None, length, slice_get, arith}
use Rattle.algorithm_flat.specs.Nearer.{JumpsForward}
use Rattle.aio_flat.specs.declared.code.FlatBody.{FlatBody}
use Rattle.aio_flat.specs.Code.{plain_body, code_at, codes_in}
use Rattle.aio_flat.proofs.CodeLemmas.{none-forward}

forward-at : (found : Option FlatBody) → JumpsForward (code_at found)
forward-at None = none-forward
forward-at (Some body) = body.forward

pub forward-in : (bodies : List FlatBody) (coroutine : ℕ) → JumpsForward (codes_in bodies coroutine)
forward-in bodies coroutine = forward-at (slice_get bodies coroutine)

-- how many operations there are in all
abbrev pub size_of : List FlatBody → ℕ
size_of [] = 0
size_of (body ∷ bodies) = length (plain_body body).ops + size_of bodies

pub within : (bodies : List FlatBody) (coroutine : ℕ) → length (codes_in bodies coroutine).ops ≤ size_of bodies
within [] coroutine = omega arith
within (body ∷ bodies) zero = omega arith
within (body ∷ bodies) (suc coroutine) = omega (arith, within bodies coroutine)
