-- Bytes that a read gave.
use Rattle.std.proofs.Common.{◌≡◌, ℕ, ◌≤◌, List, [], ◌∷◌, length, refl, arith}
use Rattle.aio_wire.specs.Got.{got_of}
use Rattle.aio_wire.specs.declared.source.SourceGot.TheVariants as got

-- some bytes are no end
pub got_some : (bytes : List ℕ) → 1 ≤ length bytes → got.Bytes bytes ≡ got_of bytes
got_some [] some = absurd (omega arith)
got_some (byte ∷ bytes) some = refl
