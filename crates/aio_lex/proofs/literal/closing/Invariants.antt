-- What the bytes read so far and the rest have inside is what all have.
use Rattle.std.proofs.Common.{◌≡◌, ◌++◌, false, take, drop}
use Rattle.std.specs.Option.{option_map}
use Rattle.model_text.specs.Literals.{inside_of}
use Rattle.aio_lex.proofs.literal.closing.Given as goal

abbrev pub invariant-loop-place : goal.invariant-loop-place
invariant-loop-place l =
    inside_of false l.bytes ≡ option_map (λ inside. take l.place l.bytes ++ inside) (inside_of l.unpaired (drop l.place l.bytes))
