use Rattle.std.specs.Prelude.{refl}
use Rattle.std.specs.Str.{is_utf8, chars}
use Rattle.row_says.proofs.expressions.applied.Goals as goal

pub returns : goal.returns
unfolding is_utf8 chars lib.Utf8.encode
returns c = refl
