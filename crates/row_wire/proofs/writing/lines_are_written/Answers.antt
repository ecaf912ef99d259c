use Rattle.std.specs.Prelude.{refl}
use Rattle.row_wire.proofs.writing.lines_are_written.Goals as goal

pub returns : goal.returns
returns c =
    record {
      select = refl;
      watched = refl;
      child = refl;
      some_letters = refl;
      launch = refl;
      bytes = refl;
      done = refl;
      traced = refl;
      ran = refl;
      untraced = refl;
    }
