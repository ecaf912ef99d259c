use Rattle.std.proofs.Common.{ap}
use Rattle.std.proofs.lemmas.Bool.{lt-leb}
use Rattle.std.specs.Prelude.{length, if◌then◌else◌}
use Rattle.model_text.specs.declared.cause.Cause.TheVariants.{TooLong}
use Rattle.model_text.specs.FirstPass.{fault_at}
use Rattle.model_text.specs.TextLines.{text_lines}
use Rattle.model_text.specs.Scripts.{most_bytes, script_of, script_of_lines}
use Rattle.law_canonical.proofs.spelling.too_long_texts_are_refused.Goals as goal

pub returns : goal.returns
unfolding script_of
returns c = λ text long.
    ap (λ fits. if fits then script_of_lines (text_lines text) else fault_at 1 TooLong) (lt-leb (length text) most_bytes long)
