use Rattle.std.proofs.Common.{append_assoc}
use Rattle.model_text.specs.Canonical.{canonical}
use Rattle.script_canonical.proofs.program.push_program.Goals as goal

pub returns : goal.returns
unfolding canonical
returns c = simp (c.in_ok-push_coroutines.ensures, c.in_ok-push_profile.ensures, c.profile.ensures, c.coroutines.ensures, append_assoc)
