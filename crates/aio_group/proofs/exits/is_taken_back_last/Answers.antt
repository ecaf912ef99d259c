use Rattle.std.proofs.Common.{◌≡◌, ◌==◌, ℕ, Bool, true, false, not, refl, ap, ◌∙◌, if◌then◌else◌}
use Rattle.model_loop.specs.Groups.{at_begin, at_end}
use Rattle.model_loop.specs.Parts.{Profile, One, Two, profile_named}
use Rattle.aio_group.proofs.exits.is_taken_back_last.Goals as goal

abbrev named : Bool → Profile
named is_two = if is_two then Two else One

begins : (is_two : Bool) → not is_two ≡ at_begin (named is_two)
begins true = refl
begins false = refl

ends : (is_two : Bool) → is_two ≡ at_end (named is_two)
ends true = refl
ends false = refl

pub returns-clause-begin : goal.returns-clause-begin
returns-clause-begin c = begins (c.profile.result == 2) ∙ ap (λ number. at_begin (profile_named number)) c.profile.ensures

pub returns-clause-end : goal.returns-clause-end
returns-clause-end c = ends (c.profile.result == 2) ∙ ap (λ number. at_end (profile_named number)) c.profile.ensures
