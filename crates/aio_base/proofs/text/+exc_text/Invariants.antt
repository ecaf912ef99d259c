use Rattle.std.proofs.Common.{◌≡◌, ◌++◌, take}
use Rattle.model_value.specs.Value.{excs}
use Rattle.model_value.specs.Shown.{shown_members}
use Rattle.law_value.proofs.Joined.{separator}
use Rattle.aio_base.specs.Size.{exc_size, excs_size}
use Rattle.aio_base.proofs.text.+exc_text.Given as goal

abbrev pub decreases-push_exc : goal.decreases-push_exc
decreases-push_exc l = exc_size l.exc.now

abbrev pub decreases-push_members : goal.decreases-push_members
decreases-push_members l = excs_size l.members.now

abbrev pub invariant-push_members-loop-member : goal.invariant-push_members-loop-member
invariant-push_members-loop-member l =
    (l.out.items ≡ l.initial.out.items ++ shown_members (excs (take l.member-index l.members)))
    × (l.before ≡ separator (take l.member-index l.members))
