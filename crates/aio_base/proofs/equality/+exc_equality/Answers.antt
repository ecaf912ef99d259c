-- The members are smaller than the exception, and each of them than the members together; members of other numbers are
-- not equal.
use Rattle.std.proofs.Common.{rules, ◌≡◌, ◌<◌, true, ◌&&◌, sym, ◌∙◌}
use Rattle.std.specs.Str.{bytes_eq}
use Rattle.model_value.specs.Kinds.{same_kind}
use Rattle.model_value.specs.Value.{kind_of, text_of, bytes_of}
use Rattle.law_value.proofs.Equals.{same_members-lengths, same_exc-parts}
use Rattle.aio_base.specs.Size.{exc_size, excs_size}
use Rattle.aio_base.proofs.Sizes.{exc_size-member, excs_size-members}
use Rattle.aio_base.proofs.equality.+exc_equality.Goals as goal

pub all_excs_equal-returns-then-a-b : goal.all_excs_equal-returns-then-a-b
all_excs_equal-returns-then-a-b t c = sym (same_members-lengths c.args.a.now c.args.b.now c.if-a-b.true)

pub all_excs_equal-equal_excs-requires : goal.all_excs_equal-equal_excs-requires
all_excs_equal-equal_excs-requires t c =
    let smaller : exc_size c.index-a-i.result < excs_size c.args.a.now =
    exc_size-member c.args.a.now c.loop-i.i c.index-a-i.result c.loop-i-test.true c.index-a-i.is in
    search rules

pub equal_excs-all_excs_equal-requires : goal.equal_excs-all_excs_equal-requires
equal_excs-all_excs_equal-requires t c =
    let smaller : excs_size c.members.result.now < exc_size c.args.a.now =
    rw c.members.ensures (excs_size-members c.args.a.now) in
    search rules

pub equal_excs-returns-then-same_content : goal.equal_excs-returns-then-same_content
equal_excs-returns-then-same_content t c =
    let a = c.args.a.now in
    let b = c.args.b.now in
    let same : (same_kind (kind_of a) (kind_of b) && bytes_eq (text_of a) (text_of b) && bytes_eq (bytes_of a) (bytes_of b)) ≡ true =
    sym c.same_content.ensures ∙ c.if-same_content.true in
    rw (same_exc-parts a b, same) (simp (c.all_excs_equal.ensures, c.members.ensures, c.members-then-same_content.ensures))
