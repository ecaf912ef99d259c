use Rattle.std.proofs.Common.{sym, slice_get, arith}
use Rattle.algorithm_parts.specs.Shape.{members_at}
use Rattle.algorithm_parts.proofs.QuietLemmas.{all_skip, all_more, all_whole, none_yet}
use Rattle.law_cancel.proofs.Lookups.{get_within}
use Rattle.aio_cancel.specs.Awaitables.{parts}
use Rattle.aio_cancel.proofs.quiet.look_all.Goals as goal

pub loop-member-init : goal.loop-member-init
loop-member-init c = none_yet c.args.seen.now.visited (parts c.args.body.now) c.args.id (members_at (slice_get c.args.body.now.futures c.args.id))

pub returns : goal.returns
returns c = all_whole c.args.seen.now.visited (parts c.args.body.now) c.args.id c.loop-member.place (members_at
    (slice_get c.args.body.now.futures c.args.id)) c.loop-member.again c.in_default.ensures.value c.loop-member.invariant

pub loop-member-preserved-then-id-member : goal.loop-member-preserved-then-id-member
loop-member-preserved-then-id-member c = all_skip c.args.seen.now.visited (parts c.args.body.now) c.args.id c.loop-member.place c.in-Some.member
    (members_at (slice_get c.args.body.now.futures c.args.id)) c.loop-member.again c.in-Some.ensures.value c.if-id-member.true c.loop-member.invariant

pub loop-member-preserved : goal.loop-member-preserved
loop-member-preserved c =
    all_more c.args.seen.now.visited (parts c.args.body.now) c.args.id c.loop-member.place c.in-Some.member
    (members_at (slice_get c.args.body.now.futures c.args.id)) c.loop-member.again c.in-Some.ensures.value
    c.if-id-member.false c.loop-member.invariant c.in_ok-of_member.ensures

pub loop-member-smaller : goal.loop-member-smaller
loop-member-smaller c = let h = get_within (members_at (slice_get c.args.body.now.futures c.args.id)) c.loop-member.place c.in-Some.member
    (sym c.in-Some.ensures.value) in omega arith
