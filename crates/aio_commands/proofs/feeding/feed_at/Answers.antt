use Rattle.std.proofs.Common.{List, sym, ap, ◌∙◌, subst}
use Rattle.std.specs.Prelude.{slice_get, slice_set}
use Rattle.model_hub.specs.declared.child.Child.{Child}
use Rattle.aio_roster.specs.Rosters.{running_of}
use Rattle.aio_commands.specs.Served.{HaveLanes}
use Rattle.aio_commands.specs.Fed.{FeedsAt}
use Rattle.aio_commands.proofs.Commanding.{fed_same, fed_short, fed_modest, feeds_at, has_lanes, lanes_kept, runs_kept}
use Rattle.aio_commands.proofs.feeding.feed_at.Goals as goal

pub feed_child-answer-requires-clause-has : goal.feed_child-answer-requires-clause-has
feed_child-answer-requires-clause-has g c goes =
    let is = c.in-Some.ensures.found.1 in
    has_lanes c.args.roster.now.children (g.H.Heads.seen c.args.heads.now) c.in-Some.child c.requires.lanes is.at goes

pub replace-requires : goal.replace-requires
replace-requires g c =
    let is = c.in-Some.ensures.found.1 in
    let child = c.in-Some.child in
    let fed = c.feed_child-answer in
    let s = g.H.Heads.seen c.args.heads.now in
    let s_new = g.H.Heads.seen fed.new.heads in
    let same = fed_same c.args.bytes child fed.result.child fed.result.answer s s_new fed.ensures in
    record {
      old = child;
      at = ap (slice_get c.args.roster.now.children) same.number ∙ is.at;
      same = same;
      short = fed_short c.args.bytes child fed.result.child fed.result.answer s s_new fed.ensures c.args.roster.now.noted is.short;
      modest = fed_modest c.args.bytes child fed.result.child fed.result.answer s s_new fed.ensures is.modest;
    }

pub returns-clause-fed : goal.returns-clause-fed
returns-clause-fed g c =
    let is = c.in-Some.ensures.found in
    let child = c.in-Some.child in
    let fed = c.feed_child-answer in
    let children = c.args.roster.now.children in
    let s = g.H.Heads.seen c.args.heads.now in
    let s_new = g.H.Heads.seen fed.new.heads in
    let same = fed_same c.args.bytes child fed.result.child fed.result.answer s s_new fed.ensures in
    let now = c.replace.ensures.children ∙ ap (λ n. slice_set children n fed.result.child) (same.number ∙ is.0) in
    subst (λ (cs : List Child). FeedsAt c.args.number c.args.bytes children cs fed.result.answer s s_new) (sym now)
    (feeds_at c.args.bytes child fed.result.child fed.result.answer s s_new fed.ensures c.args.number children
    (ap (slice_get children) (sym is.0) ∙ is.1.at) is.0)

pub returns-clause-lanes : goal.returns-clause-lanes
returns-clause-lanes g c =
    let is = c.in-Some.ensures.found.1 in
    let child = c.in-Some.child in
    let fed = c.feed_child-answer in
    let children = c.args.roster.now.children in
    let s = g.H.Heads.seen c.args.heads.now in
    let s_new = g.H.Heads.seen fed.new.heads in
    let same = fed_same c.args.bytes child fed.result.child fed.result.answer s s_new fed.ensures in
    subst (λ (cs : List Child). HaveLanes cs s_new) (sym c.replace.ensures.children)
    (lanes_kept children s s_new fed.result.child.number child fed.result.child (ap (slice_get children) same.number ∙ is.at) same
    fed.ensures.grows.has c.requires.lanes)

pub returns-clause-running : goal.returns-clause-running
returns-clause-running g c =
    let is = c.in-Some.ensures.found.1 in
    let child = c.in-Some.child in
    let fed = c.feed_child-answer in
    let children = c.args.roster.now.children in
    let s = g.H.Heads.seen c.args.heads.now in
    let s_new = g.H.Heads.seen fed.new.heads in
    let same = fed_same c.args.bytes child fed.result.child fed.result.answer s s_new fed.ensures in
    ap running_of c.replace.ensures.children
    ∙ runs_kept children fed.result.child.number child fed.result.child (ap (slice_get children) same.number ∙ is.at) same
