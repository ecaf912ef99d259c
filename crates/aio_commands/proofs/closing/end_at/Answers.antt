use Rattle.std.proofs.Common.{List, sym, ap, ◌∙◌, subst}
use Rattle.std.specs.Prelude.{slice_get, slice_set}
use Rattle.model_hub.specs.declared.child.Child.{Child}
use Rattle.aio_roster.specs.Rosters.{running_of}
use Rattle.aio_commands.specs.Served.{HaveLanes}
use Rattle.aio_commands.specs.Fed.{EndsAt}
use Rattle.aio_commands.proofs.Commanding.{ended_same, ended_short, ended_modest, ends_at, has_lanes, lanes_kept, runs_kept}
use Rattle.aio_commands.proofs.closing.end_at.Goals as goal

pub end_child-new-requires : goal.end_child-new-requires
end_child-new-requires g c goes =
    let is = c.in-Some.ensures.found.1 in
    has_lanes c.args.roster.now.children (g.H.Heads.seen c.args.heads.now) c.in-Some.child c.requires is.at goes

pub replace-requires : goal.replace-requires
replace-requires g c =
    let is = c.in-Some.ensures.found.1 in
    let child = c.in-Some.child in
    let ended = c.end_child-new in
    let s = g.H.Heads.seen c.args.heads.now in
    let s_new = g.H.Heads.seen ended.new.heads in
    let same = ended_same child ended.result s s_new ended.ensures in
    record {
      old = child;
      at = ap (slice_get c.args.roster.now.children) same.number ∙ is.at;
      same = same;
      short = ended_short child ended.result s s_new ended.ensures c.args.roster.now.noted is.short;
      modest = ended_modest child ended.result s s_new ended.ensures is.modest;
    }

pub returns-clause-ended : goal.returns-clause-ended
returns-clause-ended g c =
    let is = c.in-Some.ensures.found in
    let child = c.in-Some.child in
    let ended = c.end_child-new in
    let children = c.args.roster.now.children in
    let s = g.H.Heads.seen c.args.heads.now in
    let s_new = g.H.Heads.seen ended.new.heads in
    let same = ended_same child ended.result s s_new ended.ensures in
    let now = c.replace.ensures.children ∙ ap (λ n. slice_set children n ended.result) (same.number ∙ is.0) in
    subst (λ (cs : List Child). EndsAt c.args.number children cs s s_new) (sym now)
    (ends_at child ended.result s s_new ended.ensures c.args.number children (ap (slice_get children) (sym is.0) ∙ is.1.at) is.0)

pub returns-clause-lanes : goal.returns-clause-lanes
returns-clause-lanes g c =
    let is = c.in-Some.ensures.found.1 in
    let child = c.in-Some.child in
    let ended = c.end_child-new in
    let children = c.args.roster.now.children in
    let s = g.H.Heads.seen c.args.heads.now in
    let s_new = g.H.Heads.seen ended.new.heads in
    let same = ended_same child ended.result s s_new ended.ensures in
    subst (λ (cs : List Child). HaveLanes cs s_new) (sym c.replace.ensures.children)
    (lanes_kept children s s_new ended.result.number child ended.result (ap (slice_get children) same.number ∙ is.at) same
    ended.ensures.grows.has c.requires)

pub returns-clause-running : goal.returns-clause-running
returns-clause-running g c =
    let is = c.in-Some.ensures.found.1 in
    let child = c.in-Some.child in
    let ended = c.end_child-new in
    let children = c.args.roster.now.children in
    let s = g.H.Heads.seen c.args.heads.now in
    let s_new = g.H.Heads.seen ended.new.heads in
    let same = ended_same child ended.result s s_new ended.ensures in
    ap running_of c.replace.ensures.children
    ∙ runs_kept children ended.result.number child ended.result (ap (slice_get children) same.number ∙ is.at) same
