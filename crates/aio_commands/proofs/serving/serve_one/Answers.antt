use Rattle.std.proofs.Common.{ap, ◌∙◌, arith}
use Rattle.std.specs.Prelude.{slice_get, slice_set}
use Rattle.aio_commands.proofs.Passing.{same_child, same_short, same_modest}
use Rattle.aio_commands.proofs.serving.serve_one.Goals as goal

pub serve_child-new-requires-clause-has : goal.serve_child-new-requires-clause-has
serve_child-new-requires-clause-has g c =
    c.requires.lanes c.args.k c.running_child-child.result.number c.running_child-child.ensures.named

pub serve_child-new-requires-clause-short : goal.serve_child-new-requires-clause-short
serve_child-new-requires-clause-short g c =
    let short = c.running_child-child.ensures.is.short in
    (omega (arith, short.0, c.requires.noted), omega (arith, short.1, c.requires.noted))

pub replace-requires : goal.replace-requires
replace-requires g c =
    let kth = c.running_child-child.ensures in
    let child = c.running_child-child.result in
    let new = c.serve_child-new.result in
    let s = g.H.Heads.seen c.args.heads.now in
    let s_new = g.H.Heads.seen c.serve_child-new.new.heads in
    let same = same_child c.args.watch.now child new s s_new c.serve_child-new.ensures in
    record {
      old = child;
      at = ap (slice_get c.args.roster.now.children) same.number ∙ kth.is.at;
      same = same;
      short = same_short c.args.watch.now child new s s_new c.args.roster.now.noted c.serve_child-new.ensures kth.is.short;
      modest = same_modest c.args.watch.now child new s s_new c.serve_child-new.ensures kth.is.modest;
    }

pub returns-clause-served : goal.returns-clause-served
returns-clause-served g c =
    let kth = c.running_child-child.ensures in
    let child = c.running_child-child.result in
    let new = c.serve_child-new.result in
    let s = g.H.Heads.seen c.args.heads.now in
    let s_new = g.H.Heads.seen c.serve_child-new.new.heads in
    let same = same_child c.args.watch.now child new s s_new c.serve_child-new.ensures in
    record {
      number = child.number;
      child = child;
      result = new;
      named = kth.named;
      at = kth.is.at;
      now = c.replace.ensures.children ∙ ap (λ n. slice_set c.args.roster.now.children n new) same.number;
      serves = c.serve_child-new.ensures;
    }
