use Rattle.std.proofs.Common.{sym, ◌∙◌}
use Rattle.aio_select.proofs.FirstItems.{with_kept, with_stdin}
use Rattle.aio_select.proofs.first.has_item.Goals as goal

pub returns-then-branch : goal.returns-then-branch
returns-then-branch g c =
    sym (with_kept c.args.watch.now (g.P.Pumps.children c.args.pumps.now) c.args.kept.now (sym c.in_ok-has_kept_item.ensures ∙ c.if-branch.true))

pub returns : goal.returns
returns g c =
    c.has_stdin_item.ensures
    ∙ sym (with_stdin c.args.watch.now (g.P.Pumps.children c.args.pumps.now) c.args.kept.now
    (sym c.in_ok-has_kept_item.ensures ∙ c.if-branch.false))
