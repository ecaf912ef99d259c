use Rattle.std.proofs.Common.{◌∙◌}
use Rattle.aio_commands.proofs.Ending.{end_call}
use Rattle.aio_commands.proofs.closing.end.Goals as goal

pub returns-clause-ended : goal.returns-clause-ended
returns-clause-ended g c =
    end_call c.args.number c.args.roster.now.children c.serve.new.roster.children c.end_at.new.roster.children
    (g.H.Heads.seen c.args.heads.now) (g.H.Heads.seen c.serve.new.heads) (g.H.Heads.seen c.end_at.new.heads)
    c.serve.ensures.numbered c.serve.ensures.served c.end_at.ensures.ended

pub returns-clause-lent : goal.returns-clause-lent
returns-clause-lent g c seats lent = c.end_at.ensures.lent seats (c.serve.ensures.lent seats lent)

pub returns-clause-running : goal.returns-clause-running
returns-clause-running g c = c.end_at.ensures.running ∙ c.serve.ensures.running
