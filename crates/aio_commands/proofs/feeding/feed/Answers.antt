use Rattle.std.proofs.Common.{◌∙◌}
use Rattle.aio_commands.proofs.Together.{feed_call}
use Rattle.aio_commands.proofs.feeding.feed.Goals as goal

pub returns-clause-fed : goal.returns-clause-fed
returns-clause-fed g c =
    feed_call c.args.number c.args.bytes c.args.roster.now.children c.serve.new.roster.children c.feed_at.new.roster.children
    c.feed_at.result (g.H.Heads.seen c.args.heads.now) (g.H.Heads.seen c.serve.new.heads) (g.H.Heads.seen c.feed_at.new.heads)
    c.serve.ensures.numbered c.serve.ensures.served c.feed_at.ensures.fed

pub returns-clause-lent : goal.returns-clause-lent
returns-clause-lent g c seats lent = c.feed_at.ensures.lent seats (c.serve.ensures.lent seats lent)

pub returns-clause-running : goal.returns-clause-running
returns-clause-running g c = c.feed_at.ensures.running ∙ c.serve.ensures.running
