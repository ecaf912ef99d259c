use Rattle.model_wire.specs.declared.call.Call.TheVariants as call
use Rattle.aio_live.specs.Seen.{hub_seen}
use Rattle.aio_asked.proofs.Replying.{more_faults, select_says, select_goes_on, select_starves}
use Rattle.aio_asked.proofs.hub.Hub.select.Goals as goal

pub returns-clause-asks : goal.returns-clause-asks
returns-clause-asks g c =
    let seen = g.P.Poller.seen in
    let told = g.L.Launcher.seen in
    select_says (call.Select c.args.wait c.args.watch.now)
    (hub_seen (seen c.args.self.now.poller) (told c.args.self.now.launcher) c.args.self.now.state)
    (hub_seen (seen c.select.new.poller) (told c.select.new.launcher) c.select.new.state)
    c.in_ok-said.said c.reply_of.result c.reply_of.ensures c.in_ok-said.ensures.asks

pub returns-clause-goes_on : goal.returns-clause-goes_on
returns-clause-goes_on g c = select_goes_on c.in_ok-said.said c.reply_of.result c.reply_of.ensures

pub returns-clause-posts : goal.returns-clause-posts
returns-clause-posts g c =
    more_faults c.args.self.now.state.hub.taken c.select.new.state.hub.taken c.select.ensures.posts

pub returns-clause-err : goal.returns-clause-err
returns-clause-err g c = select_starves c.in_ok-said.said c.reply_of.result _ c.reply_of.ensures c.in_ok-said.ensures.starving

pub returns-in_err-said-clause-posts : goal.returns-in_err-said-clause-posts
returns-in_err-said-clause-posts g c =
    more_faults c.args.self.now.state.hub.taken c.select.new.state.hub.taken c.select.ensures.posts
