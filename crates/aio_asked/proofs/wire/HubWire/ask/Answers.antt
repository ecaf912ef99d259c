use Rattle.std.proofs.Common.{refl, inl}
use Rattle.aio_live.specs.Seen.{hub_seen}
use Rattle.aio_asked.proofs.Replying.{count_later, if_replied, on_err_so, if_unless}
use Rattle.aio_asked.proofs.wire.HubWire.ask.Goals as goal

pub returns-clause-replied : goal.returns-clause-replied
returns-clause-replied g c =
    let seen = g.P.Poller.seen in
    let told = g.L.Launcher.seen in
    if_replied c.args.call.now
    (hub_seen (seen c.args.self.now.poller) (told c.args.self.now.launcher) c.args.self.now.state)
    (hub_seen (seen c.ask_any.new.self.poller) (told c.ask_any.new.self.launcher) c.ask_any.new.self.state)
    c.ask_any.ensures.polled c.ask_any.result c.ask_any.ensures.asks c.ask_any.ensures.goes_on

pub returns-clause-unreplied : goal.returns-clause-unreplied
returns-clause-unreplied g c = on_err_so c.ask_any.result _ (inl refl, refl)

pub returns-clause-stays : goal.returns-clause-stays
returns-clause-stays g c =
    let seen = g.P.Poller.seen in (
      refl,
      count_later (seen c.args.self.now.poller) (seen c.ask_any.new.self.poller) c.args.self.now.state.hub c.ask_any.new.self.state.hub
          c.ask_any.ensures.polled c.ask_any.ensures.posts,
    )

pub returns-clause-fails : goal.returns-clause-fails
returns-clause-fails g c fails = absurd fails

pub returns-clause-keeps : goal.returns-clause-keeps
returns-clause-keeps g c = tt

pub returns-clause-quiet : goal.returns-clause-quiet
returns-clause-quiet g c = if_unless c.ask_any.result

pub returns-clause-err : goal.returns-clause-err
returns-clause-err g c = on_err_so c.ask_any.result _ tt
