use Rattle.std.proofs.Common.{List, subst}
use Rattle.model_wire.specs.declared.watch.Watch.{Watch}
use Rattle.aio_hub.specs.declared.poller.Polled.TheVariants as polled
use Rattle.aio_polling.specs.declared.ending.Ended.{Ended}
use Rattle.aio_polling.specs.Selects.{hub_of, hub_after, Gathers, Selects}
use Rattle.aio_polling.proofs.Gathered.{if_one, poll_of, selects_ready, selects_failed}
use Rattle.aio_polling.proofs.selecting.select.Goals as goal

pub returns-in-Ready-clause-selects : goal.returns-in-Ready-clause-selects
returns-in-Ready-clause-selects g c =
    let watched = c.args.watch.now in
    let children = g.Q.Pumps.children c.args.pumps.now in
    let taken = g.Q.Pumps.taken c.args.pumps.now in
    let nones = g.Q.Pumps.nones c.args.pumps.now in
    let next = c.gather_all.new.pumps in
    let seen = g.P.Poller.seen c.args.poller.now in
    let seen_now = g.P.Poller.seen c.poll.new.poller in
    let polls = poll_of c.args.wait c.in_ok-watching.watching watched children c.as_slice.result.now c.args.kept.items seen seen_now
    c.in_ok-now.field-0 (polled.Ready c.in-Ready.now c.in-Ready.items) c.in_ok-watching.ensures c.as_slice.ensures.value c.in-Ready.is
    c.in_ok-now.ensures.polled in
    if_one c.gather_all.result
    (λ (e : Ended).
    Gathers c.in_ok-watching.watching c.in-Ready.now c.in-Ready.items (hub_of children c.args.kept.items taken) nones e.said
    (hub_after (g.Q.Pumps.children next) e.kept.items (g.Q.Pumps.taken next) e.said) (g.Q.Pumps.nones next))
    (λ (e : Ended).
    Selects c.args.wait watched (hub_of children c.args.kept.items taken) nones seen e.said
    (hub_after (g.Q.Pumps.children next) e.kept.items (g.Q.Pumps.taken next) e.said) (g.Q.Pumps.nones next) seen_now)
    (λ e gathers.
    selects_ready c.args.wait watched children c.args.kept.items taken nones seen seen_now c.in-Ready.now c.in-Ready.items e.said
    (hub_after (g.Q.Pumps.children next) e.kept.items (g.Q.Pumps.taken next) e.said) (g.Q.Pumps.nones next) polls
    (subst (λ (w : List Watch).
    Gathers w c.in-Ready.now c.in-Ready.items (hub_of children c.args.kept.items taken) nones e.said
    (hub_after (g.Q.Pumps.children next) e.kept.items (g.Q.Pumps.taken next) e.said) (g.Q.Pumps.nones next)) c.in_ok-watching.ensures gathers))
    c.gather_all.ensures.gathers

pub returns-clause-selects : goal.returns-clause-selects
returns-clause-selects g c =
    let watched = c.args.watch.now in
    let children = g.Q.Pumps.children c.args.pumps.now in
    let seen = g.P.Poller.seen c.args.poller.now in
    let seen_now = g.P.Poller.seen c.poll.new.poller in
    selects_failed c.args.wait watched children c.args.kept.items (g.Q.Pumps.taken c.args.pumps.now) (g.Q.Pumps.nones c.args.pumps.now) seen
    seen_now
    (poll_of c.args.wait c.in_ok-watching.watching watched children c.as_slice.result.now c.args.kept.items seen seen_now
    c.in_ok-now.field-0 polled.Failed c.in_ok-watching.ensures c.as_slice.ensures.value c.in-Failed.is c.in_ok-now.ensures.polled)
