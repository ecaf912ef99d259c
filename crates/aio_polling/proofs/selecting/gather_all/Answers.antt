use Rattle.std.proofs.Common.{◌≡◌, ap, ◌∙◌}
use Rattle.model_wire.specs.Fits.{turn_fits}
use Rattle.law_hub.proofs.Fitting.{sockets_fit}
use Rattle.aio_polling.specs.declared.ending.Ended.{Ended}
use Rattle.aio_polling.specs.Selects.{hub_of, hub_after, selected_at, kept_at, Gathers}
use Rattle.aio_polling.proofs.Gathered.{if_both, offers_from, gathers_so}
use Rattle.aio_polling.proofs.selecting.gather_all.Goals as goal

pub offer_all-requires : goal.offer_all-requires
offer_all-requires g c =
    ap (turn_fits c.args.watch.now 0) (c.in_ok-answering.ensures.items ∙ c.in_ok-items.ensures)
    ∙ sockets_fit c.args.watch.now c.args.now c.args.sockets.now c.requires

pub returns-clause-gathers : goal.returns-clause-gathers
returns-clause-gathers g c =
    let first = c.in_ok-answering.answering in
    let offered = c.offer_all.new.answering in
    let begun = c.add_stdins.new.answering in
    let ended = c.gather.new.answering in
    let halt = c.in_ok-halt.halt in
    let went = c.in_ok-halt.ensures.gathered in
    if_both c.end.result (λ (e : Ended). e.said ≡ selected_at halt c.args.now ended.items.items)
    (λ (e : Ended). e.kept.items ≡ kept_at halt ended.items.items ended.kept.items)
    (λ (e : Ended).
    Gathers c.args.watch.now c.args.now c.args.sockets.now
    (hub_of (g.Q.Pumps.children c.args.pumps.now) c.args.kept.items (g.Q.Pumps.taken c.args.pumps.now)) (g.Q.Pumps.nones c.args.pumps.now) e.said
    (hub_after (g.Q.Pumps.children c.gather.new.pumps) e.kept.items (g.Q.Pumps.taken c.gather.new.pumps) e.said)
    (g.Q.Pumps.nones c.gather.new.pumps))
    (λ e says keeps.
    gathers_so c.args.watch.now c.args.now c.args.sockets.now c.args.kept.items offered.items.items offered.kept.items begun.items.items
    begun.kept.items (g.Q.Pumps.children c.args.pumps.now) (g.Q.Pumps.taken c.args.pumps.now)
    (offers_from c.args.watch.now first.items.items c.args.sockets.now first.kept.items c.args.kept.items offered.items.items
    offered.kept.items (c.in_ok-answering.ensures.items ∙ c.in_ok-items.ensures) c.in_ok-answering.ensures.kept c.in_ok-offer_all.ensures.offered)
    c.in_ok-add_stdins.ensures.added ended.items.items ended.kept.items e.kept.items (g.Q.Pumps.children c.gather.new.pumps)
    (g.Q.Pumps.taken c.gather.new.pumps) went.0 (g.Q.Pumps.nones c.args.pumps.now) (g.Q.Pumps.nones c.gather.new.pumps) halt e.said went.1
    says keeps)
    c.end.ensures.said c.end.ensures.kept
