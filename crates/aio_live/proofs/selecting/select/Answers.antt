use Rattle.std.proofs.Common.{List, refl, subst}
use Rattle.model_wire.specs.declared.watch.Watch.{Watch}
use Rattle.aio_live.specs.States.{Plainly}
use Rattle.aio_live.specs.Selecting.{SelectsItems}
use Rattle.aio_live.proofs.SelectAsks.{select_asks}
use Rattle.aio_live.proofs.Later.{starving_on, takes_on}
use Rattle.aio_live.proofs.Telling.{select_answer_fits, nothing_lost}
use Rattle.aio_live.proofs.selecting.select.Goals as goal

pub returns-in-Ok-clause-asks : goal.returns-in-Ok-clause-asks
returns-in-Ok-clause-asks g c going =
    let s0 = c.args.state.now in
    let s1 = c.serve.new.self in
    let s2 = c.select_items.new.state in
    let poller = g.P.Poller.seen c.args.poller.now in
    let poller_now = g.P.Poller.seen c.select_items.new.poller in
    let said = c.in_ok-said.said in
    let plainly = subst (λ (w : List Watch). Plainly w s0 s1) c.items.ensures c.serve.ensures in
    let items = subst (λ (w : List Watch). SelectsItems c.args.wait w poller poller_now said s1 s2) c.items-2.ensures c.in_ok-said.ensures.selects in
    select_asks c.args.wait c.args.watch.now poller poller_now (g.L.Launcher.seen c.args.launcher.now)
    (g.L.Launcher.seen c.take_in_after.new.launcher) s0 s1 s2 c.take_in_after.new.state said plainly items c.in-Ok.ensures.takes
    c.take_in_after.ensures.none going

pub returns-in-Ok-clause-fits : goal.returns-in-Ok-clause-fits
returns-in-Ok-clause-fits g c =
    let s1 = c.serve.new.self in
    let s2 = c.select_items.new.state in
    let poller = g.P.Poller.seen c.args.poller.now in
    let poller_now = g.P.Poller.seen c.select_items.new.poller in
    let said = c.in_ok-said.said in
    select_answer_fits c.args.wait c.args.watch.now poller poller_now said s1 s2
    (subst (λ (w : List Watch). SelectsItems c.args.wait w poller poller_now said s1 s2) c.items-2.ensures c.in_ok-said.ensures.selects)

pub returns-in-Ok-clause-lost : goal.returns-in-Ok-clause-lost
returns-in-Ok-clause-lost g c =
    let s0 = c.args.state.now in
    let s1 = c.serve.new.self in
    let s2 = c.select_items.new.state in
    let poller = g.P.Poller.seen c.args.poller.now in
    let poller_now = g.P.Poller.seen c.select_items.new.poller in
    let said = c.in_ok-said.said in
    nothing_lost c.args.wait c.args.watch.now poller poller_now s0 s1 s2 c.take_in_after.new.state said
    (subst (λ (w : List Watch). Plainly w s0 s1) c.items.ensures c.serve.ensures)
    (subst (λ (w : List Watch). SelectsItems c.args.wait w poller poller_now said s1 s2) c.items-2.ensures c.in_ok-said.ensures.selects)
    c.in-Ok.ensures.takes

pub returns-in-Ok-clause-starving : goal.returns-in-Ok-clause-starving
returns-in-Ok-clause-starving g c is =
    starving_on c.serve.new.self c.select_items.new.state c.take_in_after.new.state c.in_ok-said.said c.in_ok-said.ensures.selects.starved
    c.in-Ok.ensures.takes is

pub returns-in-Ok-clause-posts : goal.returns-in-Ok-clause-posts
returns-in-Ok-clause-posts g c =
    takes_on c.items.result.now c.args.state.now c.serve.new.self c.serve.ensures c.select_items.new.state.hub.taken
    c.take_in_after.new.state.hub.taken c.select_items.ensures.posts c.take_in_after.ensures.posts

pub returns-in-Err-clause-posts : goal.returns-in-Err-clause-posts
returns-in-Err-clause-posts g c =
    takes_on c.items.result.now c.args.state.now c.serve.new.self c.serve.ensures c.select_items.new.state.hub.taken
    c.take_in_after.new.state.hub.taken c.select_items.ensures.posts c.take_in_after.ensures.posts

pub returns-in_err-said-clause-posts : goal.returns-in_err-said-clause-posts
returns-in_err-said-clause-posts g c =
    takes_on c.items.result.now c.args.state.now c.serve.new.self c.serve.ensures c.select_items.new.state.hub.taken
    c.select_items.new.state.hub.taken c.select_items.ensures.posts refl
