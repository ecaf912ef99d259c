use Rattle.std.proofs.Common.{◌≡◌, ◌∷◌, ◌-◌, ◌^◌, ◌<◌, length, ap, sym, ◌∙◌, subst, arith}
use Rattle.model_hub.specs.declared.child.Seats.{Seats}
use Rattle.aio_postbox.specs.Fours.{seats_in}
use Rattle.aio_live.specs.States.{StateSeen}
use Rattle.aio_live.specs.Launching.{AreNew}
use Rattle.aio_live.proofs.Admitted.{launched_by, started_by, refused_by}
use Rattle.aio_live.proofs.state.State.launch_one.Goals as goal

pub invariant_of-self-in-Ok-Running : goal.invariant_of-self-in-Ok-Running
invariant_of-self-in-Ok-Running g c =
    let inside = c.self.inside in
    let is = ap seats_in c.first-four.ensures ∙ ap (λ (s : Seats). s ∷ seats_in c.first-four.new.free.items) (sym c.seats-seats.ensures) in
    let last = c.requires.last ∙ ap (λ (s : StateSeen g.row.Run.Denot). length s.hub.children) (sym c.self.view_is) in
    launched_by inside.pumped.roster.children c.open.new.pumped.roster.children c.admit.new.pumped.roster.children
    (seats_in inside.free.items) (seats_in c.first-four.new.free.items) inside.lanes c.open.new.lanes c.admit.new.lanes
    c.seats-seats.result c.args.number c.kit_of-heads.result.0 c.in-Ok-Running.run' c.with_run-own.result c.self.invariant
    c.in-Ok.ensures.same is last (subst AreNew (sym c.kit_of-heads.ensures.heads) c.in-Ok.ensures.begin) c.in-Ok.ensures.placed
    c.in-Ok.ensures.children c.admit.ensures.added c.admit.ensures.lanes c.with_run-own.ensures c.admit.ensures.lent c.admit.ensures.numbered

pub returns-in-Ok-Running-clause-launches : goal.returns-in-Ok-Running-clause-launches
returns-in-Ok-Running-clause-launches g c =
    let inside = c.self.inside in
    let is = ap seats_in c.first-four.ensures ∙ ap (λ (s : Seats). s ∷ seats_in c.first-four.new.free.items) (sym c.seats-seats.ensures) in
    let last = c.requires.last ∙ ap (λ (s : StateSeen g.row.Run.Denot). length s.hub.children) (sym c.self.view_is) in
    let few : length inside.pumped.roster.children < 2 ^ 32 - 1 = omega (arith, last, c.requires.few) in
    let postbox : c.admit.new.pumped.postbox ≡ inside.pumped.postbox = c.admit.ensures.postbox ∙ c.in-Ok.ensures.postbox in
    rw (sym c.self.view_is)
    (started_by inside.pumped.roster.children inside.kept.items (seats_in inside.free.items) (seats_in c.first-four.new.free.items)
    inside.starved inside.pumped.postbox c.admit.new.pumped.postbox inside.lanes c.open.new.lanes c.seats-seats.result is few
    postbox c.in-Ok.ensures.same
    c.open.new.pumped.roster.children c.admit.new.pumped.roster.children c.admit.new.lanes c.args.number c.kit_of-heads.result.0
    c.in-Ok-Running.run' c.with_run-own.result last (subst AreNew (sym c.kit_of-heads.ensures.heads) c.in-Ok.ensures.begin)
    c.in-Ok.ensures.placed c.in-Ok.ensures.children c.admit.ensures.added c.admit.ensures.lanes c.with_run-own.ensures)

pub returns-in-Ok-Refused-clause-launches : goal.returns-in-Ok-Refused-clause-launches
returns-in-Ok-Refused-clause-launches g c =
    let inside = c.self.inside in
    let is = ap seats_in c.first-four.ensures ∙ ap (λ (s : Seats). s ∷ seats_in c.first-four.new.free.items) (sym c.seats-seats.ensures) in
    let last = c.requires.last ∙ ap (λ (s : StateSeen g.row.Run.Denot). length s.hub.children) (sym c.self.view_is) in
    let few : length inside.pumped.roster.children < 2 ^ 32 - 1 = omega (arith, last, c.requires.few) in
    rw (sym c.self.view_is)
    (refused_by inside.pumped.roster.children inside.kept.items (seats_in inside.free.items) (seats_in c.first-four.new.free.items)
    inside.starved inside.pumped.postbox c.open.new.pumped.postbox inside.lanes c.open.new.lanes c.seats-seats.result is few
    c.in-Ok.ensures.postbox c.in-Ok.ensures.same c.open.new.pumped.roster.children c.in-Ok.ensures.children)
