use Rattle.std.proofs.Common.{◌≡◌, ◌-◌, ◌^◌, ◌<◌, List, [], ◌∷◌, ◌++◌, length, ap, sym, subst, ◌∙◌, arith}
use Rattle.std.proofs.lemmas.Grind.{common_steps}
use Rattle.model_hub.specs.declared.child.Child.{Child}
use Rattle.aio_roster.specs.Rosters.{RosterSeen}
use Rattle.aio_roster.specs.Changes.{MayBeLent}
use Rattle.model_hub.specs.Children.{new_child}
use Rattle.aio_roster.proofs.Lending.{added_is}
use Rattle.aio_roster.proofs.Freeing.{added_lent}
use Rattle.aio_roster.proofs.roster.Roster.admit.Goals as goal

pub invariant_of-self : goal.invariant_of-self
invariant_of-self c =
    let inside = c.self.inside in
    let lent = subst (λ (r : RosterSeen). MayBeLent r.children c.args.seats) (sym c.self.view_is) c.requires.lent in
    let less : length inside.children.items < 2 ^ 32 - 1 =
    subst (λ (r : RosterSeen). length r.children < 2 ^ 32 - 1) (sym c.self.view_is) c.requires.few in
    let last : c.len-number.result ≡ length inside.children.items = grind (arith, common_steps) in
    added_is inside.children.items inside.holders.items inside.running.items inside.noted c.self.invariant c.args.seats lent less
    c.len-number.result c.new_child.result c.push_reserved-2.new.self.items c.lend.new.holders.items c.push_reserved.new.self.items
    last c.new_child.ensures c.push_reserved-2.ensures.items c.lend.ensures c.push_reserved.ensures.items

pub returns-clause-lent : goal.returns-clause-lent
returns-clause-lent c others apart lent =
    let inside = c.self.inside in
    let now = subst (λ (r : RosterSeen). MayBeLent r.children others) (sym c.self.view_is) lent in
    let last : c.len-number.result ≡ length inside.children.items = grind (arith, common_steps) in
    let new : c.new_child.result ≡ new_child (length inside.children.items) c.args.seats =
    c.new_child.ensures ∙ ap (λ n. new_child n c.args.seats) last in
    let all : c.push_reserved-2.new.self.items ≡ inside.children.items ++ new_child (length inside.children.items) c.args.seats ∷ [] =
    c.push_reserved-2.ensures.items ∙ ap (λ (x : Child). inside.children.items ++ x ∷ []) new in
    subst (λ (cs : List Child). MayBeLent cs others) (sym all) (added_lent inside.children.items c.args.seats others apart now)
