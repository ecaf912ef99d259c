use Rattle.std.proofs.Common.{sym, ◌∙◌}
use Rattle.aio_interest.proofs.Marking.{behind_it}
use Rattle.aio_select.proofs.Offering.{offers_in, offers_kept, stays_behind, stays_out}
use Rattle.aio_select.proofs.answering.Answering.offer.Goals as goal
use Rattle.aio_select.proofs.answering.Answering.offer.Goals.{else-not-is_marked-via-then-not-is_marked+else-has_place_for, else-not-is_marked-via-else-not-is_marked}

pub returns-in_ok-add-clause-offered : goal.returns-in_ok-add-clause-offered
returns-in_ok-add-clause-offered c =
    let items = c.args.self.now.items.items in
    let kept = c.args.self.now.kept.items in
    offers_in c.args.watch.now items kept c.args.item c.add.new.self.items.items c.add.new.self.kept.items
    (behind_it c.args.self.now.behind kept c.args.self.now.held c.args.item ∙ sym c.is_marked.ensures ∙ c.if-not-is_marked.true)
    (sym c.has_place_for.ensures ∙ c.if-has_place_for.true) c.in_ok-add.ensures.added c.add.ensures.kept

pub returns-in_ok-keep-clause-offered : goal.returns-in_ok-keep-clause-offered
returns-in_ok-keep-clause-offered c =
    let items = c.args.self.now.items.items in
    let kept = c.args.self.now.kept.items in
    offers_kept c.args.watch.now items kept c.args.item c.keep.new.self.items.items c.keep.new.self.kept.items
    (elim c.else-not-is_marked.branch [
      | else-not-is_marked-via-then-not-is_marked+else-has_place_for w ↦
          stays_out c.args.watch.now items kept c.args.item c.keep.new.self.items.items c.keep.new.self.kept.items
          (sym w.has_place_for.ensures ∙ w.if-has_place_for.false)
      | else-not-is_marked-via-else-not-is_marked w ↦
          stays_behind c.args.watch.now items kept c.args.item c.keep.new.self.items.items c.keep.new.self.kept.items
          (behind_it c.args.self.now.behind kept c.args.self.now.held c.args.item ∙ sym c.is_marked.ensures ∙ w.if-not-is_marked.false)
    ])
    (sym c.is_kept.ensures ∙ c.if-is_kept.true) c.keep.ensures.items c.in_ok-keep.ensures.kept
