use Rattle.std.proofs.Common.{sym, ◌∙◌}
use Rattle.aio_intake.proofs.Returning.{takes_one, hand_on, seats_back}
use Rattle.aio_intake.proofs.taking.take_in_kth.Goals as goal

pub returns-clause-takes : goal.returns-clause-takes
returns-clause-takes g c =
    let kth = c.running_child-child.ensures in
    let child = c.running_child-child.result in
    let home = c.come_home-home.result in
    takes_one c.args.postbox.now c.args.k c.args.roster.now.children c.leave.new.self.children c.args.free.now.items
    c.lend_again-stay.new.free.items c.args.lanes.now c.report-four.new.lanes child c.report-four.result home c.lend_again-stay.result
    kth.named kth.is.at c.come_home-home.ensures.home c.lend_again-stay.ensures.stay
    (seats_back c.args.free.now.items c.reserve.new.self.items c.lend_again-stay.new.free.items home c.reserve.ensures.items
    c.lend_again-stay.ensures.back) c.leave.ensures.left kth.goes
    (sym c.is_over.ensures ∙ c.if-not-is_over.false) c.report-four.ensures.gives_up

pub returns-clause-hand : goal.returns-clause-hand
returns-clause-hand g c hand =
    let kth = c.running_child-child.ensures in
    let child = c.running_child-child.result in
    let home = c.come_home-home.result in
    hand_on c.args.postbox.now c.args.k c.args.roster.now.children c.leave.new.self.children c.args.free.now.items
    c.lend_again-stay.new.free.items c.args.lanes.now c.report-four.new.lanes child c.report-four.result home c.lend_again-stay.result
    kth.named kth.is.at c.come_home-home.ensures.home c.lend_again-stay.ensures.stay
    (seats_back c.args.free.now.items c.reserve.new.self.items c.lend_again-stay.new.free.items home c.reserve.ensures.items
    c.lend_again-stay.ensures.back) c.leave.ensures.left
    c.leave.ensures.lent c.leave.ensures.back hand
