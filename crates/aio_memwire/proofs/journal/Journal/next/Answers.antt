use Rattle.std.proofs.Common.{◌+◌, ℕ, List, [], Option, None, sym, subst, arith}
use Rattle.std.proofs.lemmas.Result.{IfOk-weaker}
use Rattle.model_wire.specs.Journal.{Entry}
use Rattle.aio_wire.specs.Replied.{ReplyLeaves, EndsAs}
use Rattle.aio_wire.specs.declared.wire.Reply.{Reply}
use Rattle.aio_wire.specs.declared.wire.Reply.TheVariants.{Bad}
use Rattle.aio_memwire.specs.Unread.{Unread, left_of, end_of}
use Rattle.aio_memwire.proofs.Giving.{both_ok, few_after, given, given_ends, given_few, leaves_after, left_alike, line_ended, refused, refused_ends, on_ok, sure_rose, whole_line}
use Rattle.aio_memwire.proofs.journal.Journal.next.Goals as goal

pub overflow_add-at : goal.overflow_add-at
overflow_add-at g c = let line = rw c.in-Ended.is at c.in_ok-at.ensures.line in omega (arith, line.1)

-- what the file is told to be after the fetch
abbrev Files : Type 0
Files = List ℕ → Option (Option (List ℕ))

pub returns-in-Ended-clause-left : goal.returns-in-Ended-clause-left
returns-in-Ended-clause-left g c =
    let seen = g.F.Shelf.seen in
    let name = c.args.name.now in
    let old : Unread = c.args.self.now in
    let mid : Unread = c.fetch.new.self in
    let new : Unread = c.give.new.self in
    let at = c.in-Ended.at in
    let line = rw c.in-Ended.is at c.in_ok-at.ensures.line in
    let told : Option (Option (List ℕ)) = (seen c.args.shelf.now).file name in
    IfOk-weaker c.give.result _ _
    (λ reply gives. subst (λ (f : Files). ReplyLeaves (left_of told old) (left_of (f name) new) reply) (sym c.in_ok-at.ensures.files)
    (leaves_after (left_of told old) (left_of told mid) (left_of told new) reply c.in_ok-at.ensures.kept
    (given told mid new at (at + 1) reply (λ more is. line_ended mid at line.2 line.3 more) gives))) c.give.ensures

pub returns-in-Ended-clause-ends : goal.returns-in-Ended-clause-ends
returns-in-Ended-clause-ends g c =
    let mid : Unread = c.fetch.new.self in
    let at = c.in-Ended.at in
    let line = rw c.in-Ended.is at c.in_ok-at.ensures.line in
    IfOk-weaker c.give.result _ _
    (λ reply gives. given_ends mid c.give.new.self at (at + 1) reply (whole_line mid _ _ line.3) (line_ended mid at line.2 line.3 []) gives)
    c.give.ensures

pub returns-in-TooLong-clause-left : goal.returns-in-TooLong-clause-left
returns-in-TooLong-clause-left g c =
    let seen = g.F.Shelf.seen in
    let name = c.args.name.now in
    let old : Unread = c.args.self.now in
    let mid : Unread = c.fetch.new.self in
    let line = rw c.in-TooLong.is at c.in_ok-at.ensures.line in
    let told : Option (Option (List ℕ)) = (seen c.args.shelf.now).file name in
    subst (λ (f : Files). ReplyLeaves (left_of told old) (left_of (f name) mid) c.refuse.result) (sym c.in_ok-at.ensures.files)
    (subst (λ (r : Reply). ReplyLeaves (left_of told old) (left_of told mid) r) (sym c.refuse.ensures)
    (leaves_after (left_of told old) (left_of told mid) (left_of told mid) (Bad (record { line = mid.line; cause = 3 })) c.in_ok-at.ensures.kept (refused told mid line.0 line.1)))

pub returns-in-TooLong-clause-ends : goal.returns-in-TooLong-clause-ends
returns-in-TooLong-clause-ends g c =
    let mid : Unread = c.fetch.new.self in
    let line = rw c.in-TooLong.is at c.in_ok-at.ensures.line in
    subst (λ (r : Reply). EndsAs (end_of mid) r) (sym c.refuse.ensures) (refused_ends mid line.0 line.1)

pub returns-in-Last-clause-left : goal.returns-in-Last-clause-left
returns-in-Last-clause-left g c =
    let seen = g.F.Shelf.seen in
    let name = c.args.name.now in
    let old : Unread = c.args.self.now in
    let mid : Unread = c.fetch.new.self in
    let new : Unread = c.give_last.new.self in
    let line = rw c.in-Last.is at c.in_ok-at.ensures.line in
    let told : Option (Option (List ℕ)) = (seen c.args.shelf.now).file name in
    both_ok c.give_last.result
    (λ reply left ended. subst (λ (f : Files). ReplyLeaves (left_of told old) (left_of (f name) new) reply) (sym c.in_ok-at.ensures.files)
    (leaves_after (left_of told old) (left_of told mid) (left_of told new) reply c.in_ok-at.ensures.kept
    (subst (λ (m : Option (List Entry)). ReplyLeaves m (left_of told new) reply) (left_alike told mid line.0)
    (subst (λ (m : Option (List Entry)). ReplyLeaves (left_of None mid) m reply) (left_alike told new ended) left))))
    c.give_last.ensures.left c.give_last.ensures.ended

pub returns-in-Last-clause-failed : goal.returns-in-Last-clause-failed
returns-in-Last-clause-failed g c =
    IfOk-weaker c.give_last.result _ _ (λ reply sure. sure_rose _ _ reply sure) c.give_last.ensures.sure

pub returns-in-Ended-clause-few : goal.returns-in-Ended-clause-few
returns-in-Ended-clause-few g c =
    let mid : Unread = c.fetch.new.self in
    let new : Unread = c.give.new.self in
    let at = c.in-Ended.at in
    few_after c.give.result c.args.self.now mid new c.in_ok-at.ensures.few
    (on_ok c.give.result (λ reply gives. given_few mid new at (at + 1) reply gives) c.give.ensures)

pub returns-in-Last-clause-few : goal.returns-in-Last-clause-few
returns-in-Last-clause-few g c =
    few_after c.give_last.result c.args.self.now c.fetch.new.self c.give_last.new.self c.in_ok-at.ensures.few c.give_last.ensures.few
