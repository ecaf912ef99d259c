use Rattle.std.proofs.Common.{[], ◌∷◌, sym, ap}
use Rattle.aio_program.specs.Sorted.{plain_head}
use Rattle.aio_program.specs.Body.{rest}
use Rattle.aio_program.proofs.BlockLemmas.{rest-opens, opens, pushed}
use Rattle.aio_program.proofs.body.OpenBody.with_head.Goals as goal

pub returns : goal.returns
returns c = λ lines.
    let head = plain_head c.args.head in
    let so_far = c.args.self.so_far.items in
    let role = opens c.args.head in
    pushed c.args.self.blocks.items c.push.new.self.items c.new.result so_far c.new-so_far.result.items [] head lines
    (rest so_far (head ∷ lines)) c.in_ok-push.ensures.items
    (ap (λ outer. outer.items) c.new.ensures.outer) c.new.ensures.over c.new.ensures.latest c.new-so_far.ensures.items
    (sym (rest-opens head role.0 role.1 so_far lines))
