use Rattle.std.proofs.Common.{◌≡◌, [], ◌∷◌, sym, ap, ◌∙◌, arith}
use Rattle.aio_program.specs.declared.block.UnendedBlock.{UnendedBlock}
use Rattle.aio_program.specs.Sorted.{plain_begin}
use Rattle.aio_program.specs.Block.{over, latest, sections}
use Rattle.aio_program.specs.Body.{rest, around}
use Rattle.aio_program.proofs.TryLemmas.{nothing_left}
use Rattle.aio_program.proofs.BlockLemmas.{rest-begins, around-begins, begins, pushed, popped, outermost}
use Rattle.aio_program.proofs.body.OpenBody.with_section.Goals as goal

pub returns-in_default : goal.returns-in_default
returns-in_default c = λ lines.
    let begin = plain_begin c.args.begin in
    let role = begins c.args.begin in
    let so_far = c.args.self.so_far.items in
    let none = c.in_default.ensures.cases in
    let empty : c.args.self.blocks.items ≡ [] = nothing_left c.args.self.blocks.items (omega (arith, c.args.self.blocks.ok.0, none.0)) in
    sym (outermost c.args.self.blocks.items (rest so_far (begin ∷ lines)) empty ∙ rest-begins begin role.0 role.1 so_far lines)

pub returns : goal.returns
returns c = λ lines.
    let begin = plain_begin c.args.begin in
    let role = begins c.args.begin in
    let so_far = c.args.self.so_far.items in
    let block : UnendedBlock = c.in-Some.block in
    let next : UnendedBlock = c.in_ok-with_section.field-0 in
    let left = c.pop.new.self.items in
    let inner = rest so_far (begin ∷ lines) in
    pushed left c.push.new.self.items next block.outer.items c.new-so_far.result.items (sections block so_far) begin lines
    (around block inner) c.in_ok-push.ensures.items
    (ap (λ outer. outer.items) c.in_ok-with_section.ensures.outer) c.in_ok-with_section.ensures.over
    c.in_ok-with_section.ensures.latest c.new-so_far.ensures.items
    (sym (around-begins begin role.0 role.1 block.outer.items (over block) (latest block) so_far lines))
    ∙ popped c.args.self.blocks.items left block inner c.in-Some.ensures.items
