use Rattle.std.proofs.Common.{◌≡◌, List, [], sym, ap, ◌∙◌, arith}
use Rattle.model_tree.specs.Syntax.{Statement, statements}
use Rattle.aio_program.specs.declared.block.UnendedBlock.{UnendedBlock}
use Rattle.aio_program.specs.Block.{over, latest}
use Rattle.aio_program.specs.Body.{SectionRest, rest, around_all}
use Rattle.aio_program.proofs.TryLemmas.{nothing_left}
use Rattle.aio_program.proofs.BlockLemmas.{rest-nothing, around-nothing, popped, outermost}
use Rattle.aio_program.proofs.body.OpenBody.ended.Goals as goal

pub loop-block-preserved : goal.loop-block-preserved
loop-block-preserved c =
    let at = c.loop-block in
    let block : UnendedBlock = c.in-Some.block in
    let left = c.pop.new.self.items in
    ap (λ (s : List Statement). (around_all left (rest s [])).body) c.in_ok-so_far.ensures
    ∙ (ap (λ (r : SectionRest). (around_all left r).body) (sym (around-nothing block.outer.items (over block) (latest block) at.so_far.items))
    ∙ (popped at.blocks.items left block (rest at.so_far.items []) c.in-Some.ensures.items ∙ at.invariant))

pub returns : goal.returns
returns c =
    let at = c.loop-block in
    let none = c.in_default.ensures.cases in
    let empty : at.blocks.items ≡ [] = nothing_left at.blocks.items (omega (arith, at.blocks.ok.0, none.0)) in
    ap statements c.of.ensures ∙ (sym (rest-nothing at.so_far.items) ∙ (sym (outermost at.blocks.items (rest at.so_far.items []) empty) ∙ at.invariant))
