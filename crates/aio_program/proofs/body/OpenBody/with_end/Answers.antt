use Rattle.std.proofs.Common.{◌≡◌, List, [], ◌∷◌, refl, sym, ap, ◌∙◌, arith}
use Rattle.model_tree.specs.Syntax.{Statement}
use Rattle.model_text.specs.Forms.{End}
use Rattle.aio_program.specs.declared.block.UnendedBlock.{UnendedBlock}
use Rattle.aio_program.specs.Block.{over, latest}
use Rattle.aio_program.specs.Body.{SectionRest, rest, around_all}
use Rattle.aio_program.proofs.TryLemmas.{nothing_left}
use Rattle.aio_program.proofs.BlockLemmas.{rest-closes, around-closes, popped, outermost}
use Rattle.aio_program.proofs.body.OpenBody.with_end.Goals as goal

pub returns-in_default : goal.returns-in_default
returns-in_default c = λ lines.
    let so_far = c.args.self.so_far.items in
    let none = c.in_default.ensures.cases in
    let empty : c.args.self.blocks.items ≡ [] = nothing_left c.args.self.blocks.items (omega (arith, c.args.self.blocks.ok.0, none.0)) in
    sym (outermost c.args.self.blocks.items (rest so_far (End ∷ lines)) empty ∙ rest-closes End refl so_far lines)

pub returns : goal.returns
returns c = λ lines.
    let so_far = c.args.self.so_far.items in
    let block : UnendedBlock = c.in-Some.block in
    let left = c.pop.new.self.items in
    ap (λ (s : List Statement). (around_all left (rest s lines)).body) c.in_ok-so_far.ensures
    ∙ (ap (λ (r : SectionRest). (around_all left r).body) (sym (around-closes End refl block.outer.items (over block) (latest block) so_far lines))
    ∙ popped c.args.self.blocks.items left block (rest so_far (End ∷ lines)) c.in-Some.ensures.items)
