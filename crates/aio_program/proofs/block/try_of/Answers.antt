use Rattle.std.proofs.Common.{◌≡◌, List, [], map, sym, ap, ◌∙◌}
use Rattle.std.specs.Vec.Iter.{into_iter_items}
use Rattle.model_tree.specs.Syntax.{Try, statements, Handler}
use Rattle.model_text.specs.Bodies.{SectionBody, handlers_in, finally_in}
use Rattle.aio_program.specs.declared.block.FurtherSection.{FurtherSection}
use Rattle.aio_program.specs.Block.{plain_section, handlers_before, try_with}
use Rattle.aio_program.proofs.TryLemmas.{try_with-nothing, nothing_left}
use Rattle.aio_program.proofs.block.try_of.Goals as goal

pub returns : goal.returns
returns c =
    let at = c.loop-section in
    let none = c.in-None.ensures.steps in
    let empty : into_iter_items at.section-iterator ≡ [] = nothing_left _ (sym at.invariant.1 ∙ none.0) in
    let all : List SectionBody = map plain_section c.args.sections.items in
    let passed : into_iter_items c.into_iter-section-iterator.result ≡ c.args.sections.items =
    c.into_iter-section-iterator.ensures.into_iter_gives.0 in
    c.try_except.ensures
    ∙ (sym (try_with-nothing at.begun)
    ∙ (ap (λ (left : List FurtherSection). try_with at.begun (map plain_section left)) (sym empty)
    ∙ (at.invariant.0
    ∙ (ap (λ (left : List FurtherSection). Try (statements c.args.body)
    (handlers_before c.new.result.items (handlers_in (map plain_section left))) (finally_in (map plain_section left))) passed
    ∙ ap (λ (hs : List Handler). Try (statements c.args.body) (handlers_before hs (handlers_in all))
    (finally_in all)) c.new.ensures.items))))
