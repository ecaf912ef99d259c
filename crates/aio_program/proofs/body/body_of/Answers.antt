use Rattle.std.proofs.Common.{◌≡◌, List, [], ◌∷◌, map, sym, ap, ◌∙◌}
use Rattle.std.proofs.lemmas.Result.{IfOk-weaker}
use Rattle.std.specs.Vec.Iter.{into_iter_items}
use Rattle.model_tree.specs.Syntax.{Statement, statements}
use Rattle.model_text.specs.SecondPass as plain
use Rattle.model_text.specs.Bodies.{body_in}
use Rattle.aio_program.specs.declared.line.Line.{Line}
use Rattle.aio_program.specs.declared.body.BodyStep.{BodyStep}
use Rattle.aio_program.specs.Line.{plain_line}
use Rattle.aio_program.specs.Body.{body_with, step_with}
use Rattle.aio_program.proofs.TryLemmas.{nothing_left}
use Rattle.aio_program.proofs.BlockLemmas.{nothing_yet}
use Rattle.aio_program.proofs.body.body_of.Goals as goal

pub returns-in-Over : goal.returns-in-Over
returns-in-Over c =
    let at = c.loop-line in
    let behind : List plain.Line = map plain_line (into_iter_items c.next.new.self) in
    let passed : into_iter_items c.into_iter-line-iterator.result ≡ c.args.lines.items =
    c.into_iter-line-iterator.ensures.into_iter_gives.0 in
    let steps : into_iter_items at.line-iterator ≡ c.in-Some.line ∷ into_iter_items c.next.new.self =
    c.in-Some.ensures.steps.0 in
    ap statements c.of.ensures
    ∙ (sym (ap (λ (step : BodyStep). step_with step behind) c.in-Over.is)
    ∙ (c.in_ok-next.ensures behind
    ∙ (sym (ap (λ (ls : List Line). body_with at.begun (map plain_line ls)) steps)
    ∙ (at.invariant.0
    ∙ (nothing_yet c.new.result.items c.new-2.result.items
    (map plain_line (into_iter_items c.into_iter-line-iterator.result)) c.new.ensures.items c.new-2.ensures.items
    ∙ ap (λ (ls : List Line). body_in (map plain_line ls)) passed)))))

pub returns : goal.returns
returns c =
    let at = c.loop-line in
    let none = c.in-None.ensures.steps in
    let empty : into_iter_items at.line-iterator ≡ [] = nothing_left _ (sym at.invariant.1 ∙ none.0) in
    let passed : into_iter_items c.into_iter-line-iterator.result ≡ c.args.lines.items =
    c.into_iter-line-iterator.ensures.into_iter_gives.0 in
    let start : body_with at.begun [] ≡ body_in (map plain_line c.args.lines.items) =
    ap (λ (ls : List Line). body_with at.begun (map plain_line ls)) (sym empty)
    ∙ (at.invariant.0
    ∙ (nothing_yet c.new.result.items c.new-2.result.items
    (map plain_line (into_iter_items c.into_iter-line-iterator.result)) c.new.ensures.items c.new-2.ensures.items
    ∙ ap (λ (ls : List Line). body_in (map plain_line ls)) passed)) in
    IfOk-weaker c.ended.result (λ (body : List Statement). statements body ≡ body_with at.begun [])
    (λ (body : List Statement). statements body ≡ body_in (map plain_line c.args.lines.items)) (λ body made. made ∙ start) c.ended.ensures
