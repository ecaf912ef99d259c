use Rattle.std.proofs.Common.{◌≡◌, List, ◌∷◌, ◌∙◌}
use Rattle.std.proofs.lemmas.Result.{IfOk-weaker}
use Rattle.model_text.specs.Bodies.{SectionBody}
use Rattle.aio_program.specs.Block.{plain_section, try_with, try_with_handler}
use Rattle.aio_program.proofs.block.OpenTry.with_section.Goals as goal

pub returns-in-Except : goal.returns-in-Except
returns-in-Except c =
    IfOk-weaker c.with_handler.result (λ next. (others : List SectionBody) → try_with next others ≡ try_with_handler c.args.self c.new.result others)
    (λ next. (others : List SectionBody) → try_with next others ≡ try_with c.args.self (plain_section c.args.section ∷ others))
    (λ next made others. made others ∙ (simp (c.new.ensures, c.in-Except.is))) c.with_handler.ensures
