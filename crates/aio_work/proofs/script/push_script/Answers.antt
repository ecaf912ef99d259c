use Rattle.std.proofs.Common.{◌++◌, ap, ◌∙◌}
use Rattle.model_work.specs.Work.{sleeper_text, opening_text, creating_text, reading_text}
use Rattle.aio_work.proofs.Numbered.{four}
use Rattle.aio_work.proofs.script.push_script.Goals as goal

pub returns : goal.returns
returns c =
    let creating = creating_text c.args.seed in
    c.in_ok-extend_from_slice-3.ensures.items
    ∙ (ap (λ text. text ++ reading_text) (c.in_ok-push_creating.ensures
    ∙ ap (λ text. text ++ creating) (c.in_ok-extend_from_slice-2.ensures.items
    ∙ ap (λ text. text ++ opening_text) c.in_ok-extend_from_slice.ensures.items))
    ∙ four c.args.out.now.items sleeper_text opening_text creating reading_text)
