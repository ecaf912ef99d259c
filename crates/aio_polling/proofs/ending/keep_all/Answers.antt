use Rattle.std.proofs.Common.{◌≡◌, ◌++◌, ap, ◌∙◌, rules, tests}
use Rattle.std.specs.List.{filter}
use Rattle.std.proofs.lemmas.List.Elements.{filter_from_retain}
use Rattle.model_hub.specs.Select.{is_childs}
use Rattle.aio_polling.proofs.ending.keep_all.Goals as goal

pub returns : goal.returns
returns c =
    let left : c.retain.new.self.items ≡ filter is_childs c.args.items.items =
    filter_from_retain _ is_childs (λ p x b q h. search (rules, tests)) _ _ _ c.retain.ensures.filtered in
    c.in_ok-append.ensures.items ∙ ap (λ l. l ++ c.args.kept.items) left
