use Rattle.std.proofs.Common.{◌∷◌, [], ◌++◌, Some, map, sym, ap, ◌∙◌}
use Rattle.std.specs.Rc.{rc_str_bytes}
use Rattle.std.proofs.lemmas.List.{map-append}
use Rattle.model_text.specs.Levels.{bare_name}
use Rattle.script_form.proofs.TermLemmas.{read_more, read_stops}
use Rattle.script_form.proofs.terms.all_names.Goals as goal

pub returns-in_default : goal.returns-in_default
returns-in_default c =
    sym (read_stops bare_name c.args.parts.now c.loop-part.part-index c.part-item.result c.loop-part-test.true c.part-item.is (sym c.in_default.ensures))

pub loop-part-preserved : goal.loop-part-preserved
loop-part-preserved c =
    let name = rc_str_bytes c.in-Some.name.now in
    let names = c.loop-part.names.items in
    read_more bare_name c.args.parts.now c.loop-part.part-index c.part-item.result
    (map rc_str_bytes names) name c.loop-part-test.true c.part-item.is c.loop-part.invariant (sym c.in-Some.ensures)
    ∙ ap (λ last. Some (map rc_str_bytes names ++ last ∷ [])) (sym c.in_ok-clone.ensures.cases)
    ∙ ap Some (sym (ap (map rc_str_bytes) c.in_ok-push.ensures.items ∙ map-append rc_str_bytes names _))
