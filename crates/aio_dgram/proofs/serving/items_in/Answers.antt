use Rattle.std.proofs.Common.{Some, sym, ap, ◌∙◌}
use Rattle.model_machine.specs.Arguments.{as_list}
use Rattle.law_value.proofs.Rows.{list_of-values}
use Rattle.aio_dgram.proofs.serving.items_in.Goals as goal

pub returns-in-List : goal.returns-in-List
returns-in-List c =
    ap as_list (sym c.in-List.ensures) ∙ ap Some (list_of-values c.in-List.items.now.value ∙ sym (c.items.ensures ∙ c.deref.ensures))
