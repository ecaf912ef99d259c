use Rattle.model_wire.specs.declared.event.Handed.TheVariants as to
use Rattle.law_order.proofs.Whole.{all_handed, all_scheduled, never_child}
use Rattle.law_order.proofs.losses.a_loss_in_good_order_drops_nothing.Goals as goal

pub returns : goal.returns
returns c laws = record {
  scheduled = all_scheduled;
  connection = all_handed;
  child = λ s whole id sender found well. all_handed s whole (to.Child id) sender found well (never_child id s.events);
}
