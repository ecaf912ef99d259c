use Rattle.law_walk.proofs.Rows as rows
use Rattle.law_order.proofs.Going.{goes_on}
use Rattle.law_order.proofs.Parts.{change_quiet}
use Rattle.law_order.proofs.quiet.nothing_of_the_loop_schedules_a_loss.Goals as goal

pub returns : goal.returns
returns c = record {
  change = change_quiet;
  cancel = rows.cancel_goes goes_on;
  begins = rows.begin_goes goes_on;
  finishes = rows.finish_goes goes_on;
  waits = rows.suspend_goes goes_on;
  ends = rows.end_goes goes_on;
  enters = rows.enter_goes goes_on;
  reschedules = rows.reschedule_goes goes_on;
  fires = rows.fire_goes goes_on;
  leaves = rows.leave_goes goes_on;
  enters_group = rows.enter_group_goes goes_on;
  creates = rows.create_goes goes_on;
  told = rows.child_done_goes goes_on;
  exits = rows.exit_begin_goes goes_on;
  woken = rows.exit_woken_goes goes_on;
  added = rows.extras_goes goes_on;
}
