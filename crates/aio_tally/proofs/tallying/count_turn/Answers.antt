use Rattle.std.proofs.Common.{◌+◌, ◌^◌, ◌<◌, ◌∙◌, List, ap, sym, subst}
use Rattle.std.specs.List.{count_by}
use Rattle.model_wire.specs.Event.{Event}
use Rattle.model_commands.specs.Works.{counted, is_call, is_said}
use Rattle.aio_tally.proofs.tallying.count_turn.Goals as goal

pub returns : goal.returns
returns g c = λ going.
    let it = c.turn-went.ensures.turned going in
    let out = c.items.ensures ∙ c.events-events.ensures.taken in
    record {
      mid = c.turn-went.new.self;
      went = c.turn-went.result;
      said = it.0;
      turned = it.1;
      stands = c.events-events.ensures.stands;
      left = c.events-events.ensures.left;
      calls = c.add.ensures.calls ∙ ap (λ (es : List Event). counted (c.args.counts.now.calls + count_by is_call es)) out;
      lines = c.add.ensures.said ∙ ap (λ (es : List Event). counted (c.args.counts.now.said + count_by is_said es)) out;
      before = c.tasks-before.result;
      made = c.tasks-before.ensures.made;
      after = c.tasks.result;
      held = λ few. c.tasks.ensures.held (subst (λ n. n < 2 ^ 32) (sym c.events-events.ensures.tasks) few) ∙ c.events-events.ensures.tasks;
      tasks = c.tasks_after-counts.ensures;
      status = c.status_after-status.ensures;
    }
