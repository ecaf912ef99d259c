use Rattle.std.proofs.Common.{Some, sym, ap, ◌∙◌}
use Rattle.aio_timer.specs.Schedule.{first_when}
use Rattle.aio_timer.proofs.live.Live.first_when.Goals as goal

pub returns-in-Some-clause-first : goal.returns-in-Some-clause-first
returns-in-Some-clause-first c = sym (ap first_when c.in-Some.ensures.first.rest ∙ ap Some c.in-Some.ensures.first.when)

pub returns-in-Some-clause-least : goal.returns-in-Some-clause-least
returns-in-Some-clause-least c = c.in-Some.ensures.first.least

pub returns-in-None-clause-first : goal.returns-in-None-clause-first
returns-in-None-clause-first c = sym (ap first_when c.in-None.ensures.none)
