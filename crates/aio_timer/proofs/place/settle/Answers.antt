use Rattle.aio_timer.proofs.place.settle.Goals as goal

pub returns : goal.returns
returns c =
    record {
      heap = c.shed.ensures.heap;
      first = c.shed.ensures.first;
      kept = λ place live among. c.shed.ensures.kept place live (c.renew.ensures.kept place live among);
    }
