use Rattle.law_calls.proofs.History.{first_happened, history_tells}
use Rattle.law_calls.proofs.Turning.{run_in}
use Rattle.law_calls.specs.Told.{first_told}
use Rattle.law_calls.proofs.calls.its_calls_are_what_the_events_say.Goals as goal

pub returns : goal.returns
returns c laws = record {
  from_start = λ limit added most state program answers turns.
      run_in (history_tells limit added (first_told state)) turns _ (first_happened limit added state);
  from_any = λ limit added first turns s happened. run_in (history_tells limit added first) turns s happened;
}
