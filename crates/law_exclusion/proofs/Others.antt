-- A part that keeps to its own keys waits under them.
use Rattle.model_machine.specs.Extra as extra
use Rattle.model_machine.specs.Extra.{Extra, ExtraAnswer}
use Rattle.model_reach.specs.Reach.{Part}
use Rattle.law_waiters.specs.Timed.{KeepsToKeys, WaitsAsPart}
use Rattle.law_exclusion.specs.Beside.{WaitsAs, WaitsUnderItsKeys}

waits_as : (part : Part) (answer : ExtraAnswer) → WaitsAsPart part answer → WaitsAs part answer
waits_as part (extra.Answers value) h = tt
waits_as part (extra.Raises fault) h = tt
waits_as part (extra.Waits on key) h = h
waits_as part (extra.Asks code bytes key) h = h

pub waits_of : {P : Type 0} (part : Part) (added : Extra P) → KeepsToKeys part added → WaitsUnderItsKeys part added
waits_of part added keeps = record {
  ask = λ task code arguments s. waits_as part (added.ask task code arguments s).answer (keeps.ask task code arguments s).1;
  wake = λ key input s here. waits_as part (added.wake key input s).answer (keeps.wake key input s here).1;
}
