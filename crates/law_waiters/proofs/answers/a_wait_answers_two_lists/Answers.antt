use Rattle.std.proofs.Common.{refl, ap, Ok, Err}
use Rattle.model_machine.specs.Extra.{Answers, ExtraAnswer, Raises}
use Rattle.std.specs.Prelude.{Result}
use Rattle.model_value.specs.Value.{Exc, Value}
use Rattle.law_waiters.proofs.Counting.{split_all}
use Rattle.law_waiters.proofs.answers.a_wait_answers_two_lists.Goals as goal

abbrev said : Result Value Exc → ExtraAnswer
said result = elim result [ Ok value ↦ Answers value | Err exception ↦ Raises exception ]

pub returns : goal.returns
returns c = record {
  lists = λ value answer it p kept e. ap said e;
  all = split_all;
  thrown = λ exception it p kept. refl;
}
