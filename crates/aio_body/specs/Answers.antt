-- Other answers that the outside has left.
use Rattle.std.specs.Prelude.{List}
use Rattle.model_wire.specs.Journal.{Entry}
use Rattle.model_machine.specs.State.{State}
use Rattle.aio_extra.specs.Added.{Added}
use Rattle.aio_body.specs.Stands.{Context}

abbrev pub with_answers : {S : Type 0} → List Entry → State S → State S
with_answers answers s = record s { answers = answers }

abbrev pub with_rest : {X : Type 0} {a : Added X} → List Entry → Context a → Context a
with_rest answers c = record c { answers = answers }
