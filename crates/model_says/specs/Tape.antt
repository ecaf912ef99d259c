-- What a coroutine was resumed with, from its beginning on. Source: PEP 342, `send` and `throw` of a generator.
use Rattle.std.specs.Prelude.{Bool, List}
use Rattle.model_value.specs.Input.{Input}

-- an input, and whether it began a step of the coroutine's task
pub record Resumed : Type 0 where
  pub input : Input
  pub fresh : Bool

-- all inputs, in order
abbrev pub Tape : Type 0
Tape = List Resumed
