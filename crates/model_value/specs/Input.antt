-- What a coroutine is resumed with: a value that is sent, or an exception that is thrown at the place where it waits.
-- Its cases are those of the enumeration.
-- Source: PEP 342, `send` and `throw` of a generator.
use Rattle.model_value.specs.Value.{Value, Exc}
use Rattle.model_value.specs.declared.input.Input as input

abbrev pub Input : Type 0
Input = input.Input Value Exc
