-- What came of a try to get a value.
use Rattle.std.specs.Prelude.{ℕ, Option, Some, None}
use Rattle.model_value.specs.Value.{Value}
use Rattle.aio_sync.specs.declared.queue.Got.{Got}
use Rattle.aio_sync.specs.declared.queue.Got.TheVariants.{Value as GotValue, Waits}

abbrev pub on_of_got : Got → Option ℕ
on_of_got (GotValue value) = None
on_of_got (Waits on) = Some on

abbrev pub value_of_got : Got → Option Value
value_of_got (GotValue value) = Some value
value_of_got (Waits on) = None
