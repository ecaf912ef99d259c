-- What a delay of a script stands for: a number, or none.
use Rattle.std.specs.Prelude.{ℤ, Option, Some, None}
use Rattle.aio_body.specs.declared.delay.Delay.{Delay}
use Rattle.aio_body.specs.declared.delay.Delay.TheVariants as delay

abbrev pub number_of : Delay → Option ℤ
number_of (delay.Of number) = Some number
number_of delay.Never = None
