-- What may be closed, as the machine has it.
use Rattle.model_machine.specs.Arguments as plain
use Rattle.aio_opened.specs.declared.opened.Closable.{Closable}
use Rattle.aio_opened.specs.declared.opened.Closable.TheVariants as closable

abbrev pub closable_as : Closable → plain.Closable
closable_as (closable.Server id) = plain.AServer id
closable_as (closable.Writer whom) = plain.AWriter whom
