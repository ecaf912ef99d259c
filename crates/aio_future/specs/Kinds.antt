-- How a future's kind is seen.
use Rattle.std.specs.Prelude.{Bool, false, Option, None, Some}
use Rattle.model_loop.specs.Parts as plain
use Rattle.aio_future.specs.declared.future.FutureKind.{FutureKind}
use Rattle.aio_future.specs.declared.future.FutureKind.TheVariants as code

abbrev pub kind_of : FutureKind → plain.FutureKind
kind_of code.Plain = plain.Plain
kind_of (code.OfTask task) = plain.OfTask task
kind_of (code.Many members asked) = plain.Many members.items asked

abbrev pub is_asked_kind : plain.FutureKind → Bool
is_asked_kind plain.Plain = false
is_asked_kind (plain.OfTask task) = false
is_asked_kind (plain.Many members asked) = asked

-- whether the cancel of a future that stands for several was asked for, and a member answered true
abbrev pub is_asked : Option plain.Future → Bool
is_asked None = false
is_asked (Some future) = is_asked_kind future.kind
