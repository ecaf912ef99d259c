-- How an exception of the code is seen as plain data.
use Rattle.std.specs.Prelude.{[]}
use Rattle.std.specs.String.{string_bytes}
use Rattle.model_value.specs.Value.{Exc, exc, exception_of}
use Rattle.aio_base.specs.declared.exc.ExcParts.{ExcParts}
use Rattle.aio_base.specs.declared.exc.ExcNode.{ExcNode}
use Rattle.aio_base.specs.declared.exc.ExcNode.TheVariants as node
use Rattle.aio_base.specs.Held.{bytes_held, members_held}

abbrev pub exc_of_parts : ExcParts → Exc
exc_of_parts parts = exc parts.kind (string_bytes parts.text) (bytes_held parts.bytes) (members_held parts.members)

abbrev pub exc_of : ExcNode → Exc
exc_of (node.Bare kind) = exception_of kind []
exc_of (node.Full parts) = exc_of_parts parts.value
