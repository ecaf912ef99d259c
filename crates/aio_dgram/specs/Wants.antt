-- What codes and lists ask for, in code and in the definitions.
use Rattle.std.specs.Prelude.{◌==◌, ℤ, pos, negsuc, List, [], ◌∷◌, Option, Some, None, if◌then◌else◌}
use Rattle.std.specs.Rc.{rc_slice_items}
use Rattle.model_value.specs.Value.{Value}
use Rattle.model_machine.specs.Arguments.{as_int}
use Rattle.model_dgram.specs.Serving as plain
use Rattle.model_dgram.specs.Serving.{one, three}
use Rattle.aio_dgram.specs.declared.wanted.Shape.{Shape}
use Rattle.aio_dgram.specs.declared.wanted.Shape.TheVariants as shape
use Rattle.aio_dgram.specs.declared.wanted.Wanted.{Wanted}
use Rattle.aio_dgram.specs.declared.wanted.Wanted.TheVariants.{Open, SendTo, Receive, Close}

abbrev pub wanted_as : Wanted → plain.Wanted
wanted_as (Open port) = plain.Open port
wanted_as (SendTo endpoint port bytes) = plain.SendTo endpoint port (rc_slice_items bytes)
wanted_as (Receive endpoint) = plain.Receive endpoint
wanted_as (Close endpoint) = plain.Close endpoint

abbrev pub shape_of : ℤ → Option Shape
shape_of (pos code) =
    if code == 400 then Some shape.Open
    else (if code == 401 then Some shape.SendTo
    else (if code == 402 then Some shape.Receive
    else (if code == 403 then Some shape.Close else None)))
shape_of (negsuc before) = None

abbrev pub number_in : List Value → Option ℤ
number_in (x ∷ []) = as_int x
number_in _ = None

abbrev pub shaped : Shape → List Value → Option plain.Wanted
shaped shape.Open xs = one plain.Open xs
shaped shape.SendTo xs = three xs
shaped shape.Receive xs = one plain.Receive xs
shaped shape.Close xs = one plain.Close xs
