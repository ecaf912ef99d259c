-- What a coroutine asks of the loop: each request of a script, a bare `yield`, the await of a variable, `print`, and the
-- beginning and end of each block that is entered by `with`. Its arguments are values; the loop checks their kinds.
-- Its cases are those of the enumeration. Source: PEP 380, a generator yields its requests to whoever runs it; `asyncio` for what each one means.
use Rattle.std.specs.Prelude.{List}
use Rattle.model_value.specs.Value.{Value, Exc}
use Rattle.model_value.specs.declared.request.Request as request

abbrev pub Request : Type 0
Request = request.Request Value (List Value) Exc
