-- The requests on listeners, connections and children, and what a task stands at where it waits for them.
use Rattle.std.specs.Prelude.{Bool, true, false}
use Rattle.model_value.specs.declared.request.Request.TheVariants as request
use Rattle.model_value.specs.Request.{Request}
use Rattle.model_machine.specs.State.{ResumePoint, Asked, Sleeping, Leaving, Serving, Connecting, Yielding, Reading, ReadingAll}

abbrev pub is_to_streams : Request → Bool
is_to_streams (request.Listen port coroutine) = true
is_to_streams (request.Connect port) = true
is_to_streams (request.Write stream bytes) = true
is_to_streams (request.WriteEof stream) = true
is_to_streams (request.Close x) = true
is_to_streams (request.WaitClosed stream) = true
is_to_streams (request.Drain stream) = true
is_to_streams (request.Limits stream high low) = true
is_to_streams (request.Read stream count) = true
is_to_streams (request.ReadExactly stream count) = true
is_to_streams (request.ReadUntil stream separator) = true
is_to_streams (request.ReadLine stream) = true
is_to_streams (request.Launch words) = true
is_to_streams (request.StandardError child) = true
is_to_streams (request.WaitChild child) = true
is_to_streams (request.ReturnCode child) = true
is_to_streams (request.Kill child) = true
is_to_streams _ = false

abbrev pub stands_at_streams : ResumePoint → Bool
stands_at_streams Asked = false
stands_at_streams (Sleeping tag) = false
stands_at_streams (Leaving group) = false
stands_at_streams (Serving key) = false
stands_at_streams (Connecting conn) = true
stands_at_streams (Yielding whom) = true
stands_at_streams (Reading from op on) = true
stands_at_streams (ReadingAll from taken on) = true
