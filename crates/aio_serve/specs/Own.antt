-- Which requests are the loop's own.
use Rattle.std.specs.Prelude.{Bool, true, false}
use Rattle.model_value.specs.declared.request.Request.TheVariants as request
use Rattle.model_value.specs.Request.{Request}

-- those that are neither on listeners, connections and children nor added
abbrev pub is_own : Request → Bool
is_own request.Pause = true
is_own (request.Await x) = true
is_own (request.Print values) = true
is_own request.MakeFuture = true
is_own (request.Set future value) = true
is_own (request.Fail future fault) = true
is_own (request.IsDone x) = true
is_own (request.IsCancelled x) = true
is_own (request.ResultOf x) = true
is_own (request.Cancel x) = true
is_own (request.Cancelling x) = true
is_own (request.Uncancel x) = true
is_own request.Current = true
is_own request.Time = true
is_own (request.Spawn coroutine arguments) = true
is_own (request.Sleep delay) = true
is_own (request.TimeoutEnter delay) = true
is_own (request.TimeoutExit timeout raised) = true
is_own (request.Reschedule timeout when) = true
is_own (request.Expired timeout) = true
is_own request.GroupEnter = true
is_own (request.GroupExit group raised) = true
is_own (request.Create group coroutine arguments) = true
is_own (request.Listen port coroutine) = false
is_own (request.Connect port) = false
is_own (request.Launch words) = false
is_own (request.Write stream bytes) = false
is_own (request.WriteEof stream) = false
is_own (request.Close x) = false
is_own (request.Kill child) = false
is_own (request.Extra code arguments) = false
is_own (request.WaitClosed stream) = false
is_own (request.Drain stream) = false
is_own (request.Limits stream high low) = false
is_own (request.Read stream count) = false
is_own (request.ReadExactly stream count) = false
is_own (request.ReadUntil stream separator) = false
is_own (request.ReadLine stream) = false
is_own (request.StandardError child) = false
is_own (request.WaitChild child) = false
is_own (request.ReturnCode child) = false

-- those of them that keep nothing of their arguments
abbrev pub is_lent : Request → Bool
is_lent request.Pause = true
is_lent (request.Await x) = true
is_lent (request.Print values) = true
is_lent request.MakeFuture = true
is_lent (request.Set future value) = false
is_lent (request.Fail future fault) = true
is_lent (request.IsDone x) = true
is_lent (request.IsCancelled x) = true
is_lent (request.ResultOf x) = true
is_lent (request.Cancel x) = true
is_lent (request.Cancelling x) = true
is_lent (request.Uncancel x) = true
is_lent request.Current = true
is_lent request.Time = true
is_lent (request.Spawn coroutine arguments) = true
is_lent (request.Sleep delay) = true
is_lent (request.TimeoutEnter delay) = true
is_lent (request.TimeoutExit timeout raised) = false
is_lent (request.Reschedule timeout when) = true
is_lent (request.Expired timeout) = true
is_lent request.GroupEnter = true
is_lent (request.GroupExit group raised) = false
is_lent (request.Create group coroutine arguments) = true
is_lent (request.Listen port coroutine) = false
is_lent (request.Connect port) = false
is_lent (request.Launch words) = false
is_lent (request.Write stream bytes) = false
is_lent (request.WriteEof stream) = false
is_lent (request.Close x) = false
is_lent (request.Kill child) = false
is_lent (request.Extra code arguments) = false
is_lent (request.WaitClosed stream) = false
is_lent (request.Drain stream) = false
is_lent (request.Limits stream high low) = false
is_lent (request.Read stream count) = false
is_lent (request.ReadExactly stream count) = false
is_lent (request.ReadUntil stream separator) = false
is_lent (request.ReadLine stream) = false
is_lent (request.StandardError child) = false
is_lent (request.WaitChild child) = false
is_lent (request.ReturnCode child) = false
