-- What a request of a script asks, its arguments evaluated. Their kinds are no matter here: the loop, which answers the
-- request, tests them.
use Rattle.std.specs.Prelude.{ℕ, suc, List, [], ◌∷◌, Option, Some, None, Result, Ok, Err, codes, slice_get, if◌then◌else◌}
use Rattle.std.specs.Str.{bytes_eq}
use Rattle.model_value.specs.declared.kind.Kind.TheVariants.{TypeError}
use Rattle.model_value.specs.declared.request.Request.TheVariants as request
use Rattle.model_value.specs.Request.{Request}
use Rattle.model_value.specs.Value.{Value, Exc, exception_of}
use Rattle.model_tree.specs.declared.request_name.RequestName.{RequestName}
use Rattle.model_tree.specs.declared.request_name.RequestName.TheVariants as named
use Rattle.model_tree.specs.Syntax.{Name, Coroutine, Program, no_statements}

abbrev pub bad_argument : Exc
bad_argument = exception_of TypeError (codes "bad argument")

-- A script that was read has the right number of arguments. Any other number would be a bad argument.
abbrev pub requested : RequestName → List Value → Result Request Exc
requested named.MakeFuture [] = Ok request.MakeFuture
requested named.Set (future ∷ value ∷ []) = Ok (request.Set future value)
requested named.Fail (future ∷ exception ∷ []) = Ok (request.Fail future exception)
requested named.IsDone (x ∷ []) = Ok (request.IsDone x)
requested named.IsCancelled (x ∷ []) = Ok (request.IsCancelled x)
requested named.ResultOf (x ∷ []) = Ok (request.ResultOf x)
requested named.Cancel (x ∷ []) = Ok (request.Cancel x)
requested named.Cancelling (task ∷ []) = Ok (request.Cancelling task)
requested named.Uncancel (task ∷ []) = Ok (request.Uncancel task)
requested named.Current [] = Ok request.Current
requested named.Time [] = Ok request.Time
requested named.Sleep (delay ∷ []) = Ok (request.Sleep delay)
requested named.Reschedule (timeout ∷ when ∷ []) = Ok (request.Reschedule timeout when)
requested named.Expired (timeout ∷ []) = Ok (request.Expired timeout)
requested named.Connect (port ∷ []) = Ok (request.Connect port)
requested named.Write (stream ∷ bytes ∷ []) = Ok (request.Write stream bytes)
requested named.WriteEof (stream ∷ []) = Ok (request.WriteEof stream)
requested named.Close (x ∷ []) = Ok (request.Close x)
requested named.WaitClosed (stream ∷ []) = Ok (request.WaitClosed stream)
requested named.Drain (stream ∷ []) = Ok (request.Drain stream)
requested named.Limits (stream ∷ high ∷ low ∷ []) = Ok (request.Limits stream high low)
requested named.Read (stream ∷ count ∷ []) = Ok (request.Read stream count)
requested named.ReadExactly (stream ∷ count ∷ []) = Ok (request.ReadExactly stream count)
requested named.ReadUntil (stream ∷ separator ∷ []) = Ok (request.ReadUntil stream separator)
requested named.ReadLine (stream ∷ []) = Ok (request.ReadLine stream)
requested named.Launch (words ∷ []) = Ok (request.Launch words)
requested named.StandardError (child ∷ []) = Ok (request.StandardError child)
requested named.WaitChild (child ∷ []) = Ok (request.WaitChild child)
requested named.ReturnCode (child ∷ []) = Ok (request.ReturnCode child)
requested named.Kill (child ∷ []) = Ok (request.Kill child)
requested named.Extra (code ∷ arguments ∷ []) = Ok (request.Extra code arguments)
requested _ _ = Err bad_argument

-- ---- coroutines by their places in the script
abbrev pub place_among : List Coroutine → Name → ℕ
place_among [] name = 0
place_among (coroutine ∷ coroutines) name =
    if bytes_eq coroutine.name name then 0 else suc (place_among coroutines name)

abbrev pub place_of : Program → Name → ℕ
place_of program name = place_among program.coroutines name

-- in the place of one that is not there, a coroutine that does nothing
abbrev pub coroutine_or_none : Option Coroutine → Coroutine
coroutine_or_none (Some coroutine) = coroutine
coroutine_or_none None = record { name = []; parameters = []; body = no_statements }

abbrev pub coroutine_at : Program → ℕ → Coroutine
coroutine_at program place = coroutine_or_none (slice_get program.coroutines place)
