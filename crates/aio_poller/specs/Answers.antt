-- What a call on a socket answers, by what the system said. Source: the library reference, "Exceptions", `OSError`; errno(3).
use Rattle.std.specs.Prelude.{◌≡◌, ℕ, zero, suc, ℤ, pos, Bool, true, false, ◌||◌, List, [], ◌∷◌, take, Option, Some, None, Result, Ok, Err, if◌then◌else◌}
use Rattle.std.specs.Ordering.{int_eq}
use Rattle.std.specs.List.{list_any}
use Rattle.std.specs.IoError.{error_kind, raw_os_error}
use Rattle.std.specs.declared.io.Error.{Error}
use Rattle.std.specs.declared.io.ErrorKind.{ErrorKind}
use Rattle.std.specs.declared.io.ErrorKind.TheVariants as kind
use Rattle.model_wire.specs.Call.{Answer}
use Rattle.model_wire.specs.declared.answer.Answer.TheVariants as answer

-- nothing came yet, or a signal interrupted the call
abbrev pub is_idle : ErrorKind → Bool
is_idle kind.WouldBlock = true
is_idle kind.Interrupted = true
is_idle _ = false

-- the peer is gone, or the way to it
abbrev pub is_lost : ErrorKind → Bool
is_lost kind.ConnectionReset = true
is_lost kind.ConnectionAborted = true
is_lost kind.ConnectionRefused = true
is_lost kind.BrokenPipe = true
is_lost kind.NotConnected = true
is_lost kind.TimedOut = true
is_lost kind.HostUnreachable = true
is_lost kind.NetworkUnreachable = true
is_lost kind.NetworkDown = true
is_lost _ = false

-- the address is taken, isn't there or isn't permitted
abbrev pub is_barred : ErrorKind → Bool
is_barred kind.AddrInUse = true
is_barred kind.AddrNotAvailable = true
is_barred kind.PermissionDenied = true
is_barred _ = false

-- EMFILE, ENFILE, ENOBUFS and ENOMEM
abbrev pub shortages : List ℤ
shortages = pos 24 ∷ pos 23 ∷ pos 105 ∷ pos 12 ∷ []

abbrev pub is_shortage : Option ℤ → Bool
is_shortage None = false
is_shortage (Some number) = list_any (λ one. int_eq one number) shortages

-- the system has no descriptor or no buffer left
abbrev pub is_short : Error → Bool
is_short error = is_shortage (raw_os_error error)

-- ENOBUFS, ENOMEM, EPERM and EPROTO
abbrev pub failures : List ℤ
failures = pos 105 ∷ pos 12 ∷ pos 1 ∷ pos 71 ∷ []

abbrev pub is_failure : Option ℤ → Bool
is_failure None = false
is_failure (Some number) = list_any (λ one. int_eq one number) failures

-- the system failed at this connection alone
abbrev pub is_failing : Error → Bool
is_failing error = is_failure (raw_os_error error)

-- What an accept, a recv or a send answers where the system failed so: `again` where nothing came, and nowhere else;
-- `broken` where the connection is lost.
abbrev pub unready : Error → Result Answer Error
unready error =
    if is_idle (error_kind error) then Ok answer.Again
    else if is_lost (error_kind error) || is_failing error then Ok answer.Broken
    else Err error

-- what a listen or a connect answers where the system failed so
abbrev pub refused : Error → Result Answer Error
refused error =
    if is_lost (error_kind error) || is_short error || is_barred (error_kind error) then Ok answer.Refused else Err error

-- What a recv answers, by what the system read into this buffer. Its own error is want of memory.
abbrev pub Receives : Result ℕ Error → List ℕ → Result Answer Error → Type 0
Receives (Ok zero) buffer said = said ≡ Ok answer.Eof
Receives (Ok (suc count)) buffer (Ok given) = given ≡ answer.Data (take (suc count) buffer)
Receives (Ok (suc count)) buffer (Err error) = error_kind error ≡ kind.OutOfMemory
Receives (Err error) buffer said = said ≡ unready error

-- what a send answers, by how much the system took
abbrev pub sent : Result ℕ Error → Result Answer Error
sent (Ok zero) = Ok answer.Again
sent (Ok (suc count)) = Ok (answer.Took (suc count))
sent (Err error) = unready error

-- what the end of a half answers: that it is done also where the peer is gone
abbrev pub shut : {A : Type 0} → Result A Error → Result Answer Error
shut (Ok it) = Ok answer.Done
shut (Err error) = if is_lost (error_kind error) then Ok answer.Done else Err error
