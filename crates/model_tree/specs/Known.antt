-- The names that the language itself gives to functions, requests and kinds, with the number of arguments of each.
-- Source: the library reference, "Built-in Functions", "Coroutines and Tasks", "Streams" and "Built-in Exceptions", cut to
-- what scripts have.
use Rattle.std.specs.Prelude.{ℕ, Bool, true, false, ◌||◌, List, [], ◌∷◌, Option, find, codes, is_some}
use Rattle.std.specs.List.{list_any}
use Rattle.std.specs.Str.{bytes_eq}
use Rattle.model_value.specs.declared.kind.Kind.{Kind}
use Rattle.model_value.specs.declared.kind.Kind.TheVariants as kind
use Rattle.model_value.specs.Kinds.{kinds, kind_name}
use Rattle.model_tree.specs.declared.function.Function.{Function}
use Rattle.model_tree.specs.declared.function.Function.TheVariants as function
use Rattle.model_tree.specs.declared.request_name.RequestName.{RequestName}
use Rattle.model_tree.specs.declared.request_name.RequestName.TheVariants as request
use Rattle.model_tree.specs.Syntax.{Name}

-- ---- functions, which all take one argument; `error` is none of them
abbrev pub function_text : Function → List ℕ
function_text function.Len = codes "len"
function_text function.Str = codes "str"
function_text function.Bytes = codes "bytes"
function_text function.Text = codes "text"
function_text function.Kind = codes "kind"
function_text function.Message = codes "message"
function_text function.Partial = codes "partial"
function_text function.Members = codes "members"

abbrev pub functions : List Function
functions =
    function.Len ∷ function.Str ∷ function.Bytes ∷ function.Text ∷ function.Kind ∷ function.Message ∷ function.Partial ∷ function.Members ∷ []

abbrev pub function_of : Name → Option Function
function_of name = find (λ f. bytes_eq (function_text f) name) functions

abbrev pub error_text : List ℕ
error_text = codes "error"

-- ---- requests whose arguments are all values
abbrev pub request_text : RequestName → List ℕ
request_text request.MakeFuture = codes "future"
request_text request.Set = codes "set"
request_text request.Fail = codes "fail"
request_text request.IsDone = codes "done"
request_text request.IsCancelled = codes "cancelled"
request_text request.ResultOf = codes "result"
request_text request.Cancel = codes "cancel"
request_text request.Cancelling = codes "cancelling"
request_text request.Uncancel = codes "uncancel"
request_text request.Current = codes "current"
request_text request.Time = codes "time"
request_text request.Sleep = codes "sleep"
request_text request.Reschedule = codes "reschedule"
request_text request.Expired = codes "expired"
request_text request.Connect = codes "connect"
request_text request.Write = codes "write"
request_text request.WriteEof = codes "write_eof"
request_text request.Close = codes "close"
request_text request.WaitClosed = codes "wait_closed"
request_text request.Drain = codes "drain"
request_text request.Limits = codes "limits"
request_text request.Read = codes "read"
request_text request.ReadExactly = codes "readexactly"
request_text request.ReadUntil = codes "readuntil"
request_text request.ReadLine = codes "readline"
request_text request.Launch = codes "launch"
request_text request.StandardError = codes "stderr"
request_text request.WaitChild = codes "wait"
request_text request.ReturnCode = codes "returncode"
request_text request.Kill = codes "kill"
request_text request.Extra = codes "extra"

abbrev pub requests : List RequestName
requests =
    request.MakeFuture ∷ request.Set ∷ request.Fail ∷ request.IsDone ∷ request.IsCancelled ∷ request.ResultOf ∷ request.Cancel ∷ request.Cancelling
    ∷ request.Uncancel
    ∷ request.Current ∷ request.Time ∷ request.Sleep ∷ request.Reschedule ∷ request.Expired ∷ request.Connect ∷ request.Write ∷ request.WriteEof ∷ request.Close
    ∷ request.WaitClosed ∷ request.Drain ∷ request.Limits ∷ request.Read ∷ request.ReadExactly ∷ request.ReadUntil ∷ request.ReadLine ∷ request.Launch
    ∷ request.StandardError ∷ request.WaitChild ∷ request.ReturnCode ∷ request.Kill ∷ request.Extra ∷ []

abbrev pub request_of : Name → Option RequestName
request_of name = find (λ r. bytes_eq (request_text r) name) requests

abbrev pub request_arity : RequestName → ℕ
request_arity request.MakeFuture = 0
request_arity request.Set = 2
request_arity request.Fail = 2
request_arity request.Current = 0
request_arity request.Time = 0
request_arity request.Reschedule = 2
request_arity request.Write = 2
request_arity request.Limits = 3
request_arity request.Read = 2
request_arity request.ReadExactly = 2
request_arity request.ReadUntil = 2
request_arity request.Extra = 2
request_arity _ = 1

-- ---- requests that take a coroutine by its name
abbrev pub spawn_text : List ℕ
spawn_text = codes "spawn"

abbrev pub create_text : List ℕ
create_text = codes "create"

abbrev pub listen_text : List ℕ
listen_text = codes "listen"

-- ---- kinds
abbrev pub kind_of_name : Name → Option Kind
kind_of_name name = find (λ k. bytes_eq (kind_name k) name) kinds

-- `error` makes no exception of these kinds
abbrev pub is_made_by_error : Kind → Bool
is_made_by_error kind.BaseException = false
is_made_by_error kind.ExceptionGroup = false
is_made_by_error _ = true

-- ---- The language has the name for itself: no coroutine and no variable can have it.
abbrev pub is_taken : Name → Bool
is_taken name =
    is_some (function_of name) || is_some (request_of name) || is_some (kind_of_name name)
    || list_any (λ other. bytes_eq other name) (error_text ∷ spawn_text ∷ create_text ∷ listen_text ∷ [])
