-- The kinds of a request's arguments: what a value names, where it is of the kind that is wanted.
use Rattle.std.specs.Prelude.{ℕ, ℤ, List, [], ◌∷◌, Option, Some, None, length, nat_lt, slice_get, if◌then◌else◌}
use Rattle.std.specs.Option.{option_map}
use Rattle.model_value.specs.Value.{Value, Nothing, Int, Text, Bytes, Items, Fut, Task, Group, Timeout, Conn, Server, Child, Errs, Exception, Exc}
use Rattle.model_value.specs.Value.{Values, no_values, value_then, list_of}
use Rattle.model_pump.specs.declared.stream.Stream.TheVariants as stream
use Rattle.model_wire.specs.declared.event.Handed.{Handed}
use Rattle.model_wire.specs.declared.event.Handed.TheVariants as to
use Rattle.model_stream.specs.Requests.{StreamReader, OfConn, OfChild}
use Rattle.model_loop.specs.Tasks.{future_of, is_cancelled}
use Rattle.model_machine.specs.State.{State}

-- a future of `future()`, by its number among all
abbrev pub as_future : {S : Type 0} → State S → Value → Option ℕ
as_future s (Fut id) = slice_get s.futures id
as_future s _ = None

-- such a future, or a task's own
abbrev pub as_awaited : {S : Type 0} → State S → Value → Option ℕ
as_awaited s (Fut id) = slice_get s.futures id
as_awaited s (Task id) = Some (future_of s.loop.parts id)
as_awaited s _ = None

abbrev pub as_task : Value → Option ℕ
as_task (Task id) = Some id
as_task _ = None

abbrev pub as_timeout : Value → Option ℕ
as_timeout (Timeout id) = Some id
as_timeout _ = None

abbrev pub as_group : Value → Option ℕ
as_group (Group id) = Some id
as_group _ = None

abbrev pub as_int : Value → Option ℤ
as_int (Int number) = Some number
as_int _ = None

-- an Int, or None
abbrev pub as_delay : Value → Option (Option ℤ)
as_delay (Int number) = Some (Some number)
as_delay Nothing = Some None
as_delay _ = None

-- an exception that a future may fail with: not CancelledError, by which it would be cancelled
abbrev pub as_failure : Value → Option Exc
as_failure (Exception exception) = if is_cancelled exception then None else Some exception
as_failure _ = None

-- a connection that was made
abbrev pub as_conn : {S : Type 0} → State S → Value → Option ℕ
as_conn s (Conn id) = if nat_lt id (length s.streams.connections) then Some id else None
as_conn s _ = None

-- a child that was launched
abbrev pub as_child : {S : Type 0} → State S → Value → Option ℕ
as_child s (Child id) = if nat_lt id (length s.streams.children) then Some id else None
as_child s _ = None

-- what is written: a connection, or a child's standard input
abbrev pub as_writer : {S : Type 0} → State S → Value → Option Handed
as_writer s (Conn id) = option_map to.Conn (as_conn s (Conn id))
as_writer s (Child id) = option_map to.Child (as_child s (Child id))
as_writer s _ = None

-- what is read: a connection, or one of the pipes that a child writes
abbrev pub as_reader : {S : Type 0} → State S → Value → Option StreamReader
as_reader s (Conn id) = option_map OfConn (as_conn s (Conn id))
as_reader s (Child id) = option_map (OfChild stream.Out) (as_child s (Child id))
as_reader s (Errs id) = option_map (OfChild stream.Errs) (as_child s (Child id))
as_reader s _ = None

-- what may be closed
pub data Closable : Type 0 where
  AServer : (id : ℕ) → Closable
  AWriter : (whom : Handed) → Closable

abbrev pub as_closable : {S : Type 0} → State S → Value → Option Closable
as_closable s (Server id) = if nat_lt id (length s.streams.servers) then Some (AServer id) else None
as_closable s (Conn id) = option_map AWriter (as_writer s (Conn id))
as_closable s (Child id) = option_map AWriter (as_writer s (Child id))
as_closable s _ = None

abbrev pub as_bytes : Value → Option (List ℕ)
as_bytes (Bytes bytes) = Some bytes
as_bytes _ = None

-- where all of them are texts
abbrev pub texts_of : Values → Option (List (List ℕ))
texts_of no_values = Some []
texts_of (value_then (Text bytes) others) = option_map (λ words. bytes ∷ words) (texts_of others)
texts_of _ = None

-- a program and its arguments: a list of texts that isn't empty
abbrev pub as_words : Value → Option (List (List ℕ))
as_words (Items (value_then first others)) = texts_of (value_then first others)
as_words _ = None

abbrev pub as_list : Value → Option (List Value)
as_list (Items items) = Some (list_of items)
as_list _ = None
