-- What code keeps of listeners and connections.
use Rattle.std.specs.Prelude.{ℕ, Bool, if◌then◌else◌, List, [], ◌∷◌, ◌++◌, Option, Some, None, length, map, nat_lt, slice_get, slice_set}
use Rattle.model_stream.specs.Connections.{Connection}
use Rattle.model_stream.specs.Listeners.{Server}
use Rattle.model_stream.specs.Streams as plain
use Rattle.aio_stream.specs.declared.opened.Opened.{Opened}
use Rattle.aio_stream.specs.declared.opened.Opened.TheVariants as opened

-- each kind by number; what was opened, in order of opening, children too; and how many of each kind can be numbered
pub record Kept : Type 0 where
  pub servers : List Server
  pub connections : List Connection
  pub opened : List plain.Opened
  pub most : ℕ

abbrev pub opened_as : Opened → plain.Opened
opened_as (opened.Server id) = plain.OpenedServer id
opened_as (opened.Conn id) = plain.OpenedConn id
opened_as (opened.Child id) = plain.OpenedChild id

abbrev pub all_opened : List Opened → List plain.Opened
all_opened = map opened_as

-- ---- whether one more can be numbered
abbrev pub may_listen : Kept → Bool
may_listen k = nat_lt (length k.servers) k.most

abbrev pub may_connect : Kept → Bool
may_connect k = nat_lt (length k.connections) k.most

-- ---- one more, with the next number
abbrev pub with_server : Server → Kept → Kept
with_server server k =
    record k { servers = k.servers ++ server ∷ []; opened = k.opened ++ plain.OpenedServer (length k.servers) ∷ [] }

abbrev pub with_connection : Connection → Kept → Kept
with_connection c k =
    record k { connections = k.connections ++ c ∷ []; opened = k.opened ++ plain.OpenedConn (length k.connections) ∷ [] }

-- a child, which has this number: of it only this is kept
abbrev pub with_child : (id : ℕ) → Kept → Kept
with_child id k = record k { opened = k.opened ++ plain.OpenedChild id ∷ [] }

-- ---- listeners
-- the coroutine of one that is open
abbrev pub listening : ℕ → Kept → Option ℕ
listening id k =
    elim (slice_get k.servers id) [ None ↦ None | Some server ↦ if server.is_open then Some server.handler else None ]

abbrev pub with_closed : ℕ → Kept → Kept
with_closed id k =
    elim (slice_get k.servers id) [
      | None ↦ k
      | Some server ↦ record k { servers = slice_set k.servers id (plain.closed_server server) }
    ]
