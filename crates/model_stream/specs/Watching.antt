-- What a select watches: a function of what is open, in order of opening. An entry without letters is left out.
-- Source: `selectors.py`; `selector_events.py`, `_add_reader` and `_add_writer`; `base_subprocess.py`.
use Rattle.std.specs.Prelude.{ℕ, Bool, not, ◌&&◌, ◌||◌, if◌then◌else◌, List, [], ◌∷◌, Option, Some, None, is_none, slice_get}
use Rattle.std.specs.List.{flat_map}
use Rattle.model_wire.specs.declared.watch.Watch.{Watch}
use Rattle.model_wire.specs.declared.watch.Watch.TheVariants as watch
use Rattle.model_stream.specs.Children.{Child}
use Rattle.model_stream.specs.Connections.{Connection, reads}
use Rattle.model_stream.specs.Listeners.{Server}
use Rattle.model_stream.specs.Receivers.{takes_more}
use Rattle.model_stream.specs.Senders.{has_unsent, is_lost}
use Rattle.model_stream.specs.Streams.{Streams, Opened, OpenedServer, OpenedConn, OpenedChild, may_connect}

abbrev pub entry_if : Bool → Watch → List Watch
entry_if holds entry = if holds then entry ∷ [] else []

-- a listener that is open, while connections may be numbered
abbrev pub watched_server : (may_accept : Bool) → ℕ → Option Server → List Watch
watched_server may_accept id None = []
watched_server may_accept id (Some server) = entry_if (server.is_open && may_accept) (watch.Server id)

abbrev pub watched_standing : ℕ → (reading writing : Bool) → List Watch
watched_standing id reading writing = entry_if (reading || writing) (watch.Conn id reading writing)

abbrev pub watched_connection : ℕ → Option Connection → List Watch
watched_connection id None = []
watched_connection id (Some c) =
    elim c.making [
      | Some on ↦ watch.Making id ∷ []
      | None ↦ watched_standing id (reads c) (has_unsent c.sender)
    ]

abbrev pub watched_child : ℕ → Option Child → List Watch
watched_child id None = []
watched_child id (Some p) =
    let feeds = has_unsent p.stdin in
    let stdin = not (is_lost p.stdin) in
    let out = takes_more p.out in
    let errs = takes_more p.errs in
    let exit = is_none p.code in
    entry_if (feeds || stdin || out || errs || exit) (watch.Child id feeds stdin out errs exit)

abbrev pub watched : Streams → Opened → List Watch
watched s (OpenedServer id) = watched_server (may_connect s) id (slice_get s.servers id)
watched s (OpenedConn id) = watched_connection id (slice_get s.connections id)
watched s (OpenedChild id) = watched_child id (slice_get s.children id)

abbrev pub watch_list : Streams → List Watch
watch_list s = flat_map (watched s) s.opened
