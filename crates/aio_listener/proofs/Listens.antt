-- A listener is opened, and one is closed.
use Rattle.std.proofs.Common.{◌≡◌, ℕ, true, false, if◌then◌else◌, List, [], ◌∷◌, ◌++◌, Option, Some, None, Result, Ok, Err, length, slice_get, slice_set}
use Rattle.std.proofs.Common.{◌∙◌, refl, sym, ap, subst}
use Rattle.model_wire.specs.Call.{Answer}
use Rattle.model_wire.specs.declared.call.Call.TheVariants as call
use Rattle.model_stream.specs.Answers.{is_done}
use Rattle.model_stream.specs.Doing.{Doing, Ends, asks}
use Rattle.model_stream.specs.Listeners.{Server}
use Rattle.model_stream.specs.Streams.{Streams, OpenedServer, add_server, close_server, closed_server, listen, listened}
use Rattle.aio_wire.specs.Outside.{Outside}
use Rattle.aio_wire.specs.declared.stop.Stop.{Stop}
use Rattle.aio_wire.specs.declared.stop.Stop.TheVariants as stop
use Rattle.aio_exchange.specs.Exchanged.{AsksOne}
use Rattle.aio_exchange.specs.Follows.{Follows, Reach}
use Rattle.aio_exchange.proofs.Following.{follows_end, follows_ends, follows_unless, follows_where}
use Rattle.aio_task.specs.View.{View}
use Rattle.aio_change.specs.Seen.{seen_changed}
use Rattle.aio_change.proofs.AfterAsking.{asks_met, asks_on, asks_starved}
use Rattle.aio_stream.specs.Kept.{Kept, listening, with_closed, with_server}
use Rattle.aio_stream.specs.Standing.{Answers, Comes, StreamStandsFor}
use Rattle.aio_listener.proofs.Listeners.{Listens, listens, unless_listens}

-- ---- one is opened
stands_with_server : (k : Kept) (server : Server) (s : Streams) → StreamStandsFor k s → StreamStandsFor (with_server server k) (add_server server s)
stands_with_server k server s h = record {
  servers = ap (λ xs. xs ++ server ∷ []) h.servers;
  connections = h.connections;
  opened =
      ap (λ xs. xs ++ OpenedServer (length s.servers) ∷ []) h.opened
      ∙ ap (λ (xs : List Server). k.opened ++ OpenedServer (length xs) ∷ []) h.servers;
  most = h.most;
}

module _ {W : Type 0} (o : Outside W) (number handler : ℕ) (k : Kept) (old new : Reach View W) where
  abbrev opened_here : Server
  opened_here = record { handler = handler; is_open = true }

  -- no answer came that fits
  pub listen_met : (after : Kept) (why : Stop) → AsksOne o (call.Listen number) old.port new.port (Err why) → new.parts ≡ old.parts
      → Answers {R = Option ℕ} o (listen number handler) k after old new (Err why)
  listen_met after why one parts s h =
      (s, (asks_met o (call.Listen number) (call.Listen number) (listened handler s) refl why old new one parts, tt))

  module _ (came : Answer) (one : AsksOne o (call.Listen number) old.port new.port (Ok came)) (parts : new.parts ≡ old.parts) where
    comes_on : (s : Streams) (result : Result (Streams × Option ℕ) Stop) → Follows o seen_changed (listened handler s came) new new result
        → Follows o seen_changed (listen number handler s) old new result
    comes_on s result f = asks_on o (call.Listen number) (call.Listen number) (listened handler s) refl came old new new result one parts f

    -- it is refused
    pub listen_refused : is_done came ≡ false → Answers {R = Option ℕ} o (listen number handler) k k old new (Ok None)
    listen_refused e s h = (
      s,
      (
        comes_on s (Ok (s, None)) (follows_unless o seen_changed {A = Streams × Option ℕ} (is_done came)
            (Ends (add_server opened_here s, Some (length s.servers))) (Ends (s, None)) new new (Ok (s, None)) e
            (follows_ends o seen_changed {A = Streams × Option ℕ} (s, None) new)),
        (h, refl),
      ),
    )

    -- memory was refused after it
    pub listen_starved : (after : Kept) → Answers {R = Option ℕ} o (listen number handler) k after old new (Err stop.Memory)
    listen_starved after s h =
        (s, (asks_starved o (call.Listen number) (call.Listen number) (listened handler s) refl came old new new one parts refl, tt))

    pub listen_opens : (after : Kept) (id : ℕ) → is_done came ≡ true → after ≡ with_server opened_here k → id ≡ length k.servers
        → Answers {R = Option ℕ} o (listen number handler) k after old new (Ok (Some id))
    listen_opens after id e is number_is s h = (
      add_server opened_here s,
      (
        comes_on s (Ok (add_server opened_here s, Some id)) (follows_where o seen_changed {A = Streams × Option ℕ} (is_done came)
            (Ends (add_server opened_here s, Some (length s.servers))) (Ends (s, None)) new new (Ok (add_server opened_here s, Some id)) e
            (follows_end o seen_changed {A = Streams × Option ℕ} (add_server opened_here s, Some (length s.servers))
            (add_server opened_here s, Some id) new
            (ap (λ (n : ℕ). (add_server opened_here s, Some n)) (number_is ∙ ap length (sym h.servers))))),
        (subst (λ (it : Kept). StreamStandsFor it (add_server opened_here s)) (sym is) (stands_with_server k opened_here s h), refl),
      ),
    )

-- ---- one is closed
module _ {W : Type 0} (o : Outside W) (id : ℕ) (k : Kept) where
  abbrev with_closed_one : Server → Streams → Streams
  with_closed_one server s = record s { servers = slice_set s.servers id (closed_server server) }

  abbrev closes : Server → Streams → Doing Streams
  closes server s = asks (call.CloseServer id) (Ends (with_closed_one server s))

  abbrev closes_by : Streams → Option Server → Doing Streams
  closes_by s it = elim it [
    | None ↦ Ends s
    | Some server ↦ if server.is_open then closes server s else Ends s
  ]

  server_there : (it : Option Server) → slice_get k.servers id ≡ it → (s : Streams) → StreamStandsFor k s → it ≡ slice_get s.servers id
  server_there it at s h = sym (ap (λ xs. slice_get xs id) h.servers ∙ at)

  closes_none : (at : Reach View W) → slice_get k.servers id ≡ None → Comes {R = Unit {0}} o (close_server id) k k at at (Ok tt)
  closes_none at none s h =
      (s, (subst (λ it. Follows o seen_changed (closes_by s it) at at (Ok s)) (server_there None none s h) (follows_ends o seen_changed s at), (h, refl)))

  module _ (server : Server) (is : slice_get k.servers id ≡ Some server) where
    by_server : (s : Streams) → StreamStandsFor k s → (old new : Reach View W) (result : Result Streams Stop)
        → Follows o seen_changed (closes_by s (Some server)) old new result → Follows o seen_changed (close_server id s) old new result
    by_server s h old new result f = subst (λ it. Follows o seen_changed (closes_by s it) old new result) (server_there (Some server) is s h) f

    closes_closed : (at : Reach View W) → server.is_open ≡ false → Comes {R = Unit {0}} o (close_server id) k k at at (Ok tt)
    closes_closed at e s h = (
      s,
      (
        by_server s h at at (Ok s)
            (follows_unless o seen_changed server.is_open (closes server s) (Ends s) at at (Ok s) e (follows_ends o seen_changed s at)),
        (h, refl),
      ),
    )

    module _ (old new : Reach View W) (parts : new.parts ≡ old.parts) (open_is : server.is_open ≡ true) where
      closes_so : (s : Streams) → StreamStandsFor k s → (result : Result Streams Stop) → Follows o seen_changed (closes server s) old new result
          → Follows o seen_changed (close_server id s) old new result
      closes_so s h result f =
          by_server s h old new result (follows_where o seen_changed server.is_open (closes server s) (Ends s) old new result open_is f)

      closes_met_there : (after : Kept) (why : Stop) → AsksOne o (call.CloseServer id) old.port new.port (Err why)
          → Comes {R = Unit {0}} o (close_server id) k after old new (Err why)
      closes_met_there after why one s h = (
        s,
        (
          closes_so s h (Err why) (asks_met o (call.CloseServer id) (call.CloseServer id) (λ came. Ends (with_closed_one server s)) refl why
              old new one parts),
          tt,
        ),
      )

      closes_there : (after : Kept) (came : Answer) → AsksOne o (call.CloseServer id) old.port new.port (Ok came)
          → after ≡ record k { servers = slice_set k.servers id (closed_server server) }
          → Comes {R = Unit {0}} o (close_server id) k after old new (Ok tt)
      closes_there after came one same s h = (
        with_closed_one server s,
        (
          closes_so s h (Ok (with_closed_one server s))
              (asks_on o (call.CloseServer id) (call.CloseServer id) (λ came. Ends (with_closed_one server s)) refl came old new new
              (Ok (with_closed_one server s)) one parts (follows_ends o seen_changed (with_closed_one server s) new)),
          (
            subst (λ (it : Kept). StreamStandsFor it (with_closed_one server s)) (sym same) (record {
              servers = ap (λ xs. slice_set xs id (closed_server server)) h.servers;
              connections = h.connections;
              opened = h.opened;
              most = h.most;
            }),
            refl,
          ),
        ),
      )

  abbrev kept_closed_by : Option Server → Kept
  kept_closed_by it = elim it [
    | None ↦ k
    | Some server ↦ record k { servers = slice_set k.servers id (closed_server server) }
  ]

  pub closes_not : (at : Reach View W) → listening id k ≡ None → Comes {R = Unit {0}} o (close_server id) k k at at (Ok tt)
  closes_not at is =
      unless_listens k id (Comes {R = Unit {0}} o (close_server id) k k at at (Ok tt)) (closes_none at)
      (λ server there closed. closes_closed server there at closed) is

  module _ (handler : ℕ) (old new : Reach View W) (parts : new.parts ≡ old.parts) (is : listening id k ≡ Some handler) where
    it_listens : Listens k id handler
    it_listens = listens k id handler is

    pub closes_met : (after : Kept) (why : Stop) → AsksOne o (call.CloseServer id) old.port new.port (Err why)
        → Comes {R = Unit {0}} o (close_server id) k after old new (Err why)
    closes_met = closes_met_there it_listens.server it_listens.there old new parts it_listens.open_is

    pub closes_open : (after : Kept) (came : Answer) → AsksOne o (call.CloseServer id) old.port new.port (Ok came) → after ≡ with_closed id k
        → Comes {R = Unit {0}} o (close_server id) k after old new (Ok tt)
    closes_open after came one same =
        closes_there it_listens.server it_listens.there old new parts it_listens.open_is after came one
        (same ∙ ap kept_closed_by it_listens.there)
