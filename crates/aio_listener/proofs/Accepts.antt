-- A listener accepts connections.
use Rattle.std.proofs.Common.{◌≡◌, ℕ, zero, suc, ◌+◌, ◌<◌, Bool, true, false, if◌then◌else◌, List, [], ◌∷◌, ◌++◌, Option, Some, None, Result, Ok, Err}
use Rattle.std.proofs.Common.{OnOk, length, nat_lt, slice_get, ◌∙◌, refl, sym, ap, subst, arith}
use Rattle.std.specs.List.{AllByRecursion as Each}
use Rattle.std.proofs.lemmas.List.{length_push}
use Rattle.model_loop.specs.Parts.{Future, Plain}
use Rattle.model_value.specs.declared.action.Action.TheVariants.{Made, StartRead}
use Rattle.model_wire.specs.Call.{Answer}
use Rattle.model_wire.specs.declared.call.Call.TheVariants as call
use Rattle.model_stream.specs.Answers.{is_conn}
use Rattle.model_stream.specs.Connections.{Connection, accepted}
use Rattle.model_stream.specs.Doing.{Doing, Ends, Changes, Asks, MakeFuture, CallSoon, and_then}
use Rattle.model_stream.specs.Listeners.{Server}
use Rattle.model_stream.specs.Streams.{Streams, OpenedConn, accept, accept_most, add_connection, may_connect, most_accepts, readable_server}
use Rattle.aio_wire.specs.Outside.{Outside}
use Rattle.aio_wire.specs.declared.stop.Stop.{Stop}
use Rattle.aio_wire.specs.declared.stop.Stop.TheVariants as stop
use Rattle.aio_exchange.specs.Exchanged.{AsksOne}
use Rattle.aio_exchange.specs.Follows.{Follows, Reach, after_of}
use Rattle.aio_exchange.proofs.Following.{follows_ends, follows_starved, follows_then, follows_unless, follows_where}
use Rattle.aio_exchange.proofs.Telling.{tells_changed, tells_ends, tells_follow}
use Rattle.aio_task.specs.View.{View}
use Rattle.aio_change.specs.Owned.{IsOwn, KeepsOwn}
use Rattle.aio_change.specs.Seen.{seen_changed}
use Rattle.aio_change.proofs.AfterAsking.{asks_met, asks_on}
use Rattle.aio_change.proofs.Owning.{own_changed, own_made}
use Rattle.aio_stream.specs.Owned.{OwnsConnection}
use Rattle.aio_stream.specs.Kept.{Kept, listening, may_connect as may_connect_kept, with_connection}
use Rattle.aio_stream.specs.Owned.{OwnsStreams}
use Rattle.aio_stream.specs.Standing.{Comes, StandsAfter, StreamStandsFor, Told}
use Rattle.aio_stream.proofs.Placing.{kept_connections}
use Rattle.aio_listener.proofs.Listeners.{listens, unless_listens}

abbrev made_future : Future
made_future = record { kind = Plain; outcome = None; callbacks = [] }

-- a future more
pub one_more_made : (old new : View) → new ≡ seen_changed MakeFuture old → length new.futures ≡ length old.futures + 1
one_more_made old new made = ap length (ap (λ (v : View). v.futures) made) ∙ length_push old.futures made_future

-- children that stayed, and stayed again
stands_on : {R : Type 0} (new : Kept) (before between after : Streams) (result : Result R Stop) → between.children ≡ before.children
    → OnOk result (StandsAfter new between after) → OnOk result (StandsAfter new before after)
stands_on new before between after (Ok done) same it = (it.0, it.1 ∙ same)
stands_on new before between after (Err why) same it = tt

-- ---- one more connection
pub stands_with_connection : (k : Kept) (c : Connection) (s : Streams) → StreamStandsFor k s → StreamStandsFor (with_connection c k) (add_connection c s)
stands_with_connection k c s h = record {
  servers = h.servers;
  connections = ap (λ xs. xs ++ c ∷ []) h.connections;
  opened =
      ap (λ xs. xs ++ OpenedConn (length s.connections) ∷ []) h.opened
      ∙ ap (λ (xs : List Connection). k.opened ++ OpenedConn (length xs) ∷ []) h.connections;
  most = h.most;
}

pub own_with : (v : View) (cs : List Connection) (c : Connection) → Each (OwnsConnection v) cs → OwnsConnection v c
    → Each (OwnsConnection v) (cs ++ c ∷ [])
own_with v [] c own one = (one, tt)
own_with v (x ∷ xs) c own one = (own.0, own_with v xs c own.1 one)

-- ---- one is accepted
module _ (handler : ℕ) (k after : Kept) (closed id : ℕ) (old first second new : View) (number : closed ≡ length old.futures)
    (id_is : id ≡ length k.connections) (made : first ≡ seen_changed MakeFuture old) (soon : second ≡ seen_changed (CallSoon (Made id)) first)
    (then_soon : new ≡ seen_changed (CallSoon (StartRead id)) second) (is : after ≡ with_connection (accepted closed handler) k) where
  pub accepts_told : Told (accept handler (length old.futures)) k after old new
  accepts_told s h =
      let n = length s.connections in
      let same : id ≡ n = id_is ∙ ap length (sym h.connections) in
      let c : Connection = accepted (length old.futures) handler in
      let end : Doing Streams = Ends (add_connection c s) in
      let begins : Doing Streams = Changes (CallSoon (StartRead n)) end in (
        add_connection c s,
        (
          tells_changed seen_changed MakeFuture (Changes (CallSoon (Made n)) begins) old first new (add_connection c s) made
              (tells_changed seen_changed (CallSoon (Made n)) begins first second new (add_connection c s)
              (soon ∙ ap (λ (i : ℕ). seen_changed (CallSoon (Made i)) first) same)
              (tells_changed seen_changed (CallSoon (StartRead n)) end second new new (add_connection c s)
              (then_soon ∙ ap (λ (i : ℕ). seen_changed (CallSoon (StartRead i)) second) same)
              (tells_ends seen_changed (add_connection c s) new))),
          (
            subst (λ (it : Kept). StreamStandsFor it (add_connection c s))
                (sym (is ∙ ap (λ (f : ℕ). with_connection (accepted f handler) k) number)) (stands_with_connection k c s h),
            refl,
          ),
        ),
      )

  -- a future more
  pub accepts_next : length new.futures ≡ length old.futures + 1
  accepts_next =
      ap length (ap (λ (v : View). v.futures) then_soon ∙ ap (λ (v : View). v.futures) soon) ∙ one_more_made old first made

  pub accepts_own : OwnsStreams old k → OwnsStreams new after
  accepts_own own =
      subst (OwnsStreams new) (sym is)
      (own_with new k.connections (accepted closed handler) (kept_connections old new keeps k.connections own)
      (record { making = tt; sender = (the_own, tt); waiter = tt }))
    where
      goes_on : (future : ℕ) → IsOwn first future → IsOwn new future
      goes_on future it =
          subst (λ (v : View). IsOwn v future) (sym then_soon) (own_changed (CallSoon (StartRead id)) second future
          (subst (λ (v : View). IsOwn v future) (sym soon) (own_changed (CallSoon (Made id)) first future it)))

      keeps : KeepsOwn old new
      keeps future it =
          goes_on future (subst (λ (v : View). IsOwn v future) (sym made) (own_changed MakeFuture old future it))

      the_own : IsOwn new closed
      the_own =
          goes_on closed (subst (λ (v : View). IsOwn v closed) (sym made)
          (subst (λ (f : ℕ). IsOwn (seen_changed MakeFuture old) f) (sym number) (own_made old)))

-- ---- it accepts until another answer comes
module _ {W : Type 0} (o : Outside W) (server handler : ℕ) (k : Kept) where
  none_left : (next : ℕ) (at : Reach View W) → Comes {R = Unit {0}} o (accept_most zero server handler next) k k at at (Ok tt)
  none_left next at s h = (s, (follows_ends o seen_changed s at, (h, refl)))

  room_same : (s : Streams) → StreamStandsFor k s → (b : Bool) → may_connect_kept k ≡ b → may_connect s ≡ b
  room_same s h b e =
      ap (λ n. nat_lt n s.most) (ap length h.connections) ∙ ap (λ most. nat_lt (length k.connections) most) h.most ∙ e

  abbrev round : ℕ → ℕ → Streams → Answer → Doing Streams
  round more next s came =
      if is_conn came then and_then (accept handler next s) (accept_most more server handler (next + 1)) else Ends s

  -- none can be numbered any more
  no_room : (more next : ℕ) (at : Reach View W) → may_connect_kept k ≡ false
      → Comes {R = Unit {0}} o (accept_most more server handler next) k k at at (Ok tt)
  no_room zero next at e s h = none_left next at s h
  no_room (suc more) next at e s h = (
    s,
    (
      follows_unless o seen_changed (may_connect s) (Asks (call.Accept server) (round more next s)) (Ends s) at at (Ok s)
          (room_same s h false e) (follows_ends o seen_changed s at),
      (h, refl),
    ),
  )

  -- it accepts no more
  pub accepts_over : (more next : ℕ) (at : Reach View W) → (0 < more → may_connect_kept k ≡ false)
      → Comes {R = Unit {0}} o (accept_most more server handler next) k k at at (Ok tt)
  accepts_over zero next at stops = none_left next at
  accepts_over (suc more) next at stops = no_room (suc more) next at (stops (omega arith))

  module _ (more next : ℕ) (room : may_connect_kept k ≡ true) (old mid : Reach View W) (parts : mid.parts ≡ old.parts) where
    in_round : (s : Streams) → StreamStandsFor k s → (new : Reach View W) (result : Result Streams Stop)
        → Follows o seen_changed (Asks (call.Accept server) (round more next s)) old new result
        → Follows o seen_changed (accept_most (suc more) server handler next s) old new result
    in_round s h new result f =
        follows_where o seen_changed (may_connect s) (Asks (call.Accept server) (round more next s)) (Ends s) old new result
        (room_same s h true room) f

    pub round_met : (after : Kept) (why : Stop) → AsksOne o (call.Accept server) old.port mid.port (Err why)
        → Comes {R = Unit {0}} o (accept_most (suc more) server handler next) k after old mid (Err why)
    round_met after why one s h = (
      s,
      (
        in_round s h mid (Err why)
            (asks_met o (call.Accept server) (call.Accept server) (round more next s) refl why old mid one parts),
        tt,
      ),
    )

    module _ (came : Answer) (one : AsksOne o (call.Accept server) old.port mid.port (Ok came)) where
      answered : (s : Streams) → StreamStandsFor k s → (new : Reach View W) (result : Result Streams Stop)
          → Follows o seen_changed (round more next s came) mid new result
          → Follows o seen_changed (accept_most (suc more) server handler next s) old new result
      answered s h new result f =
          in_round s h new result
          (asks_on o (call.Accept server) (call.Accept server) (round more next s) refl came old mid new result one parts f)

      -- no more came
      pub round_over : is_conn came ≡ false → Comes {R = Unit {0}} o (accept_most (suc more) server handler next) k k old mid (Ok tt)
      round_over e s h = (
        s,
        (
          answered s h mid (Ok s) (follows_unless o seen_changed (is_conn came)
              (and_then (accept handler next s) (accept_most more server handler (next + 1))) (Ends s) mid mid (Ok s) e
              (follows_ends o seen_changed s mid)),
          (h, refl),
        ),
      )

      -- memory was refused after it
      pub round_starved : (after : Kept) (new : Reach View W) → new.port ≡ mid.port
          → Comes {R = Unit {0}} o (accept_most (suc more) server handler next) k after old new (Err stop.Memory)
      round_starved after new port s h =
          (s, (answered s h new (Err stop.Memory) (follows_starved o seen_changed (round more next s came) mid new port), tt))

      pub round_on : {R : Type 0} (between after : Kept) (third new : Reach View W) (result : Result R Stop) → is_conn came ≡ true
          → Told (accept handler next) k between mid.parts third.parts → third.port ≡ mid.port
          → Comes o (accept_most more server handler (next + 1)) between after third new result
          → Comes o (accept_most (suc more) server handler next) k after old new result
      round_on between after third new result e told port goes s h =
          let first = told s h in
          let then_so = goes first.0 first.1.1.0 in
          let rest : Streams → Doing Streams = accept_most more server handler (next + 1) in (
            then_so.0,
            (
              answered s h new (after_of then_so.0 result)
                  (follows_where o seen_changed (is_conn came) (and_then (accept handler next s) rest) (Ends s) mid new
                  (after_of then_so.0 result) e
                  (follows_then o seen_changed (accept handler next s) rest first.0 mid third new (after_of then_so.0 result)
                  (tells_follow seen_changed o (accept handler next s) mid third first.0 first.1.0 port) then_so.1.0)),
              stands_on after s first.0 then_so.0 result first.1.1.1 then_so.1.1,
            ),
          )

-- ---- `readable` of a listener
module _ {W : Type 0} (o : Outside W) (id next : ℕ) (k : Kept) where
  abbrev accepts_by : Streams → Option Server → Doing Streams
  accepts_by s it = elim it [
    | None ↦ Ends s
    | Some server ↦ if server.is_open then accept_most most_accepts id server.handler next s else Ends s
  ]

  listener_there : (it : Option Server) → slice_get k.servers id ≡ it → (s : Streams) → StreamStandsFor k s → it ≡ slice_get s.servers id
  listener_there it at s h = sym (ap (λ xs. slice_get xs id) h.servers ∙ at)

  no_listener : (at : Reach View W) → slice_get k.servers id ≡ None → Comes {R = Unit {0}} o (readable_server next id) k k at at (Ok tt)
  no_listener at none s h = (
    s,
    (
      subst (λ it. Follows o seen_changed (accepts_by s it) at at (Ok s)) (listener_there None none s h) (follows_ends o seen_changed s at),
      (h, refl),
    ),
  )

  module _ (server : Server) (is : slice_get k.servers id ≡ Some server) where
    by_listener : (s : Streams) → StreamStandsFor k s → (old new : Reach View W) (result : Result Streams Stop)
        → Follows o seen_changed (accepts_by s (Some server)) old new result → Follows o seen_changed (readable_server next id s) old new result
    by_listener s h old new result f =
        subst (λ it. Follows o seen_changed (accepts_by s it) old new result) (listener_there (Some server) is s h) f

    listener_closed : (at : Reach View W) → server.is_open ≡ false → Comes {R = Unit {0}} o (readable_server next id) k k at at (Ok tt)
    listener_closed at e s h = (
      s,
      (
        by_listener s h at at (Ok s) (follows_unless o seen_changed server.is_open (accept_most most_accepts id server.handler next s)
            (Ends s) at at (Ok s) e (follows_ends o seen_changed s at)),
        (h, refl),
      ),
    )

    listener_there_open : {R : Type 0} (after : Kept) (old new : Reach View W) (result : Result R Stop) → server.is_open ≡ true
        → Comes o (accept_most most_accepts id server.handler next) k after old new result
        → Comes o (readable_server next id) k after old new result
    listener_there_open after old new result e goes s h =
        let it = goes s h in (
          it.0,
          (
            by_listener s h old new (after_of it.0 result) (follows_where o seen_changed server.is_open
                (accept_most most_accepts id server.handler next s) (Ends s) old new (after_of it.0 result) e it.1.0),
            it.1.1,
          ),
        )

  pub listens_not : (at : Reach View W) → listening id k ≡ None → Comes {R = Unit {0}} o (readable_server next id) k k at at (Ok tt)
  listens_not at is =
      unless_listens k id (Comes {R = Unit {0}} o (readable_server next id) k k at at (Ok tt)) (no_listener at)
      (λ server there closed. listener_closed server there at closed) is

  pub listens_so : {R : Type 0} (handler : ℕ) (after : Kept) (old new : Reach View W) (result : Result R Stop) → listening id k ≡ Some handler
      → Comes o (accept_most most_accepts id handler next) k after old new result
      → Comes o (readable_server next id) k after old new result
  listens_so handler after old new result is goes =
      let it = listens k id handler is in
      listener_there_open it.server it.there after old new result it.open_is
      (subst (λ (h : ℕ). Comes o (accept_most most_accepts id h next) k after old new result) (sym it.handler_is) goes)
