-- What opens something, and callbacks.
use Rattle.std.proofs.Common.{◌≡◌, inr, ℕ, zero, suc, ◌+◌, ◌≤◌, ◌<◌, Bool, true, cond, List, [], ◌∷◌, ◌++◌, Option, Some, None, length}
use Rattle.std.proofs.Common.{slice_get, slice_set, refl, ap, sym, ◌∙◌, le_refl, length-append, length-set, arith}
use Rattle.std.specs.List.{sum_by}
use Rattle.std.proofs.lemmas.List.Sums.{sum_by_push}
use Rattle.model_value.specs.declared.action.Action.TheVariants as action
use Rattle.model_value.specs.Action.{Action}
use Rattle.model_wire.specs.declared.call.Call.TheVariants as call
use Rattle.model_stream.specs.Answers.{is_child, is_conn, is_done}
use Rattle.model_stream.specs.Children.{Child, new_child, feed_more, tell_child, lose_child}
use Rattle.model_stream.specs.Connections.{Connection, connecting, accepted, start_read, readable, writable, up, down, lose, handler_done}
use Rattle.model_stream.specs.Doing.{Doing, Ends, Changes, MakeFuture, and_then, asks}
use Rattle.model_stream.specs.Listeners.{Server}
use Rattle.model_stream.specs.Streams.{Streams, act, add_connection, add_child, add_server, accept, accept_most, most_accepts}
use Rattle.model_stream.specs.Streams.{its_connections, its_children, on_one, may_connect, listen, connect, launch}
use Rattle.model_stream.specs.Streams.{close_server, closed_server}
use Rattle.model_stream.specs.Kept.{ConnectionKeeps, ChildKeeps, StreamsKeep, child_times, connection_asked, connection_times, one_time}
use Rattle.law_cancel.proofs.Lookups.{get_within}
use Rattle.law_cases.specs.Trees.{AnswersStreams, ConnectsStreams, IsKnown, IsOwn, Keeping, KeepsStreams, OpensStreams, Owned, WaitsNever}
use Rattle.law_cases.proofs.Composing.{either_is, keeping_if, keeping_more, keeping_then, known, known_on, push_get, set_get, streams_more}
use Rattle.law_cases.proofs.Fits.{ChildFits, ConnectionFits, Limits, both_grown, child_still, connection_still, grown, made_next, now_connection, sum_set}
use Rattle.law_cases.proofs.Standing.{conn_readable, conn_started, conn_up, conn_down, conn_handled, conn_loses, conn_writable}
use Rattle.law_cases.proofs.Standing.{child_loses, child_told, child_feeds}

-- ---- what is kept where one changes, and where one comes
module _ (P : ℕ → Type 0) (s : Streams) (kept : StreamsKeep P s) where
  pub set_connection : (id : ℕ) (c : Connection) → ConnectionKeeps P c → StreamsKeep P (record s { connections = slice_set s.connections id c })
  set_connection id c h = record {
    connections = λ place d e. either_is (ConnectionKeeps P) c d h (kept.connections place d) (set_get s.connections id place c d e);
    children = kept.children;
  }

  pub set_child : (id : ℕ) (p : Child) → ChildKeeps P p → StreamsKeep P (record s { children = slice_set s.children id p })
  set_child id p h = record {
    connections = kept.connections;
    children = λ place q e. either_is (ChildKeeps P) p q h (kept.children place q) (set_get s.children id place p q e);
  }

  pub connection_comes : (c : Connection) → ConnectionKeeps P c → StreamsKeep P (add_connection c s)
  connection_comes c h = record {
    connections = λ place d e. either_is (ConnectionKeeps P) c d h (kept.connections place d) (push_get s.connections place c d e);
    children = kept.children;
  }

  pub child_comes : (p : Child) → ChildKeeps P p → StreamsKeep P (add_child p s)
  child_comes p h = record {
    connections = kept.connections;
    children = λ place q e. either_is (ChildKeeps P) p q h (kept.children place q) (push_get s.children place p q e);
  }

-- of one that is there, as often as it is there
pub connection_now : (P : ℕ → Type 0) (c : Connection) → ConnectionKeeps P c → ConnectionFits P (now_connection c) c
connection_now P c kept = (kept.0, kept.1, kept.2, λ future. (le_refl _, le_refl _))

pub child_now : (P : ℕ → Type 0) (p : Child) → ChildKeeps P p → ChildFits P (λ future. child_times future p) p
child_now P p kept = (kept.0, kept.1, kept.2, kept.3, λ future. le_refl _)

module _ (own : Owned) (first : ℕ) where
  abbrev pub Known : ℕ → ℕ → Type 0
  Known next = IsKnown own first next

  known_still : (next : ℕ) (s : Streams) → StreamsKeep (IsOwn own) s → StreamsKeep (Known next) s
  known_still next s kept = streams_more (IsOwn own) (Known next) (known own first next) s kept

  later : (next more : ℕ) (s : Streams) → next ≤ more → StreamsKeep (Known next) s → StreamsKeep (Known more) s
  later next more s on kept = streams_more (Known next) (Known more) (λ future h. known_on own first next more future on h) s kept

  -- the same connections and children
  pub same_keeps : (next : ℕ) (s after : Streams) → StreamsKeep (IsOwn own) s → length s.servers ≤ length after.servers
      → after.connections ≡ s.connections → after.children ≡ s.children → KeepsStreams own first s next after
  same_keeps next s after kept servers connections children =
      let still = known_still next s kept in
      record {
        kept = record {
          connections = λ id c e. still.connections id c (sym (ap (λ xs. slice_get xs id) connections) ∙ e);
          children = λ id p e. still.children id p (sym (ap (λ xs. slice_get xs id) children) ∙ e);
        };
        times = λ future.
            let a = ap (sum_by (connection_times future)) connections in
            let b = ap (sum_by (child_times future)) children in
            omega (arith, a, b);
        asked = λ future.
            let a = ap (sum_by (connection_asked future)) connections in
            let b = ap (sum_by (child_times future)) children in
            omega (arith, a, b);
        servers = servers;
        connections = let a = ap length connections in omega (arith, a);
        children = let a = ap length children in omega (arith, a);
      }

  pub still : (next : ℕ) (s : Streams) → StreamsKeep (IsOwn own) s → KeepsStreams own first s next s
  still next s kept = same_keeps next s s kept (le_refl _) refl refl

  -- ---- one of a kind changes
  pub connection_set : (next id : ℕ) (s : Streams) (c after : Connection) → StreamsKeep (IsOwn own) s → slice_get s.connections id ≡ Some c
      → ConnectionFits (Known next) (both_grown (now_connection c) first next) after
      → KeepsStreams own first s next (record s { connections = slice_set s.connections id after })
  connection_set next id s c after kept e h = record {
    kept = set_connection (Known next) s (known_still next s kept) id after (h.0, h.1, h.2);
    times = λ future.
        let a = sum_set (connection_times future) s.connections id c after e in
        let b = (h.3 future).0 in
        omega (arith, a, b);
    asked = λ future.
        let a = sum_set (connection_asked future) s.connections id c after e in
        let b = (h.3 future).1 in
        omega (arith, a, b);
    servers = le_refl _;
    connections = let a = length-set s.connections id after in omega (arith, a);
    children = le_refl _;
  }

  pub child_set : (next id : ℕ) (s : Streams) (p after : Child) → StreamsKeep (IsOwn own) s → slice_get s.children id ≡ Some p
      → ChildFits (Known next) (grown (λ future. child_times future p) first next) after
      → KeepsStreams own first s next (record s { children = slice_set s.children id after })
  child_set next id s p after kept e h = record {
    kept = set_child (Known next) s (known_still next s kept) id after (h.0, h.1, h.2, h.3);
    times = λ future.
        let a = sum_set (child_times future) s.children id p after e in
        let b = h.4 future in
        omega (arith, a, b);
    asked = λ future.
        let a = sum_set (child_times future) s.children id p after e in
        let b = h.4 future in
        omega (arith, a, b);
    servers = le_refl _;
    connections = le_refl _;
    children = let a = length-set s.children id after in omega (arith, a);
  }

  one_there : (id : ℕ) (change : Connection → Doing Connection) (s : Streams) → StreamsKeep (IsOwn own) s
      → (id < length s.connections → (limit : Limits) (Left : ℕ → Connection → Type 0) (c : Connection) → ConnectionFits (IsOwn own) limit c
      → ((after : Connection) → ConnectionFits (IsOwn own) limit after → Left first after) → Keeping Left own first (change c))
      → Keeping (KeepsStreams own first s) own first (on_one its_connections id change s)
  one_there id change s kept here = at (slice_get s.connections id) refl
    where
      at : (found : Option Connection) → slice_get s.connections id ≡ found
          → Keeping (KeepsStreams own first s) own first (elim found [
            | None ↦ Ends s
            | Some one ↦ and_then (change one) (λ after. Ends (record s { connections = slice_set s.connections id after }))
          ])
      at None e = still first s kept
      at (Some c) e =
          keeping_then own (KeepsStreams own first s) first (change c) (λ after. Ends (record s { connections = slice_set s.connections id after }))
          (here (get_within s.connections id c e) (now_connection c)
          (λ next after. KeepsStreams own first s next (record s { connections = slice_set s.connections id after })) c
          (connection_now (IsOwn own) c (kept.connections id c e))
          (λ after h. connection_set first id s c after kept e (connection_still own (now_connection c) first first after h)))

  pub one_connection : (id : ℕ) (change : Connection → Doing Connection) (s : Streams) → StreamsKeep (IsOwn own) s
      → ((limit : Limits) (Left : ℕ → Connection → Type 0) (c : Connection) → ConnectionFits (IsOwn own) limit c
      → ((after : Connection) → ConnectionFits (IsOwn own) limit after → Left first after) → Keeping Left own first (change c))
      → Keeping (KeepsStreams own first s) own first (on_one its_connections id change s)
  one_connection id change s kept here = one_there id change s kept (λ there. here)

  pub one_child : (id : ℕ) (change : Child → Doing Child) (s : Streams) → StreamsKeep (IsOwn own) s
      → ((limit : ℕ → ℕ) (Left : ℕ → Child → Type 0) (p : Child) → ChildFits (IsOwn own) limit p
      → ((after : Child) → ChildFits (IsOwn own) limit after → Left first after) → Keeping Left own first (change p))
      → Keeping (KeepsStreams own first s) own first (on_one its_children id change s)
  one_child id change s kept here = at (slice_get s.children id) refl
    where
      at : (found : Option Child) → slice_get s.children id ≡ found
          → Keeping (KeepsStreams own first s) own first (elim found [
            | None ↦ Ends s
            | Some one ↦ and_then (change one) (λ after. Ends (record s { children = slice_set s.children id after }))
          ])
      at None e = still first s kept
      at (Some p) e =
          keeping_then own (KeepsStreams own first s) first (change p) (λ after. Ends (record s { children = slice_set s.children id after }))
          (here (λ future. child_times future p)
          (λ next after. KeepsStreams own first s next (record s { children = slice_set s.children id after })) p
          (child_now (IsOwn own) p (kept.children id p e))
          (λ after h. child_set first id s p after kept e (child_still own (λ future. child_times future p) first first after h)))

  -- ---- one comes, with the next future
  comes : (next : ℕ) (s now : Streams) (c : Connection) → first ≤ next → KeepsStreams own first s next now → ConnectionKeeps (Known (next + 1)) c
      → ((future : ℕ) → connection_times future c ≤ one_time future (Some next)) → KeepsStreams own first s (next + 1) (add_connection c now)
  comes next s now c on h keeps times = record {
    kept = connection_comes (Known (next + 1)) now (later next (next + 1) now (omega arith) h.kept) c keeps;
    times = λ future.
        let a = h.times future in
        let b = times future in
        let d = sum_by_push (connection_times future) now.connections c in
        let e = made_next first next future on in
        omega (arith, a, b, d, e);
    asked = λ future.
        let a = h.asked future in
        let b = times future in
        let d = sum_by_push (connection_asked future) now.connections c in
        let e = made_next first next future on in
        omega (arith, a, b, d, e);
    servers = h.servers;
    connections = let a = h.connections in let b = length-append now.connections (c ∷ []) in omega (arith, a, b);
    children = h.children;
  }

  -- ---- listeners
  accept_keeps : (more server handler next : ℕ) (s now : Streams) → first ≤ next → KeepsStreams own first s next now
      → Keeping (KeepsStreams own first s) own next (accept_most more server handler next now)
  accept_keeps zero server handler next s now on h = h
  accept_keeps (suc more) server handler next s now on h =
      keeping_if own (KeepsStreams own first s) next (may_connect now) _ (Ends now) (
        refl,
        λ came.
            keeping_if own (KeepsStreams own first s) next (is_conn came)
            (and_then (accept handler next now) (accept_most more server handler (next + 1))) (Ends now) (
              refl,
              (
                refl,
                accept_keeps more server handler (next + 1) s (add_connection (accepted next handler) now) (omega (arith, on))
                    (comes next s now (accepted next handler) on h (tt, (inr (on, omega arith), tt), tt) (λ future. omega arith)),
              ),
            ) h,
      ) h

  server_keeps : (found : Option Server) (id : ℕ) (s : Streams) → StreamsKeep (IsOwn own) s
      → Keeping (KeepsStreams own first s) own first (elim found [
        | None ↦ Ends s
        | Some server ↦ cond server.is_open (accept_most most_accepts id server.handler first s) (Ends s)
      ])
  server_keeps None id s kept = still first s kept
  server_keeps (Some server) id s kept =
      keeping_if own (KeepsStreams own first s) first server.is_open (accept_most most_accepts id server.handler first s) (Ends s)
      (accept_keeps most_accepts id server.handler first s s (omega arith) (still first s kept)) (still first s kept)

  pub closes_server : (id : ℕ) (s : Streams) → StreamsKeep (IsOwn own) s → Keeping (KeepsStreams own first s) own first (close_server id s)
  closes_server id s kept = at (slice_get s.servers id)
    where
      same : (server : Server) → KeepsStreams own first s first (record s { servers = slice_set s.servers id (closed_server server) })
      same server =
          let a = length-set s.servers id (closed_server server) in
          same_keeps first s (record s { servers = slice_set s.servers id (closed_server server) }) kept (omega (arith, a)) refl refl

      at : (found : Option Server)
          → Keeping (KeepsStreams own first s) own first (elim found [
            | None ↦ Ends s
            | Some server ↦ cond server.is_open (asks (call.CloseServer id) (Ends (record s { servers = slice_set s.servers id (closed_server server) })))
                (Ends s)
          ])
      at None = still first s kept
      at (Some server) =
          keeping_if own (KeepsStreams own first s) first server.is_open
          (asks (call.CloseServer id) (Ends (record s { servers = slice_set s.servers id (closed_server server) }))) (Ends s)
          (refl, λ answer. same server) (still first s kept)

  -- ---- callbacks
  pub acts : (returned : Bool) (it : Action) (s : Streams) → StreamsKeep (IsOwn own) s → length s.connections ≤ own.connections
      → Keeping (KeepsStreams own first s) own first (act first returned it s)
  acts returned (action.ReadableServer id) s kept few = server_keeps (slice_get s.servers id) id s kept
  acts returned (action.StartRead id) s kept few =
      one_connection id (λ c. Ends (start_read c)) s kept (λ limit Left c h each. conn_started own limit Left first each c h)
  acts returned (action.Readable id) s kept few = one_connection id (readable id) s kept (λ limit Left c h each. conn_readable own limit Left first each id c h)
  acts returned (action.Writable id) s kept few = one_connection id (writable id) s kept (λ limit Left c h each. conn_writable own limit Left first each id c h)
  acts returned (action.Up id) s kept few =
      one_there id (up id) s kept (λ there limit Left c h each. conn_up own limit Left first each id c (omega (arith, there, few)) h)
  acts returned (action.Down id) s kept few = one_connection id (down id) s kept (λ limit Left c h each. conn_down own limit Left first each id c h)
  acts returned (action.Lost id broken) s kept few =
      one_connection id (lose id broken) s kept (λ limit Left c h each. conn_loses own limit Left first each id broken c h)
  acts returned (action.HandlerDone id task) s kept few =
      one_connection id (handler_done id returned) s kept (λ limit Left c h each. conn_handled own limit Left first each id returned c h)
  acts returned (action.WritableChild id) s kept few = one_child id (feed_more id) s kept (λ limit Left p h each. child_feeds own limit Left first each id p h)
  acts returned (action.ChildItem id item) s kept few =
      one_child id (tell_child id item) s kept (λ limit Left p h each. child_told own limit Left first each id item p h)
  acts returned (action.LostChild id broken) s kept few =
      one_child id (lose_child id broken) s kept (λ limit Left p h each. child_loses own limit Left first each id broken p h)
  acts returned (action.Made id) s kept few = still first s kept
  acts returned (action.Step task) s kept few = still first s kept
  acts returned (action.StepInCycle task cycle) s kept few = still first s kept
  acts returned (action.Wakeup task) s kept few = still first s kept
  acts returned (action.SleepDone task future) s kept few = still first s kept
  acts returned (action.GroupDone group task) s kept few = still first s kept
  acts returned (action.Fires timeout) s kept few = still first s kept
  acts returned action.MainDone s kept few = still first s kept
  acts returned (action.ExtraItem code bytes) s kept few = still first s kept
  acts returned (action.Extra key) s kept few = still first s kept

  -- ---- what opens one
  pub opens_server : (port handler : ℕ) (s : Streams) → StreamsKeep (IsOwn own) s
      → Keeping (OpensStreams (λ it. length it.servers) own first s) own first (listen port handler s)
  opens_server port handler s kept = (
    refl,
    λ came.
        keeping_if own (OpensStreams (λ it. length it.servers) own first s) first (is_done came)
        (Ends (add_server (record { handler = handler; is_open = true }) s, Some (length s.servers))) (Ends (s, None))
        (same_keeps first s (add_server (record { handler = handler; is_open = true }) s) kept (omega (arith, more)) refl refl, omega (arith, more))
        (still first s kept, tt),
  )
    where
      more : length (s.servers ++ record { handler = handler; is_open = true } ∷ []) ≡ length s.servers + 1
      more = length-append s.servers (record { handler = handler; is_open = true } ∷ [])

  pub listens : (port handler : ℕ) (s : Streams) → StreamsKeep (IsOwn own) s
      → Keeping (AnswersStreams {R = Option ℕ} WaitsNever own first s) own first (listen port handler s)
  listens port handler s kept =
      keeping_more own (OpensStreams (λ it. length it.servers) own first s) (AnswersStreams {R = Option ℕ} WaitsNever own first s)
      (λ next done h. (h.0, tt)) first (listen port handler s) (opens_server port handler s kept)

  pub connects : (port : ℕ) (s : Streams) → StreamsKeep (IsOwn own) s
      → Keeping (ConnectsStreams own first s) own first (connect port first s)
  connects port s kept = (
    refl,
    λ came.
        keeping_if own (ConnectsStreams own first s) first (is_conn came)
        (Changes MakeFuture (Changes MakeFuture
        (Ends (add_connection (connecting first (first + 1)) s, Some (length s.connections, first + 1))))) (Ends (s, None))
        (begun, ((let a = length-append s.connections (connecting first (first + 1) ∷ []) in omega (arith, a)), (omega arith, omega arith)))
        (still first s kept, tt),
  )
    where
      -- it keeps two futures that were made
      begun : KeepsStreams own first s (first + 1 + 1) (add_connection (connecting first (first + 1)) s)
      begun = record {
        kept = connection_comes (Known (first + 1 + 1)) s (known_still (first + 1 + 1) s kept) (connecting first (first + 1))
            (inr (omega arith, omega arith), (inr (omega arith, omega arith), tt), tt);
        times = λ future.
            let a = sum_by_push (connection_times future) s.connections (connecting first (first + 1)) in
            let b = made_next first first future (le_refl first) in
            let c = made_next first (first + 1) future (omega arith) in
            omega (arith, a, b, c);
        asked = λ future.
            let a = sum_by_push (connection_asked future) s.connections (connecting first (first + 1)) in
            let b = made_next first first future (le_refl first) in
            let c = made_next first (first + 1) future (omega arith) in
            omega (arith, a, b, c);
        servers = le_refl _;
        connections = let a = length-append s.connections (connecting first (first + 1) ∷ []) in omega (arith, a);
        children = le_refl _;
      }

  pub opens_child : (words : List (List ℕ)) (s : Streams) → StreamsKeep (IsOwn own) s
      → Keeping (OpensStreams (λ it. length it.children) own first s) own first (launch words first s)
  opens_child words s kept = (
    refl,
    λ came.
        keeping_if own (OpensStreams (λ it. length it.children) own first s) first (is_child came)
        (Changes MakeFuture (Ends (add_child (new_child first) s, Some (length s.children)))) (Ends (s, None))
        (launched_one, let a = length-append s.children (new_child first ∷ []) in omega (arith, a))
        (still first s kept, tt),
  )
    where
      launched_one : KeepsStreams own first s (first + 1) (add_child (new_child first) s)
      launched_one = record {
        kept = child_comes (Known (first + 1)) s (known_still (first + 1) s kept) (new_child first) ((inr (omega arith, omega arith), tt), tt, tt, tt);
        times = λ future.
            let a = sum_by_push (child_times future) s.children (new_child first) in
            let b = made_next first first future (le_refl first) in
            omega (arith, a, b);
        asked = λ future.
            let a = sum_by_push (child_times future) s.children (new_child first) in
            let b = made_next first first future (le_refl first) in
            omega (arith, a, b);
        servers = le_refl _;
        connections = le_refl _;
        children = let a = length-append s.children (new_child first ∷ []) in omega (arith, a);
      }

  pub launches : (words : List (List ℕ)) (s : Streams) → StreamsKeep (IsOwn own) s
      → Keeping (AnswersStreams {R = Option ℕ} WaitsNever own first s) own first (launch words first s)
  launches words s kept =
      keeping_more own (OpensStreams (λ it. length it.children) own first s) (AnswersStreams {R = Option ℕ} WaitsNever own first s)
      (λ next done h. (h.0, tt)) first (launch words first s) (opens_child words s kept)
