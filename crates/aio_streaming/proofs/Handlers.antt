-- A connection was made: its handler is started, or the connection is closed where no more tasks can be numbered.
use Rattle.std.proofs.Common.{◌≡◌, ℕ, ◌<◌, ◌≤◌, Bool, true, false, List, [], ◌∷◌, ◌++◌, Option, Some, None, length, slice_get}
use Rattle.std.proofs.Common.{◌∙◌, refl, sym, ap, subst, arith}
use Rattle.std.specs.Prelude.{nat_lt}
use Rattle.std.proofs.lemmas.Bool.{le-ltb, lt-ltb}
use Rattle.model_value.specs.declared.action.Action.TheVariants as action
use Rattle.model_value.specs.Action.{Action}
use Rattle.model_value.specs.Value.{Conn, Outcome, Value}
use Rattle.model_wire.specs.declared.event.Handed.TheVariants as to
use Rattle.model_says.specs.Says.{step_limit}
use Rattle.model_loop.specs.Futures.{next_future, register}
use Rattle.model_loop.specs.Loop.{in_parts}
use Rattle.model_loop.specs.Parts.{Future, Parts}
use Rattle.model_loop.specs.Tasks.{future_of, next_task, spawn}
use Rattle.model_stream.specs.Doing.{Doing}
use Rattle.model_stream.specs.Requests.{close}
use Rattle.model_stream.specs.Streams.{Streams, handler_of}
use Rattle.model_machine.specs.Does.{does}
use Rattle.model_machine.specs.Extra.{Extra}
use Rattle.model_machine.specs.Replies.{most_ids}
use Rattle.model_machine.specs.State.{State, unbooked_in, with_coroutine, with_streams}
use Rattle.model_machine.specs.Turn.{effect, handled_if, made_by}
use Rattle.model_machine.specs.Went.{Went, Goes, Stops}
use Rattle.law_replies.proofs.Counts.{own_there}
use Rattle.refine_parts.proofs.Calls.{kept_register, kept_spawn}
use Rattle.refine_parts.proofs.Telling.{future_of_kept}
use Rattle.law_cases.specs.TreeEnd.{owned_in as plain_in}
use Rattle.law_cases.proofs.Asking.{closes}
use Rattle.aio_ready.specs.Queue as queue
use Rattle.aio_future.specs.Settled.{registered, soon_at, soon_if_done, soon_until}
use Rattle.aio_task.specs.Keeps.{Kept}
use Rattle.aio_task.specs.View.{View, parts}
use Rattle.aio_group.specs.Held.{Held}
use Rattle.aio_transports.specs.Standing.{TransportsStandFor as AreTransports, Told}
use Rattle.aio_extra.specs.Added.{Added, named_in}
use Rattle.aio_body.specs.declared.run_state.RunState.{RunState}
use Rattle.aio_body.specs.Asking.{Piece}
use Rattle.aio_body.specs.Slots.{HoldsMore}
use Rattle.aio_body.specs.Stands.{AreBlocks, Possible, Context, Stands}
use Rattle.aio_body.specs.Taken.{IsTaken}
use Rattle.aio_body.proofs.Blocks.{blocks_on}
use Rattle.aio_body.proofs.Lasting.{spares_none, stands_on}
use Rattle.aio_body.proofs.Left.{leaves_register}
use Rattle.aio_body.proofs.Spawned.{LeavesMore, leaves_spawn, stands_made}
use Rattle.refine_streams.specs.Went.{MayCall}
use Rattle.refine_streams.proofs.Answering.{callback_so}
use Rattle.refine_streams.proofs.May.{may_taken}
use Rattle.refine_streams.proofs.Requests.{change_tells}
use Rattle.aio_streaming.specs.Acting.{CallbackGoesOn, acting}
use Rattle.aio_streaming.proofs.Callbacks.{taken_streams}

-- a callback that is registered comes after the bar
below_registered : (id : ℕ) (it : Action) (futures : List Future) (q : queue.Queue)
    → (soon_if_done id it futures q).below ≡ q.below
below_registered id it futures q = at (slice_get futures id)
  where
    until : (o : Option Outcome) → (soon_until o it q).below ≡ q.below
    until (Some done) = refl
    until None = refl

    at : (o : Option Future) → (soon_at o it q).below ≡ q.below
    at None = refl
    at (Some future) = until future.outcome

-- the arguments of a handler
pub one_conn : (conn : ℕ) (arguments pushed none : List Value) (x : Value) → arguments ≡ pushed
    → pushed ≡ none ++ x ∷ [] → none ≡ [] → x ≡ Conn conn → arguments ≡ Conn conn ∷ []
one_conn conn arguments pushed none x e f g h = cc

-- ---- in the machine
made_means : {S : Type 0} (added : Extra S) (conn : ℕ) (s : State S)
    → effect step_limit added (action.Made conn) s ≡ made_by (handler_of conn s.streams) conn s
unfolding effect
made_means added conn s = refl

module _ {X : Type 0} (a : Added X) (conn : ℕ) (old : RunState X) where
  abbrev made : Action
  made = action.Made conn

  abbrev does_ : State a.Kept → Went a.Kept
  does_ s = effect step_limit a.meaning made s

  may : (c : Context a) (s : State a.Kept) → IsTaken made c old s → MayCall None c old s
  may c s h = may_taken c old s made h

  -- the handler that code finds
  abbrev pub Finds : Option ℕ → Type 0
  Finds found = (s : Streams) → AreTransports old.transports s → found ≡ handler_of conn s

  by_handler : (found : Option ℕ) → Finds found → (c : Context a) (s : State a.Kept) → IsTaken made c old s
      → does_ s ≡ made_by found conn s
  by_handler found finds c s h =
      made_means a.meaning conn s ∙ ap (λ o. made_by o conn s) (sym (finds s.streams h.stands.transports))

  -- ---- it has none
  pub handles_none : Finds None → (c : Context a) (s : State a.Kept) → IsTaken made c old s → CallbackGoesOn c old (does_ s)
  handles_none finds c s h =
      subst (CallbackGoesOn c old) (sym (by_handler None finds c s h))
      (record { stands = h.stands; called = h.called; running = h.running })

  module _ (coroutine : ℕ) (finds : Finds (Some coroutine)) where
    by_room : (b : Bool) (c : Context a) (s : State a.Kept) → IsTaken made c old s → nat_lt (next_task s.loop.parts) most_ids ≡ b
        → does_ s ≡ handled_if b coroutine conn s
    by_room b c s h e = by_handler (Some coroutine) finds c s h ∙ ap (λ b. handled_if b coroutine conn s) e

    -- ---- no more tasks can be numbered
    module _ (new : RunState X) (possible : Possible a (IsTaken made) old) (many : most_ids ≤ length old.slots.items)
        (frame : new ≡ record old { parts = new.parts; transports = new.transports }) where
      abbrev piece : Piece a (State a.Kept) (Went a.Kept) (Unit {0})
      piece = acting a made old new

      abbrev tree : ℕ → Streams → Doing Streams
      tree next = close (to.Conn conn)

      means : (c : Context a) (s : State a.Kept) → IsTaken made c old s
          → does_ s ≡ does Stops (tree (next_future s.loop.parts) s.streams) (λ streams now. Goes (with_streams streams now)) s
      means c s h =
          let slots = h.stands.made in
          by_room false c s h (le-ltb (next_task s.loop.parts) most_ids (omega (arith, many, slots)))

      events : new.events ≡ old.events
      events = ap (λ (b : RunState X). b.events) frame

      pub closes_so : Told (close (to.Conn conn)) old.transports new.transports old.parts new.parts
          → (c : Context a) (s : State a.Kept) → IsTaken made c old s → CallbackGoesOn c new (does_ s)
      closes_so told c s h =
          let g = change_tells piece None old new may (taken_streams made old possible) events
          (frame ∙ ap (λ es. record old { parts = new.parts; events = es; transports = new.transports }) (sym events))
          tree Goes means told
          (λ s kept. closes (plain_in s) (next_future s.loop.parts) (to.Conn conn) s.streams kept) c s h in
          subst (CallbackGoesOn c new) (sym g.does) (callback_so made c c old new s h refl (λ first now. Unit {0}) (does_ s) Goes g)

    -- ---- its task is made
    module _ (arguments : List Value) (with_conn : arguments ≡ Conn conn ∷ []) (few : length old.slots.items < most_ids)
        (held : RunState X) (takes : HoldsMore coroutine arguments old held) (ticketed v w : View) (task own : ℕ)
        (ticket : ticketed ≡ held.parts)
        (number : task ≡ length ticketed.tasks) (after : parts v ≡ spawn (parts ticketed))
        (queued : v.queue ≡ queue.soon (action.Step (length ticketed.tasks)) ticketed.queue)
        (frame : v ≡ record ticketed { queue = v.queue; futures = v.futures; tasks = v.tasks })
        (is_own : own ≡ future_of (parts v) task)
        (told : w ≡ record v {
          futures = registered own (action.HandlerDone conn task) v.futures;
          queue = soon_if_done own (action.HandlerDone conn task) v.futures v.queue;
        }) where
      holds : HoldsMore coroutine (Conn conn ∷ []) old held
      holds = subst (λ xs. HoldsMore coroutine xs old held) with_conn takes

      same : ticketed ≡ old.parts
      same = ticket ∙ ap (λ (b : RunState X). b.parts) holds.frame

      module _ (c : Context a) (s : State a.Kept) (h : IsTaken made c old s) where
        abbrev p : Parts
        p = s.loop.parts

        abbrev begun : State a.Kept
        begun = with_coroutine coroutine (Conn conn ∷ []) (unbooked_in spawn s)

        abbrev id : ℕ
        id = future_of (spawn p) (next_task p)

        abbrev done : Action
        done = action.HandlerDone conn (next_task p)

        abbrev registered_ : View
        registered_ = record v { futures = registered id done v.futures; queue = soon_if_done id done v.futures v.queue }

        spawned : Kept h.stands.name_map p v (spawn p)
        spawned = kept_spawn h.stands.name_map old.parts v p h.stands.keeps (record {
          parts = after ∙ ap (λ x. spawn (parts x)) same;
          queue = (
            action.Step (length ticketed.tasks) ∷ [],
            queued ∙ ap (λ (x : View). queue.soon (action.Step (length ticketed.tasks)) x.queue) same,
          );
          time = ap (λ (x : View). x.time) frame ∙ ap (λ (x : View). x.time) same;
          schedule = ap (λ (x : View). x.schedule) frame ∙ ap (λ (x : View). x.schedule) same;
        })

        more : LeavesMore p (spawn p)
        more = leaves_spawn p (own_there p (may c s h).owns)

        blocks : AreBlocks spawned.name_map old.timeouts held.groups (in_parts spawn s.loop)
        blocks =
            subst (λ (groups : List Held). AreBlocks spawned.name_map old.timeouts groups (in_parts spawn s.loop))
            (sym (ap (λ (b : RunState X). b.groups) holds.frame))
            (blocks_on h.stands.name_map spawned.name_map old.timeouts old.groups s.loop (in_parts spawn s.loop) spawned.extends
            more.goes_on refl refl h.stands.blocks)

        begins : Stands None c (record held { parts = v; groups = held.groups }) begun
        begins =
            stands_made None c old held s v held.groups (in_parts spawn) coroutine (Conn conn ∷ []) h.stands spawned more blocks
            (ap (λ (q : queue.Queue). length q.below) queued ∙ ap (λ (x : View). length x.queue.below) same) holds
            (omega (arith, few)) (ap (λ (x : View). x.profile) frame ∙ ap (λ (x : View). x.profile) same) refl refl

        -- its end will be told
        awaits : Stands None c (record held { parts = registered_ }) (unbooked_in (register id done) begun)
        awaits =
            stands_on None None c (record held { parts = v }) begun registered_ (in_parts (register id done)) begins
            (kept_register begins.name_map v (spawn p) begins.keeps id done) (leaves_register id done (spawn p) refl)
            (spares_none (spawn p) (named_in a begun)) (refl, (refl, refl)) (ap length (below_registered id done v.futures v.queue)) refl

        task_is : task ≡ next_task p
        task_is = number ∙ ap (λ (x : View). length x.tasks) same ∙ ap length h.stands.keeps.tasks

        own_is : own ≡ id
        own_is = is_own ∙ ap (future_of (parts v)) task_is ∙ future_of_kept spawned.name_map v (spawn p) spawned.keeps (next_task p)

        told_so : w ≡ registered_
        told_so =
            told
            ∙ ap (λ n. record v {
              futures = registered n (action.HandlerDone conn task) v.futures;
              queue = soon_if_done n (action.HandlerDone conn task) v.futures v.queue;
            }) own_is
            ∙ ap (λ n. record v {
              futures = registered id (action.HandlerDone conn n) v.futures;
              queue = soon_if_done id (action.HandlerDone conn n) v.futures v.queue;
            }) task_is

        pub handles_so : (new : RunState X) → new ≡ record held { parts = w } → CallbackGoesOn c new (does_ s)
        handles_so new is =
            let slots = h.stands.made in
            subst (λ (b : RunState X). CallbackGoesOn c b (does_ s)) (sym (is ∙ ap (λ x. record held { parts = x }) told_so))
            (subst (CallbackGoesOn c (record held { parts = registered_ }))
            (sym (by_room true c s h (lt-ltb (next_task p) most_ids (omega (arith, few, slots))))) (record {
              stands = awaits;
              called = ap (λ (x : View). x.called) frame ∙ ap (λ (x : View). x.called) same ∙ h.called;
              running = ap (λ (x : View). x.running) frame ∙ ap (λ (x : View). x.running) same ∙ h.running;
            }))
