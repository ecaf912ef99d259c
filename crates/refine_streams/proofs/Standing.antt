-- What is stood for goes on along the way of a tree of streams: what is told, the streams, and the loop's parts.
use Rattle.std.proofs.Common.{◌≡◌, ℕ, ◌≤◌, List, ◌++◌, Option, Some, None, length, ◌∙◌, refl, sym, ap, subst, inl, inr, arith}
use Rattle.model_loop.specs.Futures.{next_future}
use Rattle.model_loop.specs.Loop.{Loop, book, in_parts}
use Rattle.model_loop.specs.Owning.{OwnsFutures}
use Rattle.model_loop.specs.Suspend.{suspend}
use Rattle.model_stream.specs.Kept.{times_asked}
use Rattle.model_stream.specs.Streams.{Streams}
use Rattle.model_machine.specs.Does.{changed}
use Rattle.model_machine.specs.Replies.{waits}
use Rattle.model_machine.specs.State.{State, generator_of, in_loop, with_streams}
use Rattle.aio_exchange.specs.Among.{told_by}
use Rattle.aio_exchange.specs.Exchanged.{Exchange, noted_by}
use Rattle.aio_exchange.specs.Ways.{Move, changed_on, had_on}
use Rattle.refine_parts.proofs.Calls.{kept_suspend}
use Rattle.law_cases.specs.TreeEnd.{IsStreamsEnd}
use Rattle.aio_task.specs.Keeps.{Keeps, Kept, NameMap}
use Rattle.aio_task.specs.View.{View}
use Rattle.aio_change.specs.Seen.{seen_changed}
use Rattle.aio_transports.specs.Kept.{Kept as Transports}
use Rattle.aio_transports.specs.Standing.{TransportsStandFor as AreTransports}
use Rattle.aio_extra.specs.Added.{Added, named_in}
use Rattle.aio_body.specs.declared.run_state.RunState.{RunState}
use Rattle.aio_body.specs.Asking.{before}
use Rattle.aio_body.specs.Stands.{IsOwnSleep, Context, Stands}
use Rattle.aio_body.proofs.Asleep.{kept_then}
use Rattle.aio_body.proofs.Lasting.{SameBlocks, Spares, spares_none, stands_at_by, stands_by}
use Rattle.aio_body.proofs.Leaving.{Leaves, leaves_on}
use Rattle.aio_body.proofs.Left.{leaves_suspend}
use Rattle.aio_body.proofs.Noting.{telling_changes}
use Rattle.aio_body.proofs.Rooms.{below_appended}
use Rattle.refine_streams.specs.Along.{along}
use Rattle.refine_streams.specs.Beside.{StaysBeside}
use Rattle.refine_streams.proofs.Keeping.{way_beside, way_kept}
use Rattle.refine_streams.specs.Passed.{IsNoted}
use Rattle.refine_streams.specs.Went.{CallsSuspend}
use Rattle.refine_streams.proofs.Leaving.{kept_no_more, made_spares, tree_leaves}
use Rattle.refine_streams.proofs.Noted.{noted_had}

-- what was had is noted, and what is left is left
abbrev pub heard_all : {S : Type 0} {X : Type 0} {a : Added X} → List Exchange → Context a → State S → State S
heard_all had c s = record s { events = s.events ++ told_by had; answers = c.answers }

-- the future of a sleep is none that streams keep, of which they keep no more
own_beside : {X : Type 0} (a : Added X) (s : State a.Kept) (after : Streams)
    → ((sleeper : Option ℕ) (id : ℕ) → IsOwnSleep s.loop.parts (named_in a s) sleeper id → times_asked id after ≤ times_asked id s.streams)
    → (sleeper : Option ℕ) (id : ℕ) → IsOwnSleep s.loop.parts (named_in a s) sleeper id
    → IsOwnSleep s.loop.parts (named_in a (with_streams after s)) sleeper id
own_beside a s after fewer sleeper id own = record { plain = own.plain; unnamed = unnamed; alone = own.alone }
  where
    unnamed : named_in a (with_streams after s) id → ⊥
    unnamed (inl found) = own.unnamed (inl found)
    unnamed (inr (inl mine)) = own.unnamed (inr (inl mine))
    unnamed (inr (inr kept)) = own.unnamed (inr (inr (let less = fewer sleeper id own in omega (arith, kept, less))))

module _ {X : Type 0} {a : Added X} where
  -- The streams change, and what code keeps of them.
  pub streams_change : (out : Option ℕ) (c : Context a) (old : RunState X) (k : Transports) (s : State a.Kept) (after : Streams) → Stands out c old s
      → AreTransports k after
      → ((sleeper : Option ℕ) (id : ℕ) → IsOwnSleep s.loop.parts (named_in a s) sleeper id → times_asked id after ≤ times_asked id s.streams)
      → Stands out c (record old { transports = k }) (with_streams after s)
  streams_change out c old k s after h transports fewer = record {
    name_map = h.name_map;
    code = h.code;
    profile = h.profile;
    keeps = h.keeps;
    left = h.left;
    bar = h.bar;
    blocks = h.blocks;
    made = h.made;
    told = h.told;
    few = h.few;
    held = λ task l. let has = h.held task l in record {
      slot = has.slot;
      found = has.found;
      right = record {
        waits = has.right.waits;
        resume_point =
            stands_at_by h.name_map h.name_map s.loop.parts s.loop.parts (named_in a s) (named_in a (with_streams after s)) task has.slot.resume_point
            (generator_of task s).resume_point (λ tag timer k. k) (own_beside a s after fewer (Some task)) has.right.resume_point;
      };
    };
    gone = λ id e. own_beside a s after fewer None id (h.gone id e);
    futures = h.futures;
    few_futures = h.few_futures;
    main_done = h.main_done;
    transports = transports;
    time = h.time;
    counts = h.counts;
    events = h.events;
    rest = h.rest;
    extra = h.extra;
    count = h.count;
  }

  -- What was asked is told.
  pub had_stands : (had : List Exchange) (out : Option ℕ) (c : Context a) (old : RunState X) (s : State a.Kept) → Stands out (before had c) old s
      → Stands out c (record old { events = noted_by had old.events }) (heard_all had c s)
  had_stands had out c old s h =
      telling_changes out (before had c) c old (record old { events = noted_by had old.events }) s (heard_all had c s) h refl refl refl (record {
        own = λ sleeper id sleeps. sleeps;
        futures = h.futures;
        few_futures = h.few_futures;
        main_done = h.main_done;
        events = noted.told;
        rest = refl;
        count = noted.count;
      })
    where
      noted : IsNoted c.past (noted_by had old.events) (s.events ++ told_by had)
      noted = noted_had had c.past old.events s.events (record { told = h.events; count = h.count })

  -- All together: the streams come to be others, and the parts by an operation that begins with the way.
  module _ (out : Option ℕ) (c : Context a) (old new : RunState X) (s : State a.Kept) (had : List Exchange) (after : Streams)
      (h : Stands out (before had c) old s) (transports : AreTransports new.transports after)
      (fewer : (sleeper : Option ℕ) (id : ℕ) → IsOwnSleep s.loop.parts (named_in a s) sleeper id → times_asked id after ≤ times_asked id s.streams)
      (events : new.events ≡ noted_by had old.events)
      (frame : new ≡ record old { parts = new.parts; events = new.events; transports = new.transports }) where
    pub stands_through : (wait : Option (ℕ × ℕ)) (change : Loop → Loop)
        → ((t : NameMap) → Keeps t old.parts s.loop.parts → Kept t s.loop.parts new.parts (change s.loop).parts)
        → Leaves wait s.loop.parts (change s.loop).parts → ((named : ℕ → Type 0) → Spares wait s.loop.parts named) → SameBlocks s.loop (change s.loop)
        → length new.parts.queue.below ≡ length old.parts.queue.below → new.parts.profile ≡ old.parts.profile
        → Stands out c new (in_loop change (with_streams after (heard_all had c s)))
    stands_through wait change kept leaves spares same below profile =
        subst (λ (b : RunState X). Stands out c b (in_loop change (with_streams after (heard_all had c s))))
        (ap (λ es. record old { parts = new.parts; events = es; transports = new.transports }) (sym events) ∙ sym frame)
        (stands_by wait out c (record old { events = noted_by had old.events; transports = new.transports }) (with_streams after (heard_all had c s))
        new.parts change on (kept on.name_map on.keeps) leaves (spares (named_in a (with_streams after (heard_all had c s)))) same c.left
        (below ∙ h.left) profile)
      where
        on : Stands out c (record old { events = noted_by had old.events; transports = new.transports }) (with_streams after (heard_all had c s))
        on =
            streams_change out c (record old { events = noted_by had old.events }) new.transports (heard_all had c s) after (had_stands had out c old s h)
            transports fewer

-- ---- along the way of a tree, from where what streams keep is plain
module _ {X : Type 0} {a : Added X} (out : Option ℕ) (c : Context a) (old new : RunState X) (s : State a.Kept) (way : List Move) (after : Streams)
    (h : Stands out (before (had_on way) c) old s) (owns : OwnsFutures s.loop.parts) (ended : IsStreamsEnd s (along way c.answers s) after)
    (transports : AreTransports new.transports after)
    (parts_are : new.parts ≡ changed_on seen_changed way old.parts) (events : new.events ≡ noted_by (had_on way) old.events) where
  abbrev t : State a.Kept
  t = along way c.answers s

  fewer : (sleeper : Option ℕ) (id : ℕ) → IsOwnSleep s.loop.parts (named_in a s) sleeper id → times_asked id after ≤ times_asked id s.streams
  fewer sleeper id own = kept_no_more s t after ended id own.plain

  leaves : Leaves None s.loop.parts t.loop.parts
  leaves = tree_leaves s t ended.ended owns

  stays : StaysBeside old.parts new.parts
  stays = subst (StaysBeside old.parts) (sym parts_are) (way_beside old.parts way)

  kept : (name_map : NameMap) → Keeps name_map old.parts s.loop.parts → Kept name_map s.loop.parts new.parts t.loop.parts
  kept name_map k =
      subst (λ (v : View). Kept name_map s.loop.parts v t.loop.parts) (sym parts_are) (way_kept name_map old.parts s.loop.parts way k)

  -- what is kept stands for the state after it
  pub stands_passed : new ≡ record old { parts = new.parts; events = new.events; transports = new.transports }
      → Stands out c new (with_streams after t)
  stands_passed frame =
      stands_through out c old new s (had_on way) after h transports fewer events frame None (in_parts (changed_on changed way)) kept leaves
      (spares_none s.loop.parts) (refl, (refl, refl)) (ap length stays.below) (ap (λ (v : View). v.profile) stays.frame)

  -- and so where a task then waits for a future that was made on the way
  pub stands_waiting : new ≡ record old { parts = new.parts; events = new.events; transports = new.transports } → (task on : ℕ) (v : View)
      → next_future s.loop.parts ≤ on → CallsSuspend task on new.parts v → Stands out c (record new { parts = v }) (waits task on (with_streams after t))
  stands_waiting frame task on v past it =
      stands_through out c old (record new { parts = v }) s (had_on way) after h transports fewer events
      (ap (λ (b : RunState X). record b { parts = v }) frame) (Some (task, on)) (λ l. book (suspend task on) (in_parts (changed_on changed way) l)) waited
      (leaves_on (Some (task, on)) s.loop.parts t.loop.parts (suspend task on t.loop.parts).parts leaves (leaves_suspend task on t.loop.parts))
      (λ named. made_spares task on s.loop.parts named past) (refl, (refl, refl))
      (below_appended new.parts.queue v.queue it.queue ∙ ap length stays.below)
      (ap (λ (x : View). x.profile) it.frame ∙ ap (λ (x : View). x.profile) stays.frame)
    where
      waited : (name_map : NameMap) → Keeps name_map old.parts s.loop.parts → Kept name_map s.loop.parts v (suspend task on t.loop.parts).parts
      waited name_map k =
          let first = kept name_map k in
          kept_then name_map s.loop.parts t.loop.parts (suspend task on t.loop.parts).parts new.parts v first
          (kept_suspend first.name_map new.parts v t.loop.parts first.keeps task on (record {
            parts = it.after;
            queue = it.queue;
            time = ap (λ (x : View). x.time) it.frame;
            schedule = ap (λ (x : View). x.schedule) it.frame;
          }))
