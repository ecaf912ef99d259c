-- A call of streams that does a tree, as a piece of what the machine does: the machine goes on with its result from a state that
-- is stood for, or ends the run there.
use Rattle.std.proofs.Common.{◌≡◌, ℕ, ◌<◌, ◌⊎◌, true, List, [], ◌++◌, Option, Some, length, slice_get, Ok, Err, ◌∙◌, sym, ap, subst, inl, inr, arith}
use Rattle.model_loop.specs.Futures.{is_pending_at, next_future}
use Rattle.model_loop.specs.Suspend.{suspend}
use Rattle.model_loop.specs.Tasks.{waiter_of}
use Rattle.model_stream.specs.Doing.{Doing, Ends}
use Rattle.model_stream.specs.Kept.{times_asked}
use Rattle.model_stream.specs.Streams.{Streams}
use Rattle.model_machine.specs.Does.{does}
use Rattle.model_machine.specs.Replies.{waits}
use Rattle.model_machine.specs.Sound.{AreStreamsFutures}
use Rattle.model_machine.specs.State.{State, with_streams}
use Rattle.aio_wire.specs.Outside.{Outside}
use Rattle.aio_wire.specs.Port.{ported}
use Rattle.aio_wire.specs.declared.stop.Stop.{Stop}
use Rattle.aio_exchange.specs.Exchanged.{AllFit, Exchange, entries_of, noted_by}
use Rattle.aio_exchange.specs.Follows.{Follows, Reach, reach}
use Rattle.aio_exchange.specs.Tells.{Tells}
use Rattle.aio_exchange.specs.Ways.{Leads, had_on}
use Rattle.refine_parts.proofs.Telling.{next_kept, pending_kept}
use Rattle.law_cases.specs.TreeEnd.{IsStreamsEnd, IsTreeEnd, owned_in as plain_in}
use Rattle.law_cases.proofs.Replying.{end_keeps}
use Rattle.law_cases.specs.Trees.{IsMade, Keeping, KeepsStreams}
use Rattle.aio_task.specs.View.{View}
use Rattle.aio_change.specs.Seen.{seen_changed}
use Rattle.aio_transports.specs.Kept.{Kept as Transports}
use Rattle.aio_transports.specs.Standing.{TransportsStandFor as AreTransports}
use Rattle.aio_extra.specs.Added.{Added, named_in, owned_by}
use Rattle.aio_body.specs.declared.run_state.RunState.{RunState}
use Rattle.aio_body.specs.Asking.{Comes, Piece, before}
use Rattle.aio_body.specs.Stands.{IsOwnSleep, Context, Stands}
use Rattle.aio_body.proofs.Asking.{HasCome}
use Rattle.refine_streams.specs.Along.{along}
use Rattle.refine_streams.specs.Beside.{StaysBeside}
use Rattle.refine_streams.proofs.Doing.{does_ends, way_ends}
use Rattle.refine_streams.proofs.Keeping.{way_beside}
use Rattle.refine_streams.specs.Alike.{AddsEvents, AreAlike, ForgetsWritten, LeavesState}
use Rattle.refine_streams.specs.Passed.{Begins, Call, Passed}
use Rattle.refine_streams.specs.Streams.{HasStreams, streams_of}
use Rattle.refine_streams.specs.Went.{AreMade, HasGone, MayCall}
use Rattle.law_steps.proofs.CancelSound.{plain_within}
use Rattle.aio_body.proofs.Leaving.{IsNew, Leaves, leaves_on}
use Rattle.aio_body.proofs.Left.{leaves_suspend}
use Rattle.refine_streams.proofs.Leaving.{tree_leaves}
use Rattle.refine_streams.proofs.Calling.{call_goes, call_stops}
use Rattle.refine_streams.proofs.Standing.{stands_passed, stands_waiting}

-- Those that stand for the same differ by what was written alone.
transports_alike : {A : Type 0} (k : Transports) (tree : Streams → Doing A) → ForgetsWritten tree → (s t : Streams) → AreTransports k s
    → AreTransports k t → AreAlike (tree s) (tree t)
transports_alike {A} k tree forgets s t stands also =
    subst (λ (u : Streams). AreAlike (tree s) (tree u)) same (forgets s t.written)
  where
    same : record s { written = t.written } ≡ t
    same =
        ap (λ servers. record s { servers = servers; written = t.written }) (stands.streams.servers ∙ sym also.streams.servers)
        ∙ ap (λ connections. record s { servers = t.servers; connections = connections; written = t.written })
        (stands.streams.connections ∙ sym also.streams.connections)
        ∙ ap (λ children. record t { children = children; opened = s.opened; most = s.most }) (stands.children.children ∙ sym also.children.children)
        ∙ ap (λ opened. record t { opened = opened; most = s.most }) (stands.streams.opened ∙ sym also.streams.opened)
        ∙ ap (λ most. record t { most = most }) (stands.streams.most ∙ sym also.streams.most)

-- `ends` are the streams that a tree ends with, and `Made` what else is known there of what was made.
module _ {X W A M R : Type 0} {a : Added X} (p : Piece a (State a.Kept) M R) (call : Call a.Kept A M) (out : Option ℕ) (old new : RunState X) (wire after : W)
    (ends : A → Streams) (Made : (first next : ℕ) → A → Type 0)
    (may : (c : Context a) (s : State a.Kept) → p.from c s → MayCall out c old s)
    (means : (c : Context a) (s : State a.Kept) → p.from c s → p.does s ≡ does p.ends (call.tree (next_future s.loop.parts) s.streams) call.next s)
    (has : HasStreams old.transports) where
  abbrev number : ℕ
  number = length old.parts.futures

  abbrev from_ : Reach View W
  from_ = reach old.parts wire old.events

  abbrev to_ : Reach View W
  to_ = reach new.parts after new.events

  begins : (c : Context a) (s : State a.Kept) → p.from c s → Begins p call (AreTransports old.transports) number old.events c s
  begins c s from =
      let h = (may c s from).stands in
      let made = next_kept h.name_map old.parts s.loop.parts h.keeps in
      record {
        noted = record { told = h.events; count = h.count };
        rest = h.rest;
        streams = h.transports;
        made = sym made;
        does = means c s from ∙ ap (λ n. does p.ends (call.tree n s.streams) call.next s) (sym made);
      }

  -- it stopped
  pub call_fails : (o : Outside W) (leaves : LeavesState p) → ((it : A) → AddsEvents leaves.left (call.next it))
      → ForgetsWritten (call.tree number) → (why : Stop)
      → ((s : Streams) → AreTransports old.transports s → Follows o seen_changed (call.tree number s) from_ to_ (Err why))
      → Comes o p (ported wire old.events) (ported after new.events) (Err why)
  call_fails o leaves adds forgets why went =
      call_stops o p call (AreTransports old.transports) number from_ to_ (streams_of old.transports) has begins leaves adds
      (transports_alike old.transports (call.tree number) forgets) why went

  -- it went well: `So` is of its result
  module _ (So : A → Type 0)
      (keeping : (s : State a.Kept) → AreStreamsFutures s
      → Keeping
      (λ next it. KeepsStreams (plain_in s) (next_future s.loop.parts) s.streams next (ends it) × Made (next_future s.loop.parts) next it)
      (plain_in s) (next_future s.loop.parts) (call.tree (next_future s.loop.parts) s.streams))
      (frame : new ≡ record old { parts = new.parts; events = new.events; transports = new.transports })
      (next : State a.Kept → M) (Known : (first next : ℕ) → Type 0)
      (goes_on : (it : A) (t : State a.Kept) → So it → call.next it t ≡ next (with_streams (ends it) t))
      (known : (first next : ℕ) (it : A) → So it → Made first next it → Known first next) where
    abbrev Held : Streams → A → Type 0
    Held s it = AreTransports new.transports (ends it) × So it

    gone : (c : Context a) (s : State a.Kept) (it : Passed p call Held number from_ to_ c s)
        → HasGone out Known (p.does s) next c old new s
    gone c s it = record {
      now = with_streams (ends it.it) t;
      does = it.does ∙ goes_on it.it t it.so.1;
      stands = stands_passed out c old new s it.way (ends it.it) h.stands h.owns ended it.so.0 it.parts it.events frame;
      called = ap (λ (v : View). v.called) beyond.frame;
      running = ap (λ (v : View). v.running) beyond.frame;
      made = known (next_future s.loop.parts) (next_future t.loop.parts) it.it it.so.1 came.1.1;
      pending = pends;
      waiting = λ task on v was it_.
          stands_waiting out c old new s it.way (ends it.it) h.stands h.owns ended it.so.0 it.parts it.events frame task on v was.0 it_;
      alone = alone;
    }
      where
        h : MayCall out (before (had_on it.way) c) old s
        h = may (before (had_on it.way) c) s it.began

        t : State a.Kept
        t = along it.way c.answers s

        beyond : StaysBeside old.parts new.parts
        beyond = subst (StaysBeside old.parts) (sym it.parts) (way_beside old.parts it.way)

        leads : Leads (call.tree (next_future s.loop.parts) s.streams) it.way (Ends it.it)
        leads =
            subst (λ n. Leads (call.tree n s.streams) it.way (Ends it.it)) (next_kept h.stands.name_map old.parts s.loop.parts h.stands.keeps) it.leads

        came : IsTreeEnd s t
            × (KeepsStreams (plain_in s) (next_future s.loop.parts) s.streams (next_future t.loop.parts) (ends it.it)
            × Made (next_future s.loop.parts) (next_future t.loop.parts) it.it)
        came =
            way_ends
            (λ next it. KeepsStreams (plain_in s) (next_future s.loop.parts) s.streams next (ends it) × Made (next_future s.loop.parts) next it)
            s (call.tree (next_future s.loop.parts) s.streams) it.way it.it c.answers (keeping s h.streams) leads it.fit it.answers

        ended : IsStreamsEnd s t (ends it.it)
        ended = end_keeps s t (ends it.it) came.0 came.1.0

        on : Stands out c new (with_streams (ends it.it) t)
        on = stands_passed out c old new s it.way (ends it.it) h.stands h.owns ended it.so.0 it.parts it.events frame

        alone : (task on_ : ℕ) → IsMade (next_future s.loop.parts) (next_future t.loop.parts) on_ → times_asked on_ (ends it.it) ≡ 0 → AreMade a s
            → IsOwnSleep (suspend task on_ t.loop.parts).parts (named_in a (waits task on_ (with_streams (ends it.it) t))) (Some task) on_
        alone task on_ was none were = record {
          plain = (leaves_suspend task on_ t.loop.parts).plain on_ (came.0.made on_ was.0 was.1).0;
          unnamed = unnamed;
          alone = λ other e. at other (leaves.waits other on_ e);
        }
          where
            leaves : Leaves (Some (task, on_)) s.loop.parts (suspend task on_ t.loop.parts).parts
            leaves =
                leaves_on (Some (task, on_)) s.loop.parts t.loop.parts (suspend task on_ t.loop.parts).parts (tree_leaves s t came.0 h.owns)
                (leaves_suspend task on_ t.loop.parts)

            past : on_ < next_future s.loop.parts → ⊥
            past within = let from = was.0 in omega (arith, within, from)

            unnamed : named_in a (waits task on_ (with_streams (ends it.it) t)) on_ → ⊥
            unnamed (inl found) =
                past ((plain_within s.loop.parts on_
                (were.scripts found.0 on_ (ap (λ (xs : List ℕ). slice_get xs found.0) (sym came.0.futures) ∙ found.1))).1)
            unnamed (inr (inl mine)) =
                past (were.own on_ (subst (λ x. owned_by a x on_) came.0.extra mine))
            unnamed (inr (inr asked)) = omega (arith, none, asked)

            at : (other : ℕ) → (waiter_of s.loop.parts other ≡ Some on_) ⊎ IsNew (Some (task, on_)) other on_ → Some task ≡ Some other
            at other (inl e) = absurd (past (were.waiting other on_ e))
            at other (inr new_) = ap Some (sym new_.0)

        pends : (on_ : ℕ) → IsMade (next_future s.loop.parts) (next_future t.loop.parts) on_
            → is_pending_at (slice_get new.parts.futures on_) ≡ true
        pends on_ was = pending_kept on.name_map new.parts t.loop.parts on.keeps on_ ∙ (came.0.made on_ was.0 was.1).1

    -- the machine goes on with the result
    pub call_passes : (o : Outside W) → ((s : Streams) → AreTransports old.transports s
        → (it : A) × (Follows o seen_changed (call.tree number s) from_ to_ (Ok it) × Held s it))
        → (had : List Exchange) × HasCome o p.from had (ported wire old.events) (ported after new.events) (λ c s. HasGone out Known (p.does s) next c old new s)
    call_passes o went =
        let come =
        call_goes o p call (AreTransports old.transports) number from_ to_ (streams_of old.transports) has begins Held went in (
          come.0,
          record {
            exchanged = come.1.exchanged;
            told = λ c s from. let both = come.1.told c s from in (both.0, gone c s both.1);
          },
        )

    -- the same of a call that asks nothing
    pub call_tells : ((s : Streams) → AreTransports old.transports s
        → (it : A) × (Tells seen_changed (call.tree number s) old.parts new.parts it × Held s it))
        → new.events ≡ old.events → (c : Context a) (s : State a.Kept) → p.from c s → HasGone out Known (p.does s) next c old new s
    call_tells told events c s from = gone c s (record {
      way = t.way;
      it = one.0;
      began = subst (λ (had : List Exchange). p.from (before had c) s) none from;
      leads = t.leads;
      fit = fit;
      answers = answers;
      parts = t.parts;
      events = events ∙ ap (λ (had : List Exchange). noted_by had old.events) none;
      does = b.does ∙ does_ends p.ends call.next (call.tree number s.streams) t.way one.0 s c.answers t.leads fit answers;
      so = one.1.1;
    })
      where
        b : Begins p call (AreTransports old.transports) number old.events c s
        b = begins c s from

        one : (it : A) × (Tells seen_changed (call.tree number s.streams) old.parts new.parts it × Held s.streams it)
        one = told s.streams b.streams

        t : Tells seen_changed (call.tree number s.streams) old.parts new.parts one.0
        t = one.1.0

        none : [] ≡ had_on t.way
        none = sym t.asks_none

        fit : AllFit (had_on t.way)
        fit = subst AllFit none tt

        answers : s.answers ≡ entries_of (had_on t.way) ++ c.answers
        answers = subst (λ (had : List Exchange). s.answers ≡ entries_of had ++ c.answers) none b.rest
