-- The forms for requests and callbacks: `streams_do`, `streams_change` and `streams_go` of the machine, by the clause of the call in
-- code. `may` says where it may be made, and `means` that the machine does its tree there.
use Rattle.std.proofs.Common.{◌≡◌, ℕ, Bool, List, Option, Some, None, length, Result, Ok, Err, refl, ap, subst}
use Rattle.model_loop.specs.Futures.{next_future}
use Rattle.model_stream.specs.Doing.{Doing}
use Rattle.model_stream.specs.Streams.{Streams}
use Rattle.model_machine.specs.Does.{does}
use Rattle.model_machine.specs.Sound.{AreStreamsFutures}
use Rattle.model_machine.specs.State.{State, with_streams}
use Rattle.aio_wire.specs.Outside.{Outside}
use Rattle.aio_wire.specs.Port.{Ported, ported}
use Rattle.aio_wire.specs.declared.stop.Stop.{Stop}
use Rattle.aio_exchange.specs.Exchanged.{Exchange}
use Rattle.aio_exchange.specs.Follows.{reach}
use Rattle.aio_exchange.proofs.Telling.{tells_follow}
use Rattle.law_cases.specs.TreeEnd.{owned_in as plain_in}
use Rattle.law_cases.specs.Trees.{AnswersStreams, ConnectWaits, ConnectsStreams, IsMade, Keeping, KeepsStreams, Owned}
use Rattle.law_cases.proofs.Composing.{keeping_more}
use Rattle.aio_task.specs.View.{View}
use Rattle.aio_change.specs.Seen.{seen_changed}
use Rattle.aio_transports.specs.Kept.{Kept as Transports}
use Rattle.aio_transports.specs.Standing.{Answers, Comes as Changes, Told, ToldWith}
use Rattle.aio_extra.specs.Added.{Added}
use Rattle.aio_body.specs.declared.run_state.RunState.{RunState}
use Rattle.aio_body.specs.Asking.{Comes, Piece}
use Rattle.aio_body.specs.Stands.{Context}
use Rattle.aio_body.proofs.Asking.{HasCome}
use Rattle.refine_streams.specs.Alike.{AddsEvents, ForgetsWritten, LeavesState}
use Rattle.refine_streams.specs.Passed.{Call}
use Rattle.refine_streams.specs.Streams.{HasStreams}
use Rattle.refine_streams.specs.Went.{BegunWaits, HasGone, MayCall}
use Rattle.refine_streams.proofs.Going.{call_fails, call_passes, call_tells}

-- ---- a call that asks nothing is one that may
module _ {W : Type 0} (o : Outside W) (old new : Transports) (from to : View) (x y : Ported W) (same : y ≡ x) where
  pub told_answers : {R : Type 0} (tree : Streams → Doing (Streams × R)) (said : R) → ToldWith tree old new from to said
      → Answers o tree old new (record { parts = from; port = x }) (record { parts = to; port = y }) (Ok said)
  told_answers tree said told s stood =
      let it = told s stood in (
        it.0,
        (
          tells_follow seen_changed o (tree s) (record { parts = from; port = x }) (record { parts = to; port = y }) (it.0, said) it.1.0 same,
          it.1.1,
        ),
      )

  pub told_changes : {R : Type 0} (tree : Streams → Doing Streams) (said : R) → Told tree old new from to
      → Changes {R = R} o tree old new (record { parts = from; port = x }) (record { parts = to; port = y }) (Ok said)
  told_changes tree said told s stood =
      let it = told s stood in (
        it.0,
        (tells_follow seen_changed o (tree s) (record { parts = from; port = x }) (record { parts = to; port = y }) it.0 it.1.0 same, it.1.1),
      )

module _ {X W M Q : Type 0} {a : Added X} (o : Outside W) (p : Piece a (State a.Kept) M Q) (out : Option ℕ) (old new : RunState X) (wire after : W)
    (may : (c : Context a) (s : State a.Kept) → p.from c s → MayCall out c old s)
    (has : HasStreams old.transports) where
  -- ---- with an answer: `Also` is what is known of it and of the futures that were made
  module _ {R : Type 0} (tree : ℕ → Streams → Doing (Streams × R)) (next : R → State a.Kept → M)
      (means : (c : Context a) (s : State a.Kept) → p.from c s
      → p.does s ≡ does p.ends (tree (next_future s.loop.parts) s.streams) (λ done now. next done.1 (with_streams done.0 now)) s) where
    abbrev Says : Result R Stop → Type 0
    Says result =
        Answers o (tree (length old.parts.futures)) old.transports new.transports (reach old.parts wire old.events)
        (reach new.parts after new.events) result

    abbrev call : Call a.Kept (Streams × R) M
    call = record { tree = tree; next = λ done now. next done.1 (with_streams done.0 now) }

    pub do_fails : (leaves : LeavesState p) → ((it : R) → AddsEvents leaves.left (next it)) → ForgetsWritten (tree (length old.parts.futures))
        → (why : Stop) → Says (Err why) → Comes o p (ported wire old.events) (ported after new.events) (Err why)
    do_fails leaves adds forgets why says =
        call_fails p call out old new wire after (λ done. done.0) (λ first next_ done. Unit {0}) may means has o leaves
        (λ done t. adds done.1 (with_streams done.0 t)) forgets why (λ s stood. (says s stood).1.0)

    pub do_goes : (Waits : (ℕ → Type 0) → R → Type 0) (said : R) (says : Says (Ok said))
        → ((s : State a.Kept) → AreStreamsFutures s
        → Keeping (AnswersStreams Waits (plain_in s) (next_future s.loop.parts) s.streams) (plain_in s) (next_future s.loop.parts)
        (tree (next_future s.loop.parts) s.streams))
        → new ≡ record old { parts = new.parts; events = new.events; transports = new.transports }
        → (had : List Exchange) × HasCome o p.from had (ported wire old.events) (ported after new.events)
        (λ c s. HasGone out (λ first now. Waits (IsMade first now) said) (p.does s) (next said) c old new s)
    do_goes Waits said says keeping frame =
        call_passes p call out old new wire after (λ done. done.0) (λ first now done. Waits (IsMade first now) done.1) may means has
        (λ done. done.1 ≡ said) keeping frame (next said) (λ first now. Waits (IsMade first now) said)
        (λ done t so. ap (λ r. next r (with_streams done.0 t)) so)
        (λ first now done so waits. subst (Waits (IsMade first now)) so waits)
        o (λ s stood. let it = says s stood in ((it.0, said), (it.1.0, (it.1.1.0, refl))))

  -- ---- with none: `next` is what the machine does then
  module _ (tree : ℕ → Streams → Doing Streams) (next : State a.Kept → M)
      (means : (c : Context a) (s : State a.Kept) → p.from c s
      → p.does s ≡ does p.ends (tree (next_future s.loop.parts) s.streams) (λ streams now. next (with_streams streams now)) s) where
    abbrev Leaves : {R : Type 0} → Result R Stop → Type 0
    Leaves result =
        Changes o (tree (length old.parts.futures)) old.transports new.transports (reach old.parts wire old.events)
        (reach new.parts after new.events) result

    abbrev changing : Call a.Kept Streams M
    changing = record { tree = tree; next = λ streams now. next (with_streams streams now) }

    pub change_fails : (R : Type 0) (leaves : LeavesState p) → AddsEvents leaves.left next → ForgetsWritten (tree (length old.parts.futures))
        → (why : Stop) → Leaves {R = R} (Err why) → Comes o p (ported wire old.events) (ported after new.events) (Err why)
    change_fails R leaves adds forgets why says =
        call_fails p changing out old new wire after (λ streams. streams) (λ first next_ streams. Unit {0}) may means has o leaves
        (λ streams t. adds (with_streams streams t)) forgets why (λ s stood. (says s stood).1.0)

    pub change_goes : {R : Type 0} (said : R) (says : Leaves (Ok said))
        → ((s : State a.Kept) → AreStreamsFutures s
        → Keeping (KeepsStreams (plain_in s) (next_future s.loop.parts) s.streams) (plain_in s) (next_future s.loop.parts)
        (tree (next_future s.loop.parts) s.streams))
        → new ≡ record old { parts = new.parts; events = new.events; transports = new.transports }
        → (had : List Exchange) × HasCome o p.from had (ported wire old.events) (ported after new.events)
        (λ c s. HasGone out (λ first now. Unit {0}) (p.does s) next c old new s)
    change_goes said says keeping frame =
        call_passes p changing out old new wire after (λ streams. streams) (λ first now streams. Unit {0}) may means has
        (λ streams. Unit {0})
        (λ s kept.
        keeping_more (plain_in s) (KeepsStreams (plain_in s) (next_future s.loop.parts) s.streams)
        (λ now streams. KeepsStreams (plain_in s) (next_future s.loop.parts) s.streams now streams × Unit {0})
        (λ now streams keeps. (keeps, tt)) (next_future s.loop.parts) (tree (next_future s.loop.parts) s.streams) (keeping s kept))
        frame next (λ first now. Unit {0}) (λ streams t so. refl) (λ first now streams so made. tt)
        o (λ s stood. let it = says s stood in (it.0, (it.1.0, (it.1.1.0, tt))))

-- ---- a call that asks nothing, where the clause is of none that may
module _ {X M Q : Type 0} {a : Added X} (p : Piece a (State a.Kept) M Q) (out : Option ℕ) (old new : RunState X)
    (may : (c : Context a) (s : State a.Kept) → p.from c s → MayCall out c old s)
    (has : HasStreams old.transports) (events : new.events ≡ old.events)
    (frame : new ≡ record old { parts = new.parts; events = new.events; transports = new.transports }) where
  pub do_tells : {R : Type 0} (tree : ℕ → Streams → Doing (Streams × R)) (next : R → State a.Kept → M)
      → ((c : Context a) (s : State a.Kept) → p.from c s
      → p.does s ≡ does p.ends (tree (next_future s.loop.parts) s.streams) (λ done now. next done.1 (with_streams done.0 now)) s)
      → (Waits : (ℕ → Type 0) → R → Type 0) (said : R)
      → ToldWith (tree (length old.parts.futures)) old.transports new.transports old.parts new.parts said
      → ((s : State a.Kept) → AreStreamsFutures s
      → Keeping (AnswersStreams Waits (plain_in s) (next_future s.loop.parts) s.streams) (plain_in s) (next_future s.loop.parts)
      (tree (next_future s.loop.parts) s.streams))
      → (c : Context a) (s : State a.Kept) → p.from c s
      → HasGone out (λ first now. Waits (IsMade first now) said) (p.does s) (next said) c old new s
  do_tells {R} tree next means Waits said told keeping =
      call_tells {W = Unit {0}} p (record { tree = tree; next = λ done now. next done.1 (with_streams done.0 now) }) out old new tt tt (λ done. done.0)
      (λ first now done. Waits (IsMade first now) done.1) may means has (λ done. done.1 ≡ said) keeping frame (next said)
      (λ first now. Waits (IsMade first now) said) (λ done t so. ap (λ r. next r (with_streams done.0 t)) so)
      (λ first now done so waits. subst (Waits (IsMade first now)) so waits)
      (λ s stood. let it = told s stood in ((it.0, said), (it.1.0, (it.1.1.0, refl)))) events

  pub change_tells : (tree : ℕ → Streams → Doing Streams) (next : State a.Kept → M)
      → ((c : Context a) (s : State a.Kept) → p.from c s
      → p.does s ≡ does p.ends (tree (next_future s.loop.parts) s.streams) (λ streams now. next (with_streams streams now)) s)
      → Told (tree (length old.parts.futures)) old.transports new.transports old.parts new.parts
      → ((s : State a.Kept) → AreStreamsFutures s
      → Keeping (KeepsStreams (plain_in s) (next_future s.loop.parts) s.streams) (plain_in s) (next_future s.loop.parts)
      (tree (next_future s.loop.parts) s.streams))
      → (c : Context a) (s : State a.Kept) → p.from c s → HasGone out (λ first now. Unit {0}) (p.does s) next c old new s
  change_tells tree next means told keeping =
      call_tells {W = Unit {0}} p (record { tree = tree; next = λ streams now. next (with_streams streams now) }) out old new tt tt (λ streams. streams)
      (λ first now streams. Unit {0}) may means has (λ streams. Unit {0})
      (λ s kept.
      keeping_more (plain_in s) (KeepsStreams (plain_in s) (next_future s.loop.parts) s.streams)
      (λ now streams. KeepsStreams (plain_in s) (next_future s.loop.parts) s.streams now streams × Unit {0})
      (λ now streams keeps. (keeps, tt)) (next_future s.loop.parts) (tree (next_future s.loop.parts) s.streams) (keeping s kept))
      frame next (λ first now. Unit {0}) (λ streams t so. refl) (λ first now streams so made. tt)
      (λ s stood. let it = told s stood in (it.0, (it.1.0, (it.1.1.0, tt)))) events

-- ---- a connect
pub begun_waits : (own : Owned) (first next : ℕ) (before : Streams) (tree : Doing (Streams × Option (ℕ × ℕ)))
    → Keeping (ConnectsStreams own first before) own next tree → Keeping (AnswersStreams BegunWaits own first before) own next tree
begun_waits own first next before tree =
    keeping_more own (ConnectsStreams own first before) (AnswersStreams BegunWaits own first before) (λ now done h. (h.0, at now done.0 done.1 h.1))
    next tree
  where
    at : (now : ℕ) (streams : Streams) (begun : Option (ℕ × ℕ)) → ConnectWaits (length streams.connections) (IsMade first now) begun
        → BegunWaits (IsMade first now) begun
    at now streams None h = tt
    at now streams (Some begun) h = h.1
