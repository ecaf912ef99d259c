-- A call that does what a tree says, as a piece of what the machine does.
use Rattle.std.proofs.Common.{◌≡◌, ℕ, List, ◌++◌, Result, Ok, Err, ◌∙◌, refl, sym, subst}
use Rattle.model_wire.specs.Call.{Call as AnyCall}
use Rattle.model_wire.specs.Event.{Event}
use Rattle.model_stream.specs.Doing.{Doing, Ends}
use Rattle.model_stream.specs.Streams.{Streams}
use Rattle.model_machine.specs.Does.{does}
use Rattle.model_machine.specs.State.{State}
use Rattle.aio_wire.specs.Outside.{Outside}
use Rattle.aio_wire.specs.declared.stop.Stop.{Stop}
use Rattle.aio_wire.specs.declared.wire.Reply.{Reply}
use Rattle.aio_exchange.specs.Among.{told_by}
use Rattle.aio_exchange.specs.Exchanged.{All, AllFit, Exchange, Exchanged, Last, Met, Starved, StopsAs, entries_of, noted_by}
use Rattle.aio_exchange.proofs.Among.{met_told, noted_told, on_wire}
use Rattle.aio_exchange.specs.Follows.{EndsBy, Follows, Reach, UnlessStarved}
use Rattle.aio_exchange.specs.Ways.{Leads, Move, changed_on, had_on}
use Rattle.aio_task.specs.View.{View}
use Rattle.aio_change.specs.Seen.{seen_changed}
use Rattle.aio_extra.specs.Added.{Added}
use Rattle.aio_body.specs.Asking.{Comes, EventsGrow, Piece, RestFits, StopsWith, before}
use Rattle.aio_body.specs.Stands.{Context}
use Rattle.aio_body.proofs.Asking.{HasCome}
use Rattle.refine_streams.proofs.Doing.{does_ends}
use Rattle.refine_streams.proofs.Telling.{all_once, met_not_starved, met_once}
use Rattle.refine_streams.specs.Alike.{AddsEvents, AreAlike, LeavesState}
use Rattle.refine_streams.specs.Passed.{Begins, Call, Passed}
use Rattle.refine_streams.proofs.Adding.{way_adds}
use Rattle.refine_streams.proofs.Alike.{alike_leads}
use Rattle.refine_streams.proofs.Noted.{noted_had}
use Rattle.refine_streams.proofs.Stopping.{stops_with}

module _ {X W A M R : Type 0} {a : Added X} (o : Outside W) (p : Piece a (State a.Kept) M R) (call : Call a.Kept A M) (Stood : Streams → Type 0)
    (number : ℕ) (from to : Reach View W) (first : Streams) (stood : Stood first)
    (begins : (c : Context a) (s : State a.Kept) → p.from c s → Begins p call Stood number from.port.events c s) where
  abbrev Went : Streams → Result A Stop → Type 0
  Went s result = Follows o seen_changed (call.tree number s) from to result

  -- ---- it had all answers
  -- one that ended had all
  ended_all : (s : Streams) (it : A) (f : Went s (Ok it)) → Exchanged o (had_on f.way) All from.port to.port
      × ((to.parts ≡ changed_on seen_changed f.way from.parts) × Leads (call.tree number s) f.way (Ends it))
  ended_all s it f = at f.last f.left f.leads f.exchanged f.parts f.ends
    where
      at : (last : Last) (left : Doing A) → Leads (call.tree number s) f.way left → Exchanged o (had_on f.way) last from.port to.port
          → UnlessStarved (to.parts ≡ changed_on seen_changed f.way from.parts) last → EndsBy last left to.port.events.answers (Ok it)
          → Exchanged o (had_on f.way) All from.port to.port
          × ((to.parts ≡ changed_on seen_changed f.way from.parts) × Leads (call.tree number s) f.way (Ends it))
      at All left leads exchanged parts ends = (exchanged, (parts, subst (Leads (call.tree number s) f.way) ends leads))
      at (Met asked said) left leads exchanged parts ends = absurd ends
      at Starved left leads exchanged parts ends = absurd ends

  module _ (So : Streams → A → Type 0) (went : (s : Streams) → Stood s → (it : A) × (Went s (Ok it) × So s it)) where
    passed : (had : List Exchange) → Exchanged o had All from.port to.port → (c : Context a) (s : State a.Kept) → p.from (before had c) s
        → Passed p call So number from to c s
    passed had x c s may = record {
      way = f.way;
      it = one.0;
      began = began;
      leads = all.1.1;
      fit = all.0.fit;
      answers = answers;
      parts = all.1.0;
      events = all.0.notes;
      does = b.does ∙ does_ends p.ends call.next (call.tree number s.streams) f.way one.0 s c.answers all.1.1 all.0.fit answers;
      so = one.1.1;
    }
      where
        b : Begins p call Stood number from.port.events (before had c) s
        b = begins (before had c) s may

        one : (it : A) × (Went s.streams (Ok it) × So s.streams it)
        one = went s.streams b.streams

        f : Went s.streams (Ok one.0)
        f = one.1.0

        all : Exchanged o (had_on f.way) All from.port to.port
            × ((to.parts ≡ changed_on seen_changed f.way from.parts) × Leads (call.tree number s.streams) f.way (Ends one.0))
        all = ended_all s.streams one.0 f

        began : p.from (before (had_on f.way) c) s
        began = subst (λ (xs : List Exchange). p.from (before xs c) s) (all_once had (had_on f.way) from.port.events to.port.events x.notes all.0.notes) may

        answers : s.answers ≡ entries_of (had_on f.way) ++ c.answers
        answers = (begins (before (had_on f.way) c) s began).rest

    -- it went well: the machine goes the same way
    pub call_goes : (had : List Exchange) × HasCome o p.from had from.port to.port (Passed p call So number from to)
    call_goes =
        let one = went first stood in
        let all = ended_all first one.0 one.1.0 in (
          had_on one.1.0.way,
          record {
            exchanged = on_wire o (had_on one.1.0.way) All from.port to.port all.0;
            told = λ c s may. (
              noted_told (had_on one.1.0.way) from.port.events to.port.events all.0.notes,
              passed (had_on one.1.0.way) all.0 c s may,
            );
          },
        )

  -- ---- it stopped
  module _ (leaves : LeavesState p) (adds : (it : A) → AddsEvents leaves.left (call.next it))
      (alike : (s t : Streams) → Stood s → Stood t → AreAlike (call.tree number s) (call.tree number t)) (why : Stop)
      (went : (s : Streams) → Stood s → Went s (Err why)) where
    -- where memory was refused, the machine asks what was asked by then
    begun : (way : List Move) (rest : Doing A) → Leads (call.tree number first) way rest → AllFit (had_on way) → (c : Context a) (s : State a.Kept)
        → p.from (before (had_on way) c) s → p.begins (c.past ++ (noted_by (had_on way) from.port.events).events) (p.does s)
    begun way rest leads fit c s may =
        subst (p.begins (c.past ++ (noted_by (had_on way) from.port.events).events)) (sym b.does)
        (leaves.begins (c.past ++ (noted_by (had_on way) from.port.events).events) (does p.ends (call.tree number s.streams) call.next s)
        (subst (λ (events : List Event). EventsGrow events (leaves.left (does p.ends (call.tree number s.streams) call.next s)).events) told
        (way_adds p.ends leaves.left leaves.halts call.next adds (call.tree number s.streams) on.0 way s c.answers on.1 fit b.rest)))
      where
        b : Begins p call Stood number from.port.events (before (had_on way) c) s
        b = begins (before (had_on way) c) s may

        on : (after : Doing A) × Leads (call.tree number s.streams) way after
        on = alike_leads way (call.tree number first) (call.tree number s.streams) rest (alike first s.streams stood b.streams) leads

        told : s.events ++ told_by (had_on way) ≡ c.past ++ (noted_by (had_on way) from.port.events).events
        told = (noted_had (had_on way) c.past from.port.events s.events b.noted).told

    stopped : (had : List Exchange) (asked : AnyCall) (said : Reply) → Exchanged o had (Met asked said) from.port to.port
        → StopsAs (Met asked said) to.port.events.answers why → (c : Context a) (s : State a.Kept) → p.from (before had c) s
        → RestFits (Met asked said) c.answers → StopsWith p.ends why c.past to.port.events.events (p.does s)
    stopped had asked said x stops c s may fits =
        subst (StopsWith p.ends why c.past to.port.events.events) (sym b.does) (at f.last f.left f.leads f.exchanged f.ends)
      where
        b : Begins p call Stood number from.port.events (before had c) s
        b = begins (before had c) s may

        f : Went s.streams (Err why)
        f = went s.streams b.streams

        at : (last : Last) (left : Doing A) → Leads (call.tree number s.streams) f.way left → Exchanged o (had_on f.way) last from.port to.port
            → EndsBy last left to.port.events.answers (Err why)
            → StopsWith p.ends why c.past to.port.events.events (does p.ends (call.tree number s.streams) call.next s)
        at All left leads exchanged ends = absurd ends
        at Starved left leads exchanged ends = absurd (met_not_starved asked said to.port.events.answers why stops ends)
        at (Met other told) left leads exchanged ends =
            let same = met_once had (had_on f.way) from.port.events to.port.events asked other said told why x.notes exchanged.notes stops ends.1 in
            stops_with p.ends call.next (call.tree number s.streams) f.way other ends.0.0
            (subst (Leads (call.tree number s.streams) f.way) ends.0.1 leads) exchanged.fit c.past from.port.events to.port.events c.answers s b.noted
            (subst (λ (xs : List Exchange). s.answers ≡ entries_of xs ++ c.answers) same.0.had b.rest) told why exchanged.is_last exchanged.notes ends.1
            (subst (λ (r : Reply). RestFits (Met other r) c.answers) same.1 (subst (λ d. RestFits (Met d said) c.answers) same.0.call fits))

    -- the machine ends the run so
    pub call_stops : Comes o p from.port to.port (Err why)
    call_stops = at f.last f.exchanged f.ends
      where
        f : Went first (Err why)
        f = went first stood

        at : (last : Last) → Exchanged o (had_on f.way) last from.port to.port → EndsBy last f.left to.port.events.answers (Err why)
            → Comes o p from.port to.port (Err why)
        at All exchanged ends = absurd ends
        at Starved exchanged ends = record {
          had = had_on f.way;
          last = Starved;
          exchanged = on_wire o (had_on f.way) Starved from.port to.port exchanged;
          comes = (
            ends,
            (
              (noted_by (had_on f.way) from.port.events).events,
              λ c s may. (
                noted_told (had_on f.way) from.port.events (noted_by (had_on f.way) from.port.events) refl,
                begun f.way f.left f.leads exchanged.fit c s may,
              ),
            ),
          );
        }
        at (Met asked said) exchanged ends = record {
          had = had_on f.way;
          last = Met asked said;
          exchanged = on_wire o (had_on f.way) (Met asked said) from.port to.port exchanged;
          comes = (
            ends.1,
            λ c s may fits. (
              met_told (had_on f.way) asked said from.port.events to.port.events exchanged.notes,
              stopped (had_on f.way) asked said exchanged ends.1 c s may fits,
            ),
          );
        }
