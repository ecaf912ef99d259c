-- Other streams in a state that is sound: they keep what was kept and what was made since, and what was opened is there still.
use Rattle.std.proofs.Common.{◌≡◌, ℕ, ◌+◌, ◌<◌, ◌≤◌, ◌⊎◌, inl, inr, true, Option, Some, length}
use Rattle.std.proofs.Common.{slice_get, sym, ap, subst, ◌∙◌, le_refl, arith}
use Rattle.std.proofs.lemmas.Bool.{cases_lt, false≢true}
use Rattle.std.proofs.lemmas.Option.{slice_get_past}
use Rattle.model_value.specs.Request.{Request}
use Rattle.model_loop.specs.Futures.{next_future}
use Rattle.model_loop.specs.Owning.{is_plain}
use Rattle.model_loop.specs.Parts.{Parts}
use Rattle.model_loop.proofs.FutureCases.{is_plain_at}
use Rattle.model_machine.specs.Extra.{Extra}
use Rattle.model_machine.specs.Sound.{AreKeptOnce, AreScriptsFutures, AreStreamsFutures, IsOpenedAt, IsSoundBut}
use Rattle.model_machine.specs.Sound.{IsSoundOver, ids_of}
use Rattle.model_machine.specs.State.{ResumePoint, Asked, Sleeping, Leaving, Serving, Connecting}
use Rattle.model_machine.specs.State.{Yielding, Reading, ReadingAll, State, generator_of, with_streams}
use Rattle.model_wire.specs.declared.event.Handed.TheVariants as to
use Rattle.model_stream.specs.Kept.{times_kept}
use Rattle.model_stream.specs.Requests.{OfConn, OfChild}
use Rattle.model_stream.specs.Streams.{Streams}
use Rattle.law_cases.specs.Trees.{made_in}
use Rattle.law_cases.proofs.Fits.{kept_nowhere, made_before, made_most}
use Rattle.law_replies.specs.InStep.{IsAsked}
use Rattle.law_replies.proofs.Counts.{of_plain}
use Rattle.law_replies.proofs.Ids.{IsMore, list_up, names_up, tape_up}
use Rattle.law_replies.proofs.Kept.{kept_more}

pub record Replaces {S : Type 0} (s : State S) (streams : Streams) : Type 0 where
  pub kept : AreStreamsFutures (with_streams streams s)
  pub once : AreKeptOnce (with_streams streams s)
  pub apart : (place id : ℕ) → slice_get s.futures place ≡ Some id → times_kept id streams ≡ 0
  pub opened : (resume_point : ResumePoint) → IsOpenedAt s.streams resume_point → IsOpenedAt streams resume_point
  pub more : IsMore (ids_of s) (ids_of (with_streams streams s))

-- what was opened is there still
pub opened_on : (x y : Streams) → length x.connections ≤ length y.connections → length x.children ≤ length y.children → (resume_point : ResumePoint)
    → IsOpenedAt x resume_point → IsOpenedAt y resume_point
opened_on x y connections children Asked h = tt
opened_on x y connections children (Sleeping tag) h = tt
opened_on x y connections children (Leaving group) h = tt
opened_on x y connections children (Serving key) h = tt
opened_on x y connections children (Connecting conn) h = omega (arith, connections, h)
opened_on x y connections children (Yielding (to.Conn id)) h = omega (arith, connections, h)
opened_on x y connections children (Yielding (to.Child id)) h = omega (arith, children, h)
opened_on x y connections children (Reading (OfConn id) op on) h = omega (arith, connections, h)
opened_on x y connections children (Reading (OfChild pipe id) op on) h = omega (arith, children, h)
opened_on x y connections children (ReadingAll (OfConn id) taken on) h = omega (arith, connections, h)
opened_on x y connections children (ReadingAll (OfChild pipe id) taken on) h = omega (arith, children, h)

-- what isn't made is no plain future
pub unmade : (p : Parts) (future : ℕ) → next_future p ≤ future → is_plain p future ≡ true → ⊥
unmade p future past plain = false≢true (sym (ap is_plain_at (slice_get_past p.futures future past)) ∙ plain)

-- ones that keep each future as often as those of `s` do, or once, if it was made since
pub replaces : {S : Type 0} (s u : State S) (streams : Streams) (next : ℕ) → AreStreamsFutures s → AreKeptOnce s → AreScriptsFutures s
    → ((future : ℕ) → times_kept future streams ≤ times_kept future s.streams + made_in (next_future s.loop.parts) next future)
    → length s.streams.servers ≤ length streams.servers → length s.streams.connections ≤ length streams.connections
    → length s.streams.children ≤ length streams.children → u.futures ≡ s.futures → u.streams ≡ s.streams
    → AreStreamsFutures (with_streams streams u) → Replaces u streams
replaces s u streams next kept once scripts times servers connections children futures same after = record {
  kept = after;
  once = λ future. counted future (cases_lt future (next_future s.loop.parts));
  apart = λ place id e. none place id (sym (ap (λ l. slice_get l place) futures) ∙ e) (cases_lt id (next_future s.loop.parts));
  opened = λ resume_point h. opened_on s.streams streams connections children resume_point (subst (λ (x : Streams). IsOpenedAt x resume_point) same h);
  more = record {
    tasks = le_refl _;
    futures = le_refl _;
    timeouts = le_refl _;
    groups = le_refl _;
    servers = let e = ap (λ (x : Streams). length x.servers) same in omega (arith, e, servers);
    connections = let e = ap (λ (x : Streams). length x.connections) same in omega (arith, e, connections);
    children = let e = ap (λ (x : Streams). length x.children) same in omega (arith, e, children);
  };
}
  where
    counted : (future : ℕ) → (future < next_future s.loop.parts) ⊎ (next_future s.loop.parts ≤ future) → times_kept future streams ≤ 1
    counted future (inl before) =
        let a = times future in
        let b = once future in
        let c = made_before (next_future s.loop.parts) next future before in
        omega (arith, a, b, c)
    counted future (inr past) =
        let a = times future in
        let b = kept_nowhere (λ k. is_plain s.loop.parts k ≡ true) future (unmade s.loop.parts future past) s.streams kept in
        let c = made_most (next_future s.loop.parts) next future in
        omega (arith, a, b, c)

    none : (place id : ℕ) → slice_get s.futures place ≡ Some id → (id < next_future s.loop.parts) ⊎ (next_future s.loop.parts ≤ id)
        → times_kept id streams ≡ 0
    none place id e (inl before) =
        let a = times id in
        let b = scripts.apart place id e in
        let c = made_before (next_future s.loop.parts) next id before in
        omega (arith, a, b, c)
    none place id e (inr past) =
        let f = scripts.plain place id e in absurd (unmade s.loop.parts id past (of_plain s.loop.parts id f.0 f.1 f.2))

pub over_replaced : {S : Type 0} (added : Extra S) (running excused : Option ℕ) (s : State S) (streams : Streams) {Blocks Others : Type 0}
    → Replaces s streams → IsSoundOver Blocks running excused added s → Others → IsSoundOver Others running excused added (with_streams streams s)
over_replaced added running excused s streams new is others = record {
  loop = is.loop;
  generators = is.generators;
  asking = λ task l f. let a = is.asking task l f in record { asked = a.asked; says = a.says; stands = a.stands };
  unbegun = is.unbegun;
  main_over = is.main_over;
  main_told = is.main_told;
  resume_point = λ task l f.
      let a = is.resume_point task l f in
      record { sleeping = a.sleeping; leaving = a.leaving; leaving_now = a.leaving_now; opened = new.opened _ a.opened };
  exits = is.exits;
  blocks = others;
  streams = new.kept;
  kept_once = new.once;
  futures = record { plain = is.futures.plain; once = is.futures.once; apart = new.apart };
  made = record {
    arguments = λ task. list_up (ids_of s) (ids_of (with_streams streams s)) new.more (generator_of task s).arguments (is.made.arguments task);
    tape = λ task. tape_up (ids_of s) (ids_of (with_streams streams s)) new.more (generator_of task s).tape (is.made.tape task);
    outcomes = λ id value e. names_up (ids_of s) (ids_of (with_streams streams s)) new.more value (is.made.outcomes id value e);
  };
  kept = kept_more (ids_of s) (ids_of (with_streams streams s)) new.more (added.keeps s.extra) s.futures s.loop.parts is.kept;
  keys = is.keys;
}

pub streams_replaced : {S : Type 0} (added : Extra S) (running excused : Option ℕ) (s : State S) (streams : Streams)
    → Replaces s streams → IsSoundBut running excused added s → IsSoundBut running excused added (with_streams streams s)
streams_replaced added running excused s streams new is =
    over_replaced added running excused s streams new is
    (record { timeouts = is.blocks.timeouts; groups = is.blocks.groups; entered = is.blocks.entered; own = is.blocks.own })

pub asked_replaced : {S : Type 0} (added : Extra S) (task : ℕ) (stood : ResumePoint) (asked : Request) (s : State S) (streams : Streams)
    → Replaces s streams → IsAsked added task stood asked s → IsAsked added task stood asked (with_streams streams s)
asked_replaced added task stood asked s streams new is = record {
  others = streams_replaced added (Some task) (Some task) s streams new is.others;
  resume_point = is.resume_point;
  says = is.says;
  exits = is.exits;
  alone = is.alone;
}
