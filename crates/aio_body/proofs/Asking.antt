-- Calls that may ask, one after another.
use Rattle.std.proofs.Common.{◌≡◌, List, [], ◌++◌, Result, Ok, Err, ◌∙◌, refl, sym, ap, subst, append_assoc, append-nil}
use Rattle.std.specs.Prelude.{IfOk}
use Rattle.model_wire.specs.Event.{Event}
use Rattle.model_wire.specs.Journal.{Entry}
use Rattle.model_wire.specs.Trace.{End}
use Rattle.model_machine.specs.State.{State}
use Rattle.aio_base.specs.declared.memory.Memory.{Memory}
use Rattle.aio_wire.specs.Outside.{Outside}
use Rattle.aio_wire.specs.Port.{Ported}
use Rattle.aio_wire.specs.declared.stop.Stop.{Stop}
use Rattle.aio_wire.specs.declared.stop.Stop.TheVariants as stop
use Rattle.aio_exchange.specs.Among.{AreTold, ExchangedOn}
use Rattle.aio_exchange.specs.Exchanged.{Exchange, Last, All, Met, Starved, entries_of}
use Rattle.aio_exchange.proofs.Among.{on_none, on_starved, on_then, told_none, told_then}
use Rattle.aio_exchange.proofs.Exchanging.{entries-append}
use Rattle.aio_extra.specs.Added.{Added}
use Rattle.aio_body.specs.Asking.{Comes, ComesBy, Piece, before, or_stop}
use Rattle.aio_body.specs.Stands.{Context}

pub before-append : {X : Type 0} {a : Added X} (xs ys : List Exchange) (c : Context a) → before (xs ++ ys) c ≡ before xs (before ys c)
before-append xs ys c =
    ap (λ (es : List Entry). record c { answers = es })
    (ap (λ (es : List Entry). es ++ c.answers) (entries-append xs ys) ∙ append_assoc (entries_of xs) (entries_of ys) c.answers)

-- After some asks, each of which had its answer, this is so of wherever the call began.
pub record HasCome {X W At : Type 0} {a : Added X} (o : Outside W) (from : Context a → At → Type 0) (had : List Exchange) (old mid : Ported W)
    (so : Context a → At → Type 0) : Type 0 where
  pub exchanged : ExchangedOn o had All old.wire mid.wire
  pub told : (c : Context a) (at : At) → from (before had c) at → AreTold had All old.events.events mid.events.events × so c at

module _ {X W At : Type 0} {a : Added X} (o : Outside W) (from : Context a → At → Type 0) where
  -- nothing was asked so far
  pub come_none : (old mid : Ported W) (so : Context a → At → Type 0) → mid.wire ≡ old.wire
      → ((c : Context a) (at : At) → from c at → AreTold [] All old.events.events mid.events.events × so c at) → HasCome o from [] old mid so
  come_none old mid so same told = record {
    exchanged = subst (λ w. ExchangedOn o [] All old.wire w) (sym same) (on_none o old.wire);
    told = told;
  }

  -- something more was done that asks nothing
  pub come_beside : (had : List Exchange) (old mid new : Ported W) (first so : Context a → At → Type 0) → HasCome o from had old mid first
      → new.wire ≡ mid.wire → ((c : Context a) (at : At) → first c at → AreTold [] All mid.events.events new.events.events × so c at)
      → HasCome o from had old new so
  come_beside had old mid new first so come same on = record {
    exchanged = subst (λ w. ExchangedOn o had All old.wire w) (sym same) come.exchanged;
    told = λ c at h.
        let before_ = come.told c at h in
        let then_ = on c at before_.1 in (
          subst (λ xs. AreTold xs All old.events.events new.events.events) (append-nil had)
              (told_then had [] All old.events.events mid.events.events new.events.events before_.0 then_.0),
          then_.1,
        );
  }

  module _ {At' M' R' : Type 0} (had : List Exchange) (old mid : Ported W) (q : Piece a At' M' R') (new : Ported W) where
    again : (more : List Exchange) (so : Context a → At → Type 0) → HasCome o from had old mid so → (c : Context a) (at : At)
        → from (before (had ++ more) c) at → AreTold had All old.events.events mid.events.events × so (before more c) at
    again more so come c at h = come.told (before more c) at (subst (λ d. from d at) (before-append had more c) h)

    -- another call was made, and went well
    pub come_then : (first so : Context a → At → Type 0) (said : R') → HasCome o from had old mid first → (second : Comes o q mid new (Ok said))
        → ((more : List Exchange) (c : Context a) (at : At) → first (before more c) at
        → (next : At') × (q.from (before more c) next × (q.says c said (q.does next) → so c at)))
        → (more : List Exchange) × HasCome o from more old new so
    come_then first so said come second on = by second.last second.exchanged second.comes
      where
        by : (last : Last) → ExchangedOn o second.had last mid.wire new.wire → ComesBy q second.had last mid.events new.events (Ok said)
            → (more : List Exchange) × HasCome o from more old new so
        by (Met call reply) exchanged comes = absurd comes
        by Starved exchanged comes = absurd comes
        by All exchanged comes = (
          had ++ second.had,
          record {
            exchanged = on_then o had second.had All old.wire mid.wire new.wire come.exchanged exchanged;
            told = λ c at h.
                let first_ = again second.had first come c at h in
                let next = on second.had c at first_.1 in
                let then_ = comes c next.0 next.1.0 in
                (told_then had second.had All old.events.events mid.events.events new.events.events first_.0 then_.0, next.1.1 then_.1);
          },
        )

    module _ {M R : Type 0} (p : (At → M) × ((End → State a.Kept → M) × ((Context a → R → M → Type 0) × (List Event → M → Type 0)))) where
      abbrev whole : Piece a At M R
      whole = record { from = from; does = p.0; ends = p.1.0; says = p.1.1.0; begins = p.1.1.1 }

      -- what the piece ends or begins with, the whole does
      abbrev IsPart : At → At' → Type 0
      IsPart at next =
          ((end : End) (last : State a.Kept) → q.does next ≡ q.ends end last → p.0 at ≡ p.1.0 end last)
          × ((events : List Event) → q.begins events (q.does next) → p.1.1.1 events (p.0 at))

      -- it stopped, and so does the whole: an end of the run in it is one of the whole
      pub comes_stops : (why : Stop) → HasCome o from had old mid (λ c at. (next : At') × (q.from c next × IsPart at next))
          → Comes o q mid new (Err why) → Comes o whole old new (Err why)
      comes_stops why come second = by second.last second.exchanged second.comes
        where
          by : (last : Last) → ExchangedOn o second.had last mid.wire new.wire → ComesBy q second.had last mid.events new.events (Err why)
              → Comes o whole old new (Err why)
          by All exchanged comes = absurd comes
          by Starved exchanged comes = record {
            had = had ++ second.had;
            last = Starved;
            exchanged = on_then o had second.had Starved old.wire mid.wire new.wire come.exchanged exchanged;
            comes = (
              comes.0,
              (
                comes.1.0,
                λ c at h.
                    let first_ = again second.had _ come c at h in
                    let then_ = comes.1.1 c first_.1.0 first_.1.1.0 in (
                      told_then had second.had All old.events.events mid.events.events comes.1.0 first_.0 then_.0,
                      first_.1.1.1.1 (c.past ++ comes.1.0) then_.1,
                    ),
              ),
            );
          }
          by (Met call reply) exchanged comes = record {
            had = had ++ second.had;
            last = Met call reply;
            exchanged = on_then o had second.had (Met call reply) old.wire mid.wire new.wire come.exchanged exchanged;
            comes = (
              comes.0,
              λ c at h fits.
                  let first_ = again second.had _ come c at h in
                  let then_ = comes.1 c first_.1.0 first_.1.1.0 fits in (
                    told_then had second.had (Met call reply) old.events.events mid.events.events new.events.events first_.0 then_.0,
                    record {
                      end = then_.1.end;
                      last = then_.1.last;
                      way = then_.1.way;
                      stops = first_.1.1.1.0 then_.1.end then_.1.last then_.1.stops;
                      told = then_.1.told;
                    },
                  ),
            );
          }

-- ---- the whole
module _ {X W At M R : Type 0} {a : Added X} (o : Outside W) (p : Piece a At M R) (had : List Exchange) (old mid : Ported W) where
  -- it ends
  pub comes_ends : (said : R) → HasCome o p.from had old mid (λ c at. p.says c said (p.does at)) → Comes o p old mid (Ok said)
  comes_ends said come = record { had = had; last = All; exchanged = come.exchanged; comes = come.told }

  -- memory is refused
  pub comes_starved : (new : Ported W) → new.wire ≡ mid.wire
      → HasCome o p.from had old mid (λ c at. p.begins (c.past ++ mid.events.events) (p.does at)) → Comes o p old new (Err stop.Memory)
  comes_starved new same come = record {
    had = had;
    last = Starved;
    exchanged = subst (λ w. ExchangedOn o had Starved old.wire w) (sym same) (on_starved o had old.wire mid.wire come.exchanged);
    comes = (refl, (mid.events.events, come.told));
  }

  -- it goes on by another call, whatever comes of that
  pub comes_goes : {At' : Type 0} (from : Context a → At' → Type 0) (does : At' → M) (new : Ported W) (result : Result R Stop)
      → HasCome o p.from had old mid (λ c at. (next : At') × (from c next × (p.does at ≡ does next)))
      → Comes o (record { from = from; does = does; ends = p.ends; says = p.says; begins = p.begins }) mid new result → Comes o p old new result
  comes_goes from does new (Err why) come second =
      comes_stops o p.from had old mid (record { from = from; does = does; ends = p.ends; says = p.says; begins = p.begins }) new
      (p.does, (p.ends, (p.says, p.begins))) why
      (record {
        exchanged = come.exchanged;
        told = λ c at h.
            let t = come.told c at h in (
              t.0,
              (t.1.0, (t.1.1.0, (λ end last e. t.1.1.1 ∙ e, λ events begins. subst (p.begins events) (sym t.1.1.1) begins))),
            );
      })
      second
  comes_goes from does new (Ok said) come second =
      let all = come_then o p.from had old mid (record { from = from; does = does; ends = p.ends; says = p.says; begins = p.begins }) new
      (λ c at. (next : _) × (from c next × (p.does at ≡ does next))) (λ c at. p.says c said (p.does at)) said come second
      (λ more c at t. (t.0, (t.1.0, λ says. subst (p.says c said) (sym t.1.1) says))) in
      record { had = all.0; last = All; exchanged = all.1.exchanged; comes = all.1.told }

module _ {X W At M R : Type 0} {a : Added X} (o : Outside W) (p : Piece a At M R) (old new : Ported W) where
  -- where it may begin, the machine's events begin with those that were there
  abbrev BeginsThere : Type 0
  BeginsThere = (c : Context a) (at : At) → p.from c at → p.begins (c.past ++ old.events.events) (p.does at)

  -- a call that had no memory before it asked
  pub comes_without : BeginsThere → new.wire ≡ old.wire → Comes o p old new (Err stop.Memory)
  comes_without begins same =
      comes_starved o p [] old old new same
      (come_none o p.from old old _ refl (λ c at h. (told_none old.events.events, begins c at h)))

  -- a call that asks nothing
  pub comes_alone : BeginsThere → (result : Result R Memory) → new.wire ≡ old.wire
      → IfOk result (λ said. (c : Context a) (at : At) → p.from c at → AreTold [] All old.events.events new.events.events × p.says c said (p.does at))
      → Comes o p old new (or_stop result)
  comes_alone begins (Ok said) same told = comes_ends o p [] old new said (come_none o p.from old new _ same told)
  comes_alone begins (Err memory) same told = comes_without begins same
