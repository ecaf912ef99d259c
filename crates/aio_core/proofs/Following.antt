-- What a turn does once it has its answer: the handles before the bar run, and the turn ends.
use Rattle.std.proofs.Common.{◌≡◌, ℕ, Bool, true, false, not, ◌&&◌, List, [], ◌++◌, Option, Some, None, Result, Ok, Err, append-nil, length, ◌∙◌, refl}
use Rattle.std.proofs.Common.{sym, ap, subst}
use Rattle.std.specs.Prelude.{IfOk}
use Rattle.std.proofs.Math.Logic.{∥∥₁_map}
use Rattle.model_value.specs.Value.{Outcome}
use Rattle.model_says.specs.Says.{step_limit}
use Rattle.model_wire.specs.Call.{Answer}
use Rattle.model_machine.specs.State.{State, unbooked_in}
use Rattle.model_machine.specs.Outcomes.{finished_as}
use Rattle.model_machine.specs.Turn.{cancelled_if, finished_if, run_pending, turn_over, turned_by, woken_by}
use Rattle.model_machine.specs.Went.{Went, Goes, Stops, state_of, went_on}
use Rattle.law_reach.proofs.Turning.{turned_row}
use Rattle.law_reach.proofs.Rows.{in_turn}
use Rattle.aio_base.specs.declared.memory.Memory.{Memory}
use Rattle.aio_wire.specs.Outside.{Outside}
use Rattle.aio_wire.specs.Port.{ported}
use Rattle.aio_wire.specs.declared.stop.Stop.{Stop}
use Rattle.aio_wire.specs.declared.stop.Stop.TheVariants as stop
use Rattle.aio_exchange.specs.Among.{asks_among}
use Rattle.aio_exchange.specs.Exchanged.{Exchange, Last, All, Met, Starved}
use Rattle.aio_extra.specs.Added.{Added}
use Rattle.aio_step.specs.declared.steps.Stepped.{Stepped}
use Rattle.aio_step.specs.declared.steps.Stepped.TheVariants as stepped
use Rattle.aio_step.specs.Stepping.{TaskSteps}
use Rattle.aio_body.proofs.Asking.{HasCome, come_beside, come_none, come_then, comes_ends, comes_starved, comes_stops}
use Rattle.aio_body.proofs.Asking.{comes_without}
use Rattle.aio_body.specs.declared.run_state.RunState.{RunState}
use Rattle.aio_body.specs.Asking.{Comes, ComesBy, Piece, WentBegins, before, or_stop}
use Rattle.aio_body.specs.Stands.{Context, IsBetween, Possible}
use Rattle.aio_body.proofs.Answering.{alive_come, between_again}
use Rattle.aio_body.proofs.Growing.{OnlyAdds, row_begins, went_begins}
use Rattle.aio_body.proofs.Unasked.{told_so}
use Rattle.aio_body.specs.Answers.{with_answers}
use Rattle.aio_core.specs.declared.went.Went as Said
use Rattle.aio_core.specs.declared.went.Went.TheVariants as went
use Rattle.aio_core.specs.Running.{running}
use Rattle.aio_core.specs.Turning.{Turned, all_below, turning_by}
use Rattle.aio_core.proofs.Running.{goes_on}

module _ {X : Type 0} {a : Added X} where
  -- a state that is stood for leads to one that is stood for then
  pub alive_by : (old new : RunState X) (context : Context a → State a.Kept → Context a) (change : State a.Kept → State a.Kept) → Possible a IsBetween old
      → ((c : Context a) (s : State a.Kept) → IsBetween c old s → IsBetween (context c s) new (change s)) → Possible a IsBetween new
  alive_by old new context change alive by = ∥∥₁_map alive (λ w. (context w.0 w.1.0, (change w.1.0, by w.0 w.1.0 w.1.1)))

abbrev pub woken_to : {S : Type 0} → Answer → State S → State S
woken_to answer s = unbooked_in (woken_by answer) s

-- the state that is left at the end of a turn
pub told_turned : {X : Type 0} {a : Added X} (new : RunState X) (c : Context a) (it : Said.Went) (w : Went a.Kept) → Turned c new it w
    → (state_of w).events ≡ c.past ++ new.events.events
told_turned new c went.Went (Goes now) t = t.stands.events
told_turned new c went.Went (Stops how last) t = absurd t
told_turned new c (went.Finished outcome) (Goes now) t = absurd t
told_turned new c (went.Finished outcome) (Stops how last) t = t.1.0
told_turned new c went.Stalled (Goes now) t = absurd t
told_turned new c went.Stalled (Stops how last) t = absurd t
told_turned new c (went.Runaway task) (Goes now) t = absurd t
told_turned new c (went.Runaway task) (Stops how last) t = t.1
told_turned new c (went.Stopped why) (Goes now) t = absurd t
told_turned new c (went.Stopped why) (Stops how last) t = absurd t

-- the end of a turn tells nothing
over_events : {S : Type 0} (done_before : Bool) (s : State S) → (state_of (turn_over done_before s)).events ≡ s.events
over_events done_before s = at (s.main_done && not done_before)
  where
    cancelled : (b : Bool) → (cancelled_if b s).events ≡ s.events
    cancelled true = refl
    cancelled false = refl

    finished : (it : Option Outcome) (b : Bool) → (state_of (finished_if it (cancelled_if b s))).events ≡ s.events
    finished None b = cancelled b
    finished (Some outcome) b = cancelled b

    at : (b : Bool) → (state_of (finished_if (finished_as (cancelled_if b s)) (cancelled_if b s))).events ≡ s.events
    at b = finished (finished_as (cancelled_if b s)) b

over_adds : {S : Type 0} (done_before : Bool) → OnlyAdds {S = S} (turn_over done_before)
over_adds done_before s = ([], over_events done_before s ∙ sym (append-nil s.events))

module _ {X W : Type 0} (a : Added X) (o : Outside W) (answer : Answer) (old mid ran : RunState X)
    (woken : (c : Context a) (s : State a.Kept) → IsBetween c old s → IsBetween (all_below c (woken_to answer s)) mid (woken_to answer s)) (was is : W) where
  abbrev From : Context a → State a.Kept → Type 0
  From c s = IsBetween c old s

  -- all that is pending stands before the bar
  abbrev Begun : Context a → State a.Kept → Type 0
  Begun c s = IsBetween (all_below c (woken_to answer s)) mid (woken_to answer s)

  begins : HasCome o From [] (ported was old.events) (ported was mid.events) Begun
  begins =
      come_none o From (ported was old.events) (ported was mid.events) Begun refl (λ c s h. let there = woken c s h in (
        told_so c.past old.events.events mid.events.events s.events s.events h.stands.events there.stands.events ([], sym (append-nil s.events)) refl,
        there,
      ))

  -- the handles run, from wherever the turn has its answer
  abbrev below : Piece a (State a.Kept) (Went a.Kept) Stepped
  below =
      record {
        from = Begun;
        does = λ s. run_pending step_limit a.meaning (woken_to answer s);
        ends = Stops;
        says = λ c said it. (bar : ℕ) × TaskSteps (record c { left = 0; bar = bar }) ran said it;
        begins = WentBegins;
      }

  pub runs_below : (result : Result Stepped Stop) → Comes o (running a mid ran) (ported was mid.events) (ported is ran.events) result
      → Comes o below (ported was mid.events) (ported is ran.events) result
  runs_below result h = record { had = h.had; last = h.last; exchanged = h.exchanged; comes = at h.last result h.comes }
    where
      place : State a.Kept → State a.Kept × (ℕ × ℕ)
      place s = (woken_to answer s, ((woken_to answer s).loop.parts.next_stamp, length (woken_to answer s).loop.parts.pending))

      at : (last : Last) (result : Result Stepped Stop) → ComesBy (running a mid ran) h.had last mid.events ran.events result
          → ComesBy below h.had last mid.events ran.events result
      at All (Ok said) comes = λ c s from.
          let it = comes (all_below c (woken_to answer s)) (place s) (from, (refl, refl)) in
          (it.0, ((woken_to answer s).loop.parts.next_stamp, it.1))
      at (Met call reply) (Err why) comes = (
        comes.0,
        λ c s from fits. comes.1 (all_below c (woken_to answer s)) (place s) (from, (refl, refl)) fits,
      )
      at Starved (Err why) comes = (
        comes.0,
        (comes.1.0, λ c s from. comes.1.1 (all_below c (woken_to answer s)) (place s) (from, (refl, refl))),
      )
      at All (Err why) comes = absurd comes
      at (Met call reply) (Ok said) comes = absurd comes
      at Starved (Ok said) comes = absurd comes

  -- ---- all ran
  module _ (runs : Comes o (running a mid ran) (ported was mid.events) (ported is ran.events) (Ok stepped.Goes)) where
    pub record HasRun (c : Context a) (s : State a.Kept) : Type 0 where
      pub now : State a.Kept
      pub bar : ℕ
      pub ran_so : run_pending step_limit a.meaning (woken_to answer s) ≡ Goes now
      pub between : IsBetween (record c { left = 0; bar = bar }) ran now
      pub main_done : mid.main_done ≡ s.main_done

    gone : (had : List Exchange) × HasCome o From had (ported was old.events) (ported is ran.events) HasRun
    gone =
        come_then o From [] (ported was old.events) (ported was mid.events) below (ported is ran.events) Begun HasRun stepped.Goes begins
        (runs_below (Ok stepped.Goes) runs) (λ more c s t. (
          s,
          (
            t,
            λ says.
                let it = goes_on (record c { left = 0; bar = says.0 }) ran (run_pending step_limit a.meaning (woken_to answer s)) says.1 in
                record { now = it.0; bar = says.0; ran_so = it.1.0; between = it.1.1; main_done = t.stands.main_done },
          ),
        ))

    pub alive_ran : Possible a IsBetween old → Possible a IsBetween ran
    alive_ran alive =
        ∥∥₁_map
        (alive_come o From (λ answers c s h. (with_answers answers s, between_again answers c old s h)) gone.0 (ported was old.events)
        (ported is ran.events) HasRun gone.1 alive) (λ w. (record w.0 { left = 0; bar = w.1.1.bar }, (w.1.1.now, w.1.1.between)))

    -- and the turn ends, which asks nothing
    pub after_goes : (new : RunState X) (result : Result Said.Went Memory)
        → IfOk result (λ said. (c : Context a) (s : State a.Kept) → IsBetween c ran s → Turned c new said (turn_over mid.main_done s))
        → Comes o (turning_by a answer old new) (ported was old.events) (ported is new.events) (or_stop result)
    after_goes new (Err memory) ends =
        comes_starved o (turning_by a answer old new) gone.0 (ported was old.events) (ported is ran.events) (ported is new.events) refl
        (record {
          exchanged = gone.1.exchanged;
          told = λ c s h.
              let t = gone.1.told c s h in (
                t.0,
                subst (λ w. WentBegins (c.past ++ ran.events.events) (went_on (turn_over s.main_done) w)) (sym t.1.ran_so)
                    (subst (λ es. WentBegins es (turn_over s.main_done t.1.now)) t.1.between.stands.events (over_adds s.main_done t.1.now)),
              );
        })
    after_goes new (Ok said) ends =
        comes_ends o (turning_by a answer old new) gone.0 (ported was old.events) (ported is new.events) said
        (come_beside o From gone.0 (ported was old.events) (ported is ran.events) (ported is new.events) HasRun
        (λ c s. (bar : ℕ) × Turned (record c { left = 0; bar = bar }) new said (turned_by step_limit a.meaning answer s)) gone.1 refl (λ c s t.
        let d : Context a = record c { left = 0; bar = t.bar } in
        let turned = ends d t.now t.between in (
          told_so c.past ran.events.events new.events.events t.now.events (state_of (turn_over mid.main_done t.now)).events t.between.stands.events
              (told_turned new d said (turn_over mid.main_done t.now) turned) (over_adds mid.main_done t.now)
              (ap asks_among (over_events mid.main_done t.now)),
          (
            t.bar,
            subst (λ w. Turned d new said (went_on (turn_over s.main_done) w)) (sym t.ran_so)
                (subst (λ b. Turned d new said (turn_over b t.now)) t.main_done turned),
          ),
        )))

  -- ---- a task ran away
  pub after_runs_away : (task : ℕ) → Comes o (running a mid ran) (ported was mid.events) (ported is ran.events) (Ok (stepped.Runaway task))
      → Comes o (turning_by a answer old ran) (ported was old.events) (ported is ran.events) (Ok (went.Runaway task))
  after_runs_away task runs =
      let all = come_then o From [] (ported was old.events) (ported was mid.events) below (ported is ran.events) Begun
      (λ c s. (bar : ℕ) × Turned (record c { left = 0; bar = bar }) ran (went.Runaway task) (turned_by step_limit a.meaning answer s))
      (stepped.Runaway task) begins (runs_below (Ok (stepped.Runaway task)) runs) (λ more c s t. (
        s,
        (
          t,
          λ says. (
            says.0,
            off (turn_over s.main_done) (record c { left = 0; bar = says.0 }) (run_pending step_limit a.meaning (woken_to answer s)) says.1,
          ),
        ),
      )) in
      comes_ends o (turning_by a answer old ran) all.0 (ported was old.events) (ported is ran.events) (went.Runaway task) all.1
    where
      off : (go_on : State a.Kept → Went a.Kept) (d : Context a) (w : Went a.Kept) → TaskSteps d ran (stepped.Runaway task) w
          → Turned d ran (went.Runaway task) (went_on go_on w)
      off go_on d (Goes now) t = absurd t
      off go_on d (Stops how last) t = t

  -- ---- or the outside had no answer
  pub after_stops : (why : Stop) → Comes o (running a mid ran) (ported was mid.events) (ported is ran.events) (Err why)
      → Comes o (turning_by a answer old ran) (ported was old.events) (ported is ran.events) (Err why)
  after_stops why runs =
      comes_stops o From [] (ported was old.events) (ported was mid.events) below (ported is ran.events)
      (turned_by step_limit a.meaning answer, (Stops, (λ c said it. (bar : ℕ) × Turned (record c { left = 0; bar = bar }) ran said it, WentBegins))) why
      (record {
        exchanged = begins.exchanged;
        told = λ c s h.
            let t = begins.told c s h in (
              t.0,
              (
                s,
                (
                  t.1,
                  (
                    λ how last e. ap (went_on (turn_over s.main_done)) e,
                    λ events goes.
                        went_begins events (run_pending step_limit a.meaning (woken_to answer s)) (turn_over s.main_done) (over_adds s.main_done) goes,
                  ),
                ),
              ),
            );
      }) (runs_below (Err why) runs)

-- ---- or memory was refused before any handle ran
module _ {X W : Type 0} (a : Added X) (o : Outside W) (answer : Answer) (old new : RunState X) (was : W) where
  pub after_starves : Comes o (turning_by a answer old new) (ported was old.events) (ported was new.events) (Err stop.Memory)
  after_starves =
      comes_without o (turning_by a answer old new) (ported was old.events) (ported was new.events) (λ c s h.
      row_begins (c.past ++ old.events.events) s (state_of (turned_by step_limit a.meaning answer s))
      (in_turn a.meaning (turned_row step_limit a.meaning answer s)) h.stands.events) refl

module _ {X : Type 0} {a : Added X} where
  -- whether each task is cancelled
  pub cancelled_then : (old new : RunState X) (done_before : Bool) → old.main_done ≡ true → done_before ≡ false
      → ((c : Context a) (s : State a.Kept) → IsBetween c old s → IsBetween c new (cancelled_if true s))
      → (c : Context a) (s : State a.Kept) → IsBetween c old s → IsBetween c new (cancelled_if (s.main_done && not done_before) s)
  cancelled_then old new done_before main before by c s h =
      subst (λ b. IsBetween c new (cancelled_if b s))
      (sym (ap (λ b. b && not done_before) (sym h.stands.main_done ∙ main) ∙ ap not before)) (by c s h)

  pub cancelled_else : (old : RunState X) (done_before : Bool) → (old.main_done && not done_before) ≡ false
      → (c : Context a) (s : State a.Kept) → IsBetween c old s → IsBetween c old (cancelled_if (s.main_done && not done_before) s)
  cancelled_else old done_before off c s h =
      subst (λ b. IsBetween c old (cancelled_if b s)) (sym (ap (λ b. b && not done_before) (sym h.stands.main_done) ∙ off)) h
