-- The handles before the bar, as the loop over them has them: each round takes one, and the rest is as before.
use Rattle.std.proofs.Common.{if◌then◌else◌, ◌≡◌, ℕ, zero, suc, ◌<◌, Bool, true, false, List, [], ◌∷◌, drop, Some, None, Result, Ok, Err, length, ◌∙◌}
use Rattle.std.proofs.Common.{refl, sym, ap, append-nil, nat_lt, subst, arith}
use Rattle.std.proofs.Math.Logic.{∥∥₁_elim, ∥∥₁_map}
use Rattle.std.specs.Coded.{le_prop}
use Rattle.model_value.specs.Action.{Action}
use Rattle.model_says.specs.Says.{step_limit}
use Rattle.model_wire.specs.declared.event.Event.TheVariants as event
use Rattle.model_loop.specs.Parts.{Handle}
use Rattle.model_machine.specs.Extra.{Extra}
use Rattle.model_machine.specs.State.{State, noted}
use Rattle.model_machine.specs.Turn.{effect, next_below, run_below, run_first, run_if}
use Rattle.model_machine.specs.Went.{Went, Goes, Stops, state_of, went_on}
use Rattle.law_reach.proofs.Turning.{first_turns}
use Rattle.law_reach.proofs.Rows.{in_turn}
use Rattle.aio_ready.specs.Queue as queue
use Rattle.aio_ready.specs.declared.handle.Handle.{Handle as QueueHandle}
use Rattle.aio_task.specs.View.{View}
use Rattle.aio_wire.specs.Outside.{Outside}
use Rattle.aio_wire.specs.Port.{ported}
use Rattle.aio_wire.specs.declared.stop.Stop.{Stop}
use Rattle.aio_exchange.proofs.Among.{told_none}
use Rattle.aio_exchange.specs.Exchanged.{Exchange}
use Rattle.aio_extra.specs.Added.{Added}
use Rattle.aio_step.specs.declared.steps.Stepped.{Stepped}
use Rattle.aio_step.specs.declared.steps.Stepped.TheVariants as went
use Rattle.aio_step.specs.Stepping.{TaskSteps}
use Rattle.aio_body.proofs.Asking.{HasCome, come_beside, come_none, come_then, comes_ends, comes_stops}
use Rattle.aio_body.specs.declared.run_state.RunState.{RunState}
use Rattle.aio_body.specs.Asking.{Comes, Piece, WentBegins, before}
use Rattle.aio_body.specs.Stands.{Context, IsBetween, Possible}
use Rattle.aio_body.specs.Taken.{IsNext}
use Rattle.aio_body.proofs.Answering.{alive_come, between_again}
use Rattle.aio_body.proofs.Growing.{OnlyAdds, row_begins, went_begins}
use Rattle.aio_body.proofs.Over.{comes_over, over}
use Rattle.aio_body.specs.Answers.{with_answers}
use Rattle.aio_core.specs.Running.{running, running_one}
use Rattle.aio_core.specs.Turning.{at_bar}
use Rattle.aio_core.proofs.Below.{IsRunning, left_by, next_none, next_runs, skipped}

abbrev pub below_of : {X : Type 0} → RunState X → ℕ
below_of body = length body.parts.queue.below

module _ {X : Type 0} {a : Added X} where
  -- as many are left as stand before the bar
  abbrev pub with_left : ℕ → Context a → Context a
  with_left count c = record c { left = count }

  -- A state was come to, from which the rest runs as from the first: that, its bar, and how many were left before it.
  pub record Reached (body : RunState X) (c : Context a) (at : State a.Kept × (ℕ × ℕ)) : Type 0 where
    pub now : State a.Kept
    pub between : IsBetween (with_left (below_of body) c) body now
    pub same : run_below step_limit a.meaning at.1.0 at.1.1 at.0 ≡ run_below step_limit a.meaning c.bar (below_of body) now

-- from wherever it began, after some asks
abbrev pub HasReached : {X W : Type 0} → (a : Added X) → Outside W → (first : RunState X) (was : W) (body : RunState X) (is : W) → Type 0
HasReached a o first was body is =
    (had : List Exchange)
    × HasCome {At = State a.Kept × (ℕ × ℕ)} {a = a} o (λ c at. IsBetween c first at.0 × ((c.bar ≡ at.1.0) × (c.left ≡ at.1.1))) had
    (ported was first.events) (ported is body.events) (Reached body)

-- ---- a handle was taken
module _ {X : Type 0} {a : Added X} (body : RunState X) (w : View) (action : Action) (is : w ≡ left_by body.parts)
    (next : queue.next_action body.parts.queue ≡ Some action) where
  pub running_of : (c : Context a) (s : State a.Kept) → IsBetween c body s → IsRunning action c body w s
  running_of c s h = next_runs c body s w action h (skipped c body s w (Some action) h is next) is next

  pub may_run : Possible a IsBetween body → Possible a (IsNext action) (record body { parts = w })
  may_run alive = ∥∥₁_map alive (λ x. let r = running_of x.0 x.1.0 x.1.1 in (record x.0 { left = length w.queue.below }, (r.now, r.next)))

module _ {X : Type 0} {a : Added X} where
  pub goes_on : (c : Context a) (new : RunState X) (w : Went a.Kept) → TaskSteps c new went.Goes w
      → (now : State a.Kept) × ((w ≡ Goes now) × IsBetween c new now)
  goes_on c new (Goes now) h = (now, (refl, h))
  goes_on c new (Stops end last) h = absurd h

  pub runs_off : (c : Context a) (new : RunState X) (task : ℕ) (go_on : State a.Kept → Went a.Kept) (w : Went a.Kept)
      → TaskSteps c new (went.Runaway task) w → TaskSteps (at_bar c) new (went.Runaway task) (went_on go_on w)
  runs_off c new task go_on (Goes now) h = absurd h
  runs_off c new task go_on (Stops end last) h = h

-- handles only add events
below_adds : {S : Type 0} (added : Extra S) (bar count : ℕ) → OnlyAdds (run_below step_limit added bar count)
unfolding run_below
below_adds added bar zero s = ([], sym (append-nil s.events))
below_adds added bar (suc count) s = next s.loop.parts.pending (below_adds added bar count)
  where
    at : (b : Bool) (handle : Handle) (rest : List Handle) → OnlyAdds (run_below step_limit added bar count)
        → WentBegins s.events (run_if step_limit added b handle rest (run_below step_limit added bar count) s)
    at true handle rest adds =
        went_begins s.events (run_first step_limit added handle rest s) (run_below step_limit added bar count) adds
        (row_begins s.events s (state_of (run_first step_limit added handle rest s)) (in_turn added (first_turns step_limit added handle rest s).reaches) refl)
    at false handle rest adds = ([], sym (append-nil s.events))

    next : (handles : List Handle) → OnlyAdds (run_below step_limit added bar count)
        → WentBegins s.events (next_below step_limit added bar handles (run_below step_limit added bar count) s)
    next [] adds = ([], sym (append-nil s.events))
    next (handle ∷ rest) adds = at (nat_lt handle.stamp bar) handle rest adds

-- a handle that is taken stands before the bar no more
live_first : (handles : List QueueHandle) (it : Action) → queue.first_action (queue.from_live handles) ≡ Some it
    → length (drop 1 (queue.from_live handles)) < length handles
live_first [] it e = absurd (cc)
live_first (handle ∷ handles) it e = at_dead handle.dead (λ x. live_first handles it x) e
  where
    at_dead : (b : Bool)
        → (queue.first_action (queue.from_live handles) ≡ Some it → length (drop 1 (queue.from_live handles)) < length handles)
        → queue.first_action (if b then queue.from_live handles else handle ∷ handles) ≡ Some it
        → length (drop 1 (if b then queue.from_live handles else handle ∷ handles)) < suc (length handles)
    at_dead true others e = let less = others e in omega (arith, less)
    at_dead false others e = omega arith

taken_fewer : (q : queue.Queue) (it : Action) → queue.next_action q ≡ Some it → length (queue.taken q).below < length q.below
taken_fewer q it e = live_first q.below it e

module _ {X W : Type 0} (a : Added X) (o : Outside W) (first : RunState X) (was : W) where
  abbrev From : Context a → State a.Kept × (ℕ × ℕ) → Type 0
  From c at = IsBetween c first at.0 × ((c.bar ≡ at.1.0) × (c.left ≡ at.1.1))

  -- what the whole does
  abbrev does : State a.Kept × (ℕ × ℕ) → Went a.Kept
  does at = run_below step_limit a.meaning at.1.0 at.1.1 at.0

  pub reached_first : HasReached a o first was first was
  reached_first = (
    [],
    come_none o From (ported was first.events) (ported was first.events) (Reached first) refl
        (λ c at h. (
          told_none first.events.events,
          record {
            now = at.0;
            between = subst (λ n. IsBetween (with_left n c) first at.0) (sym h.0.stands.left) h.0;
            same =
                ap (λ b. run_below step_limit a.meaning b at.1.1 at.0) (sym h.1.0)
                ∙ ap (λ n. run_below step_limit a.meaning c.bar n at.0) (sym h.1.1 ∙ sym h.0.stands.left);
          },
        )),
  )

  -- what is possible wherever it began is so after some asks
  still_possible : (had : List Exchange) (body : RunState X) (mid : W) (so : Context a → State a.Kept × (ℕ × ℕ) → Type 0)
      → HasCome o From had (ported was first.events) (ported mid body.events) so → Possible a IsBetween first
      → ∥ ((c : Context a) × ((at : State a.Kept × (ℕ × ℕ)) × so c at)) ∥₁
  still_possible had body mid so come alive =
      alive_come o From (λ answers c at h. ((with_answers answers at.0, at.1), (between_again answers c first at.0 h.0, h.1))) had
      (ported was first.events) (ported mid body.events) so come
      (∥∥₁_map alive (λ w. (w.0, ((w.1.0, (w.0.bar, w.0.left)), (w.1.1, (refl, refl))))))

  module _ (body : RunState X) (mid : W) (reached : HasReached a o first was body mid) where
    pub alive_on : Possible a IsBetween first → Possible a IsBetween body
    alive_on alive =
        ∥∥₁_map (still_possible reached.0 body mid (Reached body) reached.1 alive) (λ w. (with_left (below_of body) w.0, (w.1.1.now, w.1.1.between)))

    module _ (w : View) (is : w ≡ left_by body.parts) where
      abbrev taken : RunState X
      taken = record body { parts = w }

      -- ---- a handle was taken, and ran
      module _ (action : Action) (next : queue.next_action body.parts.queue ≡ Some action) (new : RunState X) (last : W) where
        abbrev left : ℕ
        left = length w.queue.below

        abbrev one : Piece a (State a.Kept) (Went a.Kept) Stepped
        one = over (with_left left) (running_one a action taken new)

        held : (result : Result Stepped Stop) → Comes o (running_one a action taken new) (ported mid taken.events) (ported last new.events) result
            → Comes o one (ported mid body.events) (ported last new.events) result
        held result ran =
            comes_over o (with_left left) (record { answers = λ es c. refl; rest = λ c. refl; past = λ c. refl }) (running_one a action taken new)
            (ported mid body.events) (ported last new.events) result ran

        here : (c : Context a) (at : State a.Kept × (ℕ × ℕ)) → (t : Reached body c at) → IsRunning action (with_left (below_of body) c) body w t.now
        here c at t = running_of body w action is next (with_left (below_of body) c) t.now t.between

        -- what the whole does from there
        on : (c : Context a) (at : State a.Kept × (ℕ × ℕ)) (t : Reached body c at) → does at
            ≡ went_on (run_below step_limit a.meaning c.bar left) (effect step_limit a.meaning action (noted (event.Ran action) (here c at t).now))
        on c at t = t.same ∙ (here c at t).goes

        pub reached_next : Comes o (running_one a action taken new) (ported mid taken.events) (ported last new.events) (Ok went.Goes)
            → HasReached a o first was new last
        reached_next ran =
            come_then o From reached.0 (ported was first.events) (ported mid body.events) one (ported last new.events) (Reached body) (Reached new)
            went.Goes reached.1 (held (Ok went.Goes) ran) (λ more c at t. (
              (here (before more c) at t).now,
              (
                (here (before more c) at t).next,
                λ says.
                    let gone = goes_on (with_left left c) new
                    (effect step_limit a.meaning action (noted (event.Ran action) (here (before more c) at t).now)) says in
                    record {
                      now = gone.0;
                      between = subst (λ n. IsBetween (with_left n c) new gone.0) (sym gone.1.1.stands.left) gone.1.1;
                      same =
                          on (before more c) at t ∙ ap (went_on (run_below step_limit a.meaning c.bar left)) gone.1.0
                          ∙ ap (λ n. run_below step_limit a.meaning c.bar n gone.0) (sym gone.1.1.stands.left);
                    },
              ),
            ))

        pub runs_away : (task : ℕ)
            → Comes o (running_one a action taken new) (ported mid taken.events) (ported last new.events) (Ok (went.Runaway task))
            → Comes o (running a first new) (ported was first.events) (ported last new.events) (Ok (went.Runaway task))
        runs_away task ran =
            let all = come_then o From reached.0 (ported was first.events) (ported mid body.events) one (ported last new.events) (Reached body)
            (λ c at. TaskSteps (at_bar c) new (went.Runaway task) (does at)) (went.Runaway task) reached.1 (held (Ok (went.Runaway task)) ran)
            (λ more c at t. (
              (here (before more c) at t).now,
              (
                (here (before more c) at t).next,
                λ says.
                    subst (TaskSteps (at_bar c) new (went.Runaway task)) (sym (on (before more c) at t))
                    (runs_off (with_left left c) new task (run_below step_limit a.meaning c.bar left)
                    (effect step_limit a.meaning action (noted (event.Ran action) (here (before more c) at t).now)) says),
              ),
            )) in
            comes_ends o (running a first new) all.0 (ported was first.events) (ported last new.events) (went.Runaway task) all.1

        pub run_stops : (why : Stop) → Comes o (running_one a action taken new) (ported mid taken.events) (ported last new.events) (Err why)
            → Comes o (running a first new) (ported was first.events) (ported last new.events) (Err why)
        run_stops why ran =
            comes_stops o From reached.0 (ported was first.events) (ported mid body.events) one (ported last new.events)
            (does, (Stops, (λ c said it. TaskSteps (at_bar c) new said it, WentBegins))) why
            (record {
              exchanged = reached.1.exchanged;
              told = λ c at h.
                  let t = reached.1.told c at h in (
                    t.0,
                    (
                      (here c at t.1).now,
                      (
                        (here c at t.1).next,
                        (
                          λ how end e. on c at t.1 ∙ ap (went_on (run_below step_limit a.meaning c.bar left)) e,
                          λ events goes.
                              subst (WentBegins events) (sym (on c at t.1))
                              (went_begins events (effect step_limit a.meaning action (noted (event.Ran action) (here c at t.1).now))
                              (run_below step_limit a.meaning c.bar left) (below_adds a.meaning c.bar left) goes),
                        ),
                      ),
                    ),
                  );
            }) (held (Err why) ran)

        -- fewer are left, after each round
        pub fewer : Possible a IsBetween first
            → Comes o (running_one a action taken new) (ported mid taken.events) (ported last new.events) (Ok went.Goes)
            → below_of new < below_of body
        fewer alive ran =
            let all = come_then o From reached.0 (ported was first.events) (ported mid body.events) one (ported last new.events) (Reached body)
            (λ c at. below_of new ≡ left) went.Goes reached.1 (held (Ok went.Goes) ran) (λ more c at t. (
              (here (before more c) at t).now,
              (
                (here (before more c) at t).next,
                λ says.
                    (goes_on (with_left left c) new
                    (effect step_limit a.meaning action (noted (event.Ran action) (here (before more c) at t).now)) says).1.1.stands.left,
              ),
            )) in
            ∥∥₁_elim (still_possible all.0 new last (λ c at. below_of new ≡ left) all.1 alive) le_prop (λ x.
            let many = x.1.1 in
            let took = taken_fewer body.parts.queue action next in
            let same = ap (λ (x : View). length x.queue.below) is in
            omega (arith, many, took, same))

      -- ---- none is left
      pub at_bar_so : queue.next_action body.parts.queue ≡ None
          → Comes o (running a first taken) (ported was first.events) (ported mid body.events) (Ok went.Goes)
      at_bar_so none =
          comes_ends o (running a first taken) reached.0 (ported was first.events) (ported mid body.events) went.Goes
          (come_beside o From reached.0 (ported was first.events) (ported mid body.events) (ported mid body.events) (Reached body)
          (λ c at. TaskSteps (at_bar c) taken went.Goes (does at)) reached.1 refl (λ c at t. (told_none body.events.events, ends c at t)))
        where
          none_live : (handles : List QueueHandle) → queue.first_action (queue.from_live handles) ≡ None
              → length (drop 1 (queue.from_live handles)) ≡ 0
          none_live handles e = by (queue.from_live handles) e
            where
              by : (those : List QueueHandle) → queue.first_action those ≡ None → length (drop 1 those) ≡ 0
              by [] e = refl
              by (handle ∷ rest) e = absurd (cc)

          ends : (c : Context a) (at : State a.Kept × (ℕ × ℕ)) → Reached body c at → TaskSteps (at_bar c) taken went.Goes (does at)
          ends c at t =
              let d = with_left (below_of body) c in
              let last = next_none d body t.now w t.between (skipped d body t.now w None t.between is none) is none in
              let same = ap (λ (x : View). length x.queue.below) is ∙ none_live body.parts.queue.below none in
              subst (TaskSteps (at_bar c) taken went.Goes) (sym (t.same ∙ last.goes))
              (subst (λ n. IsBetween (with_left n c) taken last.now) same last.between)
