-- What a whole turn comes to, by what it asked of the wire, whatever that was.
use Rattle.std.proofs.Common.{◌≡◌, ℕ, false, List, [], ◌∷◌, ◌++◌, Result, Ok, Err, length, map, refl, sym, ap, subst}
use Rattle.std.proofs.Math.Logic.{∥∥₁_elim, ∥∥₁_map}
use Rattle.model_value.specs.Value.{Outcome}
use Rattle.model_says.specs.Says.{step_limit}
use Rattle.model_wire.specs.declared.event.End.TheVariants as end
use Rattle.model_wire.specs.Call.{Answer, Call}
use Rattle.model_wire.specs.Event.{Event}
use Rattle.model_wire.specs.Journal.{Entry, Answered}
use Rattle.model_wire.specs.Told.{Agrees}
use Rattle.model_wire.specs.Trace.{End}
use Rattle.model_machine.specs.State.{State}
use Rattle.model_machine.specs.Turn.{turn}
use Rattle.model_machine.specs.Went.{Went, Goes, Stops}
use Rattle.aio_wire.specs.Outside.{Outside}
use Rattle.aio_wire.specs.Port.{ported}
use Rattle.aio_wire.specs.Told.{refused_of}
use Rattle.aio_wire.specs.declared.stop.Stop.{Stop}
use Rattle.aio_wire.specs.declared.stop.Stop.TheVariants as stop
use Rattle.aio_wire.specs.declared.wire.Reply.{Reply}
use Rattle.aio_wire.specs.declared.wire.Reply.TheVariants as reply
use Rattle.aio_exchange.specs.Among.{ExchangedOn}
use Rattle.aio_exchange.specs.Exchanged as exchange
use Rattle.aio_exchange.specs.Exchanged.{Exchange, Last, All, Met, Starved, StopsAs, answers_of, entries_of}
use Rattle.aio_extra.specs.Added.{Added}
use Rattle.aio_body.specs.declared.run_state.RunState.{RunState}
use Rattle.aio_body.specs.Asking.{Comes, ComesBy, EndsAs, RestFits, StopsWith, before}
use Rattle.aio_body.specs.Stands.{Context, IsBetween, Possible}
use Rattle.aio_body.proofs.Answering.{between_again}
use Rattle.aio_body.specs.Answers.{with_answers}
use Rattle.aio_core.specs.declared.went.Went as code
use Rattle.aio_core.specs.declared.went.Went.TheVariants as went
use Rattle.aio_core.specs.Turning.{AliveIfWent, AnyLeft, ComesTo, EndsFrom, EndsTelling, Is, IsAtRest, IsFinished, IsMismatch, NextIs, NoneLeft, StallsAs}
use Rattle.aio_core.specs.Turning.{Turned, UnlessFailed, changed_by, resting, said_by, stood_by, turning}
use Rattle.aio_core.proofs.Asking.{stalls_stopped, still_after}

-- ---- the answers that were had
pub entries_map : (had : List Exchange) → entries_of had ≡ map Answered (answers_of had)
entries_map [] = refl
entries_map (it ∷ had) = ap (λ es. Answered it.answer ∷ es) (entries_map had)

one_more : (had : List Exchange) (answer : Answer) (rest : List Entry)
    → entries_of had ++ Answered answer ∷ rest ≡ map Answered (answers_of had ++ answer ∷ []) ++ rest
one_more [] answer rest = refl
one_more (it ∷ had) answer rest = ap (λ es. Answered it.answer ∷ es) (one_more had answer rest)

module _ {X W : Type 0} (a : Added X) (o : Outside W) (old new : RunState X) (was is : W) where
  abbrev To : code.Went → Type 0
  To said = ComesTo a.meaning (o.seen was) (o.seen is) (changed_by a old new) said

  module _ (had : List Exchange) where
    abbrev answers : List Answer
    answers = answers_of had

    -- a state that is stood for over the answers that were had
    between_so : (past : List Event) (rest : List Entry) (s : State a.Kept) (r : IsAtRest a past (map Answered answers ++ rest) old s)
        → IsBetween (before had (resting a past rest r.0)) old s
    between_so past rest s r =
        subst (λ es. IsBetween (resting a past (es ++ rest) r.0) old s) (sym (entries_map had)) r.1

    takes_so : exchange.Takes had (o.seen was).left (o.seen is).left
        → (rest : List Entry) → Agrees (o.seen is).left rest → Agrees (o.seen was).left (map Answered answers ++ rest)
    takes_so takes rest h = subst (λ es. Agrees (o.seen was).left (es ++ rest)) (entries_map had) (takes rest h)

    -- ---- it goes on, or the run is over
    module _ (said : code.Went) (exchanged : ExchangedOn o had All was is)
        (comes : (c : Context a) (s : State a.Kept) → IsBetween (before had c) old s
        → (bar : ℕ) × Turned (record c { left = 0; bar = bar }) new said (turn step_limit a.meaning s)) where
      abbrev Each : code.Went → Type 0
      Each it =
          (c : Context a) (s : State a.Kept) → IsBetween (before had c) old s
          → (bar : ℕ) × Turned (record c { left = 0; bar = bar }) new it (turn step_limit a.meaning s)

      goes_at : (past : List Event) (rest : List Entry) (bar : ℕ) (w : Went a.Kept) → Turned (resting a past rest bar) new went.Went w
          → (now : State a.Kept) × ((w ≡ Goes now) × IsAtRest a past rest new now)
      goes_at past rest bar (Goes now) t = (now, (refl, (bar, t)))
      goes_at past rest bar (Stops how last) t = absurd t

      finishes_at : (outcome : Outcome) (past : List Event) (rest : List Entry) (bar : ℕ) (s : State a.Kept) (w : Went a.Kept)
          → turn step_limit a.meaning s ≡ w → Turned (resting a past rest bar) new (went.Finished outcome) w
          → EndsTelling a.meaning (IsFinished outcome (length new.slots.items)) past new.events.events s
      finishes_at outcome past rest bar s (Goes now) e t = absurd t
      finishes_at outcome past rest bar s (Stops how last) e t =
          record { end = how; last = last; way = (t.0, t.1.1); stops = e; told = t.1.0 }

      runs_at : (task : ℕ) (past : List Event) (rest : List Entry) (bar : ℕ) (s : State a.Kept) (w : Went a.Kept)
          → turn step_limit a.meaning s ≡ w → Turned (resting a past rest bar) new (went.Runaway task) w
          → EndsTelling a.meaning (Is (end.Runaway task)) past new.events.events s
      runs_at task past rest bar s (Goes now) e t = absurd t
      runs_at task past rest bar s (Stops how last) e t = record { end = how; last = last; way = t.0; stops = e; told = t.1 }

      none_stalled : (c : Context a) (w : Went a.Kept) → Turned c new went.Stalled w → ⊥
      none_stalled c (Goes now) t = t
      none_stalled c (Stops how last) t = t

      none_stopped : (why : Stop) (c : Context a) (w : Went a.Kept) → Turned c new (went.Stopped why) w → ⊥
      none_stopped why c (Goes now) t = t
      none_stopped why c (Stops how last) t = t

      goes_between : (c : Context a) (w : Went a.Kept) → Turned c new went.Went w → (now : State a.Kept) × IsBetween c new now
      goes_between c (Goes now) t = (now, t)
      goes_between c (Stops how last) t = absurd t

      -- some state is stood for
      some : Possible a IsBetween old → ∥ ((c : Context a) × ((s : State a.Kept) × IsBetween (before had c) old s)) ∥₁
      some alive =
          ∥∥₁_map alive (λ w. (
            w.0,
            (
              with_answers (entries_of had ++ w.0.answers) w.1.0,
              between_again (entries_of had ++ w.0.answers) w.0 old w.1.0 w.1.1,
            ),
          ))

      never : (it : code.Went) → Each it → Possible a IsBetween old → ((c : Context a) (w : Went a.Kept) → Turned c new it w → ⊥) → ⊥
      never it each alive refutes =
          ∥∥₁_elim (some alive) (λ x y. absurd x) (λ w.
          let t = each w.0 w.1.0 w.1.1 in
          refutes (record w.0 { left = 0; bar = t.0 }) (turn step_limit a.meaning w.1.0) t.1)

      went_so : Possible a IsBetween old → To said × (StallsAs false said × AliveIfWent a said new)
      went_so alive = at said comes
        where
          at : (it : code.Went) → Each it → To it × (StallsAs false it × AliveIfWent a it new)
          at went.Went each = (
            (
              answers,
              (
                takes_so exchanged.leaves,
                λ past rest s r.
                    let t = each (resting a past rest r.0) s (between_so past rest s r) in
                    goes_at past rest t.0 (turn step_limit a.meaning s) t.1,
              ),
            ),
            (
              refl,
              ∥∥₁_map (some alive) (λ w.
                  let t = each w.0 w.1.0 w.1.1 in
                  (record w.0 { left = 0; bar = t.0 }, goes_between (record w.0 { left = 0; bar = t.0 }) (turn step_limit a.meaning w.1.0) t.1)),
            ),
          )
          at (went.Finished outcome) each = (
            (
              answers,
              (
                takes_so exchanged.leaves,
                λ past rest s any r.
                    let t = each (resting a past rest r.0) s (between_so past rest s r) in
                    finishes_at outcome past rest t.0 s (turn step_limit a.meaning s) refl t.1,
              ),
            ),
            (refl, tt),
          )
          at (went.Runaway task) each = (
            (
              answers,
              (
                takes_so exchanged.leaves,
                λ past rest s any r.
                    let t = each (resting a past rest r.0) s (between_so past rest s r) in
                    runs_at task past rest t.0 s (turn step_limit a.meaning s) refl t.1,
              ),
            ),
            (refl, tt),
          )
          at went.Stalled each = absurd (never went.Stalled each alive (λ c w t. none_stalled c w t))
          at (went.Stopped why) each = absurd (never (went.Stopped why) each alive (λ c w t. none_stopped why c w t))

    -- ---- a call has no answer that fits
    abbrev Stopped : Last → Stop → Type 0
    Stopped last why =
        (c : Context a) (s : State a.Kept) → IsBetween (before had c) old s → RestFits last c.answers
        → StopsWith Stops why c.past new.events.events (turn step_limit a.meaning s)

    ends_so : (last : Last) (why : Stop) → Stopped last why → (left : List Entry → Type 0) → ((rest : List Entry) → left rest → RestFits last rest)
        → (ways : End → State a.Kept → Type 0) → ((how : End) (final : State a.Kept) → EndsAs why how final → ways how final)
        → EndsFrom a.meaning answers left ways (stood_by a old) new.events.events
    ends_so last why stops left fits ways way past rest s l r =
        let it = stops (resting a past rest r.0) s (between_so past rest s r) (fits rest l) in
        record { end = it.end; last = it.last; way = way it.end it.last it.way; stops = it.stops; told = it.told }

    misfits_so : (call : Call) (answer : Answer) (count : ℕ) → Stopped (Met call (reply.Got answer)) (stop.Mismatch count call)
        → EndsFrom a.meaning (answers ++ answer ∷ []) AnyLeft (IsMismatch count call) (stood_by a old) new.events.events
    misfits_so call answer count stops past rest s any r =
        let it = stops (resting a past (Answered answer ∷ rest) r.0) s
        (subst (λ es. IsBetween (resting a past es r.0) old s) (sym (one_more had answer rest)) r.1) (rest, refl) in
        record { end = it.end; last = it.last; way = it.way; stops = it.stops; told = it.told }

    stopped_so : (call : Call) (said : Reply) (why : Stop) → ExchangedOn o had (Met call said) was is
        → StopsAs (Met call said) new.events.answers why → Stopped (Met call said) why → To (went.Stopped why)
    stopped_so call reply.Over why exchanged e stops =
        subst (λ w. To (went.Stopped w)) (sym e) (
          answers,
          (
            subst (Agrees (o.seen was).left) (entries_map had) exchanged.leaves.0,
            ends_so (Met call reply.Over) (stop.Over call) (subst (Stopped (Met call reply.Over)) e stops) NoneLeft (λ rest l. l) (Is (end.Over call))
                (λ how final way. way),
          ),
        )
    stopped_so call (reply.Bad fault) why exchanged e stops =
        subst (λ w. To (went.Stopped w)) (sym e) (
          answers,
          (
            (
              exchanged.leaves.0.0,
              subst (λ es. Agrees (o.seen was).left (es ++ refused_of fault ∷ exchanged.leaves.0.0)) (entries_map had) exchanged.leaves.0.1,
            ),
            ends_so (Met call (reply.Bad fault)) (stop.Bad fault) (subst (Stopped (Met call (reply.Bad fault))) e stops) (NextIs (refused_of fault))
                (λ rest l. l) (Is (end.JournalRefused fault.line fault.cause)) (λ how final way. way),
          ),
        )
    stopped_so call reply.Failed why exchanged e stops =
        subst (λ w. To (went.Stopped w)) (sym e) (
          answers,
          (
            takes_so exchanged.leaves,
            ends_so (Met call reply.Failed) (stop.Failed call) (subst (Stopped (Met call reply.Failed)) e stops) NoneLeft (λ rest l. l)
                (Is (end.Over call)) (λ how final way. way),
            exchanged.failed,
          ),
        )
    stopped_so call (reply.Got answer) why exchanged e stops =
        subst (λ w. To (went.Stopped w)) (sym e) (
          answers ++ answer ∷ [],
          (
            λ rest h. subst (Agrees (o.seen was).left) (one_more had answer rest) (exchanged.leaves rest h),
            misfits_so call answer new.events.answers (subst (Stopped (Met call (reply.Got answer))) e stops),
          ),
        )

  -- ---- the whole
  pub comes_to : (result : Result code.Went Stop) → Comes o (turning a old new) (ported was old.events) (ported is new.events) result
      → Possible a IsBetween old → To (said_by result) × (StallsAs false (said_by result) × AliveIfWent a (said_by result) new)
  comes_to result h alive = at h.last result h.exchanged h.comes
    where
      at : (last : Last) (result : Result code.Went Stop) → ExchangedOn o h.had last was is
          → ComesBy (turning a old new) h.had last old.events new.events result
          → To (said_by result) × (StallsAs false (said_by result) × AliveIfWent a (said_by result) new)
      at All (Ok said) exchanged comes = went_so h.had said exchanged (λ c s b. (comes c s b).1) alive
      at (Met call said) (Err why) exchanged comes = (
        stopped_so h.had call said why exchanged comes.0 (λ c s b fits. (comes.1 c s b fits).1),
        (stalls_stopped why, tt),
      )
      at Starved (Err why) exchanged comes =
          subst (λ w. To (went.Stopped w) × (StallsAs false (went.Stopped w) × AliveIfWent a (went.Stopped w) new)) (sym comes.0) (tt, (tt, tt))
      at All (Err why) exchanged comes = absurd comes
      at (Met call said) (Ok it) exchanged comes = absurd comes
      at Starved (Ok said) exchanged comes = absurd comes

  -- what holds as long as the wire doesn't fail
  pub still_so : (fact : Type 0) (result : Result code.Went Stop) → (h : Comes o (turning a old new) (ported was old.events) (ported is new.events) result)
      → exchange.UnlessFailed fact h.last → UnlessFailed fact (said_by result)
  still_so fact result h still = at h.last result h.comes still
    where
      at : (last : Last) (result : Result code.Went Stop) → ComesBy (turning a old new) h.had last old.events new.events result
          → exchange.UnlessFailed fact last → UnlessFailed fact (said_by result)
      at All (Ok said) comes still = still_after fact said still
      at (Met call (reply.Got answer)) (Err why) comes still = still_after fact (went.Stopped why) still
      at (Met call reply.Over) (Err why) comes still = still_after fact (went.Stopped why) still
      at (Met call (reply.Bad fault)) (Err why) comes still = still_after fact (went.Stopped why) still
      at (Met call reply.Failed) (Err why) comes still = subst (λ w. UnlessFailed fact (went.Stopped w)) (sym comes.0) tt
      at Starved (Err why) comes still = still_after fact (went.Stopped why) still
      at All (Err why) comes still = absurd comes
      at (Met call reply) (Ok said) comes still = absurd comes
      at Starved (Ok said) comes still = absurd comes
