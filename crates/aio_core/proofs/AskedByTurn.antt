-- What a turn asked of the wire, by its exchanges: what was noted in it; and where memory was refused, what the machine's turn begins with.
use Rattle.std.proofs.Common.{◌≡◌, ◌⊎◌, inl, inr, ℕ, Bool, true, false, if◌then◌else◌, List, [], ◌∷◌, ◌++◌, Option, Some, Result, Ok, Err, ◌∙◌, refl, sym}
use Rattle.std.proofs.Common.{ap, subst, append-nil}
use Rattle.std.proofs.Math.Path.{fun_ext}
use Rattle.model_says.specs.Says.{step_limit}
use Rattle.model_wire.specs.declared.event.Event.TheVariants as event
use Rattle.model_wire.specs.declared.event.Handed.{Handed}
use Rattle.model_wire.specs.Call.{Answer, Call}
use Rattle.model_wire.specs.Event.{Event, calls_in, handed_after as handed_last, handed_in}
use Rattle.model_wire.specs.Journal.{Entry, Answered}
use Rattle.model_wire.specs.Fits.{fits}
use Rattle.model_wire.specs.Told.{Agrees, WireSeen}
use Rattle.model_machine.specs.Extra.{Extra}
use Rattle.model_machine.specs.State.{State}
use Rattle.model_machine.specs.Turn.{turn}
use Rattle.model_machine.specs.Went.{Went, Goes, Stops, state_of}
use Rattle.law_runs.proofs.Turns.{turn-grows}
use Rattle.aio_wire.specs.EventList.{EventList}
use Rattle.aio_wire.specs.Outside.{Outside}
use Rattle.aio_wire.specs.Port.{Exchanges, StopsShort, outcome_of, ported}
use Rattle.aio_wire.specs.Replied.{MayHaveReplied, Replied}
use Rattle.aio_wire.specs.Told.{refused_of}
use Rattle.aio_wire.specs.declared.stop.Stop.{Stop}
use Rattle.aio_wire.specs.declared.stop.Stop.TheVariants as stop
use Rattle.aio_wire.specs.declared.wire.Reply.{Reply}
use Rattle.aio_wire.specs.declared.wire.Reply.TheVariants as reply
use Rattle.aio_exchange.proofs.Exchanging.{agreed}
use Rattle.aio_exchange.specs.Among.{AreTold, ExchangedOn, asks_among, told_by, told_last}
use Rattle.aio_exchange.specs.Exchanged.{Exchange, IsOneMore, Last, All, Met, Starved, StopsAs}
use Rattle.aio_exchange.specs.Exchanged.{answers_of, asked_by, bytes_last, bytes_to, called_last, calls_of, entries_of, handed_to}
use Rattle.aio_extra.specs.Added.{Added}
use Rattle.aio_body.specs.declared.run_state.RunState.{RunState}
use Rattle.aio_body.specs.Asking.{Comes, ComesBy, EventsGrow, RestFits, StopsWith, before}
use Rattle.aio_body.specs.Stands.{Context, IsBetween}
use Rattle.aio_body.proofs.Answering.{between_again}
use Rattle.aio_body.specs.Answers.{with_answers}
use Rattle.aio_core.specs.declared.went.Went as code
use Rattle.aio_core.specs.declared.went.Went.TheVariants as went
use Rattle.aio_core.specs.Asked.{Asks, AsksOnce}
use Rattle.aio_core.specs.Turning.{AsksBy, IsAtRest, IsStarved, StarvesAs, Stood, Turned, WireTurn, resting, said_by, stood_by, turning, wire_turn}
use Rattle.aio_core.proofs.Asked.{bytes-append, calls-append, last_in, asks_replied, maybe_once, noted_after, noted_by}
use Rattle.aio_core.proofs.Coming.{entries_map}

-- ---- events that tell of asks
calls_among : (events : List Event) → calls_in events ≡ calls_in (asks_among events)
calls_among [] = refl
calls_among (event.Called call ∷ events) = ap (λ cs. call ∷ cs) (calls_among events)
calls_among (event.Got answer ∷ events) = calls_among events
calls_among (event.Ran action ∷ events) = calls_among events
calls_among (event.Said task text ∷ events) = calls_among events

bytes_among : (events : List Event) (called : Option Call) (to : Handed) → handed_in events called to ≡ handed_in (asks_among events) called to
bytes_among [] called to = refl
bytes_among (event.Called call ∷ events) called to = bytes_among events (Some call) to
bytes_among (event.Got answer ∷ events) called to = ap (λ bs. handed_last called answer to ++ bs) (bytes_among events called to)
bytes_among (event.Ran action ∷ events) called to = bytes_among events called to
bytes_among (event.Said task text ∷ events) called to = bytes_among events called to

calls_told : (had : List Exchange) → calls_in (told_by had) ≡ calls_of had
calls_told [] = refl
calls_told (it ∷ had) = ap (λ cs. it.call ∷ cs) (calls_told had)

bytes_told : (had : List Exchange) (called : Option Call) (to : Handed) → handed_in (told_by had) called to ≡ bytes_to had to
bytes_told [] called to = refl
bytes_told (it ∷ had) called to = ap (λ bs. handed_last (Some it.call) it.answer to ++ bs) (bytes_told had (Some it.call) to)

calls_last : (last : Last) → calls_in (told_last last) ≡ called_last last
calls_last All = refl
calls_last Starved = refl
calls_last (Met call (reply.Got answer)) = refl
calls_last (Met call reply.Over) = refl
calls_last (Met call (reply.Bad fault)) = refl
calls_last (Met call reply.Failed) = refl

bytes_of_last : (last : Last) (called : Option Call) (to : Handed) → handed_in (told_last last) called to ≡ bytes_last last to
bytes_of_last All called to = refl
bytes_of_last Starved called to = refl
bytes_of_last (Met call (reply.Got answer)) called to = append-nil (handed_last (Some call) answer to)
bytes_of_last (Met call reply.Over) called to = refl
bytes_of_last (Met call (reply.Bad fault)) called to = refl
bytes_of_last (Met call reply.Failed) called to = refl

module _ (had : List Exchange) (last : Last) (more : List Event) (tells : asks_among more ≡ told_by had ++ told_last last) where
  calls_so : calls_in more ≡ calls_of had ++ called_last last
  calls_so =
      calls_among more ∙ ap calls_in tells ∙ calls-append (told_by had) (told_last last)
      ∙ ap (λ cs. cs ++ calls_in (told_last last)) (calls_told had) ∙ ap (λ cs. calls_of had ++ cs) (calls_last last)

  bytes_so : (called : Option Call) (to : Handed) → handed_in more called to ≡ bytes_to had to ++ bytes_last last to
  bytes_so called to =
      bytes_among more called to ∙ ap (λ es. handed_in es called to) tells ∙ bytes-append (told_by had) (told_last last) called to
      ∙ ap (λ bs. bs ++ handed_in (told_last last) (last_in (told_by had) called) to) (bytes_told had called to)
      ∙ ap (λ bs. bytes_to had to ++ bs) (bytes_of_last last (last_in (told_by had) called) to)

  -- what was asked is what they tell
  told_asks : (before after : WireSeen) → after.asked ≡ asked_by (calls_of had ++ called_last last) before.asked
      → after.handed ≡ handed_to (λ to. bytes_to had to ++ bytes_last last to) before.handed → Asks more before after
  told_asks before after calls bytes = record {
    asked = calls ∙ ap (λ cs. asked_by cs before.asked) (sym calls_so);
    handed = λ called. bytes ∙ ap (λ f. handed_to f before.handed) (fun_ext (λ to. sym (bytes_so called to)));
  }

-- and one call more
one_more_asks : (had : List Exchange) (first : List Event) → asks_among first ≡ told_by had ++ [] → (before after : WireSeen) (it : IsOneMore had before after)
    → Asks (first ++ it.more) before after
one_more_asks had first tells before after it = record {
  asked =
      it.asks
      ∙ ap (λ cs. asked_by cs before.asked)
      (ap (λ cs. cs ++ calls_in it.more) (sym (append-nil (calls_of had)) ∙ sym (calls_so had All first tells)) ∙ sym (calls-append first it.more));
  handed = λ called.
      it.hands (last_in first called)
      ∙ ap (λ f. handed_to f before.handed) (fun_ext (λ to.
      ap (λ bs. bs ++ handed_in it.more (last_in first called) to) (sym (append-nil (bytes_to had to)) ∙ sym (bytes_so had All first tells called to))
      ∙ sym (bytes-append first it.more called to)));
}

-- ---- by what was said of the turn
abbrev Noted : (was is : List Event) → (before after : WireSeen) → Type 0
Noted was is before after = (told : List Event) × ((is ≡ was ++ told) × Asks told before after)

noted_asks : (was is : List Event) (before after : WireSeen) (said : code.Went) → Noted was is before after → AsksBy was is before after said
noted_asks was is before after went.Went noted = noted
noted_asks was is before after (went.Finished outcome) noted = noted
noted_asks was is before after went.Stalled noted = noted
noted_asks was is before after (went.Runaway task) noted = noted
noted_asks was is before after (went.Stopped (stop.Over call)) noted = noted
noted_asks was is before after (went.Stopped (stop.Bad fault)) noted = noted
noted_asks was is before after (went.Stopped (stop.Mismatch count call)) noted = noted
noted_asks was is before after (went.Stopped (stop.Failed call)) noted = noted
noted_asks was is before after (went.Stopped stop.Memory) noted = tt

not_starved : {S : Type 0} (added : Extra S) (wire : WireTurn) (old : Stood S) (untaken : List Event) (said : code.Went) → (said ≡ went.Stopped stop.Memory → ⊥)
    → StarvesAs added wire old untaken said
not_starved added wire old untaken went.Went other = tt
not_starved added wire old untaken (went.Finished outcome) other = tt
not_starved added wire old untaken went.Stalled other = tt
not_starved added wire old untaken (went.Runaway task) other = tt
not_starved added wire old untaken (went.Stopped (stop.Over call)) other = tt
not_starved added wire old untaken (went.Stopped (stop.Bad fault)) other = tt
not_starved added wire old untaken (went.Stopped (stop.Mismatch count call)) other = tt
not_starved added wire old untaken (went.Stopped (stop.Failed call)) other = tt
not_starved added wire old untaken (went.Stopped stop.Memory) other = absurd (other refl)

-- no answer that doesn't fit is a want of memory
met_other : (call : Call) (said : Reply) (count : ℕ) (why : Stop) → StopsAs (Met call said) count why → went.Stopped why ≡ went.Stopped stop.Memory → ⊥
met_other call (reply.Got answer) count why is e = cc (sym (ap went.Stopped is) ∙ e)
met_other call reply.Over count why is e = cc (sym (ap went.Stopped is) ∙ e)
met_other call (reply.Bad fault) count why is e = cc (sym (ap went.Stopped is) ∙ e)
met_other call reply.Failed count why is e = cc (sym (ap went.Stopped is) ∙ e)

none_starves : {X : Type 0} {a : Added X} (c : Context a) (new : RunState X) (said : code.Went) (w : Went a.Kept) → Turned c new said w
    → said ≡ went.Stopped stop.Memory → ⊥
none_starves c new said (Goes now) t is = subst (λ s. Turned c new s (Goes now)) is t
none_starves c new said (Stops how last) t is = subst (λ s. Turned c new s (Stops how last)) is t

-- ---- the select has no answer that fits
pub stop_asks : (call : Call) (old new : EventList) (before after : WireSeen) (result : Result Answer Stop) (why : Stop) → result ≡ Err why
    → ((said : Reply) × Exchanges call old new result said × Replied call before after said)
    ⊎ (StopsShort old new result × MayHaveReplied call before after)
    → AsksBy old.events new.events before after (went.Stopped why)
stop_asks call old new before after result why e (inl (said, exchanged, replied)) =
    noted_asks old.events new.events before after (went.Stopped why) (
      noted_by call said,
      (
        ap (λ (l : EventList). l.events) exchanged.0 ∙ noted_after old call said,
        asks_replied call said before after replied,
      ),
    )
stop_asks call old new before after result why e (inr short) =
    subst (λ w. AsksBy old.events new.events before after (went.Stopped w)) (err_same stop.Memory why (sym short.0.0 ∙ e)) tt
  where
    err_same : (a b : Stop) → ◌≡◌ {A = Result Answer Stop} (Err a) (Err b) → a ≡ b
    err_same a b e = cc

-- ---- memory was refused in the select, or before it
module _ {X : Type 0} (a : Added X) (old : RunState X) where
  -- the machine's turn begins with what was told before it
  grown : (past : List Event) (rest : List Entry) (s : State a.Kept) → IsAtRest a past rest old s
      → EventsGrow (past ++ (old.events.events ++ [])) (state_of (turn step_limit a.meaning s)).events
  grown past rest s r =
      subst (λ es. EventsGrow es (state_of (turn step_limit a.meaning s)).events)
      (r.1.stands.events ∙ ap (λ es. past ++ es) (sym (append-nil old.events.events))) (turn-grows step_limit a.meaning s)

  -- where one call was asked at most
  pub once_starves : (wire : WireTurn) → AsksOnce wire.before wire.after
      → IsStarved a.meaning wire (stood_by a old) old.events.events
  once_starves wire once = record {
    had = [];
    left = agreed wire.before.left;
    first = [];
    begins = grown;
    more = once.0;
    one = once.1;
    asks = once.2;
    failing = λ fails. refl;
  }

  pub select_starves : (call : Call) (wire : WireTurn) → MayHaveReplied call wire.before wire.after
      → IsStarved a.meaning wire (stood_by a old) old.events.events
  select_starves call wire may = once_starves wire (maybe_once call wire.before wire.after may)

  pub stop_starves : (call : Call) (events : EventList) (wire : WireTurn) (result : Result Answer Stop) (why : Stop) → result ≡ Err why
      → ((said : Reply) × Exchanges call old.events events result said × Replied call wire.before wire.after said)
      ⊎ (StopsShort old.events events result × MayHaveReplied call wire.before wire.after)
      → StarvesAs a.meaning wire (stood_by a old) old.events.events (went.Stopped why)
  stop_starves call events wire result stop.Memory e (inr short) = select_starves call wire short.1
  stop_starves call events wire result stop.Memory e (inl (said, exchanged, replied)) = absurd (never said (sym e ∙ exchanged.1))
    where
      unfit : (b : Bool) (answer : Answer)
          → ◌≡◌ {A = Result Answer Stop} (Err stop.Memory) (if b then Ok answer else Err (stop.Mismatch events.answers call)) → ⊥
      unfit true answer e = cc e
      unfit false answer e = cc e

      never : (said : Reply) → ◌≡◌ {A = Result Answer Stop} (Err stop.Memory) (outcome_of call events.answers said) → ⊥
      never (reply.Got answer) e = unfit (fits call answer) answer e
      never reply.Over e = cc e
      never (reply.Bad fault) e = cc e
      never reply.Failed e = cc e
  stop_starves call events wire result (stop.Over other) e asks = tt
  stop_starves call events wire result (stop.Bad fault) e asks = tt
  stop_starves call events wire result (stop.Mismatch count other) e asks = tt
  stop_starves call events wire result (stop.Failed other) e asks = tt

-- ---- a turn, by what it comes to
module _ {X W : Type 0} (a : Added X) (o : Outside W) (old new : RunState X) (was is : W) where
  -- a state that has these answers left
  pub there : (had : List Exchange) (past : List Event) (answers rest : List Entry) (s : State a.Kept) → (r : IsAtRest a past answers old s)
      → IsBetween (before had (resting a past rest r.0)) old (with_answers (entries_of had ++ rest) s)
  there had past answers rest s r = between_again (entries_of had ++ rest) (resting a past answers r.0) old s r.1

  noted : (had : List Exchange) (last : Last) → (o.seen is).asked ≡ asked_by (calls_of had ++ called_last last) (o.seen was).asked
      → (o.seen is).handed ≡ handed_to (λ to. bytes_to had to ++ bytes_last last to) (o.seen was).handed
      → AreTold had last old.events.events new.events.events → Noted old.events.events new.events.events (o.seen was) (o.seen is)
  noted had last calls bytes told = (told.more, (told.adds, told_asks had last told.more told.tells (o.seen was) (o.seen is) calls bytes))

  -- where memory was refused
  abbrev GoesBy : List Exchange → List Event → Type 0
  GoesBy had mid =
      (c : Context a) (s : State a.Kept) → IsBetween (before had c) old s
      → AreTold had All old.events.events mid × EventsGrow (c.past ++ mid) (state_of (turn step_limit a.meaning s)).events

  starved_by : (had : List Exchange) → ExchangedOn o had Starved was is → (mid : List Event) → GoesBy had mid
      → (past : List Event) (answers : List Entry) (s : State a.Kept) → IsAtRest a past answers old s
      → IsStarved a.meaning (wire_turn o was is) (stood_by a old) old.events.events
  starved_by [] exchanged mid goes past answers s r = record {
    had = [];
    left = exchanged.leaves;
    first = [];
    begins = grown a old;
    more = exchanged.besides.more;
    one = exchanged.besides.one;
    asks = one_more_asks [] [] refl (o.seen was) (o.seen is) exchanged.besides;
    failing = λ fails. refl;
  }
  starved_by (it ∷ had) exchanged mid goes past answers s r =
      let told = (goes (resting a past [] r.0) (with_answers (entries_of (it ∷ had) ++ []) s) (there (it ∷ had) past answers [] s r)).0 in record {
        had = answers_of (it ∷ had);
        left = (
          exchanged.leaves.0,
          subst (λ es. Agrees (o.seen was).left (es ++ exchanged.leaves.0)) (entries_map (it ∷ had)) exchanged.leaves.1,
        );
        first = told.more;
        begins = λ before_ rest t b.
            subst (λ es. EventsGrow (before_ ++ es) (state_of (turn step_limit a.meaning t)).events) told.adds
            (goes (resting a before_ rest b.0) t
            (subst (λ es. IsBetween (resting a before_ (es ++ rest) b.0) old t) (sym (entries_map (it ∷ had))) b.1)).1;
        more = exchanged.besides.more;
        one = exchanged.besides.one;
        asks = one_more_asks (it ∷ had) told.more told.tells (o.seen was) (o.seen is) exchanged.besides;
        failing = λ fails. absurd (let none = (exchanged.failing fails).0 in cc none);
      }

  module _ (result : Result code.Went Stop) (h : Comes o (turning a old new) (ported was old.events) (ported is new.events) result)
      (past : List Event) (answers : List Entry) (s : State a.Kept) (r : IsAtRest a past answers old s) where
    -- from a state that has what was had, and then these
    abbrev StopsThere : Last → Stop → Type 0
    StopsThere last why =
        (c : Context a) (t : State a.Kept) → IsBetween (before h.had c) old t → RestFits last c.answers
        → AreTold h.had last old.events.events new.events.events × StopsWith Stops why c.past new.events.events (turn step_limit a.meaning t)

    told_stop : (last : Last) (why : Stop) (rest : List Entry) → RestFits last rest → StopsThere last why
        → AreTold h.had last old.events.events new.events.events
    told_stop last why rest fits stops =
        (stops (resting a past rest r.0) (with_answers (entries_of h.had ++ rest) s) (there h.had past answers rest s r) fits).0

    abbrev Asked : code.Went → Type 0
    Asked said = AsksBy old.events.events new.events.events (o.seen was) (o.seen is) said

    pub asked_in : AsksBy old.events.events new.events.events (o.seen was) (o.seen is) (said_by result)
    asked_in = at h.last result h.exchanged h.comes
      where
        stopped : (call : Call) (said : Reply) (why : Stop) → ExchangedOn o h.had (Met call said) was is
            → AreTold h.had (Met call said) old.events.events new.events.events → Asked (went.Stopped why)
        stopped call said why exchanged told =
            noted_asks old.events.events new.events.events (o.seen was) (o.seen is) (went.Stopped why)
            (noted h.had (Met call said) exchanged.asks exchanged.hands told)

        at : (last : Last) (result : Result code.Went Stop) → ExchangedOn o h.had last was is
            → ComesBy (turning a old new) h.had last old.events new.events result → Asked (said_by result)
        at All (Ok said) exchanged comes =
            noted_asks old.events.events new.events.events (o.seen was) (o.seen is) said
            (noted h.had All exchanged.asks exchanged.hands
            (comes (resting a past [] r.0) (with_answers (entries_of h.had ++ []) s) (there h.had past answers [] s r)).0)
        at (Met call reply.Over) (Err why) exchanged comes =
            stopped call reply.Over why exchanged (told_stop (Met call reply.Over) why [] refl comes.1)
        at (Met call reply.Failed) (Err why) exchanged comes =
            stopped call reply.Failed why exchanged (told_stop (Met call reply.Failed) why [] refl comes.1)
        at (Met call (reply.Bad fault)) (Err why) exchanged comes =
            stopped call (reply.Bad fault) why exchanged (told_stop (Met call (reply.Bad fault)) why (refused_of fault ∷ []) ([], refl) comes.1)
        at (Met call (reply.Got it)) (Err why) exchanged comes =
            stopped call (reply.Got it) why exchanged (told_stop (Met call (reply.Got it)) why (Answered it ∷ []) ([], refl) comes.1)
        at Starved (Err why) exchanged comes = subst (λ w. Asked (went.Stopped w)) (sym comes.0) tt
        at All (Err why) exchanged comes = absurd comes
        at (Met call said) (Ok it) exchanged comes = absurd comes
        at Starved (Ok said) exchanged comes = absurd comes

    pub starved_in : StarvesAs a.meaning (wire_turn o was is) (stood_by a old) old.events.events (said_by result)
    starved_in = at h.last result h.exchanged h.comes
      where
        at : (last : Last) (result : Result code.Went Stop) → ExchangedOn o h.had last was is
            → ComesBy (turning a old new) h.had last old.events new.events result
            → StarvesAs a.meaning (wire_turn o was is) (stood_by a old) old.events.events (said_by result)
        at All (Ok said) exchanged comes =
            let it = (comes (resting a past [] r.0) (with_answers (entries_of h.had ++ []) s) (there h.had past answers [] s r)).1 in
            not_starved a.meaning (wire_turn o was is) (stood_by a old) old.events.events said
            (none_starves (resting a past [] it.0) new said (turn step_limit a.meaning (with_answers (entries_of h.had ++ []) s)) it.1)
        at (Met call said) (Err why) exchanged comes =
            not_starved a.meaning (wire_turn o was is) (stood_by a old) old.events.events (went.Stopped why)
            (met_other call said new.events.answers why comes.0)
        at Starved (Err why) exchanged comes =
            subst (λ w. StarvesAs a.meaning (wire_turn o was is) (stood_by a old) old.events.events (went.Stopped w)) (sym comes.0)
            (starved_by h.had exchanged comes.1.0 comes.1.1 past answers s r)
        at All (Err why) exchanged comes = absurd comes
        at (Met call said) (Ok it) exchanged comes = absurd comes
        at Starved (Ok said) exchanged comes = absurd comes
