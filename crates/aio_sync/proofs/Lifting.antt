-- What a call comes to, where the object stood for a state.
use Rattle.std.proofs.Common.{◌≡◌, ℕ, ℤ, ◌+◌, ◌<◌, ◌≤◌, ◌⊎◌, inl, inr, Bool, true, false, List, [], ◌∷◌, ◌++◌, Option, Some, None, length, slice_get}
use Rattle.std.proofs.Common.{refl, sym, ap, subst, ◌∙◌, arith}
use Rattle.std.proofs.Math.Logic.{∥∥₁_elim}
use Rattle.std.proofs.Props.{props}
use Rattle.std.proofs.lemmas.Bool.{and_from, false_from_ne_true, lt-ltb}
use Rattle.std.specs.Prelude.{if◌then◌else◌, is_none, is_some, nat_lt}
use Rattle.std.specs.List.{AllByRecursion as Each, list_all}
use Rattle.model_value.specs.Input.{Input}
use Rattle.model_value.specs.Value.{Exc, Value}
use Rattle.model_value.specs.declared.input.Input.TheVariants.{Send, Throw}
use Rattle.model_loop.specs.Futures.{future_outcome, is_pending, next_future}
use Rattle.model_loop.specs.Owning.{owner_at, owner_of}
use Rattle.model_loop.specs.Parts.{Parts}
use Rattle.model_says.specs.Operations.{out_of_range}
use Rattle.model_machine.specs.Arguments.{as_list}
use Rattle.model_machine.specs.Extra as extra
use Rattle.model_machine.specs.Extra.{Answers, ExtraAnswer, ExtraCall, ExtraSaid, ExtraStep, MakesPlain, Raises, Settles, called}
use Rattle.model_machine.specs.Sound.{IsOwned, ids_of, sends_made}
use Rattle.model_machine.specs.State.{State}
use Rattle.model_reach.specs.Part.{can_draw, only_says, passes, place_of, refuses, stays}
use Rattle.model_sync.specs.Synced.{Acquires, Awaits, Gets, Puts, Synced, Waiting, next_key, sync_keeps, sync_part, waiting_at}
use Rattle.model_sync.specs.Locks.{acquired}
use Rattle.model_sync.specs.Events.{waited}
use Rattle.model_sync.specs.Queues.{getting, putting}
use Rattle.model_sync.specs.Serving.{Acquire, Clear, Get, IsLocked, IsSet, MakesEvent, MakesLock, MakesQueue, Put, Release, Set, Size, Wait, Wanted, asked_for}
use Rattle.model_sync.specs.Serving.{named, served, sync_means, wanted_of, woken}
use Rattle.law_runs.specs.Allowed.{IsAmong, IsCallAllowed, IsSaidAllowed}
use Rattle.law_sync.proofs.Allowed.{sync_allowed}
use Rattle.law_sync.proofs.Comes.{AnswerHolds, Comes, GoesOn, PutsHold, Wakes, WaitsOn, acquired_comes, getting_comes, putting_comes, served_comes, waited_comes}
use Rattle.law_sync.proofs.Falling.{Any, any_each, any_holds}
use Rattle.law_sync.proofs.Holding.{Holds, holds_from}
use Rattle.law_sync.proofs.Lists.{among_each, each_all, each_from}
use Rattle.refine_parts.proofs.Telling.{next_kept, outcome_kept, owner_kept, pending_kept}
use Rattle.refine_added.proofs.Going.{steps_go}
use Rattle.refine_added.specs.Seen.{AreOlder, Goes}
use Rattle.aio_task.specs.Keeps.{NameMap}
use Rattle.aio_task.specs.View.{View, parts}
use Rattle.aio_extra.specs.declared.asked.Asked.{Asked}
use Rattle.aio_extra.specs.declared.asked.Asked.TheVariants.{Answer, Raise, Wait as WaitFor, Outside}
use Rattle.aio_extra.specs.Called.{AnswersAs, CallsAs, IsAskedOf, IsServed, MayAsk, MayServe, SaysAs}
use Rattle.law_runs.specs.Allowed.{owns_at}
use Rattle.aio_sync.specs.Added.{sync_added}
use Rattle.aio_sync.specs.Seen.{CallsSeen, Says, SaysSeen, kept_of, own_of}
use Rattle.aio_sync.specs.Woken.{are_free, is_free}
use Rattle.aio_sync.specs.declared.requests.Sync.{Sync}
use Rattle.aio_sync.proofs.Same.{asked_same, woken_same}

-- ---- what it may rely on
same_prop : (a b : Option ℕ) → IsProp (a ≡ b)
same_prop a b = hlevel props

true_prop : (a b : Bool) → IsProp (a ≡ b)
true_prop a b = hlevel props

pub idle : (running : Option ℕ) (x : Sync) (v : View) → MayServe sync_added running x v → v.called ≡ None
idle running x v m = ∥∥₁_elim m (same_prop v.called None) (λ w. w.1.1.called)

pub idle_ask : (task : ℕ) (futures : List ℕ) (arguments : Value) (x : Sync) (v : View) → MayAsk sync_added task futures arguments x v → v.called ≡ None
idle_ask task futures arguments x v m = ∥∥₁_elim m (same_prop v.called None) (λ w. w.1.1.1.served.called)

pub list_ask : (task : ℕ) (futures : List ℕ) (arguments : Value) (x : Sync) (v : View) → MayAsk sync_added task futures arguments x v
    → is_some (as_list arguments) ≡ true
list_ask task futures arguments x v m = ∥∥₁_elim m (true_prop (is_some (as_list arguments)) true) (λ w. ap is_some w.1.1.1.listed)

-- ---- what a definition comes to
abbrev IsOwnWait : ExtraAnswer → Synced → Type 0
IsOwnWait (extra.Waits future key) kept = IsAmong (sync_keeps kept).own future
IsOwnWait _ kept = Unit {0}

-- it gives up what was made before alone, and waits on a future of its own
pub record IsFit (p : Parts) (said : ExtraSaid Synced) : Type 0 where
  pub older : AreOlder p.next_tag said.call.steps
  pub waits : IsOwnWait said.answer said.call.state

raises_fit : (p : Parts) (kept : Synced) (exception : Exc) → IsFit p (refuses exception kept)
raises_fit p kept exception = record { older = tt; waits = tt }

passes_fit : (p : Parts) (kept : Synced) (input : Input) → IsFit p (only_says (passes input) kept)
passes_fit p kept (Send value) = record { older = tt; waits = tt }
passes_fit p kept (Throw exception) = record { older = tt; waits = tt }

wakes_older : (bound : ℕ) (steps : List ExtraStep) → Each (Wakes Any Any) steps → AreOlder bound steps
wakes_older bound [] all = tt
wakes_older bound (Settles future outcome ∷ steps) all = wakes_older bound steps all.1
wakes_older bound (_ ∷ steps) all = absurd all.0

answer_fit : (answer : ExtraAnswer) (kept : Synced) → AnswerHolds Any Any answer → IsOwnWait answer kept
answer_fit (Answers value) kept h = tt
answer_fit (Raises exception) kept h = tt
answer_fit (extra.Waits on key) kept h = absurd h
answer_fit (extra.Asks code bytes key) kept h = tt

comes_fit : (p : Parts) (next drawn key : ℕ) (said : ExtraSaid Synced) → Comes Any Any next drawn key said → IsFit p said
comes_fit p next drawn key said (inl g) = record {
  older = wakes_older p.next_tag said.call.steps g.steps;
  waits = answer_fit said.answer said.call.state g.answer;
}
comes_fit p next drawn key said (inr w) = record {
  older = subst (AreOlder p.next_tag) (sym w.steps) tt;
  waits = subst (λ answer. IsOwnWait answer said.call.state) (sym w.answer) w.there;
}

any_puts : (wanted : Wanted) → PutsHold Any wanted
any_puts (Put queue value) = tt
any_puts _ = tt

asked_fit : (code : ℤ) (o : Option (Option Wanted)) (p : Parts) (kept : Synced) → IsFit p (asked_for code o p kept)
asked_fit code None p kept = raises_fit p kept _
asked_fit code (Some None) p kept = raises_fit p kept _
asked_fit code (Some (Some wanted)) p kept = at (can_draw sync_part kept.drawn 1)
  where
    at : (b : Bool) → IsFit p (if b then served wanted p kept else refuses out_of_range kept)
    at true =
        comes_fit p (next_future p) (kept.drawn + 1) (next_key kept) (served wanted p kept)
        (served_comes Any Any tt (λ is. tt) (λ number. tt) p kept (any_holds kept) wanted (any_puts wanted))
    at false = raises_fit p kept out_of_range

module _ (key place : ℕ) (input : Input) (p : Parts) (kept : Synced) where
  named_fit : {A : Type 0} (o : Option A) (next : A → ExtraSaid Synced) → ((it : A) → Comes Any Any (next_future p) kept.drawn key (next it))
      → IsFit p (named o input next kept)
  named_fit None next comes = passes_fit p kept input
  named_fit (Some it) next comes = comes_fit p (next_future p) kept.drawn key (next it) (comes it)

  woken_fit : (o : Option Waiting) → waiting_at place kept ≡ o → IsFit p (woken o key place input p kept)
  woken_fit None e = passes_fit p kept input
  woken_fit (Some (Acquires id on)) e =
      named_fit (slice_get kept.locks id) (λ lock. acquired place id on input lock kept)
      (λ lock. acquired_comes Any Any tt (λ is. tt) (λ number. tt) p kept (any_holds kept) key place id on input lock (any_each lock.waiters))
  woken_fit (Some (Awaits id on)) e =
      named_fit (slice_get kept.events id) (λ event. waited place id on input event kept)
      (λ event. waited_comes Any Any tt (λ is. tt) (λ number. tt) p kept (any_holds kept) key place id on input event (any_each event.waiters))
  woken_fit (Some (Puts id value on)) e =
      named_fit (slice_get kept.queues id) (λ queue. putting key place id on value input queue p kept)
      (λ queue. putting_comes Any Any tt (λ is. tt) (λ number. tt) p kept (any_holds kept) key place id on value tt input queue
      (record { values = any_each queue.values; getters = any_each queue.getters; putters = any_each queue.putters }) (Puts id value on) e)
  woken_fit (Some (Gets id on)) e =
      named_fit (slice_get kept.queues id) (λ queue. getting key place id on input queue p kept)
      (λ queue. getting_comes Any Any tt (λ is. tt) (λ number. tt) p kept (any_holds kept) key place id on input queue
      (record { values = any_each queue.values; getters = any_each queue.getters; putters = any_each queue.putters }) (Gets id on) e)

module _ (running : Option ℕ) (t : NameMap) (s : State Synced) (x : Sync) (v : View) (h : IsServed sync_added running t s x v) where
  abbrev p : Parts
  p = s.loop.parts

  abbrev Here : ℕ → Type 0
  Here id = t.gone id ≡ false

  all_here : Holds Here Any s.extra
  all_here = holds_from Here Any s.extra (each_from Here (sync_keeps s.extra).own h.stands.1) (any_each (sync_keeps s.extra).values)

  -- ---- a call
  module _ (woken_ : Option ℕ) (y : Sync) (w : View) (call : ExtraCall Synced) (seen : CallsSeen (kept_of y) v w call)
      (may : IsCallAllowed sync_means woken_ call s) (older : AreOlder p.next_tag call.steps) where
    goes : Goes t p v w (called call s).loop.parts
    goes = steps_go t v w (owns_at (ids_of s) (sync_keeps s.extra) p) s.loop call.steps h.keeps h.rules may.steps older (seen.steps t.known)

    stays_there : (id : ℕ) → IsAmong (sync_keeps s.extra).own id ⊎ (next_future p ≤ id) → t.gone id ≡ false
    stays_there id (inl old) = h.stands.1 id old
    stays_there id (inr past) = false_from_ne_true (t.gone id) (λ g. let m = h.keeps.made id g in omega (arith, m, past))

    is_there : (id : ℕ) → IsAmong (sync_keeps call.state).own id → t.gone id ≡ false
    is_there id mine =
        stays_there id
        (among_each (λ id. IsAmong (sync_keeps s.extra).own id ⊎ (next_future p ≤ id)) (sync_keeps call.state).own id may.own mine)

    pub calls_so : CallsAs sync_added t s v w y call
    calls_so = record {
      name_map = goes.name_map;
      keeps = goes.keeps;
      extends = goes.extends;
      stands = (seen.kept, λ id mine. ap (λ f. f id) goes.extends.gone ∙ is_there id mine);
      below = goes.below;
      profile = goes.profile;
      called = goes.called;
      running = goes.running;
    }

    pub gone_so : (id : ℕ) → IsAmong (sync_keeps call.state).own id → calls_so.name_map.gone id ≡ false
    unfolding calls_so
    gone_so id mine = ap (λ f. f id) goes.extends.gone ∙ is_there id mine

  -- ---- and its answer
  says_so : (woken_ : Option ℕ) (y : Sync) (w : View) (asked : Asked) (said : ExtraSaid Synced) → SaysSeen (kept_of y) v w asked said
      → IsSaidAllowed sync_means woken_ said s → IsFit p said → SaysAs sync_added t s v w y asked said
  says_so woken_ y w asked said seen may fit = record {
    calls = calls_so woken_ y w said.call seen.call may.call fit.older;
    answers = at asked said.answer seen.answer fit.waits;
  }
    where
      at : (asked : Asked) (answer : ExtraAnswer) → Says asked answer → IsOwnWait answer said.call.state
          → AnswersAs sync_added (calls_so woken_ y w said.call seen.call may.call fit.older).name_map (called said.call s) asked answer
      at (Answer value) (Answers other) e own = e
      at (Raise fault) (Raises other) e own = e
      at (WaitFor on key) (extra.Waits future kept) e own = (
        e.0,
        e.1,
        ap (calls_so woken_ y w said.call seen.call may.call fit.older).name_map.gone e.0
            ∙ gone_so woken_ y w said.call seen.call may.call fit.older future own,
        λ one. inr (subst (IsAmong (sync_keeps said.call.state).own) (sym e.0) own),
      )
      at (Outside code bytes key) (Answers value) e own = absurd e
      at (Outside code bytes key) (Raises fault) e own = absurd e
      at (Outside code bytes key) (extra.Waits future other) e own = absurd e
      at (Outside code bytes key) (extra.Asks other piece last) e own = absurd e
      at (Answer value) (Raises other) e own = absurd e
      at (Answer value) (extra.Waits future key) e own = absurd e
      at (Answer value) (extra.Asks code bytes key) e own = absurd e
      at (Raise fault) (Answers other) e own = absurd e
      at (Raise fault) (extra.Waits future key) e own = absurd e
      at (Raise fault) (extra.Asks code bytes key) e own = absurd e
      at (WaitFor on key) (Answers other) e own = absurd e
      at (WaitFor on key) (Raises other) e own = absurd e
      at (WaitFor on key) (extra.Asks code bytes other) e own = absurd e

  -- ---- its futures are no task's, in code too
  own_free : (id : ℕ) → IsAmong (sync_keeps s.extra).own id → is_free v.futures id ≡ true
  own_free id mine =
      let o : IsOwned p id = among_each (IsOwned p) (sync_keeps s.extra).own id h.may.kept.own mine in
      let n = next_kept t v p h.keeps in
      let below = o.0 in
      and_from (nat_lt id (length v.futures)) (is_none (owner_at (slice_get v.futures id))) (lt-ltb id (length v.futures) (omega (arith, n, below)))
      (ap is_none (owner_kept t v p h.keeps id o.1))

  all_free : are_free v.futures (own_of x) ≡ true
  all_free =
      subst (λ kept. are_free v.futures (sync_keeps kept).own ≡ true) (sym h.stands.0)
      (each_all (is_free v.futures) (sync_keeps s.extra).own (each_from (λ id. is_free v.futures id ≡ true) (sync_keeps s.extra).own own_free))

  -- ---- calls
  asks_so : (task : ℕ) → running ≡ Some task → (code : ℤ) (items : List Value)
      → IsSaidAllowed sync_means None (sync_means.ask task code items s) s → (y : Sync) (w : View) (asked : Asked)
      → SaysSeen (kept_of y) v w asked (asked_for code (wanted_of code items) (parts v) (kept_of x))
      → SaysAs sync_added t s v w y asked (sync_means.ask task code items s)
  asks_so task is code items may y w asked seen =
      says_so None y w asked (asked_for code (wanted_of code items) p s.extra)
      (subst (SaysSeen (kept_of y) v w asked)
      (ap (asked_for code (wanted_of code items) (parts v)) h.stands.0
      ∙ asked_same p (parts v) Here (next_kept t v p h.keeps) (pending_kept t v p h.keeps) (outcome_kept t v p h.keeps) s.extra all_here code
      (wanted_of code items)) seen)
      may (asked_fit code (wanted_of code items) p s.extra)

  wakes_so : (key : ℕ) (input : Input) → IsSaidAllowed sync_means (Some key) (sync_means.wake key input s) s → (y : Sync) (w : View) (asked : Asked)
      → SaysSeen (kept_of y) v w asked (woken (waiting_at (place_of sync_part key) (kept_of x)) key (place_of sync_part key) input (parts v) (kept_of x))
      → SaysAs sync_added t s v w y asked (sync_means.wake key input s)
  wakes_so key input may y w asked seen =
      let place = place_of sync_part key in
      says_so (Some key) y w asked (woken (waiting_at place s.extra) key place input p s.extra)
      (subst (SaysSeen (kept_of y) v w asked)
      (ap (λ kept. woken (waiting_at place kept) key place input (parts v) kept) h.stands.0
      ∙ woken_same p (parts v) Here (next_kept t v p h.keeps) (pending_kept t v p h.keeps) (outcome_kept t v p h.keeps) s.extra all_here
      (waiting_at place s.extra) key place input refl) seen)
      may (woken_fit key place input p s.extra (waiting_at place s.extra) refl)

  stays_so : IsCallAllowed sync_means None (stays s.extra) s → CallsAs sync_added t s v v x (stays s.extra)
  stays_so may = calls_so None x v (stays s.extra) (record { kept = h.stands.0; steps = λ known. refl }) may tt

-- ---- what calls want
pub free_serve : (running : Option ℕ) (x : Sync) (v : View) → MayServe sync_added running x v → are_free v.futures (own_of x) ≡ true
free_serve running x v m = ∥∥₁_elim m (true_prop (are_free v.futures (own_of x)) true) (λ w. all_free running w.0 w.1.0 x v w.1.1)

pub free_ask : (task : ℕ) (futures : List ℕ) (arguments : Value) (x : Sync) (v : View) → MayAsk sync_added task futures arguments x v
    → are_free v.futures (own_of x) ≡ true
free_ask task futures arguments x v m =
    ∥∥₁_elim m (true_prop (are_free v.futures (own_of x)) true) (λ w. all_free (Some task) w.0 w.1.0 x v w.1.1.1.served)

pub asks_by : (task : ℕ) (t : NameMap) (s : State Synced) (x : Sync) (v : View) (futures : List ℕ) (arguments : Value) (items given : List Value)
    → IsAskedOf sync_added task t s futures arguments items x v → (code : ℤ) → as_list arguments ≡ Some given
    → (y : Sync) (w : View) (asked : Asked)
    → SaysSeen (kept_of y) v w asked (asked_for code (wanted_of code given) (parts v) (kept_of x))
    → SaysAs sync_added t s v w y asked (sync_means.ask task code items s)
asks_by task t s x v futures arguments items given h code listed y w asked seen =
    asks_so (Some task) t s x v h.served task refl code items (sync_allowed.ask task code items s h.served.may h.made) y w asked
    (subst (λ xs. SaysSeen (kept_of y) v w asked (asked_for code (wanted_of code xs) (parts v) (kept_of x))) (same (sym listed ∙ h.listed)) seen)
  where
    same : {xs ys : List Value} → Some xs ≡ Some ys → xs ≡ ys
    same e = cc

pub wakes_by : (task : ℕ) (t : NameMap) (s : State Synced) (x : Sync) (v : View) → IsServed sync_added (Some task) t s x v → (key : ℕ) (input : Input)
    → IsSaidAllowed sync_means (Some key) (sync_means.wake key input s) s → (place : ℕ) → place ≡ place_of sync_part key
    → (y : Sync) (w : View) (asked : Asked)
    → SaysSeen (kept_of y) v w asked (woken (waiting_at place (kept_of x)) key place input (parts v) (kept_of x))
    → SaysAs sync_added t s v w y asked (sync_means.wake key input s)
wakes_by task t s x v h key input may place at y w asked seen =
    wakes_so (Some task) t s x v h key input may y w asked
    (subst (λ n. SaysSeen (kept_of y) v w asked (woken (waiting_at n (kept_of x)) key n input (parts v) (kept_of x))) at seen)

pub stays_by : (t : NameMap) (s : State Synced) (x : Sync) (v : View) → IsServed sync_added None t s x v → (key : ℕ)
    → CallsAs sync_added t s v v x (sync_means.act key s)
stays_by t s x v h key = stays_so None t s x v h (sync_allowed.act key s h.may)

pub wakes_at : (running : Option ℕ) → is_some running ≡ true → (t : NameMap) (s : State Synced) (x : Sync) (v : View)
    → IsServed sync_added running t s x v → (key : ℕ) (input : Input) → (sync_keeps s.extra).has_key key ≡ true
    → sends_made (ids_of s) input ≡ true → (place : ℕ) → place ≡ place_of sync_part key → (y : Sync) (w : View) (asked : Asked)
    → SaysSeen (kept_of y) v w asked (woken (waiting_at place (kept_of x)) key place input (parts v) (kept_of x))
    → SaysAs sync_added t s v w y asked (sync_means.wake key input s)
wakes_at None e t s x v h key input known made place at y w asked seen = absurd (cc)
wakes_at (Some task) e t s x v h key input known made place at y w asked seen =
    wakes_by task t s x v h key input (sync_allowed.wake task key input s h.may known made) place at y w asked seen
