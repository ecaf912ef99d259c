-- What a call comes to, where the object stood for a state.
use Rattle.std.proofs.Common.{◌≡◌, ℕ, ℤ, ◌+◌, ◌<◌, ◌≤◌, ◌⊎◌, inl, inr, Bool, true, false, List, [], ◌∷◌, Option, Some, None, length, slice_get}
use Rattle.std.proofs.Common.{refl, sym, ap, subst, ◌∙◌, arith}
use Rattle.std.proofs.Math.Logic.{∥∥₁_elim}
use Rattle.std.proofs.Props.{props}
use Rattle.std.proofs.lemmas.Bool.{and_from, false_from_ne_true, lt-ltb}
use Rattle.std.specs.Prelude.{if◌then◌else◌, is_none, is_some, nat_lt}
use Rattle.std.specs.List.{AllByRecursion as Each}
use Rattle.model_value.specs.Input.{Input}
use Rattle.model_value.specs.Value.{Exc, Value}
use Rattle.model_value.specs.declared.input.Input.TheVariants.{Send, Throw}
use Rattle.model_loop.specs.Futures.{next_future}
use Rattle.model_loop.specs.Owning.{owner_at}
use Rattle.model_loop.specs.Parts.{Parts}
use Rattle.model_says.specs.Operations.{out_of_range}
use Rattle.model_machine.specs.Arguments.{as_list}
use Rattle.model_machine.specs.Extra as extra
use Rattle.model_machine.specs.Extra.{Answers, ExtraAnswer, ExtraCall, ExtraSaid, ExtraStep, Raises, Settles, called}
use Rattle.model_machine.specs.Sound.{IsOwned, ids_of, sends_made}
use Rattle.model_machine.specs.State.{State}
use Rattle.model_reach.specs.Part.{can_draw, only_says, passes, place_of, refuses, stays}
use Rattle.model_dgram.specs.Endpoints.{Closes, Endpoint, Endpoints, Offers, Opens, Receives, Sends, Waiting, dgram_keeps, dgram_part, next_key, waiting_at}
use Rattle.model_dgram.specs.Serving.{Wanted, asked_for, dgram_means, served, told, wanted_of, woken}
use Rattle.law_runs.specs.Allowed.{IsAmong, IsCallAllowed, IsSaidAllowed, owns_at}
use Rattle.law_sync.proofs.Falling.{Any}
use Rattle.law_sync.proofs.Lists.{among_each, each_all, each_from}
use Rattle.law_dgram.specs.Tidy.{IsLined, IsTidy}
use Rattle.law_dgram.proofs.Allowed.{dgram_allowed}
use Rattle.law_dgram.proofs.Comes.{AnswerHolds, Comes, May, Wakes, closed_comes, offered_comes, opened_comes, receives_comes, sends_comes, served_comes}
use Rattle.law_dgram.proofs.Comes.{told_hears}
use Rattle.law_dgram.proofs.Falling.{any_holds}
use Rattle.law_dgram.proofs.Tidying.{asked_tidy, told_tidy, woken_tidy}
use Rattle.refine_parts.proofs.Telling.{next_kept, owner_kept}
use Rattle.refine_added.proofs.Going.{steps_go}
use Rattle.refine_added.specs.Seen.{AreOlder, Goes}
use Rattle.aio_task.specs.Keeps.{NameMap}
use Rattle.aio_task.specs.View.{View, parts}
use Rattle.aio_extra.specs.declared.asked.Asked.{Asked}
use Rattle.aio_extra.specs.declared.asked.Asked.TheVariants.{Answer, Raise, Wait as WaitFor, Outside}
use Rattle.aio_extra.specs.Called.{AnswersAs, CallsAs, IsAskedOf, IsServed, MayAsk, MayServe, SaysAs}
use Rattle.aio_sync.specs.Woken.{are_free, is_free}
use Rattle.aio_dgram.specs.Added.{dgram_added}
use Rattle.aio_dgram.specs.Seen.{kept_of, own_of}
use Rattle.aio_dgram.specs.Woken.{CallsSeen, Says, SaysSeen}
use Rattle.aio_dgram.specs.declared.dgram.Dgram.{Dgram}
use Rattle.aio_dgram.proofs.Same.{asked_same, woken_same}

-- ---- what it may rely on
same_prop : (a b : Option ℕ) → IsProp (a ≡ b)
same_prop a b = hlevel props

true_prop : (a b : Bool) → IsProp (a ≡ b)
true_prop a b = hlevel props

pub idle : (running : Option ℕ) (x : Dgram) (v : View) → MayServe dgram_added running x v → v.called ≡ None
idle running x v m = ∥∥₁_elim m (same_prop v.called None) (λ w. w.1.1.called)

pub idle_ask : (task : ℕ) (futures : List ℕ) (arguments : Value) (x : Dgram) (v : View) → MayAsk dgram_added task futures arguments x v → v.called ≡ None
idle_ask task futures arguments x v m = ∥∥₁_elim m (same_prop v.called None) (λ w. w.1.1.1.served.called)

pub list_ask : (task : ℕ) (futures : List ℕ) (arguments : Value) (x : Dgram) (v : View) → MayAsk dgram_added task futures arguments x v
    → is_some (as_list arguments) ≡ true
list_ask task futures arguments x v m = ∥∥₁_elim m (true_prop (is_some (as_list arguments)) true) (λ w. ap is_some w.1.1.1.listed)

-- ---- what a definition comes to
abbrev IsOwnWait : ExtraAnswer → Endpoints → Type 0
IsOwnWait (extra.Waits future key) kept = IsAmong (dgram_keeps kept).own future
IsOwnWait _ kept = Unit {0}

-- it gives up what was made before alone, and waits on a future of its own
pub record IsFit (p : Parts) (said : ExtraSaid Endpoints) : Type 0 where
  pub older : AreOlder p.next_tag said.call.steps
  pub waits : IsOwnWait said.answer said.call.state

raises_fit : (p : Parts) (kept : Endpoints) (exception : Exc) → IsFit p (refuses exception kept)
raises_fit p kept exception = record { older = tt; waits = tt }

passes_fit : (p : Parts) (kept : Endpoints) (input : Input) → IsFit p (only_says (passes input) kept)
passes_fit p kept (Send value) = record { older = tt; waits = tt }
passes_fit p kept (Throw exception) = record { older = tt; waits = tt }

wakes_older : (bound : ℕ) (steps : List ExtraStep) → Each (Wakes Any Any) steps → AreOlder bound steps
wakes_older bound [] all = tt
wakes_older bound (Settles future outcome ∷ steps) all = wakes_older bound steps all.1
wakes_older bound (_ ∷ steps) all = absurd all.0

answer_fit : (may : Type 0) (key : ℕ) (answer : ExtraAnswer) (kept : Endpoints) → AnswerHolds Any Any may key answer → IsOwnWait answer kept
answer_fit may key (Answers value) kept h = tt
answer_fit may key (Raises exception) kept h = tt
answer_fit may key (extra.Waits on other) kept h = absurd h
answer_fit may key (extra.Asks code bytes other) kept h = tt

comes_fit : (may : Endpoints → Type 0) (p : Parts) (next drawn key : ℕ) (said : ExtraSaid Endpoints) → Comes Any Any may next drawn key said → IsFit p said
comes_fit may p next drawn key said (inl g) = record {
  older = wakes_older p.next_tag said.call.steps g.steps;
  waits = answer_fit (may said.call.state) key said.answer said.call.state g.answer;
}
comes_fit may p next drawn key said (inr w) = record {
  older = subst (AreOlder p.next_tag) (sym w.steps) tt;
  waits = subst (λ answer. IsOwnWait answer said.call.state) (sym w.answer) w.there;
}

asked_fit : (code : ℤ) (o : Option (Option Wanted)) (p : Parts) (kept : Endpoints) → IsFit p (asked_for code o p kept)
asked_fit code None p kept = raises_fit p kept _
asked_fit code (Some None) p kept = raises_fit p kept _
asked_fit code (Some (Some wanted)) p kept = at (can_draw dgram_part kept.drawn 1)
  where
    at : (b : Bool) → IsFit p (if b then served wanted p kept else refuses out_of_range kept)
    at true =
        comes_fit May p (next_future p) (kept.drawn + 1) (next_key kept) (served wanted p kept)
        (served_comes Any Any tt (λ n. tt) (λ it. tt) p kept (any_holds kept) wanted)
    at false = raises_fit p kept out_of_range

module _ (key place : ℕ) (input : Input) (p : Parts) (kept : Endpoints) where
  fits : (may : Endpoints → Type 0) (said : ExtraSaid Endpoints) → Comes Any Any may (next_future p) kept.drawn key said → IsFit p said
  fits may said c = comes_fit may p (next_future p) kept.drawn key said c

  woken_fit : (o : Option Waiting) → waiting_at place kept ≡ o → IsFit p (woken o key place input p kept)
  woken_fit None e = passes_fit p kept input
  woken_fit (Some Opens) e =
      fits _ (woken (Some Opens) key place input p kept) (opened_comes Any Any tt (λ n. tt) (λ it. tt) p kept (any_holds kept) key place input)
  woken_fit (Some (Offers id it)) e =
      fits _ (woken (Some (Offers id it)) key place input p kept)
      (offered_comes Any Any tt (λ n. tt) (λ it. tt) p kept (any_holds kept) key place id it input (Offers id it) e)
  woken_fit (Some (Sends id it on)) e =
      fits May (woken (Some (Sends id it on)) key place input p kept)
      (sends_comes Any Any tt (λ n. tt) (λ it. tt) p kept (any_holds kept) May key place id it input tt (Sends id it on) e)
  woken_fit (Some (Receives id on)) e =
      fits _ (woken (Some (Receives id on)) key place input p kept)
      (receives_comes Any Any tt (λ n. tt) (λ it. tt) p kept (any_holds kept) key place id input (Receives id on) e)
  woken_fit (Some Closes) e =
      fits _ (woken (Some Closes) key place input p kept) (closed_comes Any Any tt (λ n. tt) (λ it. tt) p kept (any_holds kept) key place input)

module _ (running : Option ℕ) (t : NameMap) (s : State Endpoints) (x : Dgram) (v : View) (h : IsServed dgram_added running t s x v) where
  abbrev p : Parts
  p = s.loop.parts

  -- ---- a call
  module _ (woken_ : Option ℕ) (y : Dgram) (w : View) (call : ExtraCall Endpoints) (seen : CallsSeen (kept_of y) v w call)
      (may : IsCallAllowed dgram_means woken_ call s) (tidy : IsTidy call.state) (older : AreOlder p.next_tag call.steps) where
    goes : Goes t p v w (called call s).loop.parts
    goes = steps_go t v w (owns_at (ids_of s) (dgram_keeps s.extra) p) s.loop call.steps h.keeps h.rules may.steps older (seen.steps t.known)

    stays_there : (id : ℕ) → IsAmong (dgram_keeps s.extra).own id ⊎ (next_future p ≤ id) → t.gone id ≡ false
    stays_there id (inl old) = h.stands.there id old
    stays_there id (inr past) = false_from_ne_true (t.gone id) (λ g. let m = h.keeps.made id g in omega (arith, m, past))

    is_there : (id : ℕ) → IsAmong (dgram_keeps call.state).own id → t.gone id ≡ false
    is_there id mine =
        stays_there id
        (among_each (λ id. IsAmong (dgram_keeps s.extra).own id ⊎ (next_future p ≤ id)) (dgram_keeps call.state).own id may.own mine)

    pub calls_so : CallsAs dgram_added t s v w y call
    calls_so = record {
      name_map = goes.name_map;
      keeps = goes.keeps;
      extends = goes.extends;
      stands = record { seen = seen.kept; tidy = tidy; there = λ id mine. ap (λ f. f id) goes.extends.gone ∙ is_there id mine };
      below = goes.below;
      profile = goes.profile;
      called = goes.called;
      running = goes.running;
    }

    pub gone_so : (id : ℕ) → IsAmong (dgram_keeps call.state).own id → calls_so.name_map.gone id ≡ false
    unfolding calls_so
    gone_so id mine = ap (λ f. f id) goes.extends.gone ∙ is_there id mine

  -- ---- and its answer
  says_so : (woken_ : Option ℕ) (y : Dgram) (w : View) (asked : Asked) (said : ExtraSaid Endpoints) → SaysSeen (kept_of y) v w asked said
      → IsSaidAllowed dgram_means woken_ said s → IsTidy said.call.state → IsFit p said → SaysAs dgram_added t s v w y asked said
  says_so woken_ y w asked said seen may tidy fit = record {
    calls = calls_so woken_ y w said.call seen.call may.call tidy fit.older;
    answers = at asked said.answer seen.answer fit.waits;
  }
    where
      at : (asked : Asked) (answer : ExtraAnswer) → Says asked answer → IsOwnWait answer said.call.state
          → AnswersAs dgram_added (calls_so woken_ y w said.call seen.call may.call tidy fit.older).name_map (called said.call s) asked answer
      at (Answer value) (Answers other) e own = e
      at (Raise fault) (Raises other) e own = e
      at (WaitFor on key) (extra.Waits future kept) e own = (
        e.0,
        e.1,
        ap (calls_so woken_ y w said.call seen.call may.call tidy fit.older).name_map.gone e.0
            ∙ gone_so woken_ y w said.call seen.call may.call tidy fit.older future own,
        λ one. inr (subst (IsAmong (dgram_keeps said.call.state).own) (sym e.0) own),
      )
      at (Outside code bytes key) (extra.Asks other piece last) e own = e
      at (Outside code bytes key) (Answers value) e own = absurd e
      at (Outside code bytes key) (Raises fault) e own = absurd e
      at (Outside code bytes key) (extra.Waits future other) e own = absurd e
      at (Answer value) (Raises other) e own = absurd e
      at (Answer value) (extra.Waits future key) e own = absurd e
      at (Answer value) (extra.Asks code bytes key) e own = absurd e
      at (Raise fault) (Answers other) e own = absurd e
      at (Raise fault) (extra.Waits future key) e own = absurd e
      at (Raise fault) (extra.Asks code bytes key) e own = absurd e
      at (WaitFor on key) (Answers other) e own = absurd e
      at (WaitFor on key) (Raises other) e own = absurd e
      at (WaitFor on key) (extra.Asks code bytes other) e own = absurd e

  -- ---- its futures are no task's, in code too
  own_free : (id : ℕ) → IsAmong (dgram_keeps s.extra).own id → is_free v.futures id ≡ true
  own_free id mine =
      let o : IsOwned p id = among_each (IsOwned p) (dgram_keeps s.extra).own id h.may.kept.own mine in
      let n = next_kept t v p h.keeps in
      let below = o.0 in
      and_from (nat_lt id (length v.futures)) (is_none (owner_at (slice_get v.futures id))) (lt-ltb id (length v.futures) (omega (arith, n, below)))
      (ap is_none (owner_kept t v p h.keeps id o.1))

  pub all_free : are_free v.futures (own_of x) ≡ true
  all_free =
      subst (λ kept. are_free v.futures (dgram_keeps kept).own ≡ true) (sym h.stands.seen)
      (each_all (is_free v.futures) (dgram_keeps s.extra).own (each_from (λ id. is_free v.futures id ≡ true) (dgram_keeps s.extra).own own_free))

  pub all_tidy : IsTidy (kept_of x)
  all_tidy = subst IsTidy (sym h.stands.seen) h.stands.tidy

  -- ---- calls
  pub asks_so : (code : ℤ) (items : List Value) → IsSaidAllowed dgram_means None (dgram_means.ask 0 code items s) s → (y : Dgram) (w : View) (asked : Asked)
      → SaysSeen (kept_of y) v w asked (asked_for code (wanted_of code items) (parts v) (kept_of x))
      → SaysAs dgram_added t s v w y asked (dgram_means.ask 0 code items s)
  asks_so code items may y w asked seen =
      says_so None y w asked (asked_for code (wanted_of code items) p s.extra)
      (subst (SaysSeen (kept_of y) v w asked)
      (ap (asked_for code (wanted_of code items) (parts v)) h.stands.seen ∙ asked_same p (parts v) (next_kept t v p h.keeps) s.extra code (wanted_of code items))
      seen)
      may (asked_tidy p s.extra h.stands.tidy code (wanted_of code items)) (asked_fit code (wanted_of code items) p s.extra)

  pub wakes_so : (key : ℕ) (input : Input) → IsSaidAllowed dgram_means (Some key) (dgram_means.wake key input s) s → (y : Dgram) (w : View) (asked : Asked)
      → SaysSeen (kept_of y) v w asked (woken (waiting_at (place_of dgram_part key) (kept_of x)) key (place_of dgram_part key) input (parts v) (kept_of x))
      → SaysAs dgram_added t s v w y asked (dgram_means.wake key input s)
  wakes_so key input may y w asked seen =
      let place = place_of dgram_part key in
      says_so (Some key) y w asked (woken (waiting_at place s.extra) key place input p s.extra)
      (subst (SaysSeen (kept_of y) v w asked)
      (ap (λ kept. woken (waiting_at place kept) key place input (parts v) kept) h.stands.seen
      ∙ woken_same p (parts v) (next_kept t v p h.keeps) s.extra (waiting_at place s.extra) key place input) seen)
      may (woken_tidy p s.extra h.stands.tidy (waiting_at place s.extra) key place input)
      (woken_fit key place input p s.extra (waiting_at place s.extra) refl)

  pub stays_so : IsCallAllowed dgram_means None (stays s.extra) s → CallsAs dgram_added t s v v x (stays s.extra)
  stays_so may = calls_so None x v (stays s.extra) (record { kept = h.stands.seen; steps = λ known. refl }) may h.stands.tidy tt

  pub hears_so : (code : ℤ) (bytes : List ℕ) → IsCallAllowed dgram_means None (dgram_means.item code bytes s) s → (y : Dgram) (w : View)
      → CallsSeen (kept_of y) v w (told code bytes (kept_of x)) → CallsAs dgram_added t s v w y (dgram_means.item code bytes s)
  hears_so code bytes may y w seen =
      calls_so None y w (told code bytes s.extra) (subst (λ kept. CallsSeen (kept_of y) v w (told code bytes kept)) h.stands.seen seen) may
      (told_tidy p s.extra h.stands.tidy code bytes)
      (wakes_older p.next_tag (told code bytes s.extra).steps
      (told_hears Any Any tt (λ n. tt) (λ it. tt) p s.extra (any_holds s.extra) code bytes).steps)

-- ---- what calls want
pub free_serve : (running : Option ℕ) (x : Dgram) (v : View) → MayServe dgram_added running x v → are_free v.futures (own_of x) ≡ true
free_serve running x v m = ∥∥₁_elim m (true_prop (are_free v.futures (own_of x)) true) (λ w. all_free running w.0 w.1.0 x v w.1.1)

pub free_ask : (task : ℕ) (futures : List ℕ) (arguments : Value) (x : Dgram) (v : View) → MayAsk dgram_added task futures arguments x v
    → are_free v.futures (own_of x) ≡ true
free_ask task futures arguments x v m =
    ∥∥₁_elim m (true_prop (are_free v.futures (own_of x)) true) (λ w. all_free (Some task) w.0 w.1.0 x v w.1.1.1.served)

pub asks_by : (task : ℕ) (t : NameMap) (s : State Endpoints) (x : Dgram) (v : View) (futures : List ℕ) (arguments : Value) (items given : List Value)
    → IsAskedOf dgram_added task t s futures arguments items x v → (code : ℤ) → as_list arguments ≡ Some given
    → (y : Dgram) (w : View) (asked : Asked)
    → SaysSeen (kept_of y) v w asked (asked_for code (wanted_of code given) (parts v) (kept_of x))
    → SaysAs dgram_added t s v w y asked (dgram_means.ask task code items s)
asks_by task t s x v futures arguments items given h code listed y w asked seen =
    asks_so (Some task) t s x v h.served code items (dgram_allowed.ask task code items s h.served.may h.made) y w asked
    (subst (λ xs. SaysSeen (kept_of y) v w asked (asked_for code (wanted_of code xs) (parts v) (kept_of x))) (same (sym listed ∙ h.listed)) seen)
  where
    same : {xs ys : List Value} → Some xs ≡ Some ys → xs ≡ ys
    same e = cc

pub wakes_by : (task : ℕ) (t : NameMap) (s : State Endpoints) (x : Dgram) (v : View) → IsServed dgram_added (Some task) t s x v → (key : ℕ) (input : Input)
    → IsSaidAllowed dgram_means (Some key) (dgram_means.wake key input s) s → (place : ℕ) → place ≡ place_of dgram_part key
    → (y : Dgram) (w : View) (asked : Asked)
    → SaysSeen (kept_of y) v w asked (woken (waiting_at place (kept_of x)) key place input (parts v) (kept_of x))
    → SaysAs dgram_added t s v w y asked (dgram_means.wake key input s)
wakes_by task t s x v h key input may place at y w asked seen =
    wakes_so (Some task) t s x v h key input may y w asked
    (subst (λ n. SaysSeen (kept_of y) v w asked (woken (waiting_at n (kept_of x)) key n input (parts v) (kept_of x))) at seen)

pub stays_by : (t : NameMap) (s : State Endpoints) (x : Dgram) (v : View) → IsServed dgram_added None t s x v → (key : ℕ)
    → CallsAs dgram_added t s v v x (dgram_means.act key s)
stays_by t s x v h key = stays_so None t s x v h (dgram_allowed.act key s h.may)

pub hears_by : (t : NameMap) (s : State Endpoints) (x : Dgram) (v : View) → IsServed dgram_added None t s x v → (code : ℤ) (bytes : List ℕ)
    → (y : Dgram) (w : View) → CallsSeen (kept_of y) v w (told code bytes (kept_of x)) → CallsAs dgram_added t s v w y (dgram_means.item code bytes s)
hears_by t s x v h code bytes y w seen = hears_so None t s x v h code bytes (dgram_allowed.item code bytes s h.may) y w seen

pub wakes_at : (running : Option ℕ) → is_some running ≡ true → (t : NameMap) (s : State Endpoints) (x : Dgram) (v : View)
    → IsServed dgram_added running t s x v → (key : ℕ) (input : Input) → (dgram_keeps s.extra).has_key key ≡ true
    → sends_made (ids_of s) input ≡ true → (place : ℕ) → place ≡ place_of dgram_part key → (y : Dgram) (w : View) (asked : Asked)
    → SaysSeen (kept_of y) v w asked (woken (waiting_at place (kept_of x)) key place input (parts v) (kept_of x))
    → SaysAs dgram_added t s v w y asked (dgram_means.wake key input s)
wakes_at None e t s x v h key input known made place at y w asked seen = absurd (cc)
wakes_at (Some task) e t s x v h key input known made place at y w asked seen =
    wakes_by task t s x v h key input (dgram_allowed.wake task key input s h.may known made) place at y w asked seen

-- ---- what is kept is tidy
each_prop : {A : Type 0} (P : A → Type 0) → ((x : A) → IsProp (P x)) → (xs : List A) → IsProp (Each P xs)
each_prop P prop [] = λ a b. refl
each_prop P prop (x ∷ xs) = λ a b. ap (λ it. (it, a.1)) (prop x a.0 b.0) ∙ ap (λ rest. (b.0, rest)) (each_prop P prop xs a.1 b.1)

below_prop : (a b : ℕ) → IsProp (a < b)
below_prop a b = hlevel props

places_prop : (kept : Endpoints) → IsProp (Each (λ (entry : ℕ × Waiting). entry.0 < kept.drawn) kept.waiting)
places_prop kept = each_prop (λ (entry : ℕ × Waiting). entry.0 < kept.drawn) (λ entry. below_prop entry.0 kept.drawn) kept.waiting

numbers_prop : (kept : Endpoints) → IsProp (Each (λ (entry : ℕ × Endpoint). entry.0 < kept.opened) kept.endpoints)
numbers_prop kept = each_prop (λ (entry : ℕ × Endpoint). entry.0 < kept.opened) (λ entry. below_prop entry.0 kept.opened) kept.endpoints

lines_prop : (kept : Endpoints) → IsProp (Each (IsLined kept.drawn) kept.endpoints)
lines_prop kept =
    each_prop (IsLined kept.drawn) (λ entry. each_prop (λ place. place < kept.drawn) (λ place. below_prop place kept.drawn) entry.1.senders) kept.endpoints

pub tidy_serve : (running : Option ℕ) (x : Dgram) (v : View) → MayServe dgram_added running x v → IsTidy (kept_of x)
tidy_serve running x v m = record {
  places = ∥∥₁_elim m (places_prop (kept_of x)) (λ w. (all_tidy running w.0 w.1.0 x v w.1.1).places);
  numbers = ∥∥₁_elim m (numbers_prop (kept_of x)) (λ w. (all_tidy running w.0 w.1.0 x v w.1.1).numbers);
  lines = ∥∥₁_elim m (lines_prop (kept_of x)) (λ w. (all_tidy running w.0 w.1.0 x v w.1.1).lines);
}

pub tidy_ask : (task : ℕ) (futures : List ℕ) (arguments : Value) (x : Dgram) (v : View) → MayAsk dgram_added task futures arguments x v
    → IsTidy (kept_of x)
tidy_ask task futures arguments x v m = record {
  places = ∥∥₁_elim m (places_prop (kept_of x)) (λ w. (all_tidy (Some task) w.0 w.1.0 x v w.1.1.1.served).places);
  numbers = ∥∥₁_elim m (numbers_prop (kept_of x)) (λ w. (all_tidy (Some task) w.0 w.1.0 x v w.1.1.1.served).numbers);
  lines = ∥∥₁_elim m (lines_prop (kept_of x)) (λ w. (all_tidy (Some task) w.0 w.1.0 x v w.1.1.1.served).lines);
}
