-- What a call comes to, where the object stood for a state.
use Rattle.std.proofs.Common.{◌≡◌, ℕ, ℤ, pos, ◌≤◌, ◌⊎◌, inl, inr, Bool, true, false, List, [], ◌∷◌, Option, Some, None, length, slice_get}
use Rattle.std.proofs.Common.{refl, sym, ap, subst, ◌∙◌, arith}
use Rattle.std.proofs.Math.Logic.{∥∥₁_elim}
use Rattle.std.proofs.Props.{props}
use Rattle.std.proofs.lemmas.Bool.{and_from, false_from_ne_true, lt-ltb}
use Rattle.std.specs.Prelude.{if◌then◌else◌, is_none, is_some, nat_lt}
use Rattle.model_value.specs.Input.{Input}
use Rattle.model_value.specs.Value.{Value}
use Rattle.model_value.specs.declared.input.Input.TheVariants.{Send, Throw}
use Rattle.model_loop.specs.Futures.{next_future}
use Rattle.model_loop.specs.Owning.{owner_at}
use Rattle.model_loop.specs.Parts.{Parts}
use Rattle.model_machine.specs.Arguments.{as_list}
use Rattle.model_machine.specs.Extra as extra
use Rattle.model_machine.specs.Extra.{Answers, ExtraAnswer, ExtraCall, ExtraSaid, MakesPlain, Raises, Waits, called}
use Rattle.model_machine.specs.Sound.{IsOwned, ids_of, sends_made}
use Rattle.model_machine.specs.State.{State}
use Rattle.model_reach.specs.Part.{can_draw, place_of, refuses, stays}
use Rattle.model_says.specs.Operations.{out_of_range}
use Rattle.model_machine.specs.Extra.{Asks, unknown_code}
use Rattle.model_fields.specs.Fields.{numbered}
use Rattle.model_exec.specs.Jobs.{is_job, job_code, job_text}
use Rattle.model_exec.specs.Execed.{Asking, Execed, Standing, Waiting, accept, ask_last, draw, exec_keeps, exec_part, is_number, job_over, next_key, on_of}
use Rattle.model_exec.specs.Execed.{place_of_job, says, stand_no_more, stand_on, standing_at}
use Rattle.model_exec.specs.Serving.{Wanted, answered, asked, asked_for, asked_to, exec_means, given_to, is_job_code, is_next, no_job, strange_answer, told}
use Rattle.model_exec.specs.Serving.{wanted_of, woken}
use Rattle.law_runs.specs.Allowed.{IsAmong, IsCallAllowed, IsSaidAllowed, owns_at}
use Rattle.law_exec.proofs.Allowed.{exec_allowed}
use Rattle.law_exec.proofs.Holding.{among_each, each_all, each_from, replaced_among}
use Rattle.refine_parts.proofs.Telling.{next_kept, owner_kept}
use Rattle.refine_added.proofs.Going.{steps_go}
use Rattle.refine_added.specs.Seen.{AreOlder, Goes}
use Rattle.aio_task.specs.Keeps.{NameMap}
use Rattle.aio_task.specs.View.{View, parts}
use Rattle.aio_extra.specs.declared.asked.Asked.{Asked}
use Rattle.aio_extra.specs.declared.asked.Asked.TheVariants.{Answer, Raise, Wait, Outside}
use Rattle.aio_extra.specs.Called.{AnswersAs, CallsAs, IsAskedOf, IsServed, MayAsk, MayServe, SaysAs}
use Rattle.aio_exec.specs.Added.{exec_added}
use Rattle.aio_exec.specs.Seen.{CallsSeen, Says, SaysSeen, are_free, is_free, kept_of, own_of}
use Rattle.aio_exec.specs.declared.exec.Exec.{Exec}

-- ---- what it may rely on
same_prop : (a b : Option ℕ) → IsProp (a ≡ b)
same_prop a b = hlevel props

true_prop : (a b : Bool) → IsProp (a ≡ b)
true_prop a b = hlevel props

pub idle : (running : Option ℕ) (x : Exec) (v : View) → MayServe exec_added running x v → v.called ≡ None
idle running x v m = ∥∥₁_elim m (same_prop v.called None) (λ w. w.1.1.called)

pub list_ask : (task : ℕ) (futures : List ℕ) (arguments : Value) (x : Exec) (v : View) → MayAsk exec_added task futures arguments x v
    → is_some (as_list arguments) ≡ true
list_ask task futures arguments x v m = ∥∥₁_elim m (true_prop (is_some (as_list arguments)) true) (λ w. ap is_some w.1.1.1.listed)

-- ---- what a definition comes to
-- it makes a future at most, or settles one, and waits on a future of its own
abbrev IsOwnWait : ExtraAnswer → Execed → Type 0
IsOwnWait (extra.Waits future key) kept = IsAmong (exec_keeps kept).own future
IsOwnWait _ kept = Unit {0}

pub record IsFit (p : Parts) (said : ExtraSaid Execed) : Type 0 where
  pub older : AreOlder p.next_tag said.call.steps
  pub waits : IsOwnWait said.answer said.call.state

to_fit : (it : Wanted) (p : Parts) (kept : Execed) → IsFit p (asked_to it kept)
to_fit it p kept = at (is_job it.kind it.input)
  where
    at : (b : Bool)
        → IsFit p
        (if b then says (ask_last kept) [] (Asks (pos job_code) (job_text it.kind it.input) (next_key kept)) else says (draw kept) [] (Raises no_job))
    at true = record { older = tt; waits = tt }
    at false = record { older = tt; waits = tt }

for_fit : (code : ℤ) (o : Option Wanted) (p : Parts) (kept : Execed) → IsFit p (asked_for code o kept)
for_fit code None p kept = record { older = tt; waits = tt }
for_fit code (Some it) p kept = at (can_draw exec_part kept.drawn 1)
  where
    at : (b : Bool) → IsFit p (if b then asked_to it kept else refuses out_of_range kept)
    at true = to_fit it p kept
    at false = record { older = tt; waits = tt }

asked_fit : (code : ℤ) (arguments : List Value) (p : Parts) (kept : Execed) → IsFit p (asked code arguments kept)
asked_fit code arguments p kept = at (is_job_code code)
  where
    at : (b : Bool) → IsFit p (if b then asked_for code (wanted_of arguments) kept else refuses (unknown_code code) kept)
    at true = for_fit code (wanted_of arguments) p kept
    at false = record { older = tt; waits = tt }

next_among : (place next : ℕ) (kept : Execed) → standing_at place kept ≡ Some Asking
    → IsAmong (exec_keeps (accept place (stand_on place (Waiting next None) kept))).own next
next_among place next kept e =
    replaced_among (λ (entry : ℕ × Standing). on_of entry.1) (is_number place) kept.standing Asking (Waiting next None) next e (λ key. (0, refl))

answered_fit : (key place : ℕ) (input : Input) (p : Parts) (kept : Execed) → standing_at place kept ≡ Some Asking
    → IsFit p (answered key place input p kept)
answered_fit key place (Send value) p kept e = at (is_next kept value)
  where
    at : (b : Bool)
        → IsFit p
        (if b then says (accept place (stand_on place (Waiting (next_future p) None) kept)) (MakesPlain ∷ []) (Waits (next_future p) key)
        else says (stand_no_more place kept) [] (Raises strange_answer))
    at true = record { older = tt; waits = next_among place (next_future p) kept e }
    at false = record { older = tt; waits = tt }
answered_fit key place (Throw exception) p kept e = record { older = tt; waits = tt }

woken_fit : (key place : ℕ) (input : Input) (p : Parts) (kept : Execed) (o : Option Standing) → standing_at place kept ≡ o
    → IsFit p (woken o key place input p kept)
woken_fit key place (Send value) p kept None e = record { older = tt; waits = tt }
woken_fit key place (Throw exception) p kept None e = record { older = tt; waits = tt }
woken_fit key place input p kept (Some Asking) e = answered_fit key place input p kept e
woken_fit key place (Send value) p kept (Some (Waiting on None)) e = record { older = tt; waits = tt }
woken_fit key place (Send value) p kept (Some (Waiting on (Some result))) e = record { older = tt; waits = tt }
woken_fit key place (Throw exception) p kept (Some (Waiting on came)) e = record { older = tt; waits = tt }

given_older : (bound place : ℕ) (result : List ℕ) (kept : Execed) (o : Option Standing) → AreOlder bound (given_to o place result kept).steps
given_older bound place result kept None = tt
given_older bound place result kept (Some Asking) = tt
given_older bound place result kept (Some (Waiting on came)) = tt

told_older : (bound : ℕ) (kept : Execed) (o : Option (ℕ × List ℕ)) → AreOlder bound (told o kept).steps
told_older bound kept None = tt
told_older bound kept (Some it) = at (place_of_job it.0 kept)
  where
    at : (o : Option ℕ)
        → (let call : ExtraCall Execed = elim o [
          | None ↦ stays kept
          | Some place ↦ given_to (standing_at place kept) place it.1 (job_over it.0 kept)
        ] in AreOlder bound call.steps)
    at None = tt
    at (Some place) = given_older bound place it.1 (job_over it.0 kept) (standing_at place kept)

abbrev pub heard : Bool → List ℕ → Execed → ExtraCall Execed
heard is bytes kept = if is then told (numbered bytes) kept else stays kept

heard_older : (bound : ℕ) (kept : Execed) (bytes : List ℕ) (is : Bool) → AreOlder bound (heard is bytes kept).steps
heard_older bound kept bytes true = told_older bound kept (numbered bytes)
heard_older bound kept bytes false = tt

-- ---- it is the same where as many futures were made
answered_same : (p q : Parts) → next_future q ≡ next_future p → (kept : Execed) (key place : ℕ) (input : Input)
    → answered key place input q kept ≡ answered key place input p kept
answered_same p q same kept key place (Send value) =
    ap (λ n. if is_next kept value then says (accept place (stand_on place (Waiting n None) kept)) (MakesPlain ∷ []) (Waits n key)
    else says (stand_no_more place kept) [] (Raises strange_answer)) same
answered_same p q same kept key place (Throw exception) = refl

woken_same : (p q : Parts) → next_future q ≡ next_future p → (kept : Execed) (o : Option Standing) (key place : ℕ) (input : Input)
    → woken o key place input q kept ≡ woken o key place input p kept
woken_same p q same kept None key place input = refl
woken_same p q same kept (Some Asking) key place input = answered_same p q same kept key place input
woken_same p q same kept (Some (Waiting on came)) key place input = refl

module _ (running : Option ℕ) (t : NameMap) (s : State Execed) (x : Exec) (v : View) (h : IsServed exec_added running t s x v) where
  abbrev p : Parts
  p = s.loop.parts

  -- ---- a call
  module _ (woken_ : Option ℕ) (y : Exec) (w : View) (call : ExtraCall Execed) (seen : CallsSeen (kept_of y) v w call)
      (may : IsCallAllowed exec_means woken_ call s) (older : AreOlder p.next_tag call.steps) where
    goes : Goes t p v w (called call s).loop.parts
    goes = steps_go t v w (owns_at (ids_of s) (exec_keeps s.extra) p) s.loop call.steps h.keeps h.rules may.steps older (seen.steps t.known)

    stays_there : (id : ℕ) → IsAmong (exec_keeps s.extra).own id ⊎ (next_future p ≤ id) → t.gone id ≡ false
    stays_there id (inl old) = h.stands.1 id old
    stays_there id (inr past) = false_from_ne_true (t.gone id) (λ g. let m = h.keeps.made id g in omega (arith, m, past))

    is_there : (id : ℕ) → IsAmong (exec_keeps call.state).own id → t.gone id ≡ false
    is_there id mine =
        stays_there id
        (among_each (λ id. IsAmong (exec_keeps s.extra).own id ⊎ (next_future p ≤ id)) (exec_keeps call.state).own id may.own mine)

    pub calls_so : CallsAs exec_added t s v w y call
    calls_so = record {
      name_map = goes.name_map;
      keeps = goes.keeps;
      extends = goes.extends;
      stands = (seen.kept, λ id mine. ap (λ f. f id) goes.extends.gone ∙ is_there id mine);
      below = goes.below;
      profile = goes.profile;
      called = goes.called;
      running = goes.running;
    }

    pub gone_so : (id : ℕ) → IsAmong (exec_keeps call.state).own id → calls_so.name_map.gone id ≡ false
    unfolding calls_so
    gone_so id mine = ap (λ f. f id) goes.extends.gone ∙ is_there id mine

  -- ---- and its answer
  says_so : (woken_ : Option ℕ) (y : Exec) (w : View) (asked : Asked) (said : ExtraSaid Execed) → SaysSeen (kept_of y) v w asked said
      → IsSaidAllowed exec_means woken_ said s → IsFit p said → SaysAs exec_added t s v w y asked said
  says_so woken_ y w asked said seen may fit = record {
    calls = calls_so woken_ y w said.call seen.call may.call fit.older;
    answers = at asked said.answer seen.answer fit.waits;
  }
    where
      at : (asked : Asked) (answer : ExtraAnswer) → Says asked answer → IsOwnWait answer said.call.state
          → AnswersAs exec_added (calls_so woken_ y w said.call seen.call may.call fit.older).name_map (called said.call s) asked answer
      at (Answer value) (Answers other) e own = e
      at (Raise fault) (Raises other) e own = e
      at (Wait on key) (Waits future kept) e own = (
        e.0,
        e.1,
        ap (calls_so woken_ y w said.call seen.call may.call fit.older).name_map.gone e.0
            ∙ gone_so woken_ y w said.call seen.call may.call fit.older future own,
        λ one. inr (subst (IsAmong (exec_keeps said.call.state).own) (sym e.0) own),
      )
      at (Outside code bytes key) (Asks other piece last) e own = e
      at (Outside code bytes key) (Answers value) e own = absurd e
      at (Outside code bytes key) (Raises fault) e own = absurd e
      at (Outside code bytes key) (Waits future other) e own = absurd e
      at (Answer value) (Raises other) e own = absurd e
      at (Answer value) (Waits future key) e own = absurd e
      at (Answer value) (Asks code bytes key) e own = absurd e
      at (Raise fault) (Answers other) e own = absurd e
      at (Raise fault) (Waits future key) e own = absurd e
      at (Raise fault) (Asks code bytes key) e own = absurd e
      at (Wait on key) (Answers other) e own = absurd e
      at (Wait on key) (Raises other) e own = absurd e
      at (Wait on key) (Asks code bytes other) e own = absurd e

  -- ---- its futures are no task's, in code too
  own_free : (id : ℕ) → IsAmong (exec_keeps s.extra).own id → is_free v.futures id ≡ true
  own_free id mine =
      let o : IsOwned p id = among_each (IsOwned p) (exec_keeps s.extra).own id h.may.kept.own mine in
      let n = next_kept t v p h.keeps in
      let below = o.0 in
      and_from (nat_lt id (length v.futures)) (is_none (owner_at (slice_get v.futures id))) (lt-ltb id (length v.futures) (omega (arith, n, below)))
      (ap is_none (owner_kept t v p h.keeps id o.1))

  all_free : are_free v.futures (own_of x) ≡ true
  all_free =
      subst (λ kept. are_free v.futures (exec_keeps kept).own ≡ true) (sym h.stands.0)
      (each_all (is_free v.futures) (exec_keeps s.extra).own (each_from (λ id. is_free v.futures id ≡ true) (exec_keeps s.extra).own own_free))

  -- ---- calls
  asks_so : (task : ℕ) (code : ℤ) (items : List Value) → IsSaidAllowed exec_means None (exec_means.ask task code items s) s → (y : Exec) (w : View)
      (asked_ : Asked) → SaysSeen (kept_of y) v w asked_ (asked code items (kept_of x)) → SaysAs exec_added t s v w y asked_ (exec_means.ask task code items s)
  asks_so task code items may y w asked_ seen =
      says_so None y w asked_ (asked code items s.extra) (subst (SaysSeen (kept_of y) v w asked_) (ap (asked code items) h.stands.0) seen) may
      (asked_fit code items p s.extra)

  wakes_so : (key : ℕ) (input : Input) → IsSaidAllowed exec_means (Some key) (exec_means.wake key input s) s → (y : Exec) (w : View) (asked : Asked)
      → SaysSeen (kept_of y) v w asked (woken (standing_at (place_of exec_part key) (kept_of x)) key (place_of exec_part key) input (parts v) (kept_of x))
      → SaysAs exec_added t s v w y asked (exec_means.wake key input s)
  wakes_so key input may y w asked seen =
      let place = place_of exec_part key in
      says_so (Some key) y w asked (woken (standing_at place s.extra) key place input p s.extra)
      (subst (SaysSeen (kept_of y) v w asked)
      (ap (λ kept. woken (standing_at place kept) key place input (parts v) kept) h.stands.0
      ∙ woken_same p (parts v) (next_kept t v p h.keeps) s.extra (standing_at place s.extra) key place input) seen)
      may (woken_fit key place input p s.extra (standing_at place s.extra) refl)

  hears_so : (is : Bool) (bytes : List ℕ) → IsCallAllowed exec_means None (heard is bytes s.extra) s → (y : Exec) (w : View)
      → CallsSeen (kept_of y) v w (heard is bytes (kept_of x)) → CallsAs exec_added t s v w y (heard is bytes s.extra)
  hears_so is bytes may y w seen =
      calls_so None y w (heard is bytes s.extra) (subst (CallsSeen (kept_of y) v w) (ap (heard is bytes) h.stands.0) seen) may
      (heard_older p.next_tag s.extra bytes is)

  stays_so : IsCallAllowed exec_means None (stays s.extra) s → CallsAs exec_added t s v v x (stays s.extra)
  stays_so may = calls_so None x v (stays s.extra) (record { kept = h.stands.0; steps = λ known. refl }) may tt

-- ---- what calls want
pub free_serve : (running : Option ℕ) (x : Exec) (v : View) → MayServe exec_added running x v → are_free v.futures (own_of x) ≡ true
free_serve running x v m = ∥∥₁_elim m (true_prop (are_free v.futures (own_of x)) true) (λ w. all_free running w.0 w.1.0 x v w.1.1)

pub asks_by : (task : ℕ) (t : NameMap) (s : State Execed) (x : Exec) (v : View) (futures : List ℕ) (arguments : Value) (items given : List Value)
    → IsAskedOf exec_added task t s futures arguments items x v → (code : ℤ) → as_list arguments ≡ Some given → (y : Exec) (w : View) (asked_ : Asked)
    → SaysSeen (kept_of y) v w asked_ (asked code given (kept_of x)) → SaysAs exec_added t s v w y asked_ (exec_means.ask task code items s)
asks_by task t s x v futures arguments items given h code listed y w asked_ seen =
    asks_so (Some task) t s x v h.served task code items (exec_allowed.ask task code items s h.served.may h.made) y w asked_
    (subst (λ xs. SaysSeen (kept_of y) v w asked_ (asked code xs (kept_of x))) (same (sym listed ∙ h.listed)) seen)
  where
    same : {xs ys : List Value} → Some xs ≡ Some ys → xs ≡ ys
    same e = cc

wakes_by : (task : ℕ) (t : NameMap) (s : State Execed) (x : Exec) (v : View) → IsServed exec_added (Some task) t s x v → (key : ℕ) (input : Input)
    → IsSaidAllowed exec_means (Some key) (exec_means.wake key input s) s → (place : ℕ) → place ≡ place_of exec_part key
    → (y : Exec) (w : View) (asked : Asked)
    → SaysSeen (kept_of y) v w asked (woken (standing_at place (kept_of x)) key place input (parts v) (kept_of x))
    → SaysAs exec_added t s v w y asked (exec_means.wake key input s)
wakes_by task t s x v h key input may place at y w asked seen =
    wakes_so (Some task) t s x v h key input may y w asked
    (subst (λ n. SaysSeen (kept_of y) v w asked (woken (standing_at n (kept_of x)) key n input (parts v) (kept_of x))) at seen)

pub wakes_at : (running : Option ℕ) → is_some running ≡ true → (t : NameMap) (s : State Execed) (x : Exec) (v : View)
    → IsServed exec_added running t s x v → (key : ℕ) (input : Input) → (exec_keeps s.extra).has_key key ≡ true
    → sends_made (ids_of s) input ≡ true → (place : ℕ) → place ≡ place_of exec_part key → (y : Exec) (w : View) (asked : Asked)
    → SaysSeen (kept_of y) v w asked (woken (standing_at place (kept_of x)) key place input (parts v) (kept_of x))
    → SaysAs exec_added t s v w y asked (exec_means.wake key input s)
wakes_at None e t s x v h key input known made place at y w asked seen = absurd (cc)
wakes_at (Some task) e t s x v h key input known made place at y w asked seen =
    wakes_by task t s x v h key input (exec_allowed.wake task key input s h.may known made) place at y w asked seen

pub hears_by : (t : NameMap) (s : State Execed) (x : Exec) (v : View) → IsServed exec_added None t s x v → (code : ℤ) (bytes : List ℕ)
    → (y : Exec) (w : View) → CallsSeen (kept_of y) v w (heard (is_job_code code) bytes (kept_of x))
    → CallsAs exec_added t s v w y (exec_means.item code bytes s)
hears_by t s x v h code bytes y w seen = hears_so None t s x v h (is_job_code code) bytes (exec_allowed.item code bytes s h.may) y w seen

pub stays_by : (t : NameMap) (s : State Execed) (x : Exec) (v : View) → IsServed exec_added None t s x v → (key : ℕ)
    → CallsAs exec_added t s v v x (exec_means.act key s)
stays_by t s x v h key = stays_so None t s x v h (exec_allowed.act key s h.may)
