-- Locks, events and queues make allowed steps alone, and what they keep stays right.
use Rattle.std.proofs.Common.{◌≡◌, ℕ, ℤ, pos, negsuc, ◌+◌, ◌<◌, ◌≤◌, inl, inr, Bool, true, false, List, [], ◌∷◌, Option, Some, None, slice_get}
use Rattle.std.proofs.Common.{refl, sym, ap, subst, ◌∙◌, arith, le_refl, length-append}
use Rattle.std.specs.Prelude.{◌==◌, if◌then◌else◌}
use Rattle.std.specs.List.{AllByRecursion as Each}
use Rattle.std.specs.Option.{option_map, option_map_or}
use Rattle.model_value.specs.Input.{Input}
use Rattle.model_value.specs.Value.{Value}
use Rattle.model_value.specs.declared.input.Input.TheVariants.{Send, Throw}
use Rattle.model_loop.specs.Futures.{next_future}
use Rattle.model_loop.specs.Loop.{Loop}
use Rattle.model_loop.specs.Owning.{owner_at}
use Rattle.model_loop.specs.Parts.{Parts, Plain}
use Rattle.model_says.specs.Operations.{out_of_range}
use Rattle.model_says.specs.Requests.{bad_argument}
use Rattle.model_machine.specs.Arguments.{as_int}
use Rattle.model_machine.specs.Extra as extra
use Rattle.model_machine.specs.Extra.{Answers, ExtraAnswer, ExtraCall, ExtraSaid, ExtraStep, MakesPlain, Raises, Settles, Waits, called, key_of, made_by}
use Rattle.model_machine.specs.Extra.{made_by_all, unknown_code}
use Rattle.model_machine.specs.Sound.{AreKept, Ids, IsNoneOf, IsOwned, ids_of, names_made, sends_made}
use Rattle.model_machine.specs.State.{State}
use Rattle.model_reach.specs.Part.{can_draw, only_says, passes, place_of, refuses, stays}
use Rattle.law_cancel.proofs.Lookups.{get-push_last}
use Rattle.law_steps.proofs.CancelSound.{plain_within}
use Rattle.law_runs.specs.Allowed.{AreAllowed, IsAllowed, IsAmong, IsAnswerAllowed, IsCallAllowed, IsKeyAllowed, IsOwn, IsSaidAllowed, MakesAllowedSteps, MayCall}
use Rattle.law_runs.specs.Allowed.{Owns, ends_made, owns_at}
use Rattle.law_replies.proofs.Ids.{IsMore, names_up}
use Rattle.law_runs.proofs.Called.{called_more, steps_keep}
use Rattle.law_runs.proofs.Steps.{all_after}
use Rattle.model_sync.specs.Synced.{Acquires, Awaits, Gets, Puts, Synced, Waiting, is_place, next_key, sync_keeps, sync_part, waiting_at}
use Rattle.model_sync.specs.Locks.{acquired}
use Rattle.model_sync.specs.Events.{waited}
use Rattle.model_sync.specs.Queues.{getting, putting}
use Rattle.model_sync.specs.Serving.{Acquire, Clear, Get, IsLocked, IsSet, MakesEvent, MakesLock, MakesQueue, Put, Release, Set, Size, Wait, Wanted, asked_for}
use Rattle.model_sync.specs.Serving.{bare, named, one, served, sync_means, two, wanted_of, woken}
use Rattle.law_sync.proofs.Lists.{all_each, among_each, each_all, each_at, each_found, each_from}
use Rattle.law_sync.proofs.Holding.{EventHolds, Holds, LockHolds, QueueHolds, WaitingHolds, holds_from, holds_on, own_holds, values_hold}
use Rattle.law_sync.proofs.Comes.{AnswerHolds, Comes, GoesOn, OrNext, PutsHold, Wakes, WaitsOn, acquired_comes, getting_comes}
use Rattle.law_sync.proofs.Comes.{putting_comes, served_comes, waited_comes}
use Rattle.law_sync.proofs.Keys.{drawn_now, drawn_still, undrawn}

-- no answer of these is to be woken
abbrev IsNone : {A : Type 0} → Option A → Type 0
IsNone None = Unit {0}
IsNone (Some it) = ⊥

-- ---- what is its own stays so
owned_on : (own : Owns) (step : ExtraStep) (l : Loop) (id : ℕ) → IsAllowed own step l → IsOwned l.parts id → IsOwned (made_by step l).parts id
owned_on own step l id may o =
    let a = (all_after None own (step ∷ []) l (may, tt)).parts in
    (let f = a.futures in let w = o.0 in omega (arith, f, w), a.owners id o.0 ∙ o.1)

-- ---- what values are put
module _ (V : Value → Type 0) where
  abbrev pub AllPutsHold : Option (Option Wanted) → Type 0
  AllPutsHold None = Unit {0}
  AllPutsHold (Some None) = Unit {0}
  AllPutsHold (Some (Some wanted)) = PutsHold V wanted

  either : (b : Bool) (x y : Option (Option Wanted)) → AllPutsHold x → AllPutsHold y → AllPutsHold (if b then x else y)
  either true x y a b = a
  either false x y a b = b

  bare_puts : (it : Wanted) → PutsHold V it → (xs : List Value) → AllPutsHold (Some (bare it xs))
  bare_puts it h [] = h
  bare_puts it h (x ∷ xs) = tt

  one_puts : (of : ℤ → Wanted) → ((id : ℤ) → PutsHold V (of id)) → (xs : List Value) → AllPutsHold (Some (one of xs))
  one_puts of h [] = tt
  one_puts of h (x ∷ []) = at (as_int x)
    where
      at : (o : Option ℤ) → AllPutsHold (Some (option_map of o))
      at None = tt
      at (Some id) = h id
  one_puts of h (x ∷ y ∷ xs) = tt

  two_puts : (xs : List Value) → Each V xs → AllPutsHold (Some (two Put xs))
  two_puts [] a = tt
  two_puts (x ∷ []) a = tt
  two_puts (x ∷ value ∷ []) a = at (as_int x)
    where
      at : (o : Option ℤ) → AllPutsHold (Some (option_map (λ id. Put id value) o))
      at None = tt
      at (Some id) = a.1.0
  two_puts (x ∷ value ∷ y ∷ xs) a = tt

  pub wanted_puts : (code : ℤ) (xs : List Value) → Each V xs → AllPutsHold (wanted_of code xs)
  wanted_puts (pos code) xs a =
      either (code == 200) _ _ (bare_puts MakesLock tt xs)
      (either (code == 201) _ _ (one_puts Acquire (λ id. tt) xs)
      (either (code == 202) _ _ (one_puts Release (λ id. tt) xs)
      (either (code == 203) _ _ (one_puts IsLocked (λ id. tt) xs)
      (either (code == 210) _ _ (bare_puts MakesEvent tt xs)
      (either (code == 211) _ _ (one_puts Set (λ id. tt) xs)
      (either (code == 212) _ _ (one_puts Clear (λ id. tt) xs)
      (either (code == 213) _ _ (one_puts IsSet (λ id. tt) xs)
      (either (code == 214) _ _ (one_puts Wait (λ id. tt) xs)
      (either (code == 220) _ _ (one_puts MakesQueue (λ id. tt) xs)
      (either (code == 221) _ _ (two_puts xs a)
      (either (code == 222) _ _ (one_puts Get (λ id. tt) xs)
      (either (code == 225) _ _ (one_puts Size (λ id. tt) xs) tt))))))))))))
  wanted_puts (negsuc before) xs a = tt

module _ (running : Option ℕ) (s : State Synced) (may : MayCall sync_means running s) where
  abbrev kept : Synced
  kept = s.extra

  abbrev p : Parts
  p = s.loop.parts

  abbrev n : Ids
  n = ids_of s

  abbrev own : Owns
  own = owns_at (ids_of s) (sync_keeps s.extra) s.loop.parts

  abbrev Old : ℕ → Type 0
  Old id = IsAmong (sync_keeps s.extra).own id

  abbrev Made : Value → Type 0
  Made value = names_made (ids_of s) value ≡ true

  pub holds : Holds Old Made s.extra
  holds =
      holds_from Old Made s.extra (each_from Old (sync_keeps s.extra).own (λ id among. among))
      (all_each (names_made n) (sync_keeps s.extra).values may.kept.values)

  -- ---- calls that change nothing
  stays_allowed : (woken : Option ℕ) → IsCallAllowed sync_means woken (stays s.extra) s
  stays_allowed woken = record {
    steps = tt;
    kept = may.kept;
    own = each_from (IsOwn (sync_keeps s.extra).own (next_future p)) (sync_keeps s.extra).own (λ id among. inl among);
    tags = tt;
    keys = λ key other known. known;
  }

  says_allowed : (woken : Option ℕ) (answer : ExtraAnswer) → IsAnswerAllowed answer (called (stays s.extra) s) → IsNone (key_of answer)
      → IsSaidAllowed sync_means woken (only_says answer s.extra) s
  says_allowed woken answer ok none = record { call = stays_allowed woken; answer = ok; key = λ key e. absurd (subst IsNone e none) }

  passes_allowed : (key : ℕ) (input : Input) → sends_made n input ≡ true → IsSaidAllowed sync_means (Some key) (only_says (passes input) s.extra) s
  passes_allowed key (Send value) made = says_allowed (Some key) (Answers value) made tt
  passes_allowed key (Throw fault) made = says_allowed (Some key) (Raises fault) tt tt

  -- ---- one that goes through
  wakes_allowed : (steps : List ExtraStep) (l : Loop) → Each (Wakes Old Made) steps → ((id : ℕ) → Old id → IsOwned l.parts id)
      → AreAllowed own steps l
  wakes_allowed [] l wakes owned = tt
  wakes_allowed (Settles future outcome ∷ steps) l wakes owned =
      let ok : IsAllowed own (Settles future outcome) l = (
        inl wakes.0.0,
        owned future wakes.0.0,
        ap (ends_made (ids_of s)) wakes.0.1,
      ) in
      (ok, wakes_allowed steps (made_by (Settles future outcome) l) wakes.1 (λ id old. owned_on own (Settles future outcome) l id ok (owned id old)))
  wakes_allowed (_ ∷ steps) l wakes owned = absurd wakes.0

  -- what is kept then, in the loop after these steps
  state_allowed : (woken : Option ℕ) (steps : List ExtraStep) (state : Synced) (P : ℕ → Type 0) → AreAllowed own steps s.loop → Holds P Made state
      → ((id : ℕ) → P id → IsOwned (made_by_all steps s.loop).parts id) → ((id : ℕ) → P id → IsNoneOf s.futures id)
      → ((id : ℕ) → P id → IsOwn (sync_keeps s.extra).own (next_future p) id) → s.extra.drawn ≤ state.drawn
      → IsCallAllowed sync_means woken (record { state = state; steps = steps }) s
  state_allowed woken steps state P ok is owned apart mine more = record {
    steps = ok;
    kept = record {
      tasks = tt;
      awaitable = tt;
      own = own_holds (IsOwned q) Made state (holds_on P (IsOwned q) Made owned state is);
      apart = own_holds (IsNoneOf s.futures) Made state (holds_on P (IsNoneOf s.futures) Made apart state is);
      tags = tt;
      values = each_all (names_made n) (sync_keeps state).values (values_hold P Made state is);
    };
    own =
        own_holds (IsOwn (sync_keeps s.extra).own (next_future p)) Made state
        (holds_on P (IsOwn (sync_keeps s.extra).own (next_future p)) Made mine state is);
    tags = tt;
    keys = λ key other known. drawn_still s.extra.drawn state.drawn key more known;
  }
    where
      q : Parts
      q = (made_by_all steps s.loop).parts

  old_apart : (id : ℕ) → Old id → IsNoneOf s.futures id
  old_apart id old = among_each (IsNoneOf s.futures) (sync_keeps s.extra).own id may.kept.apart old

  old_owned : (id : ℕ) → Old id → IsOwned p id
  old_owned id old = among_each (IsOwned p) (sync_keeps s.extra).own id may.kept.own old

  answer_made : (answer : ExtraAnswer) (t : State Synced) → IsMore n (ids_of t) → AnswerHolds Old Made answer → IsAnswerAllowed answer t
  answer_made (Answers value) t more h = names_up n (ids_of t) more value h
  answer_made (Raises exception) t more h = tt
  answer_made (Waits on key) t more h = absurd h
  answer_made (extra.Asks code bytes key) t more h = absurd h

  answer_none : (answer : ExtraAnswer) → AnswerHolds Old Made answer → IsNone (key_of answer)
  answer_none (Answers value) h = tt
  answer_none (Raises exception) h = tt
  answer_none (Waits on key) h = absurd h
  answer_none (extra.Asks code bytes key) h = absurd h

  goes_allowed : (woken : Option ℕ) (drawn : ℕ) (said : ExtraSaid Synced) → s.extra.drawn ≤ drawn → GoesOn Old Made drawn said
      → IsSaidAllowed sync_means woken said s
  goes_allowed woken drawn said more g = record {
    call = state_allowed woken said.call.steps said.call.state Old ok g.state
        (λ id old. among_each (IsOwned (made_by_all said.call.steps s.loop).parts) (sync_keeps s.extra).own id kept_on.own old) old_apart
        (λ id old. inl old) (let e = g.keys in omega (arith, e, more));
    answer = answer_made said.answer (called said.call s) (called_more sync_means said.call s ok) g.answer;
    key = λ key e. absurd (subst IsNone e (answer_none said.answer g.answer));
  }
    where
      ok : AreAllowed own said.call.steps s.loop
      ok = wakes_allowed said.call.steps s.loop g.steps old_owned

      kept_on : AreKept (ids_of s) (sync_keeps s.extra) s.futures (made_by_all said.call.steps s.loop).parts
      kept_on = steps_keep own (sync_keeps s.extra) s.futures said.call.steps s.loop ok may.kept

  -- ---- one that waits
  abbrev next : ℕ
  next = next_future s.loop.parts

  abbrev after : Loop
  after = made_by MakesPlain s.loop

  longer : next_future after.parts ≡ next + 1
  longer = length-append p.futures (record { kind = Plain; outcome = None; callbacks = [] } ∷ [])

  next_owned : IsOwned after.parts next
  next_owned = (
    let l = longer in omega (arith, l),
    ap owner_at (get-push_last p.futures (record { kind = Plain; outcome = None; callbacks = [] })),
  )

  next_unnamed : IsNoneOf s.futures next
  next_unnamed place e = let w = (plain_within p next (may.scripts place next e)).1 in absurd (omega (arith, w))

  -- of a future that it had, or the new one
  on_new : (P : ℕ → Type 0) → ((id : ℕ) → Old id → P id) → P next → (id : ℕ) → OrNext Old Made next id → P id
  on_new P old new id (inl is) = old id is
  on_new P old new id (inr e) = subst P (sym e) new

  waits_allowed : (woken : Option ℕ) (drawn key : ℕ) (said : ExtraSaid Synced) → s.extra.drawn ≤ drawn → WaitsOn Old Made next drawn key said
      → ((state : Synced) → state.drawn ≡ drawn → IsKeyAllowed woken (sync_keeps s.extra) (sync_keeps state) key)
      → IsSaidAllowed sync_means woken said s
  waits_allowed woken drawn key said more w keyed = record {
    call = subst (λ steps. IsCallAllowed sync_means woken (record { state = said.call.state; steps = steps }) s) (sym w.steps)
        (state_allowed woken (MakesPlain ∷ []) said.call.state (OrNext Old Made next) (tt, tt) w.state
        (on_new (IsOwned after.parts) (λ id old. owned_on own MakesPlain s.loop id tt (old_owned id old)) next_owned)
        (on_new (IsNoneOf s.futures) old_apart next_unnamed)
        (on_new (IsOwn (sync_keeps s.extra).own next) (λ id old. inl old) (inr (le_refl _))) (let e = w.keys in omega (arith, e, more)));
    answer =
        subst (λ answer. IsAnswerAllowed answer (called said.call s)) (sym w.answer)
        (subst (λ steps. next < next_future (made_by_all steps s.loop).parts) (sym w.steps) next_owned.0);
    key = λ other e.
        let same : key ≡ other = ap (λ o. option_map_or (λ (k : ℕ). k) o key) (ap key_of (sym w.answer) ∙ e) in
        subst (IsKeyAllowed woken (sync_keeps s.extra) (sync_keeps said.call.state)) same (keyed said.call.state w.keys);
  }

  -- ---- both
  asked_allowed : (said : ExtraSaid Synced) → Comes Old Made next (s.extra.drawn + 1) (next_key s.extra) said → IsSaidAllowed sync_means None said s
  asked_allowed said (inl g) = goes_allowed None (s.extra.drawn + 1) said (omega arith) g
  asked_allowed said (inr w) =
      waits_allowed None (s.extra.drawn + 1) (next_key s.extra) said (omega arith) w
      (λ state e. (undrawn s.extra.drawn, ap (λ k. (sync_means.keeps (record state { drawn = k })).has_key (next_key s.extra)) e ∙ drawn_now s.extra.drawn))

  woken_allowed : (key : ℕ) → (sync_keeps s.extra).has_key key ≡ true → (said : ExtraSaid Synced) → Comes Old Made next s.extra.drawn key said
      → IsSaidAllowed sync_means (Some key) said s
  woken_allowed key known said (inl g) = goes_allowed (Some key) s.extra.drawn said (le_refl _) g
  woken_allowed key known said (inr w) =
      waits_allowed (Some key) s.extra.drawn key said (le_refl _) w
      (λ state e. (refl, ap (λ k. (sync_means.keeps (record state { drawn = k })).has_key key) e ∙ known))

  -- ---- requests
  ask_allowed : (code : ℤ) (o : Option (Option Wanted)) → AllPutsHold Made o → IsSaidAllowed sync_means None (asked_for code o p s.extra) s
  ask_allowed code None puts = says_allowed None (Raises (unknown_code code)) tt tt
  ask_allowed code (Some None) puts = says_allowed None (Raises bad_argument) tt tt
  ask_allowed code (Some (Some wanted)) puts = at (can_draw sync_part s.extra.drawn 1)
    where
      at : (b : Bool) → IsSaidAllowed sync_means None (if b then served wanted p s.extra else refuses out_of_range s.extra) s
      at true = asked_allowed (served wanted p s.extra)
          (served_comes Old Made refl (λ is. refl) (λ number. refl) p s.extra holds wanted puts)
      at false = says_allowed None (Raises out_of_range) tt tt

  -- ---- what is woken
  module _ (key : ℕ) (known : (sync_keeps s.extra).has_key key ≡ true) (input : Input) (made : sends_made n input ≡ true) where
    abbrev place : ℕ
    place = place_of sync_part key

    named_allowed : {A : Type 0} (o : Option A) (next_ : A → ExtraSaid Synced)
        → ((it : A) → o ≡ Some it → Comes Old Made next s.extra.drawn key (next_ it))
        → IsSaidAllowed sync_means (Some key) (named o input next_ s.extra) s
    named_allowed None next_ comes = passes_allowed key input made
    named_allowed (Some it) next_ comes = woken_allowed key known (next_ it) (comes it refl)

    put_made : (id on : ℕ) (value : Value) → waiting_at place s.extra ≡ Some (Puts id value on) → Made value
    put_made id on value e = (each_found (WaitingHolds Old Made) (is_place place) s.extra.waiting (Puts id value on) e holds.waiting).1.1.0

    wake_allowed : (o : Option Waiting) → waiting_at place s.extra ≡ o → IsSaidAllowed sync_means (Some key) (woken o key place input p s.extra) s
    wake_allowed None e = passes_allowed key input made
    wake_allowed (Some (Acquires id on)) e =
        named_allowed (slice_get s.extra.locks id) (λ lock. acquired place id on input lock s.extra)
        (λ lock there. acquired_comes Old Made refl (λ is. refl) (λ number. refl) p s.extra holds key place id on input lock
        (each_at (LockHolds Old Made) s.extra.locks id lock there holds.locks))
    wake_allowed (Some (Awaits id on)) e =
        named_allowed (slice_get s.extra.events id) (λ event. waited place id on input event s.extra)
        (λ event there. waited_comes Old Made refl (λ is. refl) (λ number. refl) p s.extra holds key place id on input event
        (each_at (EventHolds Old Made) s.extra.events id event there holds.events))
    wake_allowed (Some (Puts id value on)) e =
        named_allowed (slice_get s.extra.queues id) (λ queue. putting key place id on value input queue p s.extra)
        (λ queue there. putting_comes Old Made refl (λ is. refl) (λ number. refl) p s.extra holds key place id on value (put_made id on value e) input queue
        (each_at (QueueHolds Old Made) s.extra.queues id queue there holds.queues) (Puts id value on) e)
    wake_allowed (Some (Gets id on)) e =
        named_allowed (slice_get s.extra.queues id) (λ queue. getting key place id on input queue p s.extra)
        (λ queue there. getting_comes Old Made refl (λ is. refl) (λ number. refl) p s.extra holds key place id on input queue
        (each_at (QueueHolds Old Made) s.extra.queues id queue there holds.queues) (Gets id on) e)

pub sync_allowed : MakesAllowedSteps sync_means
sync_allowed = record {
  ask = λ task code arguments s may made.
      ask_allowed (Some task) s may code (wanted_of code arguments)
      (wanted_puts (Made (Some task) s may) code arguments (all_each (names_made (ids_of s)) arguments made));
  wake = λ task key input s may known made.
      wake_allowed (Some task) s may key known input made (waiting_at (place_of sync_part key) s.extra) refl;
  act = λ key s may. stays_allowed None s may None;
  item = λ code bytes s may. stays_allowed None s may None;
}
