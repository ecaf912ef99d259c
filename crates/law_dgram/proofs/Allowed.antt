-- Datagram endpoints make allowed steps alone, and what they keep stays right.
use Rattle.std.proofs.Common.{◌≡◌, ℕ, ℤ, ◌+◌, ◌<◌, ◌≤◌, inl, inr, Bool, true, false, List, [], ◌∷◌, Option, Some, None}
use Rattle.std.proofs.Common.{refl, sym, ap, subst, ◌∙◌, arith, le_refl, length-append}
use Rattle.std.specs.Prelude.{if◌then◌else◌}
use Rattle.std.specs.List.{AllByRecursion as Each}
use Rattle.std.specs.Option.{option_map_or}
use Rattle.model_value.specs.Input.{Input}
use Rattle.model_value.specs.Value.{Value}
use Rattle.model_value.specs.declared.input.Input.TheVariants.{Send, Throw}
use Rattle.model_loop.specs.Futures.{next_future}
use Rattle.model_loop.specs.Loop.{Loop}
use Rattle.model_loop.specs.Owning.{owner_at}
use Rattle.model_loop.specs.Parts.{Parts, Plain}
use Rattle.model_says.specs.Operations.{out_of_range}
use Rattle.model_says.specs.Requests.{bad_argument}
use Rattle.model_machine.specs.Extra.{Answers, Asks, ExtraAnswer, ExtraCall, ExtraSaid, ExtraStep, MakesPlain, Raises, Settles, Waits, called, key_of, made_by}
use Rattle.model_machine.specs.Extra.{made_by_all, unknown_code}
use Rattle.model_machine.specs.Sound.{AreKept, Ids, IsNoneOf, IsOwned, ids_of, names_made, sends_made}
use Rattle.model_machine.specs.State.{State}
use Rattle.model_reach.specs.Part.{can_draw, only_says, passes, place_of, refuses, stays}
use Rattle.law_cancel.proofs.Lookups.{get-push_last}
use Rattle.law_steps.proofs.CancelSound.{plain_within}
use Rattle.law_runs.specs.Allowed.{AreAllowed, IsAllowed, IsAmong, IsAnswerAllowed, IsCallAllowed, IsKeyAllowed, IsOwn, IsSaidAllowed, MakesAllowedSteps, MayCall}
use Rattle.law_runs.specs.Allowed.{Owns, ends_made, owns_at}
use Rattle.law_replies.proofs.Ids.{IsMore, names_up}
use Rattle.law_runs.proofs.Called.{called_more, steps_keep}
use Rattle.law_runs.proofs.Steps.{all_after}
use Rattle.model_dgram.specs.Endpoints.{Closes, Endpoints, Offers, Opens, Receives, Sends, Waiting, dgram_keeps, dgram_part, next_key, waiting_at}
use Rattle.model_dgram.specs.Serving.{Wanted, asked_for, dgram_means, served, told, wanted_of, woken}
use Rattle.law_sync.proofs.Lists.{among_each, each_from}
use Rattle.law_dgram.proofs.Holding.{Holds, holds_from, holds_on, own_holds}
use Rattle.law_dgram.proofs.Comes.{AnswerHolds, Comes, GoesOn, Hears, May, MayNot, OrNext, Wakes, WaitsOn, closed_comes, offered_comes}
use Rattle.law_dgram.proofs.Comes.{opened_comes, receives_comes, sends_comes, served_comes, told_hears}
use Rattle.law_dgram.proofs.Keys.{drawn_now, drawn_still, undrawn}

-- no answer of these is to be woken
abbrev IsNone : {A : Type 0} → Option A → Type 0
IsNone None = Unit {0}
IsNone (Some it) = ⊥

-- what is its own stays so
owned_on : (own : Owns) (step : ExtraStep) (l : Loop) (id : ℕ) → IsAllowed own step l → IsOwned l.parts id → IsOwned (made_by step l).parts id
owned_on own step l id may o =
    let a = (all_after None own (step ∷ []) l (may, tt)).parts in
    (let f = a.futures in let w = o.0 in omega (arith, f, w), a.owners id o.0 ∙ o.1)

module _ (running : Option ℕ) (s : State Endpoints) (may : MayCall dgram_means running s) where
  abbrev p : Parts
  p = s.loop.parts

  abbrev n : Ids
  n = ids_of s

  abbrev own : Owns
  own = owns_at (ids_of s) (dgram_keeps s.extra) s.loop.parts

  abbrev Old : ℕ → Type 0
  Old id = IsAmong (dgram_keeps s.extra).own id

  abbrev Made : Value → Type 0
  Made value = names_made (ids_of s) value ≡ true

  pub holds : Holds Old s.extra.waiting
  holds = holds_from Old s.extra (each_from Old (dgram_keeps s.extra).own (λ id among. among))

  -- ---- calls that change nothing
  stays_allowed : (woken : Option ℕ) → IsCallAllowed dgram_means woken (stays s.extra) s
  stays_allowed woken = record {
    steps = tt;
    kept = may.kept;
    own = each_from (IsOwn (dgram_keeps s.extra).own (next_future p)) (dgram_keeps s.extra).own (λ id among. inl among);
    tags = tt;
    keys = λ key other known. known;
  }

  says_allowed : (woken : Option ℕ) (answer : ExtraAnswer) → IsAnswerAllowed answer (called (stays s.extra) s) → IsNone (key_of answer)
      → IsSaidAllowed dgram_means woken (only_says answer s.extra) s
  says_allowed woken answer ok none = record { call = stays_allowed woken; answer = ok; key = λ key e. absurd (subst IsNone e none) }

  passes_allowed : (key : ℕ) (input : Input) → sends_made n input ≡ true → IsSaidAllowed dgram_means (Some key) (only_says (passes input) s.extra) s
  passes_allowed key (Send value) made = says_allowed (Some key) (Answers value) made tt
  passes_allowed key (Throw fault) made = says_allowed (Some key) (Raises fault) tt tt

  -- ---- those who are woken
  wakes_allowed : (steps : List ExtraStep) (l : Loop) → Each (Wakes Old Made) steps → ((id : ℕ) → Old id → IsOwned l.parts id)
      → AreAllowed own steps l
  wakes_allowed [] l wakes owned = tt
  wakes_allowed (Settles future outcome ∷ steps) l wakes owned =
      let ok : IsAllowed own (Settles future outcome) l = (
        inl wakes.0.0,
        owned future wakes.0.0,
        ap (ends_made (ids_of s)) wakes.0.1,
      ) in
      (ok, wakes_allowed steps (made_by (Settles future outcome) l) wakes.1 (λ id old. owned_on own (Settles future outcome) l id ok (owned id old)))
  wakes_allowed (_ ∷ steps) l wakes owned = absurd wakes.0

  -- what is kept then, in the loop after these steps
  state_allowed : (woken : Option ℕ) (steps : List ExtraStep) (state : Endpoints) (P : ℕ → Type 0) → AreAllowed own steps s.loop → Holds P state.waiting
      → ((id : ℕ) → P id → IsOwned (made_by_all steps s.loop).parts id) → ((id : ℕ) → P id → IsNoneOf s.futures id)
      → ((id : ℕ) → P id → IsOwn (dgram_keeps s.extra).own (next_future p) id) → s.extra.drawn ≤ state.drawn
      → IsCallAllowed dgram_means woken (record { state = state; steps = steps }) s
  state_allowed woken steps state P ok is owned apart mine more = record {
    steps = ok;
    kept = record {
      tasks = tt;
      awaitable = tt;
      own = own_holds (IsOwned q) state (holds_on P (IsOwned q) owned state.waiting is);
      apart = own_holds (IsNoneOf s.futures) state (holds_on P (IsNoneOf s.futures) apart state.waiting is);
      tags = tt;
      values = refl;
    };
    own =
        own_holds (IsOwn (dgram_keeps s.extra).own (next_future p)) state
        (holds_on P (IsOwn (dgram_keeps s.extra).own (next_future p)) mine state.waiting is);
    tags = tt;
    keys = λ key other known. drawn_still s.extra.drawn state.drawn key more known;
  }
    where
      q : Parts
      q = (made_by_all steps s.loop).parts

  old_apart : (id : ℕ) → Old id → IsNoneOf s.futures id
  old_apart id old = among_each (IsNoneOf s.futures) (dgram_keeps s.extra).own id may.kept.apart old

  old_owned : (id : ℕ) → Old id → IsOwned p id
  old_owned id old = among_each (IsOwned p) (dgram_keeps s.extra).own id may.kept.own old

  -- steps that wake alone, and what is kept then
  wakes_call : (woken : Option ℕ) (steps : List ExtraStep) (state : Endpoints) → Each (Wakes Old Made) steps → Holds Old state.waiting
      → s.extra.drawn ≤ state.drawn → IsCallAllowed dgram_means woken (record { state = state; steps = steps }) s
  wakes_call woken steps state wakes is more =
      state_allowed woken steps state Old ok is
      (λ id old. among_each (IsOwned (made_by_all steps s.loop).parts) (dgram_keeps s.extra).own id kept_on.own old) old_apart (λ id old. inl old) more
    where
      ok : AreAllowed own steps s.loop
      ok = wakes_allowed steps s.loop wakes old_owned

      kept_on : AreKept (ids_of s) (dgram_keeps s.extra) s.futures (made_by_all steps s.loop).parts
      kept_on = steps_keep own (dgram_keeps s.extra) s.futures steps s.loop ok may.kept

  -- ---- one that goes through, or asks the outside
  answer_made : (may : Type 0) (key : ℕ) (answer : ExtraAnswer) (t : State Endpoints) → IsMore n (ids_of t) → AnswerHolds Old Made may key answer
      → IsAnswerAllowed answer t
  answer_made may key (Answers value) t more h = names_up n (ids_of t) more value h
  answer_made may key (Raises exception) t more h = tt
  answer_made may key (Waits on other) t more h = absurd h
  answer_made may key (Asks code bytes other) t more h = tt

  answer_key : (may : Type 0) (key : ℕ) (answer : ExtraAnswer) → AnswerHolds Old Made may key answer → (other : ℕ) → key_of answer ≡ Some other → key ≡ other
  answer_key may key (Answers value) h other e = absurd (cc)
  answer_key may key (Raises exception) h other e = absurd (cc)
  answer_key may key (Waits on next) h other e = absurd h
  answer_key may key (Asks code bytes next) h other e = h.1 ∙ ap (λ o. option_map_or (λ (k : ℕ). k) o key) e

  goes_allowed : (woken : Option ℕ) (may_ask : Endpoints → Type 0) (drawn key : ℕ) (said : ExtraSaid Endpoints) → s.extra.drawn ≤ drawn
      → GoesOn Old Made may_ask drawn key said
      → ((state : Endpoints) → state.drawn ≡ drawn → IsKeyAllowed woken (dgram_keeps s.extra) (dgram_keeps state) key)
      → IsSaidAllowed dgram_means woken said s
  goes_allowed woken may_ask drawn key said more g keyed = record {
    call = wakes_call woken said.call.steps said.call.state g.steps g.state (let e = g.keys in omega (arith, e, more));
    answer =
        answer_made (may_ask said.call.state) key said.answer (called said.call s)
        (called_more dgram_means said.call s (wakes_allowed said.call.steps s.loop g.steps old_owned)) g.answer;
    key = λ other e.
        subst (IsKeyAllowed woken (dgram_keeps s.extra) (dgram_keeps said.call.state)) (answer_key (may_ask said.call.state) key said.answer g.answer other e)
        (keyed said.call.state g.keys);
  }

  -- ---- one that waits
  abbrev next : ℕ
  next = next_future s.loop.parts

  abbrev after : Loop
  after = made_by MakesPlain s.loop

  longer : next_future after.parts ≡ next + 1
  longer = length-append p.futures (record { kind = Plain; outcome = None; callbacks = [] } ∷ [])

  next_owned : IsOwned after.parts next
  next_owned = (
    let l = longer in omega (arith, l),
    ap owner_at (get-push_last p.futures (record { kind = Plain; outcome = None; callbacks = [] })),
  )

  next_unnamed : IsNoneOf s.futures next
  next_unnamed place e = let w = (plain_within p next (may.scripts place next e)).1 in absurd (omega (arith, w))

  -- of a future that it had, or the new one
  on_new : (P : ℕ → Type 0) → ((id : ℕ) → Old id → P id) → P next → (id : ℕ) → OrNext Old Made next id → P id
  on_new P old new id (inl is) = old id is
  on_new P old new id (inr e) = subst P (sym e) new

  waits_allowed : (woken : Option ℕ) (drawn key : ℕ) (said : ExtraSaid Endpoints) → s.extra.drawn ≤ drawn → WaitsOn Old Made next drawn key said
      → ((state : Endpoints) → state.drawn ≡ drawn → IsKeyAllowed woken (dgram_keeps s.extra) (dgram_keeps state) key)
      → IsSaidAllowed dgram_means woken said s
  waits_allowed woken drawn key said more w keyed = record {
    call = subst (λ steps. IsCallAllowed dgram_means woken (record { state = said.call.state; steps = steps }) s) (sym w.steps)
        (state_allowed woken (MakesPlain ∷ []) said.call.state (OrNext Old Made next) (tt, tt) w.state
        (on_new (IsOwned after.parts) (λ id old. owned_on own MakesPlain s.loop id tt (old_owned id old)) next_owned)
        (on_new (IsNoneOf s.futures) old_apart next_unnamed)
        (on_new (IsOwn (dgram_keeps s.extra).own next) (λ id old. inl old) (inr (le_refl _))) (let e = w.keys in omega (arith, e, more)));
    answer =
        subst (λ answer. IsAnswerAllowed answer (called said.call s)) (sym w.answer)
        (subst (λ steps. next < next_future (made_by_all steps s.loop).parts) (sym w.steps) next_owned.0);
    key = λ other e.
        let same : key ≡ other = ap (λ o. option_map_or (λ (k : ℕ). k) o key) (ap key_of (sym w.answer) ∙ e) in
        subst (IsKeyAllowed woken (dgram_keeps s.extra) (dgram_keeps said.call.state)) same (keyed said.call.state w.keys);
  }

  -- ---- both
  new_keyed : (state : Endpoints) → state.drawn ≡ s.extra.drawn + 1 → IsKeyAllowed None (dgram_keeps s.extra) (dgram_keeps state) (next_key s.extra)
  new_keyed state e = (undrawn s.extra.drawn, ap (λ k. (dgram_means.keeps (record state { drawn = k })).has_key (next_key s.extra)) e ∙ drawn_now s.extra.drawn)

  asked_allowed : (said : ExtraSaid Endpoints) → Comes Old Made May next (s.extra.drawn + 1) (next_key s.extra) said → IsSaidAllowed dgram_means None said s
  asked_allowed said (inl g) = goes_allowed None May (s.extra.drawn + 1) (next_key s.extra) said (omega arith) g new_keyed
  asked_allowed said (inr w) = waits_allowed None (s.extra.drawn + 1) (next_key s.extra) said (omega arith) w new_keyed

  woken_allowed : (may_ask : Endpoints → Type 0) (key : ℕ) → (dgram_keeps s.extra).has_key key ≡ true → (said : ExtraSaid Endpoints)
      → Comes Old Made may_ask next s.extra.drawn key said → IsSaidAllowed dgram_means (Some key) said s
  woken_allowed may_ask key known said (inl g) =
      goes_allowed (Some key) may_ask s.extra.drawn key said (le_refl _) g
      (λ state e. (refl, ap (λ k. (dgram_means.keeps (record state { drawn = k })).has_key key) e ∙ known))
  woken_allowed may_ask key known said (inr w) =
      waits_allowed (Some key) s.extra.drawn key said (le_refl _) w
      (λ state e. (refl, ap (λ k. (dgram_means.keeps (record state { drawn = k })).has_key key) e ∙ known))

  -- ---- requests
  ask_allowed : (code : ℤ) (o : Option (Option Wanted)) → IsSaidAllowed dgram_means None (asked_for code o p s.extra) s
  ask_allowed code None = says_allowed None (Raises (unknown_code code)) tt tt
  ask_allowed code (Some None) = says_allowed None (Raises bad_argument) tt tt
  ask_allowed code (Some (Some wanted)) = at (can_draw dgram_part s.extra.drawn 1)
    where
      at : (b : Bool) → IsSaidAllowed dgram_means None (if b then served wanted p s.extra else refuses out_of_range s.extra) s
      at true = asked_allowed (served wanted p s.extra) (served_comes Old Made refl (λ number. refl) (λ it. refl) p s.extra holds wanted)
      at false = says_allowed None (Raises out_of_range) tt tt

  -- ---- what is woken
  module _ (key : ℕ) (known : (dgram_keeps s.extra).has_key key ≡ true) (input : Input) (made : sends_made n input ≡ true) where
    abbrev place : ℕ
    place = place_of dgram_part key

    never : (said : ExtraSaid Endpoints) → Comes Old Made MayNot next s.extra.drawn key said → IsSaidAllowed dgram_means (Some key) said s
    never said c = woken_allowed MayNot key known said c

    wake_allowed : (o : Option Waiting) → waiting_at place s.extra ≡ o → IsSaidAllowed dgram_means (Some key) (woken o key place input p s.extra) s
    wake_allowed None e = passes_allowed key input made
    wake_allowed (Some Opens) e =
        never (woken (Some Opens) key place input p s.extra)
        (opened_comes Old Made refl (λ number. refl) (λ it. refl) p s.extra holds key place input)
    wake_allowed (Some (Offers id it)) e =
        never (woken (Some (Offers id it)) key place input p s.extra)
        (offered_comes Old Made refl (λ number. refl) (λ it. refl) p s.extra holds key place id it input (Offers id it) e)
    wake_allowed (Some (Sends id it on)) e =
        woken_allowed May key known (woken (Some (Sends id it on)) key place input p s.extra)
        (sends_comes Old Made refl (λ number. refl) (λ it. refl) p s.extra holds May key place id it input tt (Sends id it on) e)
    wake_allowed (Some (Receives id on)) e =
        never (woken (Some (Receives id on)) key place input p s.extra)
        (receives_comes Old Made refl (λ number. refl) (λ it. refl) p s.extra holds key place id input (Receives id on) e)
    wake_allowed (Some Closes) e =
        never (woken (Some Closes) key place input p s.extra)
        (closed_comes Old Made refl (λ number. refl) (λ it. refl) p s.extra holds key place input)

  -- ---- what the outside tells
  hears_allowed : (call : ExtraCall Endpoints) → Hears Old Made s.extra.drawn call → IsCallAllowed dgram_means None call s
  hears_allowed call h = wakes_call None call.steps call.state h.steps h.state (let e = h.keys in omega (arith, e))

  told_allowed : (code : ℤ) (bytes : List ℕ) → IsCallAllowed dgram_means None (told code bytes s.extra) s
  told_allowed code bytes =
      hears_allowed (told code bytes s.extra) (told_hears Old Made refl (λ number. refl) (λ it. refl) p s.extra holds code bytes)

pub dgram_allowed : MakesAllowedSteps dgram_means
dgram_allowed = record {
  ask = λ task code arguments s may made. ask_allowed (Some task) s may code (wanted_of code arguments);
  wake = λ task key input s may known made.
      wake_allowed (Some task) s may key known input made (waiting_at (place_of dgram_part key) s.extra) refl;
  act = λ key s may. stays_allowed None s may None;
  item = λ code bytes s may. told_allowed None s may code bytes;
}
