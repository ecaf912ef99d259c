-- Jobs beside the loop make allowed steps alone, and what they keep stays right.
use Rattle.std.proofs.Common.{◌≡◌, ℕ, ℤ, pos, ◌+◌, ◌≤◌, ◌⊎◌, inl, inr, Bool, true, false, List, [], ◌∷◌, Option, Some, None}
use Rattle.std.proofs.Common.{refl, sym, ap, subst, ◌∙◌, arith, le_refl, length-append}
use Rattle.std.specs.Prelude.{if◌then◌else◌}
use Rattle.std.specs.Option.{option_map_or}
use Rattle.model_value.specs.Input.{Input}
use Rattle.model_value.specs.Value.{Bytes, Nothing, Value}
use Rattle.model_value.specs.declared.input.Input.TheVariants.{Send, Throw}
use Rattle.model_value.specs.declared.outcome.Outcome.TheVariants.{Value as Returned}
use Rattle.model_loop.specs.Futures.{next_future}
use Rattle.model_loop.specs.Loop.{Loop}
use Rattle.model_loop.specs.Owning.{owner_at}
use Rattle.model_loop.specs.Parts.{Parts, Plain}
use Rattle.model_says.specs.Operations.{out_of_range}
use Rattle.model_says.specs.Requests.{bad_argument}
use Rattle.model_machine.specs.Extra.{Answers, Asks, ExtraAnswer, ExtraStep, MakesPlain, Raises, Settles, Waits, called, key_of, made_by, made_by_all, unknown_code}
use Rattle.model_machine.specs.Sound.{Ids, IsNoneOf, IsOwned, ids_of, sends_made}
use Rattle.model_machine.specs.State.{State}
use Rattle.model_reach.specs.Part.{can_draw, only_says, passes, place_of, refuses, stays}
use Rattle.law_cancel.proofs.Lookups.{get-push_last}
use Rattle.law_steps.proofs.CancelSound.{plain_within}
use Rattle.law_runs.specs.Allowed.{AreAllowed, IsAllowed, IsAmong, IsAnswerAllowed, IsCallAllowed, IsKeyAllowed, IsOwn, IsSaidAllowed, MakesAllowedSteps, MayCall}
use Rattle.law_runs.specs.Allowed.{Owns, owns_at}
use Rattle.law_runs.proofs.Steps.{all_after}
use Rattle.model_fields.specs.Fields.{numbered}
use Rattle.model_exec.specs.Jobs.{is_job, job_code, job_text}
use Rattle.model_exec.specs.Execed.{Asking, Execed, Standing, Waiting, accept, ask_last, draw, exec_keeps, exec_part, job_over, next_key, place_of_job, says}
use Rattle.model_exec.specs.Execed.{stand_no_more, stand_on, standing_at}
use Rattle.model_exec.specs.Serving.{Wanted, answered, asked, asked_for, asked_to, came_as, exec_means, given_to, is_job_code, is_next, no_job, strange_answer, told}
use Rattle.model_exec.specs.Serving.{waited, wanted_of, woken}
use Rattle.law_sync.proofs.Lists.{among_each, each_from}
use Rattle.law_exec.proofs.Holding.{Holds, found_holds, holds_from, holds_on, last_holds, no_more_holds, on_holds, own_holds}
use Rattle.law_exec.proofs.Keys.{drawn_now, drawn_still, undrawn}

-- no answer of these is to be woken
abbrev IsNone : {A : Type 0} → Option A → Type 0
IsNone None = Unit {0}
IsNone (Some it) = ⊥

same_key : (key other : ℕ) → Some key ≡ Some other → key ≡ other
same_key key other e = ap (λ o. option_map_or (λ (k : ℕ). k) o key) e

-- ---- what is its own stays so
owned_on : (own : Owns) (step : ExtraStep) (l : Loop) (id : ℕ) → IsAllowed own step l → IsOwned l.parts id → IsOwned (made_by step l).parts id
owned_on own step l id may o =
    let a = (all_after None own (step ∷ []) l (may, tt)).parts in
    (let f = a.futures in let w = o.0 in omega (arith, f, w), a.owners id o.0 ∙ o.1)

module _ (running : Option ℕ) (s : State Execed) (may : MayCall exec_means running s) where
  abbrev p : Parts
  p = s.loop.parts

  abbrev n : Ids
  n = ids_of s

  abbrev own : Owns
  own = owns_at (ids_of s) (exec_keeps s.extra) s.loop.parts

  abbrev Old : ℕ → Type 0
  Old id = IsAmong (exec_keeps s.extra).own id

  holds : Holds Old s.extra
  holds = holds_from Old s.extra (each_from Old (exec_keeps s.extra).own (λ id among. among))

  old_apart : (id : ℕ) → Old id → IsNoneOf s.futures id
  old_apart id old = among_each (IsNoneOf s.futures) (exec_keeps s.extra).own id may.kept.apart old

  old_owned : (id : ℕ) → Old id → IsOwned p id
  old_owned id old = among_each (IsOwned p) (exec_keeps s.extra).own id may.kept.own old

  -- what is kept then, in the loop after these steps
  state_allowed : (woken : Option ℕ) (steps : List ExtraStep) (state : Execed) (P : ℕ → Type 0) → AreAllowed own steps s.loop → Holds P state
      → ((id : ℕ) → P id → IsOwned (made_by_all steps s.loop).parts id) → ((id : ℕ) → P id → IsNoneOf s.futures id)
      → ((id : ℕ) → P id → IsOwn (exec_keeps s.extra).own (next_future p) id) → s.extra.drawn ≤ state.drawn
      → IsCallAllowed exec_means woken (record { state = state; steps = steps }) s
  state_allowed woken steps state P ok is owned apart mine more = record {
    steps = ok;
    kept = record {
      tasks = tt;
      awaitable = tt;
      own = own_holds (IsOwned (made_by_all steps s.loop).parts) state (holds_on P (IsOwned (made_by_all steps s.loop).parts) owned state is);
      apart = own_holds (IsNoneOf s.futures) state (holds_on P (IsNoneOf s.futures) apart state is);
      tags = tt;
      values = refl;
    };
    own =
        own_holds (IsOwn (exec_keeps s.extra).own (next_future p)) state (holds_on P (IsOwn (exec_keeps s.extra).own (next_future p)) mine state is);
    tags = tt;
    keys = λ key other known. drawn_still s.extra.drawn state.drawn key more known;
  }

  -- ---- calls that change nothing
  stays_allowed : (woken : Option ℕ) → IsCallAllowed exec_means woken (stays s.extra) s
  stays_allowed woken = state_allowed woken [] s.extra Old tt holds old_owned old_apart (λ id old. inl old) (le_refl _)

  says_allowed : (woken : Option ℕ) (answer : ExtraAnswer) → IsAnswerAllowed answer (called (stays s.extra) s) → IsNone (key_of answer)
      → IsSaidAllowed exec_means woken (only_says answer s.extra) s
  says_allowed woken answer ok none = record { call = stays_allowed woken; answer = ok; key = λ key e. absurd (subst IsNone e none) }

  passes_allowed : (key : ℕ) (input : Input) → sends_made n input ≡ true → IsSaidAllowed exec_means (Some key) (only_says (passes input) s.extra) s
  passes_allowed key (Send value) made = says_allowed (Some key) (Answers value) made tt
  passes_allowed key (Throw fault) made = says_allowed (Some key) (Raises fault) tt tt

  -- ---- calls that make no steps
  quiet : (woken : Option ℕ) (state : Execed) → Holds Old state → s.extra.drawn ≤ state.drawn
      → IsCallAllowed exec_means woken (record { state = state; steps = [] }) s
  quiet woken state is more = state_allowed woken [] state Old tt is old_owned old_apart (λ id old. inl old) more

  over : (woken : Option ℕ) (state : Execed) (answer : ExtraAnswer) → Holds Old state → s.extra.drawn ≤ state.drawn
      → IsAnswerAllowed answer (called (record { state = state; steps = [] }) s) → IsNone (key_of answer)
      → IsSaidAllowed exec_means woken (says state [] answer) s
  over woken state answer is more ok none = record { call = quiet woken state is more; answer = ok; key = λ key e. absurd (subst IsNone e none) }

  -- ---- requests
  to_allowed : (it : Wanted) → IsSaidAllowed exec_means None (asked_to it s.extra) s
  to_allowed it = at (is_job it.kind it.input)
    where
      at : (b : Bool)
          → IsSaidAllowed exec_means None
          (if b then says (ask_last s.extra) [] (Asks (pos job_code) (job_text it.kind it.input) (next_key s.extra))
          else says (draw s.extra) [] (Raises no_job)) s
      at true = record {
        call = quiet None (ask_last s.extra) (last_holds Old s.extra holds) (omega arith);
        answer = tt;
        key = λ key e.
            subst (IsKeyAllowed None (exec_keeps s.extra) (exec_keeps (ask_last s.extra))) (same_key (next_key s.extra) key e)
            (undrawn s.extra.drawn, drawn_now s.extra.drawn);
      }
      at false = over None (draw s.extra) (Raises no_job) holds (omega arith) tt tt

  for_allowed : (code : ℤ) (o : Option Wanted) → IsSaidAllowed exec_means None (asked_for code o s.extra) s
  for_allowed code None = says_allowed None (Raises bad_argument) tt tt
  for_allowed code (Some it) = at (can_draw exec_part s.extra.drawn 1)
    where
      at : (b : Bool) → IsSaidAllowed exec_means None (if b then asked_to it s.extra else refuses out_of_range s.extra) s
      at true = to_allowed it
      at false = says_allowed None (Raises out_of_range) tt tt

  ask_allowed : (code : ℤ) (arguments : List Value) → IsSaidAllowed exec_means None (asked code arguments s.extra) s
  ask_allowed code arguments = at (is_job_code code)
    where
      at : (b : Bool)
          → IsSaidAllowed exec_means None (if b then asked_for code (wanted_of arguments) s.extra else refuses (unknown_code code) s.extra) s
      at true = for_allowed code (wanted_of arguments)
      at false = says_allowed None (Raises (unknown_code code)) tt tt

  -- ---- one that waits
  abbrev next : ℕ
  next = next_future s.loop.parts

  abbrev after : Loop
  after = made_by MakesPlain s.loop

  longer : next_future after.parts ≡ next + 1
  longer = length-append p.futures (record { kind = Plain; outcome = None; callbacks = [] } ∷ [])

  next_owned : IsOwned after.parts next
  next_owned = (
    let l = longer in omega (arith, l),
    ap owner_at (get-push_last p.futures (record { kind = Plain; outcome = None; callbacks = [] })),
  )

  next_unnamed : IsNoneOf s.futures next
  next_unnamed place e = let w = (plain_within p next (may.scripts place next e)).1 in absurd (omega (arith, w))

  -- one that it had, or the new one
  abbrev OrNext : ℕ → Type 0
  OrNext id = Old id ⊎ (id ≡ next)

  on_new : (P : ℕ → Type 0) → ((id : ℕ) → Old id → P id) → P next → (id : ℕ) → OrNext id → P id
  on_new P old new id (inl is) = old id is
  on_new P old new id (inr e) = subst P (sym e) new

  accepted_holds : (place : ℕ) → Holds OrNext (accept place (stand_on place (Waiting next None) s.extra))
  accepted_holds place = on_holds OrNext place (Waiting next None) s.extra (holds_on Old OrNext (λ id old. inl old) s.extra holds) (inr refl, tt)

  module _ (key : ℕ) (known : (exec_keeps s.extra).has_key key ≡ true) (place : ℕ) where
    waits_allowed : IsSaidAllowed exec_means (Some key)
        (says (accept place (stand_on place (Waiting next None) s.extra)) (MakesPlain ∷ []) (Waits next key)) s
    waits_allowed = record {
      call =
          state_allowed (Some key) (MakesPlain ∷ []) (accept place (stand_on place (Waiting next None) s.extra)) OrNext (tt, tt)
          (accepted_holds place)
          (on_new (IsOwned after.parts) (λ id old. owned_on own MakesPlain s.loop id tt (old_owned id old)) next_owned)
          (on_new (IsNoneOf s.futures) old_apart next_unnamed)
          (on_new (IsOwn (exec_keeps s.extra).own next) (λ id old. inl old) (inr (le_refl _))) (le_refl _);
      answer = next_owned.0;
      key = λ other e.
          subst (IsKeyAllowed (Some key) (exec_keeps s.extra) (exec_keeps (accept place (stand_on place (Waiting next None) s.extra))))
          (same_key key other e) (refl, known);
    }

    no_more : (answer : ExtraAnswer) → IsAnswerAllowed answer (called (record { state = stand_no_more place s.extra; steps = [] }) s)
        → IsNone (key_of answer) → IsSaidAllowed exec_means (Some key) (says (stand_no_more place s.extra) [] answer) s
    no_more answer ok none = over (Some key) (stand_no_more place s.extra) answer (no_more_holds Old place s.extra holds) (le_refl _) ok none

    answered_allowed : (input : Input) → IsSaidAllowed exec_means (Some key) (answered key place input p s.extra) s
    answered_allowed (Send value) = at (is_next s.extra value)
      where
        at : (b : Bool)
            → IsSaidAllowed exec_means (Some key)
            (if b then says (accept place (stand_on place (Waiting next None) s.extra)) (MakesPlain ∷ []) (Waits next key)
            else says (stand_no_more place s.extra) [] (Raises strange_answer)) s
        at true = waits_allowed
        at false = no_more (Raises strange_answer) tt tt
    answered_allowed (Throw exception) = no_more (Raises exception) tt tt

    came_allowed : (came : Option (List ℕ)) → IsSaidAllowed exec_means (Some key) (says (stand_no_more place s.extra) [] (came_as came)) s
    came_allowed None = no_more (Raises strange_answer) tt tt
    came_allowed (Some result) = no_more (Answers (Bytes result)) refl tt

    waited_allowed : (came : Option (List ℕ)) (input : Input) → IsSaidAllowed exec_means (Some key) (waited place came input s.extra) s
    waited_allowed came (Send value) = came_allowed came
    waited_allowed came (Throw exception) = no_more (Raises exception) tt tt

    wake_allowed : (input : Input) → sends_made n input ≡ true → (o : Option Standing)
        → IsSaidAllowed exec_means (Some key) (woken o key place input p s.extra) s
    wake_allowed input made None = passes_allowed key input made
    wake_allowed input made (Some Asking) = answered_allowed input
    wake_allowed input made (Some (Waiting on came)) = waited_allowed came input

  -- ---- news
  given_allowed : (number place : ℕ) (result : List ℕ) (o : Option Standing) → standing_at place s.extra ≡ o
      → IsCallAllowed exec_means None (given_to o place result (job_over number s.extra)) s
  given_allowed number place result None e = quiet None (job_over number s.extra) holds (le_refl _)
  given_allowed number place result (Some Asking) e = quiet None (job_over number s.extra) holds (le_refl _)
  given_allowed number place result (Some (Waiting on came)) e =
      state_allowed None (Settles on (Returned Nothing) ∷ []) (stand_on place (Waiting on (Some result)) (job_over number s.extra)) Old (ok, tt)
      (on_holds Old place (Waiting on (Some result)) (job_over number s.extra) holds (mine, tt))
      (λ id old. owned_on own (Settles on (Returned Nothing)) s.loop id ok (old_owned id old)) old_apart (λ id old. inl old) (le_refl _)
    where
      mine : Old on
      mine = found_holds Old place on came s.extra holds e

      ok : IsAllowed own (Settles on (Returned Nothing)) s.loop
      ok = (inl mine, old_owned on mine, refl)

  told_allowed : (o : Option (ℕ × List ℕ)) → IsCallAllowed exec_means None (told o s.extra) s
  told_allowed None = stays_allowed None
  told_allowed (Some it) = at (place_of_job it.0 s.extra)
    where
      at : (o : Option ℕ)
          → IsCallAllowed exec_means None
          (elim o [ None ↦ stays s.extra | Some place ↦ given_to (standing_at place s.extra) place it.1 (job_over it.0 s.extra) ]) s
      at None = stays_allowed None
      at (Some place) = given_allowed it.0 place it.1 (standing_at place s.extra) refl

  item_allowed : (code : ℤ) (bytes : List ℕ)
      → IsCallAllowed exec_means None (if is_job_code code then told (numbered bytes) s.extra else stays s.extra) s
  item_allowed code bytes = at (is_job_code code)
    where
      at : (b : Bool) → IsCallAllowed exec_means None (if b then told (numbered bytes) s.extra else stays s.extra) s
      at true = told_allowed (numbered bytes)
      at false = stays_allowed None

pub exec_allowed : MakesAllowedSteps exec_means
exec_allowed = record {
  ask = λ task code arguments s may made. ask_allowed (Some task) s may code arguments;
  wake = λ task key input s may known made.
      wake_allowed (Some task) s may key known (place_of exec_part key) input made (standing_at (place_of exec_part key) s.extra);
  act = λ key s may. stays_allowed None s may None;
  item = λ code bytes s may. item_allowed None s may code bytes;
}
