-- A part of what is kept: what it is allowed alone is allowed of the whole.
use Rattle.std.proofs.Common.{◌≡◌, ℕ, ℤ, ◌⊎◌, inl, inr, true, List, [], ◌∷◌, Option, Some, None, refl, sym, ap, ◌∙◌}
use Rattle.std.specs.List.{AllByRecursion as Each, list_all}
use Rattle.model_value.specs.Input.{Input}
use Rattle.model_value.specs.Value.{Value}
use Rattle.model_loop.specs.Futures.{next_future}
use Rattle.model_loop.specs.Loop.{Loop}
use Rattle.model_loop.specs.Parts.{Parts}
use Rattle.model_machine.specs.Extra.{Extra, ExtraAnswer, ExtraCall, ExtraSaid, ExtraStep, Keeping, Answers, Raises, Waits, Asks, MakesPlain, MakesMany}
use Rattle.model_machine.specs.Extra.{Settles, Releases, Registers, CallsSoon, CallsLater, Revokes, Cancels, Uncancels, called, made_by, made_by_all}
use Rattle.model_machine.specs.Sound.{AreKept, Ids, ids_of, names_made, sends_made}
use Rattle.model_machine.specs.State.{State}
use Rattle.model_reach.specs.Reach.{Part, called_by, part_of_key, said_by, seen_by}
use Rattle.law_replies.proofs.Kept.{each_on}
use Rattle.law_runs.specs.Allowed.{AreAllowed, IsAllowed, IsAmong, IsAnswerAllowed, IsCallAllowed, IsKeyAllowed, IsOwn, IsSaidAllowed}
use Rattle.law_runs.specs.Allowed.{MakesAllowedSteps, MayCall, Owns, ends_made, owns_at}
use Rattle.law_runs.proofs.Called.{steps_keep}
use Rattle.law_parted.specs.Keys.{HasKeysOf}
use Rattle.law_parted.proofs.Lists.{each_from}

-- ---- what is one's own is so where more is
pub record OwnsMore (own more : Owns) : Type 0 where
  pub futures : (id : ℕ) → IsOwn own.futures own.next_future id → IsOwn more.futures more.next_future id
  pub tags : (id : ℕ) → IsOwn own.tags own.next_tag id → IsOwn more.tags more.next_tag id
  pub ids : more.ids ≡ own.ids

step_more : (own more : Owns) → OwnsMore own more → (step : ExtraStep) (l : Loop) → IsAllowed own step l → IsAllowed more step l
step_more own more it MakesPlain l may = tt
step_more own more it (MakesMany members) l may = may
step_more own more it (Settles future outcome) l may =
    (it.futures future may.0, may.1, ap (λ ids. ends_made ids outcome) it.ids ∙ may.2)
step_more own more it (Releases future) l may = (it.futures future may.0, may.1)
step_more own more it (Registers future key) l may = may
step_more own more it (CallsSoon key) l may = tt
step_more own more it (CallsLater when key) l may = tt
step_more own more it (Revokes tag) l may = (it.tags tag may.0, may.1)
step_more own more it (Cancels key future) l may = tt
step_more own more it (Uncancels key task) l may = tt

steps_more : (own more : Owns) → OwnsMore own more → (steps : List ExtraStep) (l : Loop) → AreAllowed own steps l → AreAllowed more steps l
steps_more own more it [] l may = tt
steps_more own more it (step ∷ steps) l may =
    (step_more own more it step l may.0, steps_more own more it steps (made_by step l) may.1)

-- ---- how a part stands in the whole
pub record Splits {S P : Type 0} (this : Part) (part : S → P) (put : P → S → S) (mine : P → Keeping) (keeps : S → Keeping) : Type 0 where
  pub kept_apart : (ids : Ids) (kept : S) (futures : List ℕ) (p : Parts) → AreKept ids (keeps kept) futures p
      → AreKept ids (mine (part kept)) futures p
  pub kept_put : (ids : Ids) (it : P) (kept : S) (futures : List ℕ) (p : Parts) → AreKept ids (keeps kept) futures p
      → AreKept ids (mine it) futures p → AreKept ids (keeps (put it kept)) futures p
  pub own_in : (kept : S) (id : ℕ) → IsAmong (mine (part kept)).own id → IsAmong (keeps kept).own id
  pub tags_in : (kept : S) (id : ℕ) → IsAmong (mine (part kept)).tags id → IsAmong (keeps kept).tags id
  pub keys_now : (kept : S) (key : ℕ) → part_of_key key ≡ this → (keeps kept).has_key key ≡ (mine (part kept)).has_key key
  pub keys_put : (it : P) (kept : S) (key : ℕ) → part_of_key key ≡ this → (keeps (put it kept)).has_key key ≡ (mine it).has_key key
  pub keys_other : (it : P) (kept : S) (key : ℕ) → (part_of_key key ≡ this → ⊥) → (keeps (put it kept)).has_key key ≡ (keeps kept).has_key key
  pub is_this : (key : ℕ) → (part_of_key key ≡ this) ⊎ (part_of_key key ≡ this → ⊥)

-- what is among the whole once a part is put back is the part's, or was so before
pub record Puts {S P : Type 0} (put : P → S → S) (mine : P → Keeping) (keeps : S → Keeping) : Type 1 where
  pub own : (Q : ℕ → Type 0) (it : P) (kept : S) → Each Q (keeps kept).own → Each Q (mine it).own → Each Q (keeps (put it kept)).own
  pub tags : (Q : ℕ → Type 0) (it : P) (kept : S) → Each Q (keeps kept).tags → Each Q (mine it).tags → Each Q (keeps (put it kept)).tags

module _ {S P : Type 0} (whole : Extra S) (added : Extra P) (this : Part) (part : S → P) (put : P → S → S)
    (parts_ : Splits this part put added.keeps whole.keeps) (puts : Puts put added.keeps whole.keeps) (only : HasKeysOf this added) where
  seen_may : (running : Option ℕ) (s : State S) → MayCall whole running s → MayCall added running (seen_by (part s.extra) s)
  seen_may running s may = record {
    loop = may.loop;
    kept = parts_.kept_apart (ids_of s) s.extra s.futures s.loop.parts may.kept;
    scripts = may.scripts;
    outcomes = may.outcomes;
  }

  own_on : (kept : S) (next id : ℕ) → IsOwn (added.keeps (part kept)).own next id → IsOwn (whole.keeps kept).own next id
  own_on kept next id (inl mine) = inl (parts_.own_in kept id mine)
  own_on kept next id (inr past) = inr past

  tags_on : (kept : S) (next id : ℕ) → IsOwn (added.keeps (part kept)).tags next id → IsOwn (whole.keeps kept).tags next id
  tags_on kept next id (inl mine) = inl (parts_.tags_in kept id mine)
  tags_on kept next id (inr past) = inr past

  more_of : (s : State S) → OwnsMore (owns_at (ids_of s) (added.keeps (part s.extra)) s.loop.parts) (owns_at (ids_of s) (whole.keeps s.extra) s.loop.parts)
  more_of s = record {
    futures = λ id h. own_on s.extra (next_future s.loop.parts) id h;
    tags = λ id h. tags_on s.extra s.loop.parts.next_tag id h;
    ids = refl;
  }

  -- ---- a call
  module _ (running : Option ℕ) (s : State S) (may : MayCall whole running s) where
    keys_stay : (woken : Option ℕ) (call : ExtraCall P) → IsCallAllowed added woken call (seen_by (part s.extra) s) → (key : ℕ)
        → (woken ≡ Some key → ⊥) → (part_of_key key ≡ this) ⊎ (part_of_key key ≡ this → ⊥) → (whole.keeps s.extra).has_key key ≡ true
        → (whole.keeps (put call.state s.extra)).has_key key ≡ true
    keys_stay woken call ok key differs (inl here) known =
        parts_.keys_put call.state s.extra key here
        ∙ ok.keys key differs (sym (parts_.keys_now s.extra key here) ∙ known)
    keys_stay woken call ok key differs (inr other) known = parts_.keys_other call.state s.extra key other ∙ known

    call_allowed : (woken : Option ℕ) (call : ExtraCall P) → IsCallAllowed added woken call (seen_by (part s.extra) s)
        → IsCallAllowed whole woken (called_by (λ it. put it s.extra) call) s
    call_allowed woken call ok =
        let own = owns_at (ids_of s) (whole.keeps s.extra) s.loop.parts in
        let steps = steps_more (owns_at (ids_of s) (added.keeps (part s.extra)) s.loop.parts) own (more_of s) call.steps s.loop ok.steps in
        record {
          steps = steps;
          kept = parts_.kept_put (ids_of s) call.state s.extra s.futures (made_by_all call.steps s.loop).parts
              (steps_keep own (whole.keeps s.extra) s.futures call.steps s.loop steps may.kept) ok.kept;
          own = puts.own (IsOwn (whole.keeps s.extra).own (next_future s.loop.parts)) call.state s.extra
              (each_from (IsOwn (whole.keeps s.extra).own (next_future s.loop.parts)) (whole.keeps s.extra).own (λ place id e. inl (place, e)))
              (each_on (IsOwn (added.keeps (part s.extra)).own (next_future s.loop.parts)) (IsOwn (whole.keeps s.extra).own (next_future s.loop.parts))
              (own_on s.extra (next_future s.loop.parts)) (added.keeps call.state).own ok.own);
          tags = puts.tags (IsOwn (whole.keeps s.extra).tags s.loop.parts.next_tag) call.state s.extra
              (each_from (IsOwn (whole.keeps s.extra).tags s.loop.parts.next_tag) (whole.keeps s.extra).tags (λ place id e. inl (place, e)))
              (each_on (IsOwn (added.keeps (part s.extra)).tags s.loop.parts.next_tag) (IsOwn (whole.keeps s.extra).tags s.loop.parts.next_tag)
              (tags_on s.extra s.loop.parts.next_tag) (added.keeps call.state).tags ok.tags);
          keys = λ key differs known. keys_stay woken call ok key differs (parts_.is_this key) known;
        }

    answer_on : (call : ExtraCall P) (answer : ExtraAnswer) → IsAnswerAllowed answer (called call (seen_by (part s.extra) s))
        → IsAnswerAllowed answer (called (called_by (λ it. put it s.extra) call) s)
    answer_on call (Answers value) h = h
    answer_on call (Raises fault) h = tt
    answer_on call (Waits on key) h = h
    answer_on call (Asks code bytes key) h = tt

    key_on : (woken : Option ℕ) (it : P) (key : ℕ) → IsKeyAllowed woken (added.keeps (part s.extra)) (added.keeps it) key
        → IsKeyAllowed woken (whole.keeps s.extra) (whole.keeps (put it s.extra)) key
    key_on None it key ok =
        let here = only it key ok.1 in
        (parts_.keys_now s.extra key here ∙ ok.0, parts_.keys_put it s.extra key here ∙ ok.1)
    key_on (Some woken) it key ok =
        let here = only it key ok.1 in
        (ok.0, parts_.keys_put it s.extra key here ∙ ok.1)

    said_allowed : (woken : Option ℕ) (said : ExtraSaid P) → IsSaidAllowed added woken said (seen_by (part s.extra) s)
        → IsSaidAllowed whole woken (said_by (λ it. put it s.extra) said) s
    said_allowed woken said ok = record {
      call = call_allowed woken said.call ok.call;
      answer = answer_on said.call said.answer ok.answer;
      key = λ key e. key_on woken said.call.state key (ok.key key e);
    }

  pub ask_within : MakesAllowedSteps added → (task : ℕ) (code : ℤ) (arguments : List Value) (s : State S) → MayCall whole (Some task) s
      → list_all (names_made (ids_of s)) arguments ≡ true
      → IsSaidAllowed whole None (said_by (λ it. put it s.extra) (added.ask task code arguments (seen_by (part s.extra) s))) s
  ask_within allowed task code arguments s may made =
      said_allowed (Some task) s may None _ (allowed.ask task code arguments (seen_by (part s.extra) s) (seen_may (Some task) s may) made)

  pub wake_within : MakesAllowedSteps added → (task key : ℕ) (input : Input) (s : State S) → part_of_key key ≡ this → MayCall whole (Some task) s
      → (whole.keeps s.extra).has_key key ≡ true → sends_made (ids_of s) input ≡ true
      → IsSaidAllowed whole (Some key) (said_by (λ it. put it s.extra) (added.wake key input (seen_by (part s.extra) s))) s
  wake_within allowed task key input s here may known made =
      said_allowed (Some task) s may (Some key) _
      (allowed.wake task key input (seen_by (part s.extra) s) (seen_may (Some task) s may) (sym (parts_.keys_now s.extra key here) ∙ known) made)

  pub act_within : MakesAllowedSteps added → (key : ℕ) (s : State S) → MayCall whole None s
      → IsCallAllowed whole None (called_by (λ it. put it s.extra) (added.act key (seen_by (part s.extra) s))) s
  act_within allowed key s may = call_allowed None s may None _ (allowed.act key (seen_by (part s.extra) s) (seen_may None s may))

  pub item_within : MakesAllowedSteps added → (code : ℤ) (bytes : List ℕ) (s : State S) → MayCall whole None s
      → IsCallAllowed whole None (called_by (λ it. put it s.extra) (added.item code bytes (seen_by (part s.extra) s))) s
  item_within allowed code bytes s may = call_allowed None s may None _ (allowed.item code bytes (seen_by (part s.extra) s) (seen_may None s may))
