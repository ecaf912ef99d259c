-- What a call of what is added may rely on, and what it may change, so that a sound state stays sound.
use Rattle.std.specs.Prelude.{◌≡◌, ℕ, ℤ, ◌<◌, ◌≤◌, ◌⊎◌, Bool, true, false, List, [], ◌∷◌, Option, Some, None, slice_get}
use Rattle.std.specs.List.{All, AllByRecursion as Each, list_all}
use Rattle.model_value.specs.Input.{Input}
use Rattle.model_value.specs.Value.{Value, Outcome}
use Rattle.model_value.specs.declared.outcome.Outcome.TheVariants.{Value as Returned}
use Rattle.model_loop.specs.Futures.{future_outcome, is_pending, next_future}
use Rattle.model_loop.specs.Loop.{Loop}
use Rattle.model_loop.specs.Owning.{is_plain}
use Rattle.model_loop.specs.Parts.{Parts}
use Rattle.model_loop.specs.Sound.{IsSound}
use Rattle.model_machine.specs.Extra as extra
use Rattle.model_machine.specs.Extra.{Extra, ExtraAnswer, ExtraCall, ExtraSaid, ExtraStep, Keeping, MakesPlain, MakesMany, Settles, Releases, Registers}
use Rattle.model_machine.specs.Extra.{CallsSoon, CallsLater, Revokes, Cancels, Uncancels, called, key_of, made_by, made_by_all}
use Rattle.model_machine.specs.Sound.{AreKept, Ids, IsOwned, IsTagOwned, ids_of, names_made, sends_made}
use Rattle.model_machine.specs.State.{State}
use Rattle.model_machine.specs.Told.{told_in}

-- where so many were made, each that an outcome names was
abbrev pub ends_made : Ids → Outcome → Bool
ends_made ids (Returned value) = names_made ids value
ends_made ids _ = true

-- ---- what is its own
-- Its futures and tags as a call begins, and the next numbers, from which on all are its own that the call makes; and what was made,
-- of which it makes none.
pub record Owns : Type 0 where
  pub futures : List ℕ
  pub tags : List ℕ
  pub next_future : ℕ
  pub next_tag : ℕ
  pub ids : Ids

abbrev pub owns_at : Ids → Keeping → Parts → Owns
owns_at ids keeping p =
    record { futures = keeping.own; tags = keeping.tags; next_future = next_future p; next_tag = p.next_tag; ids = ids }

abbrev pub IsAmong : List ℕ → ℕ → Type 0
IsAmong ids id = (place : ℕ) × (slice_get ids place ≡ Some id)

abbrev pub IsOwn : (own : List ℕ) (next : ℕ) → ℕ → Type 0
IsOwn own next id = IsAmong own id ⊎ (next ≤ id)

-- A step, in the loop that it changes. A future stands for others that were made before it. A future of its own, which is no task's,
-- is settled, also one that stands for several, with a value that a script may have; it is let go once it is done. A handle is called
-- soon or later, or registered on any future that was made: on a pending one it waits for the outcome, on a done one it is called
-- soon. A tag of its own is revoked, which names handles of what is added alone.
abbrev pub IsAllowed : Owns → ExtraStep → Loop → Type 0
IsAllowed own MakesPlain l = Unit {0}
IsAllowed own (MakesMany members) l = All (λ member. member < next_future l.parts) members
IsAllowed own (Settles future outcome) l =
    IsOwn own.futures own.next_future future × IsOwned l.parts future × (ends_made own.ids outcome ≡ true)
IsAllowed own (Releases future) l = IsOwn own.futures own.next_future future × (is_pending l.parts future ≡ false)
IsAllowed own (Registers future key) l = future < next_future l.parts
IsAllowed own (CallsSoon key) l = Unit {0}
IsAllowed own (CallsLater when key) l = Unit {0}
IsAllowed own (Revokes tag) l = IsOwn own.tags own.next_tag tag × IsTagOwned l.parts tag
IsAllowed own (Cancels key future) l = Unit {0}
IsAllowed own (Uncancels key task) l = Unit {0}

-- one after another
abbrev pub AreAllowed : Owns → List ExtraStep → Loop → Type 0
AreAllowed own [] l = Unit {0}
AreAllowed own (step ∷ steps) l = IsAllowed own step l × AreAllowed own steps (made_by step l)

-- ---- what a call may rely on
-- The loop is sound; what is added keeps what was made; the futures of scripts are plain, and what outcomes name was made.
pub record MayCall {S : Type 0} (added : Extra S) (running : Option ℕ) (s : State S) : Type 0 where
  pub loop : IsSound running (told_in s.events) s.loop
  pub kept : AreKept (ids_of s) (added.keeps s.extra) s.futures s.loop.parts
  pub scripts : (place id : ℕ) → slice_get s.futures place ≡ Some id → is_plain s.loop.parts id ≡ true
  pub outcomes : (id : ℕ) (value : Value) → future_outcome s.loop.parts id ≡ Some (Returned value)
      → names_made (ids_of s) value ≡ true

-- ---- what it may come to
-- Its steps are allowed, and what it keeps then was made: of futures and tags as its own what was its own or is made by it. Keys stay
-- known, but for the one that it is woken under.
pub record IsCallAllowed {S : Type 0} (added : Extra S) (woken : Option ℕ) (call : ExtraCall S) (s : State S) : Type 0 where
  pub steps : AreAllowed (owns_at (ids_of s) (added.keeps s.extra) s.loop.parts) call.steps s.loop
  pub kept : AreKept (ids_of s) (added.keeps call.state) s.futures (made_by_all call.steps s.loop).parts
  pub own : Each (IsOwn (added.keeps s.extra).own (next_future s.loop.parts)) (added.keeps call.state).own
  pub tags : Each (IsOwn (added.keeps s.extra).tags s.loop.parts.next_tag) (added.keeps call.state).tags
  pub keys : (key : ℕ) → (woken ≡ Some key → ⊥) → (added.keeps s.extra).has_key key ≡ true → (added.keeps call.state).has_key key ≡ true

-- an answer, in the state after the call: what its value names was made, and so was the future that it waits for
abbrev pub IsAnswerAllowed : {S : Type 0} → ExtraAnswer → State S → Type 0
IsAnswerAllowed (extra.Answers value) s = names_made (ids_of s) value ≡ true
IsAnswerAllowed (extra.Raises fault) s = Unit {0}
IsAnswerAllowed (extra.Waits on key) s = on < next_future s.loop.parts
IsAnswerAllowed (extra.Asks code bytes key) s = Unit {0}

-- a request that is asked is kept under a new key, and one that was woken under its own
abbrev pub IsKeyAllowed : (woken : Option ℕ) (before after : Keeping) → ℕ → Type 0
IsKeyAllowed None before after key = (before.has_key key ≡ false) × (after.has_key key ≡ true)
IsKeyAllowed (Some woken) before after key = (key ≡ woken) × (after.has_key key ≡ true)

pub record IsSaidAllowed {S : Type 0} (added : Extra S) (woken : Option ℕ) (said : ExtraSaid S) (s : State S) : Type 0 where
  pub call : IsCallAllowed added woken said.call s
  pub answer : IsAnswerAllowed said.answer (called said.call s)
  pub key : (key : ℕ) → key_of said.answer ≡ Some key → IsKeyAllowed woken (added.keeps s.extra) (added.keeps said.call.state) key

-- What is added makes allowed steps alone and gives allowed answers, and keeps what was made.
pub record MakesAllowedSteps {S : Type 0} (added : Extra S) : Type 0 where
  pub ask : (task : ℕ) (code : ℤ) (arguments : List Value) (s : State S) → MayCall added (Some task) s
      → list_all (names_made (ids_of s)) arguments ≡ true → IsSaidAllowed added None (added.ask task code arguments s) s
  pub wake : (task key : ℕ) (input : Input) (s : State S) → MayCall added (Some task) s → (added.keeps s.extra).has_key key ≡ true
      → sends_made (ids_of s) input ≡ true → IsSaidAllowed added (Some key) (added.wake key input s) s
  pub act : (key : ℕ) (s : State S) → MayCall added None s → IsCallAllowed added None (added.act key s) s
  pub item : (code : ℤ) (bytes : List ℕ) (s : State S) → MayCall added None s → IsCallAllowed added None (added.item code bytes s) s
