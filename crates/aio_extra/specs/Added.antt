-- What is added to the loop's own requests, in code and in the machine.
use Rattle.std.specs.Prelude.{◌≡◌, ℕ, ◌<◌, ◌≤◌, ◌⊎◌, true, List, Some, slice_get}
use Rattle.model_loop.specs.Futures.{next_future}
use Rattle.model_loop.specs.Owning.{is_plain, owner_of}
use Rattle.model_loop.specs.Parts.{Parts}
use Rattle.model_stream.specs.Kept.{times_asked}
use Rattle.model_machine.specs.Extra.{Extra, NamesNothing, WakesFall}
use Rattle.model_machine.specs.State.{State}
use Rattle.law_runs.specs.Allowed.{IsAmong, MakesAllowedSteps}
use Rattle.aio_task.specs.Keeps.{NameMap}

-- The loop goes on beside what is added: tags are known as before, what it made stays what it was, and of its own futures
-- none is released.
pub record GoesBeside (owned : ℕ → Type 0) (t : NameMap) (p : Parts) (u : NameMap) (q : Parts) : Type 0 where
  pub known : (tag : ℕ) → tag < p.next_tag → u.known tag ≡ t.known tag
  pub tags : p.next_tag ≤ q.next_tag
  pub gone : (id : ℕ) → owned id → u.gone id ≡ t.gone id
  pub futures : next_future p ≤ next_future q
  pub plain : (id : ℕ) → is_plain p id ≡ true → is_plain q id ≡ true
  pub owners : (id : ℕ) → id < next_future p → owner_of q id ≡ owner_of p id

-- `X` is the type of the object in code.
pub record Added (X : Type 0) : Type 1 where
  -- what the machine keeps of it
  pub Kept : Type 0
  -- what its calls mean, and what a state of it names of the machine's
  pub meaning : Extra Kept
  -- An object stands for what the machine keeps. It knows handles and timers by their names, where the machine has tags.
  pub stands : NameMap → Parts → X → Kept → Type 0
  -- it goes on doing so whatever else the loop does
  pub goes_on : (t u : NameMap) (p q : Parts) (x : X) (kept : Kept) → stands t p x kept
      → GoesBeside (IsAmong (meaning.keeps kept).own) t p u q → stands u q x kept
  -- its steps keep states sound, and what it keeps right
  pub allowed : MakesAllowedSteps meaning
  -- a request that is woken and is to be woken again at once is so fewer times each time
  pub falls : WakesFall meaning

-- the futures that are its own: it made them, and no script names them
abbrev pub owned_by : {X : Type 0} → (a : Added X) → a.Kept → ℕ → Type 0
owned_by a kept id = IsAmong (a.meaning.keeps kept).own id

-- a script names this future, or it is somebody's own
abbrev pub IsNamed : (named : List ℕ) → (owned : ℕ → Type 0) → ℕ → Type 0
IsNamed named owned id = ((place : ℕ) × (slice_get named place ≡ Some id)) ⊎ owned id

-- it is the own one of what is added, or a connection or a child keeps it, but for what its connect waits on
abbrev pub owned_in : {X : Type 0} → (a : Added X) → State a.Kept → ℕ → Type 0
owned_in a s id = owned_by a s.extra id ⊎ (0 < times_asked id s.streams)

-- which futures of a state are named so
abbrev pub named_in : {X : Type 0} → (a : Added X) → State a.Kept → ℕ → Type 0
named_in a s id = IsNamed s.futures (owned_in a s) id

-- An object keeps nothing so far: it stands for this whatever was made, and that names nothing.
pub record KeepsNothing {X : Type 0} (a : Added X) (x : X) (kept : a.Kept) : Type 0 where
  pub stands : (t : NameMap) (p : Parts) → a.stands t p x kept
  pub names : NamesNothing (a.meaning.keeps kept)
