-- Groups as code holds them. What the machine keeps as history is left out: which tasks were made in a group, and with what
-- an exit ended. Of a child that failed its number is kept, since the exception stands in the child's own future.
use Rattle.std.specs.Prelude.{ℕ, Bool, false, List, [], ◌∷◌, Option, Some, None, slice_index_or, if◌then◌else◌}
use Rattle.model_value.specs.Value.{Exc}
use Rattle.model_loop.specs.Loop.{Group}
use Rattle.model_loop.specs.Tasks.{is_cancelled}

-- `failed` are the children that failed, in the order in which the group was told. `body` is the exception with which the
-- block ended, where that is a failure.
pub record Held : Type 0 where
  pub parent : ℕ
  pub entered : Bool
  pub exiting : Bool
  pub ended : Bool
  pub aborting : Bool
  pub requested : Bool
  pub children : List ℕ
  pub failed : List ℕ
  pub body : Option Exc
  pub kept : Option Exc
  pub exit_future : Option ℕ

abbrev pub new_held : ℕ → Held
new_held parent =
    record {
      parent = parent;
      entered = false;
      exiting = false;
      ended = false;
      aborting = false;
      requested = false;
      children = [];
      failed = [];
      body = None;
      kept = None;
      exit_future = None;
    }

-- a group of a number that none has stands for one that is new
abbrev pub held_at : List Held → ℕ → Held
held_at groups id = slice_index_or groups id (new_held 0)

-- the machine's group with as much as is held as it is
abbrev pub shown : Held → Group
shown held =
    record {
      parent = held.parent;
      entered = held.entered;
      exiting = held.exiting;
      ended = held.ended;
      aborting = held.aborting;
      requested = held.requested;
      children = held.children;
      made = [];
      errors = [];
      body = None;
      kept = None;
      exit_future = held.exit_future;
    }

-- an exception that is a failure, which CancelledError isn't
abbrev pub failing : Option Exc → Option Exc
failing None = None
failing (Some fault) = if is_cancelled fault then None else Some fault

abbrev pub listed : {X : Type 0} → Option X → List X
listed None = []
listed (Some x) = x ∷ []
