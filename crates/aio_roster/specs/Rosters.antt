-- What a roster is.
use Rattle.std.specs.Prelude.{◌≡◌, ℕ, ◌-◌, ◌^◌, ◌≤◌, Bool, true, ◌&&◌, nat_lt, List, Option, Some, None, is_some, length, slice_get, map}
use Rattle.std.specs.Vec.{vec_len, vec_capacity}
use Rattle.std.specs.declared.vec.Vec.{Vec}
use Rattle.std.specs.List.{filter}
use Rattle.model_hub.specs.declared.child.Child.{Child}
use Rattle.model_hub.specs.Children.{pump_of, runs}
use Rattle.model_hub.specs.Closing.{number_of}
use Rattle.aio_serving.specs.Served.{IsModest}

-- no count of a child passes this number
abbrev pub IsShort : ℕ → Child → Type 0
IsShort most child = (child.out.pieces ≤ most) × (child.errs.pieces ≤ most) × (child.rooms ≤ most)

-- who a child is, whatever it noted
pub record IsSameChild (old new : Child) : Type 0 where
  pub number : new.number ≡ old.number
  pub seats : new.seats ≡ old.seats
  pub stay : new.stay ≡ old.stay

-- the numbers of those that run
abbrev pub running_of : List Child → List ℕ
running_of children = map number_of (filter (λ (child : Child). runs child.stay) children)

-- each child has the number of its place
abbrev pub Numbered : List Child → Type 0
Numbered children = (n : ℕ) (child : Child) → slice_get children n ≡ Some child → child.number ≡ n

-- The children by number; for each seat of the inbox the child to which it is lent, if any; the numbers of those that run; and how many
-- posts were noted.
pub record IsRoster (children : List Child) (holders : List (Option ℕ)) (running : List ℕ) (noted : ℕ) : Type 0 where
  pub sized : length holders ≡ 1024
  pub few : length children ≤ 2 ^ 32 - 1
  pub numbered : Numbered children
  pub held : (n seat : ℕ) (child : Child) → slice_get children n ≡ Some child → is_some (pump_of seat child) ≡ true
      → slice_get holders seat ≡ Some (Some n)
  pub short : (n : ℕ) (child : Child) → slice_get children n ≡ Some child → IsShort noted child
  pub modest : (n : ℕ) (child : Child) → slice_get children n ≡ Some child → IsModest child
  pub runs : running ≡ running_of children

-- what is seen of a roster; there is room where a child more takes no memory
pub record RosterSeen : Type 0 where
  pub children : List Child
  pub noted : ℕ
  pub room : Bool

abbrev pub has_room : {X Z : Type 0} → Vec X Z → Bool
has_room items = nat_lt (vec_len items) (vec_capacity items)

abbrev pub have_room : {X Y Z : Type 0} → Vec X Z → Vec Y Z → Bool
have_room children running = has_room children && has_room running

-- nobody has this seat
abbrev pub IsFree : ℕ → List Child → Type 0
IsFree seat children = (n : ℕ) (child : Child) → slice_get children n ≡ Some child → pump_of seat child ≡ None

-- nobody else has it
abbrev pub IsHis : ℕ → List Child → ℕ → Type 0
IsHis seat children number =
    (n : ℕ) (child : Child) → slice_get children n ≡ Some child → (n ≡ number → ⊥) → pump_of seat child ≡ None
