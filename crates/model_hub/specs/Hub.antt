-- What a hub keeps.
use Rattle.std.specs.Prelude.{ℕ, zero, suc, ◌+◌, ◌*◌, Bool, false, List, [], ◌∷◌, ◌++◌, Some, None, slice_get, slice_set}
use Rattle.model_wire.specs.Call.{Item}
use Rattle.model_hub.specs.declared.child.Child.{Child}
use Rattle.model_hub.specs.declared.child.Seats.{Seats}
use Rattle.model_hub.specs.Children.{waiting}
use Rattle.model_pump.specs.Posts.{Post}

-- The children in order of launching, each numbered by its place; the items that no answer had yet, in order; the seats
-- that may be lent, by fours; the posts that were taken so far; and whether memory was refused.
pub record Hub : Type 0 where
  pub children : List Child
  pub kept : List Item
  pub free : List Seats
  pub taken : List Post
  pub starved : Bool

-- four seats for each of n launches
abbrev pub seats_for : ℕ → List Seats
seats_for zero = []
seats_for (suc n) = seats_for n ++ record { stdin = 4 * n; out = 4 * n + 1; errs = 4 * n + 2; exit = 4 * n + 3 } ∷ []

-- the greatest number of launches that hold seats
abbrev pub most_launches : ℕ
most_launches = 256

abbrev pub new_hub : Hub
new_hub = record { children = []; kept = []; free = seats_for most_launches; taken = []; starved = false }

-- what this says of the child with this number; and what is so of one that wasn't launched
abbrev pub of_child : {A : Type 0} → A → (Child → A) → ℕ → List Child → A
of_child unlaunched of number children = elim (slice_get children number) [ None ↦ unlaunched | Some child ↦ of child ]

-- how many Writes to a child have no Room post taken
abbrev pub waiting_of : ℕ → List Child → ℕ
waiting_of number children = of_child 0 waiting number children

-- a Broken post of it was taken
abbrev pub is_broken : ℕ → List Child → Bool
is_broken number children = of_child false (λ (child : Child). child.broken) number children

abbrev pub with_child : ℕ → Child → Hub → Hub
with_child number child hub = record hub { children = slice_set hub.children number child }
