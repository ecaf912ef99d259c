-- What a call of what is added comes to, as the clauses of its trait say it, each by a name.
use Rattle.std.specs.Prelude.{◌≡◌, ℕ, ℤ, true, List, None}
use Rattle.model_value.specs.Input.{Input}
use Rattle.model_value.specs.Value.{Value}
use Rattle.model_machine.specs.Sound.{ids_of, sends_made}
use Rattle.model_machine.specs.State.{State}
use Rattle.aio_task.specs.Keeps.{NameMap}
use Rattle.aio_task.specs.View.{View}
use Rattle.aio_extra.specs.Added.{Added}
use Rattle.aio_extra.specs.Called.{CallsAs, IsAskedOf, IsServed, SaysAs}
use Rattle.aio_extra.specs.declared.asked.Asked.{Asked}

-- the object was `x` and is `y`, and the loop's parts were `v` and are `w`
module _ {X : Type 0} (a : Added X) (x y : X) (v w : View) where
  -- a request
  pub record Asks (task : ℕ) (code : ℤ) (futures : List ℕ) (arguments : Value) (asked : Asked) : Type 0 where
    pub says : (t : NameMap) (s : State a.Kept) (items : List Value) → IsAskedOf a task t s futures arguments items x v
        → SaysAs a t s v w y asked (a.meaning.ask task code items s)

  -- it goes on
  pub record Wakes (key : ℕ) (input : Input) (asked : Asked) : Type 0 where
    pub says : (t : NameMap) (s : State a.Kept) → IsServed a v.running t s x v → (a.meaning.keeps s.extra).has_key key ≡ true
        → sends_made (ids_of s) input ≡ true → SaysAs a t s v w y asked (a.meaning.wake key input s)

  -- a handle runs
  pub record Acts (key : ℕ) : Type 0 where
    pub calls : (t : NameMap) (s : State a.Kept) → IsServed a None t s x v → CallsAs a t s v w y (a.meaning.act key s)

  -- news of the outside
  pub record Hears (code : ℤ) (bytes : List ℕ) : Type 0 where
    pub calls : (t : NameMap) (s : State a.Kept) → IsServed a None t s x v → CallsAs a t s v w y (a.meaning.item code bytes s)
