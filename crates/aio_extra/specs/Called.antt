-- What a call of what is added comes to, by the states of the machine that the loop's parts and the object stand for.
use Rattle.std.specs.Prelude.{◌≡◌, ℕ, true, false, List, Option, Some, None, length}
use Rattle.std.specs.List.{list_all}
use Rattle.model_value.specs.Value.{Value}
use Rattle.model_loop.specs.Owning.{is_plain}
use Rattle.model_loop.specs.Parts.{profile_named}
use Rattle.model_machine.specs.Arguments.{as_list}
use Rattle.model_machine.specs.Extra as extra
use Rattle.model_machine.specs.Extra.{ExtraAnswer, ExtraCall, ExtraSaid, called}
use Rattle.model_machine.specs.Sound.{IsAwaitable, ids_of, names_made}
use Rattle.model_machine.specs.State.{State}
use Rattle.law_runs.specs.Allowed.{MayCall}
use Rattle.aio_task.specs.Keeps.{NameMap, Keeps, Extends}
use Rattle.aio_task.specs.View.{View}
use Rattle.aio_extra.specs.Added.{Added, IsNamed, owned_by}
use Rattle.aio_extra.specs.declared.asked.Asked.{Asked}
use Rattle.aio_extra.specs.declared.asked.Asked.TheVariants.{Answer, Raise, Wait, Outside}

-- The parts and the object stand for a state, in which no task runs or this one does. Nothing was taken from the queue, and no future
-- of `future()` and no task's was released.
pub record IsServed {X : Type 0} (a : Added X) (running : Option ℕ) (t : NameMap) (s : State a.Kept) (x : X) (v : View) : Type 0 where
  pub keeps : Keeps t v s.loop.parts
  pub stands : a.stands t s.loop.parts x s.extra
  pub called : v.called ≡ None
  pub runs : v.running ≡ running
  pub may : MayCall a.meaning running s
  pub there : (id : ℕ) → IsAwaitable s.futures s.loop.parts id → t.gone id ≡ false
  -- by the same profile
  pub rules : s.loop.profile ≡ profile_named v.profile

-- a task's request, with these arguments, where a script has these futures
pub record IsAskedOf {X : Type 0} (a : Added X) (task : ℕ) (t : NameMap) (s : State a.Kept) (futures : List ℕ) (arguments : Value)
    (items : List Value) (x : X) (v : View) : Type 0 where
  pub served : IsServed a (Some task) t s x v
  pub named : futures ≡ s.futures
  pub listed : as_list arguments ≡ Some items
  pub made : list_all (names_made (ids_of s)) items ≡ true

-- There is such a state. Which one it is doesn't matter to what a call may do.
abbrev pub MayServe : {X : Type 0} → Added X → (running : Option ℕ) → X → View → Type 0
MayServe a running x v = ∥ ((t : NameMap) × ((s : State a.Kept) × IsServed a running t s x v)) ∥₁

abbrev pub MayAsk : {X : Type 0} → Added X → (task : ℕ) (futures : List ℕ) (arguments : Value) → X → View → Type 0
MayAsk a task futures arguments x v =
    ∥ ((t : NameMap) × ((s : State a.Kept) × ((items : List Value) × IsAskedOf a task t s futures arguments items x v))) ∥₁

-- A call came to what the machine's does: by a name map that goes on, the parts stand for the loop's after its steps, and the object
-- for what the machine keeps then. The running task runs on, and as many handles stand before the bar. The profile stays.
pub record CallsAs {X : Type 0} (a : Added X) (t : NameMap) (s : State a.Kept) (v w : View) (x : X) (call : ExtraCall a.Kept) : Type 0 where
  pub name_map : NameMap
  pub keeps : Keeps name_map w (called call s).loop.parts
  pub extends : Extends s.loop.parts t (called call s).loop.parts name_map
  pub stands : a.stands name_map (called call s).loop.parts x call.state
  pub below : length w.queue.below ≡ length v.queue.below
  pub profile : w.profile ≡ v.profile
  pub called : w.called ≡ v.called
  pub running : w.running ≡ v.running

-- The answer is the machine's, and so is what is asked of the outside. A future that is waited for wasn't released, and is the own
-- one of what is added, or a script's, or a task's.
abbrev pub AnswersAs : {X : Type 0} → (a : Added X) → NameMap → State a.Kept → Asked → ExtraAnswer → Type 0
AnswersAs a t s (Answer value) (extra.Answers said) = value ≡ said
AnswersAs a t s (Raise fault) (extra.Raises said) = fault ≡ said
AnswersAs a t s (Wait on key) (extra.Waits future kept) =
    (on ≡ future) × (key ≡ kept) × (t.gone on ≡ false) × (is_plain s.loop.parts on ≡ true → IsNamed s.futures (owned_by a s.extra) on)
AnswersAs a t s (Outside code bytes key) (extra.Asks number piece kept) = (code ≡ number) × (bytes ≡ piece) × (key ≡ kept)
AnswersAs a t s _ _ = ⊥

pub record SaysAs {X : Type 0} (a : Added X) (t : NameMap) (s : State a.Kept) (v w : View) (x : X) (asked : Asked)
    (said : ExtraSaid a.Kept) : Type 0 where
  pub calls : CallsAs a t s v w x said.call
  pub answers : AnswersAs a calls.name_map (called said.call s) asked said.answer
