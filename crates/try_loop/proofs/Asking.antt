-- What a call comes to that changes nothing of the loop.
use Rattle.std.proofs.Common.{◌≡◌, ℕ, zero, suc, List, [], Option, Some, refl, sym, ap, subst, ◌∙◌}
use Rattle.std.specs.Option.{option_map_or}
use Rattle.std.proofs.lemmas.Option.{none-some}
use Rattle.model_machine.specs.Arguments.{as_list}
use Rattle.model_machine.specs.Extra as extra
use Rattle.model_machine.specs.Extra.{ExtraSaid}
use Rattle.model_machine.specs.State.{State}
use Rattle.refine_parts.proofs.Appending.{extends_same}
use Rattle.aio_task.specs.Keeps.{NameMap}
use Rattle.aio_task.specs.View.{View}
use Rattle.aio_extra.specs.Called.{CallsAs, IsServed, SaysAs}
use Rattle.aio_extra.specs.declared.asked.Asked.{Asked}
use Rattle.aio_extra.specs.declared.asked.Asked.TheVariants.{Answer, Raise, Wait, Outside}
use Rattle.model_value.specs.Value.{Bytes, Items, Value, Values, list_of, no_values, value_then, values}
use Rattle.try_loop.specs.Asker.{Left, SaysIt, asker, bytes_by, heard_by, left_at, only_says}
use Rattle.try_loop.specs.declared.asker.Asker.{Asker}

module _ (running : Option ℕ) (t : NameMap) (s : State Left) (x y : Asker) (v : View) (h : IsServed asker running t s x v) where
  calls_so : (kept : Left) → y.left.items ≡ kept → CallsAs asker t s v v y (record { state = kept; steps = [] })
  calls_so kept same = record {
    name_map = t;
    keeps = h.keeps;
    extends = extends_same t s.loop.parts;
    stands = same;
    below = refl;
    profile = refl;
    called = refl;
    running = refl;
  }

  pub says_so : (asked : Asked) (answer : extra.ExtraAnswer) (kept : Left) → SaysIt asked y.left.items (only_says answer kept)
      → SaysAs asker t s v v y asked (only_says answer kept)
  says_so (Answer value) (extra.Answers said) kept e = record { calls = calls_so kept e.left; answers = e.answer }
  says_so (Answer value) (extra.Raises fault) kept e = absurd e.answer
  says_so (Answer value) (extra.Waits on key) kept e = absurd e.answer
  says_so (Answer value) (extra.Asks code bytes key) kept e = absurd e.answer
  says_so (Raise fault) (extra.Raises said) kept e = record { calls = calls_so kept e.left; answers = e.answer }
  says_so (Raise fault) (extra.Answers value) kept e = absurd e.answer
  says_so (Raise fault) (extra.Waits on key) kept e = absurd e.answer
  says_so (Raise fault) (extra.Asks code bytes key) kept e = absurd e.answer
  says_so (Wait on key) it kept e = absurd e.answer
  says_so (Outside code bytes key) (extra.Asks number piece same) kept e = record { calls = calls_so kept e.left; answers = e.answer }
  says_so (Outside code bytes key) (extra.Answers value) kept e = absurd e.answer
  says_so (Outside code bytes key) (extra.Raises fault) kept e = absurd e.answer
  says_so (Outside code bytes key) (extra.Waits on same) kept e = absurd e.answer

  -- whatever is said makes no steps
  pub says_it : (asked : Asked) (said : ExtraSaid Left) → said.call.steps ≡ [] → SaysIt asked y.left.items said → SaysAs asker t s v v y asked said
  says_it asked said none e =
      subst (SaysAs asker t s v v y asked) (only_says_of said none)
      (says_so asked said.answer said.call.state (record { answer = e.answer; left = e.left }))
    where
      only_says_of : (said : ExtraSaid Left) → said.call.steps ≡ [] → only_says said.answer said.call.state ≡ said
      only_says_of said none = ap (λ steps. record { call = record { state = said.call.state; steps = steps }; answer = said.answer }) (sym none)

-- a list is the one of its items
list_held : (held : Values) → values (list_of held) ≡ held
list_held no_values = refl
list_held (value_then value others) = ap (value_then value) (list_held others)

pub listed_is : (it : Value) (items : List Value) → as_list it ≡ Some items → it ≡ Items (values items)
listed_is (Items held) items e =
    ap Items (sym (list_held held) ∙ ap values (ap (λ o. option_map_or (λ (l : List Value). l) o items) e))
listed_is _ items e = absurd (none-some items e)

-- what is heard makes no steps
bytes_steps : (left key : ℕ) (bytes : List ℕ) (kept : Left) → (bytes_by left key bytes kept).call.steps ≡ []
bytes_steps zero key bytes kept = refl
bytes_steps (suc more) key bytes kept = refl

pub heard_steps : (key : ℕ) (value : Value) (kept : Left) → (heard_by key value kept).call.steps ≡ []
heard_steps key (Bytes bytes) kept = bytes_steps (left_at kept key) key bytes kept
heard_steps key _ kept = refl
