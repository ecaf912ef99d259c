-- What was made stays made: where more was, values name what was made as before.
use Rattle.std.proofs.Common.{◌≡◌, ℕ, ◌<◌, ◌≤◌, ◌⊎◌, inl, inr, Bool, true, List, [], ◌∷◌, Option, Some, length, nat_lt, slice_get, refl, ap, le_refl, arith}
use Rattle.std.specs.List.{list_all}
use Rattle.std.proofs.lemmas.Bool.{cases_lt, lt-ltb, ltb-true}
use Rattle.model_value.specs.Input.{Input}
use Rattle.model_value.specs.declared.input.Input.TheVariants.{Send, Throw}
use Rattle.model_value.specs.Value.{Value, Items, Fut, Task, Group, Timeout, Conn, Server, Child, Errs, Values, no_values, value_then}
use Rattle.model_says.specs.Tape.{Resumed, Tape}
use Rattle.model_stream.specs.Streams.{Streams}
use Rattle.model_loop.specs.Tasks.{next_task}
use Rattle.model_machine.specs.Sound.{Ids, all_made, ids_of, names_made, sends_made}
use Rattle.model_machine.specs.State.{State}
use Rattle.law_cancel.proofs.Lookups.{get_within}
use Rattle.law_turns.specs.After.{IsLoopAfter}
use Rattle.law_replies.specs.InStep.{SameTapes}
use Rattle.law_replies.proofs.Counts.{and_first, and_second, and_both, get_there}

-- at least as many of each kind
pub record IsMore (m n : Ids) : Type 0 where
  pub tasks : m.tasks ≤ n.tasks
  pub futures : m.futures ≤ n.futures
  pub timeouts : m.timeouts ≤ n.timeouts
  pub groups : m.groups ≤ n.groups
  pub servers : m.servers ≤ n.servers
  pub connections : m.connections ≤ n.connections
  pub children : m.children ≤ n.children

pub as_many : (n : Ids) → IsMore n n
as_many n = record {
  tasks = le_refl _;
  futures = le_refl _;
  timeouts = le_refl _;
  groups = le_refl _;
  servers = le_refl _;
  connections = le_refl _;
  children = le_refl _;
}

-- ---- values
pub task_made : (n : Ids) (id : ℕ) → id < n.tasks → names_made n (Task id) ≡ true
task_made n id h = lt-ltb id n.tasks h

pub made_task : (n : Ids) (id : ℕ) → names_made n (Task id) ≡ true → id < n.tasks
made_task n id h = ltb-true id n.tasks h

below_up : (id m n : ℕ) → m ≤ n → nat_lt id m ≡ true → nat_lt id n ≡ true
below_up id m n le h = let w = ltb-true id m h in lt-ltb id n (omega (arith, le, w))

mutual
  pub names_up : (m n : Ids) → IsMore m n → (value : Value) → names_made m value ≡ true → names_made n value ≡ true
  names_up m n more (Items items) h = all_up m n more items h
  names_up m n more (Fut id) h = below_up id m.futures n.futures more.futures h
  names_up m n more (Task id) h = below_up id m.tasks n.tasks more.tasks h
  names_up m n more (Group id) h = below_up id m.groups n.groups more.groups h
  names_up m n more (Timeout id) h = below_up id m.timeouts n.timeouts more.timeouts h
  names_up m n more (Conn id) h = below_up id m.connections n.connections more.connections h
  names_up m n more (Server id) h = below_up id m.servers n.servers more.servers h
  names_up m n more (Child id) h = below_up id m.children n.children more.children h
  names_up m n more (Errs id) h = below_up id m.children n.children more.children h
  names_up m n more _ h = refl

  all_up : (m n : Ids) → IsMore m n → (items : Values) → all_made m items ≡ true → all_made n items ≡ true
  all_up m n more no_values h = refl
  all_up m n more (value_then value others) h =
      and_both _ _ (names_up m n more value (and_first _ _ h)) (all_up m n more others (and_second _ _ h))

pub list_up : (m n : Ids) → IsMore m n → (items : List Value) → list_all (names_made m) items ≡ true → list_all (names_made n) items ≡ true
list_up m n more [] h = refl
list_up m n more (value ∷ items) h = and_both _ _ (names_up m n more value (and_first _ _ h)) (list_up m n more items (and_second _ _ h))

pub input_up : (m n : Ids) → IsMore m n → (input : Input) → sends_made m input ≡ true → sends_made n input ≡ true
input_up m n more (Send value) h = names_up m n more value h
input_up m n more (Throw fault) h = refl

pub tape_up : (m n : Ids) → IsMore m n → (tape : Tape) → list_all (λ (x : Resumed). sends_made m x.input) tape ≡ true
    → list_all (λ (x : Resumed). sends_made n x.input) tape ≡ true
tape_up m n more [] h = refl
tape_up m n more (x ∷ tape) h = and_both _ _ (input_up m n more x.input (and_first _ _ h)) (tape_up m n more tape (and_second _ _ h))

-- ---- as the loop goes on
stays_length : (old new : List ℕ) → ((place id : ℕ) → slice_get old place ≡ Some id → slice_get new place ≡ Some id) → length old ≤ length new
stays_length old new stays = at (cases_lt (length new) (length old))
  where
    at : (length new < length old) ⊎ (length old ≤ length new) → length old ≤ length new
    at (inl past) =
        let there = get_there old (length new) past in
        let within = get_within new (length new) there.0 (stays (length new) there.0 there.1) in
        absurd (omega (arith, within))
    at (inr within) = within

module _ {S : Type 0} (s t : State S) (tapes : SameTapes s t) where
  -- where what the loop numbers isn't less
  pub ids_more : next_task s.loop.parts ≤ next_task t.loop.parts → length s.loop.timeouts ≤ length t.loop.timeouts
      → length s.loop.groups ≤ length t.loop.groups → IsMore (ids_of s) (ids_of t)
  ids_more tasks timeouts groups = record {
    tasks = tasks;
    futures = stays_length s.futures t.futures tapes.scripts.stays;
    timeouts = timeouts;
    groups = groups;
    servers = let e = ap (λ (x : Streams). length x.servers) tapes.streams in omega (arith, e);
    connections = let e = ap (λ (x : Streams). length x.connections) tapes.streams in omega (arith, e);
    children = let e = ap (λ (x : Streams). length x.children) tapes.streams in omega (arith, e);
  }

  pub loop_more : {test : Value → Bool} {grown : Bool} {excused timeout group begun : Option ℕ}
      → IsLoopAfter test grown excused timeout group begun s.loop t.loop → IsMore (ids_of s) (ids_of t)
  loop_more a =
      let timeouts = a.timeouts_made in
      let groups = a.groups_made in
      ids_more a.parts.tasks (omega (arith, timeouts)) (omega (arith, groups))
