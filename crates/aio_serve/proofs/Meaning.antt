-- What requests come to in the machine, by what their arguments are.
use Rattle.std.proofs.Common.{◌≡◌, ℕ, ◌<◌, ◌≤◌, ℤ, pos, true, false, List, Option, Some, None, is_some, length, option_map, refl, ap}
use Rattle.std.proofs.lemmas.Bool.{le-ltb, lt-ltb}
use Rattle.model_value.specs.declared.outcome.Outcome.TheVariants.{Value as Returned, Failed}
use Rattle.model_value.specs.declared.request.Request.TheVariants as request
use Rattle.model_value.specs.Value.{Value, Exc, Nothing, Truth, Int, Task, Outcome}
use Rattle.model_wire.specs.declared.event.Event.TheVariants as event
use Rattle.model_loop.specs.Futures.{future_outcome, settle}
use Rattle.model_loop.specs.Ledger.{ByScript, request as asked}
use Rattle.model_loop.specs.Loop.{book, take_one_back}
use Rattle.model_loop.specs.Tasks.{cancelling}
use Rattle.model_says.specs.Operations.{out_of_range}
use Rattle.model_says.specs.Requests.{bad_argument}
use Rattle.model_machine.specs.Arguments.{as_future, as_awaited, as_task, as_int, as_failure, as_list}
use Rattle.model_machine.specs.Extra.{Extra}
use Rattle.model_machine.specs.Replies.{Answers, Raises, reply, given, settles, invalid_state, numbered_if, makes_future, most_ids, is_cancelled_as, result_of}
use Rattle.model_machine.specs.Replies.{shown_all, serves, woken}
use Rattle.model_machine.specs.State.{State, in_loop, noted, unbooked_in}

-- ---- a future is settled
module _ {S : Type 0} (s : State S) (future : Value) where
  pub none_settled : (outcome : Option Outcome) → as_future s future ≡ None
      → given (as_future s future) (λ on. given outcome (settles on)) s ≡ Raises bad_argument s
  none_settled outcome e = ap (λ o. given o (λ on. given outcome (settles on)) s) e

  pub settled_with_none : (on : ℕ) → as_future s future ≡ Some on
      → given (as_future s future) (λ on. given None (settles on)) s ≡ Raises bad_argument s
  settled_with_none on e = ap (λ o. given o (λ on. given None (settles on)) s) e

  pub settled_twice : (on : ℕ) (outcome : Outcome) → as_future s future ≡ Some on → is_some (future_outcome s.loop.parts on) ≡ true
      → given (as_future s future) (λ on. given (Some outcome) (settles on)) s ≡ Raises invalid_state s
  settled_twice on outcome e done = rw (e, done) refl

  pub settled_once : (on : ℕ) (outcome : Outcome) → as_future s future ≡ Some on → is_some (future_outcome s.loop.parts on) ≡ false
      → given (as_future s future) (λ on. given (Some outcome) (settles on)) s ≡ Answers Nothing (unbooked_in (settle on outcome) s)
  settled_once on outcome e done = rw (e, done) refl

module _ {S : Type 0} (added : Extra S) (task : ℕ) (s : State S) where
  pub set_means : (future value : Value)
      → reply added task (request.Set future value) s ≡ given (as_future s future) (λ on. given (Some (Returned value)) (settles on)) s
  unfolding reply
  set_means future value = refl

  pub fail_means : (future fault : Value) (outcome : Option Outcome) → outcome ≡ option_map Failed (as_failure fault)
      → reply added task (request.Fail future fault) s ≡ given (as_future s future) (λ on. given outcome (settles on)) s
  unfolding reply
  fail_means future fault outcome e = rw e (at (as_failure fault))
    where
      at : (o : Option Exc) → given (as_future s future) (λ on. given o (λ it. settles on (Failed it))) s
          ≡ given (as_future s future) (λ on. given (option_map Failed o) (settles on)) s
      at None = refl
      at (Some it) = refl

  -- ---- futures
  pub one_more_made : length s.futures < most_ids → reply added task request.MakeFuture s ≡ makes_future s
  unfolding reply
  one_more_made few = ap (λ b. numbered_if b makes_future s) (lt-ltb (length s.futures) most_ids few)

  pub none_made : most_ids ≤ length s.futures → reply added task request.MakeFuture s ≡ Raises out_of_range s
  unfolding reply
  none_made many = ap (λ b. numbered_if b makes_future s) (le-ltb (length s.futures) most_ids many)

  pub done_means : (x : Value) (on : ℕ) → as_awaited s x ≡ Some on
      → reply added task (request.IsDone x) s ≡ Answers (Truth (is_some (future_outcome s.loop.parts on))) s
  unfolding reply
  done_means x on e = rw e refl

  pub done_refused : (x : Value) → as_awaited s x ≡ None → reply added task (request.IsDone x) s ≡ Raises bad_argument s
  unfolding reply
  done_refused x e = rw e refl

  pub cancelled_means : (x : Value) (on : ℕ) → as_awaited s x ≡ Some on
      → reply added task (request.IsCancelled x) s ≡ Answers (Truth (is_cancelled_as (future_outcome s.loop.parts on))) s
  unfolding reply
  cancelled_means x on e = rw e refl

  pub cancelled_refused : (x : Value) → as_awaited s x ≡ None → reply added task (request.IsCancelled x) s ≡ Raises bad_argument s
  unfolding reply
  cancelled_refused x e = rw e refl

  pub result_means : (x : Value) (on : ℕ) → as_awaited s x ≡ Some on
      → reply added task (request.ResultOf x) s ≡ result_of (future_outcome s.loop.parts on) s
  unfolding reply
  result_means x on e = rw e refl

  pub result_refused : (x : Value) → as_awaited s x ≡ None → reply added task (request.ResultOf x) s ≡ Raises bad_argument s
  unfolding reply
  result_refused x e = rw e refl

  -- ---- cancels
  pub cancel_means : (x : Value) (on : ℕ) → as_awaited s x ≡ Some on
      → reply added task (request.Cancel x) s
      ≡ Answers (Truth (asked (ByScript task) on s.loop.parts).answer) (in_loop (book (λ p. (asked (ByScript task) on p).booked)) s)
  unfolding reply
  cancel_means x on e = rw e refl

  pub cancel_refused : (x : Value) → as_awaited s x ≡ None → reply added task (request.Cancel x) s ≡ Raises bad_argument s
  unfolding reply
  cancel_refused x e = rw e refl

  pub count_means : (x : Value) (other : ℕ) → as_task x ≡ Some other
      → reply added task (request.Cancelling x) s ≡ Answers (Int (pos (cancelling s.loop.parts other))) s
  unfolding reply
  count_means x other e = rw e refl

  pub count_refused : (x : Value) → as_task x ≡ None → reply added task (request.Cancelling x) s ≡ Raises bad_argument s
  unfolding reply
  count_refused x e = rw e refl

  pub uncancel_means : (x : Value) (other : ℕ) → as_task x ≡ Some other
      → reply added task (request.Uncancel x) s
      ≡ Answers (Int (pos (cancelling (take_one_back (ByScript task) other s.loop).parts other)))
      (in_loop (take_one_back (ByScript task) other) s)
  unfolding reply
  uncancel_means x other e = rw e refl

  pub uncancel_refused : (x : Value) → as_task x ≡ None → reply added task (request.Uncancel x) s ≡ Raises bad_argument s
  unfolding reply
  uncancel_refused x e = rw e refl

  pub current_means : reply added task request.Current s ≡ Answers (Task task) s
  unfolding reply
  current_means = refl

  -- ---- the time, printing, and what is added
  pub print_means : (values : List Value) → reply added task (request.Print values) s ≡ Answers Nothing (noted (event.Said task (shown_all values)) s)
  unfolding reply
  print_means values = refl

  pub time_means : reply added task request.Time s ≡ Answers (Int (pos s.loop.parts.time)) s
  unfolding reply
  time_means = refl

  pub added_means : (code arguments : Value) (number : ℤ) (items : List Value) → as_int code ≡ Some number → as_list arguments ≡ Some items
      → reply added task (request.Extra code arguments) s ≡ serves (added.ask task number items s) (woken added task) task s
  unfolding reply
  added_means code arguments number items e f = rw (e, f) refl

  pub code_refused : (code arguments : Value) → as_int code ≡ None → reply added task (request.Extra code arguments) s ≡ Raises bad_argument s
  unfolding reply
  code_refused code arguments a = rw a refl

  pub arguments_refused : (code arguments : Value) (number : ℤ) → as_int code ≡ Some number → as_list arguments ≡ None
      → reply added task (request.Extra code arguments) s ≡ Raises bad_argument s
  unfolding reply
  arguments_refused code arguments number a b = rw (a, b) refl
