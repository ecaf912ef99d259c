-- The end of a turn: each task that lives is cancelled once main is done, and the run ends when none lives.
use Rattle.std.proofs.Common.{◌≡◌, ◌⊎◌, inl, inr, ℕ, zero, suc, ◌+◌, ◌<◌, ◌≤◌, if◌then◌else◌, append_assoc, Bool, true, false, not, ◌&&◌, List, [], ◌∷◌, ◌++◌}
use Rattle.std.proofs.Common.{Option, Some, None, length, slice_get, ◌∙◌, refl, sym, ap, subst, arith, append-nil}
use Rattle.std.proofs.Math.Logic.{∥∥₁_elim}
use Rattle.std.proofs.lemmas.Bool.{cases_eq, cases_lt, false≢true}
use Rattle.std.specs.List.{list_all, range_with_len}
use Rattle.model_value.specs.Value.{Outcome}
use Rattle.model_loop.specs.Cancel.{cancel}
use Rattle.model_loop.specs.Ending.{cancel_everything}
use Rattle.model_loop.specs.Futures.{future_outcome, is_pending, is_pending_at, outcome_at}
use Rattle.model_loop.specs.Ledger.{ByEnd, Booked, request, request_each, request_where}
use Rattle.model_loop.specs.Loop.{book}
use Rattle.model_loop.specs.Parts.{Parts}
use Rattle.model_loop.specs.Tasks.{future_of, lives, next_task}
use Rattle.model_machine.specs.Extra.{Extra}
use Rattle.model_machine.specs.Outcomes.{finished_as, no_task_lives}
use Rattle.model_machine.specs.Sound.{IsStateSound, ids_of, names_made}
use Rattle.model_machine.specs.Told.{told_in}
use Rattle.model_machine.specs.State.{State, in_loop}
use Rattle.model_machine.specs.Turn.{finished_if}
use Rattle.law_sound.proofs.Steps.{end_of_run_sound}
use Rattle.law_turns.specs.After.{IsLoopAfter}
use Rattle.law_turns.proofs.Loops.{book_loop}
use Rattle.law_turns.proofs.Requests.{each_after}
use Rattle.law_replies.proofs.Nobody.{nobody, over_as}
use Rattle.law_replies.proofs.Kept.{futures_stay}
use Rattle.refine_parts.proofs.Calls.{kept_request}
use Rattle.refine_parts.proofs.Requesting.{each_one}
use Rattle.refine_parts.proofs.Telling.{future_of_kept, outcome_kept, pending_kept}
use Rattle.aio_cancel.specs.Awaitables.{Appended}
use Rattle.aio_task.specs.View.{View, parts}
use Rattle.aio_extra.specs.Added.{Added, named_in}
use Rattle.aio_body.specs.declared.run_state.RunState.{RunState}
use Rattle.aio_body.specs.Stands.{Context, Stands, IsBetween, Possible}
use Rattle.aio_body.specs.Taken.{IsAfterCallback}
use Rattle.aio_body.proofs.Lasting.{spares_none, stands_on}
use Rattle.aio_body.proofs.Left.{leaves_request}
use Rattle.aio_body.proofs.May.{same_prop}
use Rattle.aio_body.proofs.Rooms.{below_appended}
use Rattle.aio_body.proofs.Telling.{own_stays}
use Rattle.aio_core.specs.declared.went.Went as Said
use Rattle.aio_core.specs.declared.went.Went.TheVariants as went
use Rattle.aio_core.specs.Turning.{Turned}

-- ---- numbers in order
range_last : (first count : ℕ) → range_with_len first (suc count) ≡ range_with_len first count ++ (first + count) ∷ []
range_last first zero = ap (λ n. n ∷ []) (none first)
  where
    none : (n : ℕ) → n ≡ n + 0
    none n = omega arith
range_last first (suc count) =
    ap (λ ns. first ∷ ns) (range_last (first + 1) count ∙ ap (λ n. range_with_len (first + 1) count ++ n ∷ []) (more first count))
  where
    more : (a b : ℕ) → a + 1 + b ≡ a + suc b
    more a b = omega arith

all_so : (test : ℕ → Bool) (first count : ℕ) → ((n : ℕ) → first ≤ n → n < first + count → test n ≡ true)
    → list_all test (range_with_len first count) ≡ true
all_so test first zero each = refl
all_so test first (suc count) each =
    ap (λ b. b && list_all test (range_with_len (first + 1) count)) (each first (omega arith) (omega arith))
    ∙ all_so test (first + 1) count (λ n above below. each n (omega (arith, above)) (omega (arith, below)))

off : (b : Bool) → (b && false) ≡ false
off true = refl
off false = refl

after_other : (a b : ℕ) → a ≤ b → (a ≡ b → ⊥) → a + 1 ≤ b
after_other a b le ne = at_lt (cases_lt a b)
  where
    at_lt : (a < b) ⊎ (b ≤ a) → a + 1 ≤ b
    at_lt (inl less) = omega (arith, less)
    at_lt (inr more) = let same : a ≡ b = omega (arith, le, more) in absurd (ne same)

some_not : (test : ℕ → Bool) (first count n : ℕ) → first ≤ n → n < first + count → test n ≡ false
    → list_all test (range_with_len first count) ≡ false
some_not test first zero n above below fails = absurd (omega (arith, above, below))
some_not test first (suc count) n above below fails =
    at (cases_eq first n) (λ higher. some_not test (first + 1) count n higher (omega (arith, below)) fails)
  where
    at : (first ≡ n) ⊎ (first ≡ n → ⊥) → (first + 1 ≤ n → list_all test (range_with_len (first + 1) count) ≡ false)
        → list_all test (range_with_len first (suc count)) ≡ false
    at (inl same) others = ap (λ b. b && list_all test (range_with_len (first + 1) count)) (ap test same ∙ fails)
    at (inr other) others = ap (λ b. test first && b) (others (after_other first n above other)) ∙ off (test first)

-- ---- which tasks live
-- a task's own future, as the code has it
abbrev pub own_of : {X : Type 0} → RunState X → ℕ → ℕ
own_of body task = future_of (parts body.parts) task

module _ {X : Type 0} {a : Added X} where
  pub pends_so : (out : Option ℕ) (c : Context a) (body : RunState X) (s : State a.Kept) (task : ℕ) → Stands out c body s
      → is_pending_at (slice_get body.parts.futures (own_of body task)) ≡ lives s.loop.parts task
  pends_so out c body s task h =
      pending_kept h.name_map body.parts s.loop.parts h.keeps (own_of body task)
      ∙ ap (is_pending s.loop.parts) (future_of_kept h.name_map body.parts s.loop.parts h.keeps task)

-- ---- all are cancelled
abbrev pub tasks_to : ℕ → List ℕ
tasks_to count = range_with_len 0 count

abbrev pub ended_to : {S : Type 0} → ℕ → State S → State S
ended_to count s = in_loop (book (request_each ByEnd (tasks_to count))) s

-- so far, from wherever it began
abbrev pub HasCancelled : {X : Type 0} → (a : Added X) → (first body : RunState X) → ℕ → Type 0
HasCancelled a first body count = (c : Context a) (s : State a.Kept) → IsBetween c first s → IsAfterCallback c body (ended_to count s)

module _ {X : Type 0} {a : Added X} where
  pub cancelled_first : (body : RunState X) → HasCancelled a body body 0
  cancelled_first body c s h =
      subst (IsAfterCallback c body) (ap (λ es. record s { loop = record s.loop { ledger = es } }) (sym (append-nil s.loop.ledger)))
      (record { stands = h.stands; called = h.called; running = h.running })

-- one task more
range_more : (count : ℕ) → tasks_to (suc count) ≡ tasks_to count ++ count ∷ []
range_more count = range_last 0 count ∙ ap (λ n. tasks_to count ++ n ∷ []) (none count)
  where
    none : (n : ℕ) → 0 + n ≡ n
    none n = omega arith

ended_more : {S : Type 0} (count : ℕ) (s : State S)
    → ended_to (suc count) s
    ≡ in_loop (book (request_where (lives (ended_to count s).loop.parts count) ByEnd (future_of (ended_to count s).loop.parts count))) (ended_to count s)
ended_more count s =
    ap (λ ts. in_loop (book (request_each ByEnd ts)) s) (range_more count)
    ∙ ap (λ (b : Booked). record s { loop = record s.loop { parts = b.parts; ledger = s.loop.ledger ++ b.entries } })
    (each_one ByEnd (tasks_to count) count s.loop.parts)
    ∙ ap (λ es. record s { loop = record s.loop { parts = last.parts; ledger = es } }) (sym (append_assoc s.loop.ledger those.entries last.entries))
  where
    those : Booked
    those = request_each ByEnd (tasks_to count) s.loop.parts

    last : Booked
    last = request_where (lives those.parts count) ByEnd (future_of those.parts count) those.parts

module _ {X : Type 0} {a : Added X} where
  -- it lives, and was asked to end
  pub cancelled_more : (first body : RunState X) (count : ℕ) (v : View) → HasCancelled a first body count
      → is_pending_at (slice_get body.parts.futures (own_of body count)) ≡ true
      → parts v ≡ (cancel (own_of body count) (parts body.parts)).parts → Appended body.parts.queue v.queue
      → v ≡ record body.parts { queue = v.queue; futures = v.futures; tasks = v.tasks }
      → HasCancelled a first (record body { parts = v }) (suc count)
  cancelled_more first body count v had pends after appended frame c s h =
      subst (IsAfterCallback c (record body { parts = v }))
      (sym (ended_more count s ∙ ap (λ b. in_loop (book (request_where b ByEnd (future_of p count))) t) alive
      ∙ ap (λ id. in_loop (book (request_where true ByEnd id)) t) (sym same)))
      (record {
        stands =
            stands_on None None c body t v (book (λ q. (request ByEnd own q).booked)) so.stands
            (kept_request so.stands.name_map body.parts v p so.stands.keeps ByEnd own (record {
              parts = after;
              queue = appended;
              time = ap (λ (x : View). x.time) frame;
              schedule = ap (λ (x : View). x.schedule) frame;
            }))
            (leaves_request ByEnd own p) (spares_none p (named_in a t)) (refl, (refl, refl)) (below_appended body.parts.queue v.queue appended)
            (ap (λ (x : View). x.profile) frame);
        called = ap (λ (x : View). x.called) frame ∙ so.called;
        running = ap (λ (x : View). x.running) frame ∙ so.running;
      })
    where
      t : State a.Kept
      t = ended_to count s

      p : Parts
      p = t.loop.parts

      own : ℕ
      own = own_of body count

      so : IsAfterCallback c body t
      so = had c s h

      same : own ≡ future_of p count
      same = future_of_kept so.stands.name_map body.parts p so.stands.keeps count

      alive : lives p count ≡ true
      alive = sym (pends_so None c body t count so.stands) ∙ pends

pub plus_one : (n : ℕ) → suc n ≡ n + 1
plus_one n = omega arith

module _ {X : Type 0} {a : Added X} where
  -- it is done
  pub cancelled_on : (first body : RunState X) (count : ℕ) → HasCancelled a first body count
      → is_pending_at (slice_get body.parts.futures (own_of body count)) ≡ false → HasCancelled a first body (suc count)
  cancelled_on first body count had done c s h =
      subst (IsAfterCallback c body) (sym (ended_more count s ∙ ap (λ b. in_loop (book (request_where b ByEnd (future_of t.loop.parts count))) t) over
      ∙ ap (λ es. record t { loop = record t.loop { ledger = es } }) (append-nil t.loop.ledger))) so
    where
      t : State a.Kept
      t = ended_to count s

      so : IsAfterCallback c body t
      so = had c s h

      over : lives t.loop.parts count ≡ false
      over = sym (pends_so None c body t count so.stands) ∙ done

  pub cancelled_idle : (first body : RunState X) (count : ℕ) → Possible a IsBetween first → HasCancelled a first body count → body.parts.called ≡ None
  cancelled_idle first body count alive had =
      ∥∥₁_elim alive (same_prop body.parts.called None) (λ w. (had w.0 w.1.0 w.1.1).called)

-- all of them: that leaves a sound state
cancelled_sound : {S : Type 0} (added : Extra S) (s : State S) → IsStateSound added s → IsStateSound added (in_loop cancel_everything s)
cancelled_sound added s sound =
    nobody added s sound (in_loop cancel_everything s) (record { program = refl; generators = refl; streams = refl; extra = refl; scripts = futures_stay }) refl
    (over_as added s sound (cancel_everything s.loop) all) all (end_of_run_sound None (told_in s.events) s.loop sound.loop)
  where
    all : IsLoopAfter (names_made (ids_of s)) false None None None None s.loop (cancel_everything s.loop)
    all =
        book_loop (names_made (ids_of s)) refl false None None None None
        (request_each ByEnd (range_with_len 0 (next_task s.loop.parts))) s.loop
        (each_after (names_made (ids_of s)) false None ByEnd (range_with_len 0 (next_task s.loop.parts)) s.loop.parts)

-- ---- whether one lives
abbrev pub NoneLives : {X : Type 0} → RunState X → ℕ → Type 0
NoneLives body count = (task : ℕ) → task < count → is_pending_at (slice_get body.parts.futures (own_of body task)) ≡ false

pub none_more : {X : Type 0} (body : RunState X) (count : ℕ) → NoneLives body count → is_pending_at (slice_get body.parts.futures (own_of body count)) ≡ false
    → NoneLives body (count + 1)
none_more body count none done task below = at (cases_eq task count)
  where
    at : (task ≡ count) ⊎ (task ≡ count → ⊥) → is_pending_at (slice_get body.parts.futures (own_of body task)) ≡ false
    at (inl same) = ap (λ n. is_pending_at (slice_get body.parts.futures (own_of body n))) same ∙ done
    at (inr other) = none task (lower (cases_lt task count))
      where
        lower : (task < count) ⊎ (count ≤ task) → task < count
        lower (inl less) = less
        lower (inr more) = let same : task ≡ count = omega (arith, below, more) in absurd (other same)

module _ {X : Type 0} {a : Added X} where
  pub cancelled_all : (first body : RunState X) (count : ℕ) → count ≡ length first.slots.items → HasCancelled a first body count
      → (c : Context a) (s : State a.Kept) → IsBetween c first s → IsBetween c body (in_loop cancel_everything s)
  cancelled_all first body count all had c s h =
      let so = subst (λ n. IsAfterCallback c body (ended_to n s)) (all ∙ h.stands.made) (had c s h) in
      record { stands = so.stands; called = so.called; running = so.running; sound = cancelled_sound a.meaning s h.sound }

  pub some_lives : (body : RunState X) (task : ℕ) → task < length body.slots.items
      → is_pending_at (slice_get body.parts.futures (own_of body task)) ≡ true
      → (c : Context a) (s : State a.Kept) → IsBetween c body s → true ≡ not (no_task_lives s.loop.parts)
  some_lives body task within pends c s h =
      let alive = sym (pends_so None c body s task h.stands) ∙ pends in
      let made = h.stands.made in
      sym (ap not (some_not (λ t. not (lives s.loop.parts t)) 0 (next_task s.loop.parts) task (omega arith) (omega (arith, within, made)) (ap not alive)))

  pub none_lives : (body : RunState X) → NoneLives body (length body.slots.items)
      → (c : Context a) (s : State a.Kept) → IsBetween c body s → false ≡ not (no_task_lives s.loop.parts)
  none_lives body none c s h =
      sym (ap not (all_so (λ t. not (lives s.loop.parts t)) 0 (next_task s.loop.parts) each))
    where
      each : (task : ℕ) → 0 ≤ task → task < 0 + next_task s.loop.parts → not (lives s.loop.parts task) ≡ true
      each task above below =
          let made = h.stands.made in
          ap not (sym (pends_so None c body s task h.stands) ∙ none task (omega (arith, below, made)))

  -- ---- the end of a turn
  pub outcome_so : (c : Context a) (body : RunState X) (s : State a.Kept) → IsBetween c body s
      → outcome_at (slice_get body.parts.futures (own_of body 0)) ≡ future_outcome s.loop.parts (future_of s.loop.parts 0)
  outcome_so c body s h =
      ap (λ id. outcome_at (slice_get body.parts.futures id)) (future_of_kept h.stands.name_map body.parts s.loop.parts h.stands.keeps 0)
      ∙ outcome_kept h.stands.name_map body.parts s.loop.parts h.stands.keeps (future_of s.loop.parts 0)
      (own_stays None c body s h.stands h.sound.loop.parts.owns 0)

-- main's outcome, where main's callback ran and no task lives
abbrev pub finished_by : (main_done none_lives : Bool) → Option Outcome → Option Outcome
finished_by main_done none outcome = if main_done && none then outcome else None

-- what the code says by these
abbrev pub said_at : Option Outcome → Said.Went
said_at None = went.Went
said_at (Some outcome) = went.Finished outcome

module _ {X : Type 0} {a : Added X} (c : Context a) (body : RunState X) (s : State a.Kept) (h : IsBetween c body s) where
  said_so : (o : Option Outcome) → finished_as s ≡ o → Turned c body (said_at o) (finished_if (finished_as s) s)
  said_so None e = subst (λ o. Turned c body went.Went (finished_if o s)) (sym e) h
  said_so (Some outcome) e = subst (λ o. Turned c body (went.Finished outcome) (finished_if o s)) (sym e)
      (refl, (h.stands.events, (h.stands.made, h.stands.few)))

  pub main_goes : body.main_done ≡ false → Turned c body went.Went (finished_if (finished_as s) s)
  main_goes e =
      said_so None (ap (λ b. finished_by b (no_task_lives s.loop.parts) (future_outcome s.loop.parts (future_of s.loop.parts 0)))
      (sym h.stands.main_done ∙ e))

  pub some_goes : true ≡ not (no_task_lives s.loop.parts) → Turned c body went.Went (finished_if (finished_as s) s)
  some_goes some = said_so None (at (no_task_lives s.loop.parts) some s.main_done)
    where
      at : (none : Bool) → true ≡ not none → (done : Bool) → finished_by done none (future_outcome s.loop.parts (future_of s.loop.parts 0)) ≡ None
      at true e done = absurd (false≢true (sym e))
      at false e true = refl
      at false e false = refl

  pub over_so : (o : Option Outcome) → body.main_done ≡ true → false ≡ not (no_task_lives s.loop.parts)
      → outcome_at (slice_get body.parts.futures (own_of body 0)) ≡ o → Turned c body (said_at o) (finished_if (finished_as s) s)
  over_so o done none is =
      said_so o (ap (λ b. finished_by b (no_task_lives s.loop.parts) main) (sym h.stands.main_done ∙ done) ∙ at (no_task_lives s.loop.parts) none
      ∙ sym (outcome_so c body s h) ∙ is)
    where
      main : Option Outcome
      main = future_outcome s.loop.parts (future_of s.loop.parts 0)

      at : (b : Bool) → false ≡ not b → finished_by true b main ≡ main
      at true e = refl
      at false e = absurd (false≢true e)
