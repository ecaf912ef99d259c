-- A request on a stack goes as its definition does.
use Rattle.std.proofs.Common.{◌≡◌, ℕ, zero, suc, ◌+◌, ◌<◌, ◌≤◌, Bool, true, false, ◌||◌, List, [], ◌∷◌, ◌++◌, Option, Some, None, drop, slice_get, Result, Ok}
use Rattle.std.proofs.Common.{Err, IfOk, refl, ap, sym, ◌∙◌, arith, if◌then◌else◌}
use Rattle.std.specs.Option.{option_map}
use Rattle.std.proofs.lemmas.Bool.{lt-ltb, le-ltb}
use Rattle.model_value.specs.declared.outcome.Outcome.TheVariants.{Cancelled}
use Rattle.model_value.specs.Value.{Outcome}
use Rattle.model_loop.specs.Parts.{FutureKind, Plain, OfTask, Many, Future, Task, Parts}
use Rattle.model_loop.specs.Futures.{made_before, settle, mark_asked, asked_kind}
use Rattle.model_loop.specs.Tasks.{raise_count}
use Rattle.model_loop.specs.Cancel.{CancelRequest, answers, has_seen, cancel_each, cancel_with}
use Rattle.law_cancel.proofs.CancelCases.{asked_where, must_cancel_unless, cancel_unseen, cancel_task_where, cancel_until, cancel_at}
use Rattle.law_cancel.proofs.Lookups.{get-set_kept}
use Rattle.law_cancel.proofs.Effects.{settle-futures, done_as, mark_asked-futures, asked_as, change_task-futures}
use Rattle.law_cancel.proofs.Trace.{Goes, begins, settles, asks, raises, sets_must_cancel, with_row}
use Rattle.law_cancel.proofs.Total.{cancel_with_itself}
use Rattle.algorithm_parts.specs.Shape.{stands_of, stands_at, members_of, members_at}
use Rattle.algorithm_parts.specs.declared.walk.FutureState.{FutureState}
use Rattle.algorithm_parts.specs.declared.walk.FutureState.TheVariants as stands
use Rattle.algorithm_parts.specs.declared.walk.WalkFrame.{WalkFrame}
use Rattle.algorithm_parts.specs.declared.walk.WalkFrame.TheVariants.{Waits, Members}
use Rattle.algorithm_parts.specs.declared.walk.Go.TheVariants.{Visit, Next, Answer}
use Rattle.algorithm_parts.specs.Walk.{joined, ask_joined, next_of, finish, resume, run, run_task}

pub resume-push : (frames : List WalkFrame) (frame : WalkFrame) (r : CancelRequest) → resume (frames ++ frame ∷ []) r ≡ resume frames (finish frame r)
resume-push [] frame r = refl
resume-push (f ∷ frames) frame r = ap (finish f) (resume-push frames frame r)

-- ---- one future
abbrev pub by_stands : FutureState → List ℕ → ℕ → List ℕ → Parts → CancelRequest
by_stands stands.Done members id s p = answers false s p
by_stands stands.Plain members id s p = answers true s (settle id Cancelled p)
by_stands (stands.OfTask task) members id s p = cancel_task_where cancel_with (has_seen s task) task s p
by_stands stands.Many members id s p = ask_joined id (joined false (cancel_each cancel_with (made_before id members) s p))

module _ (id : ℕ) (s : List ℕ) (p : Parts) where
  until_stands : (o : Option Outcome) (k : FutureKind) → cancel_until cancel_with cancel_with o k id s p ≡ by_stands (stands_of o k) (members_of k) id s p
  until_stands (Some outcome) k = refl
  until_stands None Plain = refl
  until_stands None (OfTask task) = refl
  until_stands None (Many members asked) = refl

  at_stands : (o : Option Future) → cancel_at cancel_with cancel_with o id s p ≡ by_stands (stands_at o) (members_at o) id s p
  at_stands None = refl
  at_stands (Some future) = until_stands future.outcome future.kind

  pub visited : cancel_with id s p ≡ by_stands (stands_at (slice_get p.futures id)) (members_at (slice_get p.futures id)) id s p
  visited = cancel_with_itself id s p ∙ at_stands (slice_get p.futures id)

  pub visited_as : (st : FutureState) → st ≡ stands_at (slice_get p.futures id) → cancel_with id s p ≡ by_stands st (members_at (slice_get p.futures id)) id s p
  visited_as st e = visited ∙ ap (λ x. by_stands x (members_at (slice_get p.futures id)) id s p) (sym e)

-- ---- members stay
asked_members : (k : FutureKind) → members_of (asked_kind k) ≡ members_of k
asked_members Plain = refl
asked_members (OfTask task) = refl
asked_members (Many members asked) = refl

pub goes-members : {s : List ℕ} {p : Parts} {t : List ℕ} {q : Parts} → Goes s p t q → (j : ℕ)
    → members_at (slice_get q.futures j) ≡ members_at (slice_get p.futures j)
goes-members begins j = refl
goes-members (settles {q = q} g id future e o k) j =
    ap (λ (fs : List Future). members_at (slice_get fs j)) (settle-futures id Cancelled q future e o)
    ∙ get-set_kept members_at q.futures id j future (done_as Cancelled future) e refl ∙ goes-members g j
goes-members (asks {q = q} g id future members asked e o k) j =
    ap (λ (fs : List Future). members_at (slice_get fs j)) (mark_asked-futures id q future e)
    ∙ get-set_kept members_at q.futures id j future (asked_as future) e (asked_members future.kind) ∙ goes-members g j
goes-members (raises {q = q} g id task n e) j =
    ap (λ (fs : List Future). members_at (slice_get fs j)) (change_task-futures id _ q) ∙ goes-members g j
goes-members (sets_must_cancel {q = q} g id) j =
    ap (λ (fs : List Future). members_at (slice_get fs j)) (change_task-futures id _ q) ∙ goes-members g j

-- ---- the members from a place on
pub drop_some : (xs : List ℕ) (place : ℕ) (x : ℕ) → slice_get xs place ≡ Some x → drop place xs ≡ x ∷ drop (suc place) xs
drop_some [] place x e = absurd (cc)
drop_some (y ∷ ys) zero x e = let same : y ≡ x = cc in ap (λ z. z ∷ ys) same
drop_some (y ∷ ys) (suc place) x e = drop_some ys place x e

pub drop_none : (xs : List ℕ) (place : ℕ) → slice_get xs place ≡ None → drop place xs ≡ []
drop_none [] zero e = refl
drop_none [] (suc place) e = refl
drop_none (y ∷ ys) zero e = absurd (cc)
drop_none (y ∷ ys) (suc place) e = drop_none ys place e

pub or_assoc : (a b c : Bool) → (a || (b || c)) ≡ ((a || b) || c)
or_assoc true b c = refl
or_assoc false b c = refl

module _ (id place : ℕ) (any : Bool) (s : List ℕ) (p : Parts) where
  pub next_none : slice_get (members_at (slice_get p.futures id)) place ≡ None → next_of id place any s p ≡ asked_where any id (answers any s p)
  next_none e =
      rw (drop_none (members_at (slice_get p.futures id)) place e) (or_false any)
    where
      or_false : (b : Bool) → ask_joined id (joined b (answers false s p)) ≡ asked_where b id (answers b s p)
      or_false true = refl
      or_false false = refl

  pub next_past : (member : ℕ) → slice_get (members_at (slice_get p.futures id)) place ≡ Some member → id ≤ member
      → next_of id place any s p ≡ next_of id (place + 1) any s p
  next_past member e l =
      let n : place + 1 ≡ suc place = omega arith in
      rw (drop_some (members_at (slice_get p.futures id)) place member e, le-ltb member id l, n) refl

  pub next_member : (member : ℕ) → slice_get (members_at (slice_get p.futures id)) place ≡ Some member → member < id
      → next_of id place any s p ≡ finish (Members id (place + 1) any) (cancel_with member s p)
  next_member member e l =
      let n : place + 1 ≡ suc place = omega arith in
      let same = goes-members (with_row member s p) id in
      rw (drop_some (members_at (slice_get p.futures id)) place member e, lt-ltb member id l, n, same)
      (assoc (cancel_with member s p).answer (cancel_each cancel_with (made_before id (drop (suc place) (members_at (slice_get p.futures id))))
      (cancel_with member s p).seen (cancel_with member s p).parts))
    where
      assoc : (b : Bool) (r : CancelRequest) → ask_joined id (joined any (record r { answer = b || r.answer })) ≡ ask_joined id (joined (any || b) r)
      assoc b r = ap (λ c. ask_joined id (record r { answer = c })) (or_assoc any b r.answer)

-- ---- the steps of the code
pub if_ok : {A E : Type 0} (r : Result A E) (P Q : A → Type 0) → IfOk r P → ((x : A) → P x → Q x) → IfOk r Q
if_ok (Ok x) P Q p f = f x p
if_ok (Err cause) P Q p f = tt

pub visit_waits : (frames after : List WalkFrame) (i t w : ℕ) (s s' : List ℕ) (p p' : Parts) (waiter : Option ℕ)
    → after ≡ frames ++ Waits i t ∷ [] → s' ≡ s ++ t ∷ [] → p' ≡ raise_count t p → has_seen s t ≡ false
    → Some waiter ≡ option_map (λ (task : Task). task.waiter) (slice_get p.tasks t) → waiter ≡ Some w
    → run (Visit w) after s' p' ≡ run_task t frames s p
visit_waits frames after i t w s s' p p' waiter a e f n h is =
    rw (a, e, f, n) (resume-push frames (Waits i t) (cancel_with w (s ++ t ∷ []) (raise_count t p)) ∙ ap (resume frames) (at (slice_get p.tasks t) h))
  where
    until : (task : Task) → task.waiter ≡ Some w
        → finish (Waits i t) (cancel_with w (s ++ t ∷ []) (raise_count t p)) ≡ cancel_unseen cancel_with t (Some task) s p
    until task e = rw e refl

    at : (o : Option Task) → Some waiter ≡ option_map (λ (task : Task). task.waiter) o
        → finish (Waits i t) (cancel_with w (s ++ t ∷ []) (raise_count t p)) ≡ cancel_unseen cancel_with t o s p
    at None h = absurd (cc)
    at (Some task) h = let there : task.waiter ≡ Some w = cc in until task there

pub next_ends : (frames : List WalkFrame) (id place : ℕ) (any : Bool) (s : List ℕ) (p q : Parts) → None ≡ slice_get (members_at (slice_get p.futures id)) place
    → q ≡ (asked_where any id (answers any s p)).parts → run (Answer any) frames s q ≡ run (Next id place any) frames s p
next_ends frames id place any s p q e a = ap (resume frames) (at any refl)
  where
    at : (b : Bool) → any ≡ b → answers any s q ≡ next_of id place any s p
    at true t = rw (next_none id place any s p (sym e), a, t) refl
    at false t = rw (next_none id place any s p (sym e), a, t) refl

pub back_waits : (i task : ℕ) (answer : Bool) (frames : List WalkFrame) (s : List ℕ) (p q : Parts)
    → q ≡ (must_cancel_unless answer task (answers answer s p)).parts
    → run (Answer true) frames s q ≡ run (Answer answer) (frames ++ Waits i task ∷ []) s p
back_waits i task answer frames s p q e = ap (resume frames) (at answer e) ∙ sym (resume-push frames (Waits i task) (answers answer s p))
  where
    at : (b : Bool) → q ≡ (must_cancel_unless b task (answers b s p)).parts → answers true s q ≡ must_cancel_unless b task (answers b s p)
    at true e = rw e refl
    at false e = rw e refl

pub next_ends_where : (frames : List WalkFrame) (id place : ℕ) (any : Bool) (s : List ℕ) (p q : Parts)
    → None ≡ slice_get (members_at (slice_get p.futures id)) place
    → q ≡ (if any then mark_asked id p else p) → run (Answer any) frames s q ≡ run (Next id place any) frames s p
next_ends_where frames id place true s p q e a = next_ends frames id place true s p q e a
next_ends_where frames id place false s p q e a = next_ends frames id place false s p q e a
