-- must_cancel within a step of its own task: what goes on leaves it, and how the step may end.
use Rattle.std.proofs.Common.{◌≡◌, ◌⊎◌, inl, inr, ℕ, Bool, true, false, cond, List, [], ◌∷◌, ◌++◌, Option, Some, None, Result, Ok, Err, refl, sym, ap, ◌∙◌}
use Rattle.std.proofs.Common.{append_assoc, append-nil, slice_get, slice_set}
use Rattle.std.specs.Option.{option_map_or}
use Rattle.model_value.specs.declared.outcome.Outcome.TheVariants.{Failed, Cancelled}
use Rattle.model_value.specs.Action.{CycleKind}
use Rattle.model_value.specs.Input.{Input}
use Rattle.model_value.specs.Value.{Exc, Value}
use Rattle.model_loop.specs.Cancel.{cancel}
use Rattle.model_loop.specs.Cycles.{cycle}
use Rattle.model_loop.specs.Ledger.{LedgerEntry, Took}
use Rattle.model_loop.specs.Loop.{Loop, book, in_parts}
use Rattle.model_loop.specs.Parts.{Parts, Task}
use Rattle.model_loop.specs.Suspend.{cancel_wait, suspend, wait_on}
use Rattle.model_loop.specs.Tasks.{begin_step, clear_must_cancel, finish, future_of, is_cancelled, must_cancel_of, set_waiter}
use Rattle.law_cancel.proofs.Effects.{settle-tasks}
use Rattle.law_cancel.proofs.Lookups.{get-set_same}
use Rattle.law_cancel.proofs.SuspendCases.{suspend_unless}
use Rattle.law_promises.specs.KeepsMustCancel.{AllTakenBack}
use Rattle.law_promises.specs.OwnStep.{CancelsItsWait, EndsCancelled, FallsAtEnd}
use Rattle.law_promises.proofs.Falling.{wait_must_cancel}
use Rattle.law_promises.proofs.MustCancelStays.{as_tasks, must_cancel_at, request_keeps}
use Rattle.law_promises.proofs.TakingBack.{IsFollowed, followed_refl, followed_then}

-- ---- as it begins it is cleared
cleared : (task : ℕ) (p : Parts) → must_cancel_of (clear_must_cancel task p) task ≡ false
cleared task p = at (slice_get p.tasks task) refl
  where
    without : Task → Task
    without it = record it { must_cancel = false }

    at : (o : Option Task) → slice_get p.tasks task ≡ o
        → must_cancel_at (slice_get (option_map_or (λ (it : Task). record p { tasks = slice_set p.tasks task (without it) }) o p).tasks task) ≡ false
    at None e = ap must_cancel_at e
    at (Some it) e = ap must_cancel_at (get-set_same p.tasks task it (without it) e)

pub begins_without : (task : ℕ) (input : Input) (p : Parts) → must_cancel_of (begin_step task input p).parts task ≡ false
begins_without task input p = cleared task (set_waiter task None p)

-- ---- how a step ends: it goes on so, it waits, or it is over
pub data EndsBy (me : ℕ) (l : Loop) : Loop → Type 0 where
  stands_so : EndsBy me l l
  waits : (on : ℕ) → EndsBy me l (book (suspend me on) l)
  finishes : (end : Result Value Exc) → EndsBy me l (in_parts (finish me end) l)

pub record StepEnds (me : ℕ) (l q : Loop) : Type 0 where
  pub mid : Loop
  pub followed : IsFollowed me l mid
  pub by : EndsBy me mid q

module _ (me : ℕ) where
  pub ends_after : (l m q : Loop) → IsFollowed me l m → StepEnds me m q → StepEnds me l q
  ends_after l m q first it = record { mid = it.mid; followed = followed_then me l m it.mid first it.followed; by = it.by }

  pub ends_so : (l q : Loop) → IsFollowed me l q → StepEnds me l q
  ends_so l q it = record { mid = q; followed = it; by = stands_so }

  pub ends_waiting : (on : ℕ) (l m : Loop) → IsFollowed me l m → StepEnds me l (book (suspend me on) m)
  ends_waiting on l m it = record { mid = m; followed = it; by = waits on }

  pub ends_over : (end : Result Value Exc) (l : Loop) → StepEnds me l (in_parts (finish me end) l)
  ends_over end l = record { mid = l; followed = followed_refl me l; by = finishes end }

  -- what was taken back stays so
  taken_later : (l m q : Loop) (more : List LedgerEntry) → q.ledger ≡ m.ledger ++ more → AllTakenBack me l m → AllTakenBack me l q
  taken_later l m q more is it = record {
    profile = it.profile;
    before = it.before;
    by = it.by;
    after = it.after ++ more;
    ledger = is ∙ ap (λ (es : List LedgerEntry). es ++ more) it.ledger ∙ append_assoc l.ledger (it.before ++ Took me it.by true ∷ it.after) more
        ∙ ap (λ (es : List LedgerEntry). l.ledger ++ es) (append_assoc it.before (Took me it.by true ∷ it.after) more);
    last = it.last;
  }

  -- ---- a wait
  wait_falls : (on : ℕ) (p : Parts) → must_cancel_of p me ≡ true
      → (must_cancel_of (suspend me on p).parts me ≡ true) ⊎ ((cancel on (wait_on me on p)).answer ≡ true)
  wait_falls on p must = at (cycle p me on)
    where
      waited : must_cancel_of (wait_on me on p) me ≡ true
      waited = wait_must_cancel me on p me ∙ must

      answered : (b : Bool) → (cancel on (wait_on me on p)).answer ≡ b
          → (must_cancel_of (cond b (clear_must_cancel me (cancel on (wait_on me on p)).parts) (cancel on (wait_on me on p)).parts) me ≡ true)
          ⊎ ((cancel on (wait_on me on p)).answer ≡ true)
      answered true is = inr is
      answered false is = inl (request_keeps on (wait_on me on p) me waited)

      asked : (b : Bool) → (must_cancel_of (cancel_wait b me on (wait_on me on p)).parts me ≡ true) ⊎ ((cancel on (wait_on me on p)).answer ≡ true)
      asked true = answered (cancel on (wait_on me on p)).answer refl
      asked false = inl waited

      at : (o : Option CycleKind) → (must_cancel_of (suspend_unless o me on p).parts me ≡ true) ⊎ ((cancel on (wait_on me on p)).answer ≡ true)
      at (Some why) = inl must
      at None = asked (must_cancel_of p me)

  -- ---- what is left of it where the step ends
  still_ends : (l m q : Loop) → must_cancel_of m.parts me ≡ true → EndsBy me m q → FallsAtEnd me l q
  still_ends l m _ must stands_so = inl (inl must)
  still_ends l m _ must (waits on) = at (wait_falls on m.parts must)
    where
      at : (must_cancel_of (suspend me on m.parts).parts me ≡ true) ⊎ ((cancel on (wait_on me on m.parts)).answer ≡ true)
          → FallsAtEnd me l (book (suspend me on) m)
      at (inl kept) = inl (inl kept)
      at (inr answer) = inr (inl (record { before = m.parts; must = must; on = on; answers = answer; is = refl }))
  still_ends l m _ must (finishes (Ok value)) = inr (inr (record { before = m.parts; must = must; value = value; is = refl }))
  still_ends l m _ must (finishes (Err fault)) =
      inl (inl (as_tasks m.parts (finish me (Err fault) m.parts)
      (settle-tasks (future_of m.parts me) (cond (is_cancelled fault) Cancelled (Failed fault)) m.parts) me must))

  taken_ends : (l m q : Loop) → AllTakenBack me l m → EndsBy me m q → FallsAtEnd me l q
  taken_ends l m _ taken stands_so = inl (inr taken)
  taken_ends l m _ taken (waits on) = inl (inr (taken_later l m (book (suspend me on) m) (suspend me on m.parts).entries refl taken))
  taken_ends l m _ taken (finishes end) = inl (inr (taken_later l m (in_parts (finish me end) m) [] (sym (append-nil m.ledger)) taken))

  pub falls : (l q : Loop) → must_cancel_of l.parts me ≡ true → StepEnds me l q → FallsAtEnd me l q
  falls l q must it = from (it.followed.keeps must)
    where
      from : (must_cancel_of it.mid.parts me ≡ true) ⊎ AllTakenBack me l it.mid → FallsAtEnd me l q
      from (inl still) = still_ends l it.mid q still it.by
      from (inr taken) = taken_ends l it.mid q taken it.by
