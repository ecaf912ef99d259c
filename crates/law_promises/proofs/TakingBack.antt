-- What becomes of must_cancel where a cancel is taken back, and of counts in each row of changes.
use Rattle.std.proofs.Common.{◌≡◌, ℕ, ◌+◌, ◌-◌, ◌⊎◌, inl, inr, Bool, true, false, cond, ◌==◌, List, [], ◌∷◌, ◌++◌, Option, Some, None}
use Rattle.std.proofs.Common.{nat_lt, slice_get, slice_set, ap, subst, sym, ◌∙◌, refl, append_assoc, append-nil, arith}
use Rattle.std.specs.List.{count_by}
use Rattle.std.specs.Option.{option_map_or}
use Rattle.std.proofs.lemmas.Bool.{cases_eq, eqb-true, false≢true}
use Rattle.model_value.specs.Input.{Input}
use Rattle.model_value.specs.Value.{Exc}
use Rattle.model_loop.specs.Balance.{lowers, raises}
use Rattle.model_loop.specs.Groups.{exit_begin, exit_woken}
use Rattle.model_loop.specs.Ledger.{Origin, LedgerEntry, Took, Began, ask_cancel}
use Rattle.model_loop.specs.Loop.{Loop, take_one_back}
use Rattle.model_loop.specs.Parts.{Parts, Profile, One, Two, Task}
use Rattle.model_loop.specs.Tasks.{cancelling, must_cancel_of, must_still_cancel, uncancel}
use Rattle.model_loop.specs.Timeouts.{exit_timeout}
use Rattle.law_cancel.proofs.Lookups.{get-set_same}
use Rattle.law_steps.proofs.Stepping.{at_task}
use Rattle.law_groups.proofs.Due.{due-tasks}
use Rattle.law_changes.specs.Changes.{PartsChange, CallsSoon, CallsLater, Revokes, MakesFuture, Settles, Registers, KeepsAsked, MakesTask, WaitsFor}
use Rattle.law_changes.specs.Changes.{SetsMustCancel, ClearsMustCancel, Counts, Uncounts, Passes, FallsDue, LeavesPending, MayAlone, made_of_parts}
use Rattle.law_changes.specs.Changes.{LoopChange, OfParts, MakesTimeout, ChangesTimeout, MakesGroup, ChangesGroup, AsksCancel, TakesBack, BeginsExit}
use Rattle.law_changes.specs.Changes.{MayInLoop, made_of_loop}
use Rattle.law_changes.specs.Reaches.{LoopReaches}
use Rattle.law_changes.proofs.Balancing.{request_balances, uncancel_balances}
use Rattle.law_changes.proofs.Counting.{count-append}
use Rattle.law_changes.proofs.LoopBalance.{part_counts}
use Rattle.law_changes.proofs.LoopRows.{exit_begin_row, exit_timeout_row, exit_woken_row}
use Rattle.law_changes.proofs.Folds.{fold}
use Rattle.law_promises.proofs.MustCancelStays.{counted_keeps, must_cancel_at, nobody, part_keeps, request_keeps}
use Rattle.law_promises.specs.KeepsMustCancel.{AllTakenBack, KeepsOrTakesBack}

-- ---- an `uncancel` clears it in profile 2 alone, where the count falls from 1 to 0
abbrev pub IsLast : (profile : Profile) (task me : ℕ) (p : Parts) → Type 0
IsLast profile task me p = (profile ≡ Two) × ((task ≡ me) × (cancelling p me ≡ 1))

pub uncancel_keeps : (profile : Profile) (task : ℕ) (p : Parts) (me : ℕ) → must_cancel_of p me ≡ true
    → (must_cancel_of (uncancel profile task p) me ≡ true) ⊎ IsLast profile task me p
uncancel_keeps One task p me m = inl (counted_keeps task _ p (λ t. refl) me m)
uncancel_keeps Two task p me m = which (cases_eq task me)
  where
    lowered : Task → Task
    lowered it = record it { cancels = it.cancels - 1; must_cancel = must_still_cancel Two it }

    by_count : (it : Task) → slice_get p.tasks me ≡ Some it → (b : Bool) → (it.cancels == 1) ≡ b
        → (must_cancel_at (slice_get (slice_set p.tasks me (lowered it)) me) ≡ true) ⊎ (cancelling p me ≡ 1)
    by_count it there true e =
        inr (ap (λ (o : Option Task). option_map_or (λ (t : Task). t.cancels) o 0) there ∙ eqb-true it.cancels 1 e)
    by_count it there false e =
        inl (ap must_cancel_at (get-set_same p.tasks me it (lowered it) there)
        ∙ ap (λ b. cond b false it.must_cancel) e ∙ sym (ap must_cancel_at there) ∙ m)

    at : (o : Option Task) → slice_get p.tasks me ≡ o
        → (must_cancel_at (slice_get (option_map_or (λ (it : Task). record p { tasks = slice_set p.tasks me (lowered it) }) o p).tasks me) ≡ true)
        ⊎ (cancelling p me ≡ 1)
    at None e = absurd (false≢true (sym (ap must_cancel_at e) ∙ m))
    at (Some it) e = by_count it e (it.cancels == 1) refl

    mine : (must_cancel_of (uncancel Two me p) me ≡ true) ⊎ (cancelling p me ≡ 1) → (must_cancel_of (uncancel Two me p) me ≡ true) ⊎ IsLast Two me me p
    mine (inl kept) = inl kept
    mine (inr one) = inr (refl, (refl, one))

    which : (task ≡ me) ⊎ (task ≡ me → ⊥) → (must_cancel_of (uncancel Two task p) me ≡ true) ⊎ IsLast Two task me p
    which (inl same) =
        subst (λ id. (must_cancel_of (uncancel Two id p) me ≡ true) ⊎ IsLast Two id me p) (sym same) (mine (at (slice_get p.tasks me) refl))
    which (inr apart) = inl (at_task must_cancel_at task _ p me apart ∙ m)

-- ---- rows of changes: how the count goes with the ledger, and what becomes of must_cancel
pub record IsFollowed (me : ℕ) (l q : Loop) : Type 0 where
  profile : q.profile ≡ l.profile
  more : List LedgerEntry
  ledger : q.ledger ≡ l.ledger ++ more
  counts : cancelling q.parts me + count_by (lowers me) more ≡ cancelling l.parts me + count_by (raises me) more
  pub keeps : must_cancel_of l.parts me ≡ true → (must_cancel_of q.parts me ≡ true) ⊎ AllTakenBack me l q

module _ (me : ℕ) where
  pub followed_refl : (l : Loop) → IsFollowed me l l
  followed_refl l = record { profile = refl; more = []; ledger = sym (append-nil l.ledger); counts = refl; keeps = λ m. inl m }

  pub followed_then : (l m q : Loop) → IsFollowed me l m → IsFollowed me m q → IsFollowed me l q
  followed_then l m q a b = record {
    profile = b.profile ∙ a.profile;
    more = a.more ++ b.more;
    ledger = b.ledger ∙ ap (λ (es : List LedgerEntry). es ++ b.more) a.ledger ∙ append_assoc l.ledger a.more b.more;
    counts =
        let x = a.counts in
        let y = b.counts in
        let z = count-append (lowers me) a.more b.more in
        let w = count-append (raises me) a.more b.more in
        omega (arith, x, y, z, w);
    keeps = λ must. first (a.keeps must);
  }
    where
      later : AllTakenBack me l m → AllTakenBack me l q
      later it = record {
        profile = it.profile;
        before = it.before;
        by = it.by;
        after = it.after ++ b.more;
        ledger = b.ledger ∙ ap (λ (es : List LedgerEntry). es ++ b.more) it.ledger
            ∙ append_assoc l.ledger (it.before ++ Took me it.by true ∷ it.after) b.more
            ∙ ap (λ (es : List LedgerEntry). l.ledger ++ es) (append_assoc it.before (Took me it.by true ∷ it.after) b.more);
        last = it.last;
      }

      sooner : AllTakenBack me m q → AllTakenBack me l q
      sooner it = record {
        profile = sym a.profile ∙ it.profile;
        before = a.more ++ it.before;
        by = it.by;
        after = it.after;
        ledger = it.ledger ∙ ap (λ (es : List LedgerEntry). es ++ (it.before ++ Took me it.by true ∷ it.after)) a.ledger
            ∙ append_assoc l.ledger a.more (it.before ++ Took me it.by true ∷ it.after)
            ∙ ap (λ (es : List LedgerEntry). l.ledger ++ es) (sym (append_assoc a.more it.before (Took me it.by true ∷ it.after)));
        last =
            let x = a.counts in
            let y = it.last in
            let z = count-append (lowers me) a.more it.before in
            let w = count-append (raises me) a.more it.before in
            omega (arith, x, y, z, w);
      }

      second : (must_cancel_of q.parts me ≡ true) ⊎ AllTakenBack me m q → (must_cancel_of q.parts me ≡ true) ⊎ AllTakenBack me l q
      second (inl kept) = inl kept
      second (inr it) = inr (sooner it)

      first : (must_cancel_of m.parts me ≡ true) ⊎ AllTakenBack me l m → (must_cancel_of q.parts me ≡ true) ⊎ AllTakenBack me l q
      first (inl kept) = second (b.keeps kept)
      first (inr it) = inr (later it)

  -- what books nothing, and counts nothing
  pub unbooked : (l q : Loop) → q.profile ≡ l.profile → q.ledger ≡ l.ledger → cancelling q.parts me ≡ cancelling l.parts me
      → (must_cancel_of l.parts me ≡ true → must_cancel_of q.parts me ≡ true) → IsFollowed me l q
  unbooked l q profile same counted keeps = record {
    profile = profile;
    more = [];
    ledger = same ∙ sym (append-nil l.ledger);
    counts = omega (arith, counted);
    keeps = λ m. inl (keeps m);
  }

  -- each change, while another task runs, or none
  part_counted : (r : Option ℕ) (change : PartsChange) (p : Parts) → MayAlone r change p → cancelling (made_of_parts change p) me ≡ cancelling p me
  part_counted (Some task) change p may = part_counts task change p may me
  part_counted None (Passes now) p may = refl
  part_counted None FallsDue p may = ap (λ (ts : List Task). option_map_or (λ (t : Task). t.cancels) (slice_get ts me) 0) (due-tasks p)
  part_counted None (LeavesPending rest) p may = refl
  part_counted None (WaitsFor task on) p may = absurd (cc)
  part_counted None (ClearsMustCancel task) p may = absurd (cc)
  part_counted None (Counts task) p may = absurd may
  part_counted None (Uncounts profile task) p may = absurd may
  part_counted None (SetsMustCancel task) p may = part_counts 0 (SetsMustCancel task) p may me
  part_counted None (Settles future outcome) p may = part_counts 0 (Settles future outcome) p may me
  part_counted None (Registers future action) p may = part_counts 0 (Registers future action) p may me
  part_counted None (KeepsAsked future) p may = part_counts 0 (KeepsAsked future) p may me
  part_counted None MakesTask p may = part_counts 0 MakesTask p may me
  part_counted None (CallsSoon action) p may = refl
  part_counted None (CallsLater when action) p may = refl
  part_counted None (Revokes tag) p may = refl
  part_counted None (MakesFuture kind) p may = refl

  taken_followed : (by : Origin) (task : ℕ) (l : Loop) → IsFollowed me l (take_one_back by task l)
  taken_followed by task l = record {
    profile = refl;
    more = Took task by (nat_lt 0 (cancelling l.parts task)) ∷ [];
    ledger = refl;
    counts = uncancel_balances l.profile by task l.parts me;
    keeps = λ m. at (uncancel_keeps l.profile task l.parts me m);
  }
    where
      at : (must_cancel_of (uncancel l.profile task l.parts) me ≡ true) ⊎ IsLast l.profile task me l.parts
          → (must_cancel_of (uncancel l.profile task l.parts) me ≡ true) ⊎ AllTakenBack me l (take_one_back by task l)
      at (inl kept) = inl kept
      at (inr it) =
          inr (record {
            profile = it.0;
            before = [];
            by = by;
            after = [];
            ledger =
                ap (λ (k : ℕ). l.ledger ++ Took k by (nat_lt 0 (cancelling l.parts k)) ∷ []) it.1.0
                ∙ ap (λ (n : ℕ). l.ledger ++ Took me by (nat_lt 0 n) ∷ []) it.1.1;
            last = let one = it.1.1 in omega (arith, one);
          })

  change_followed : (r : Option ℕ) → (r ≡ Some me → ⊥) → (change : LoopChange) (l : Loop) → MayInLoop r change l → IsFollowed me l (made_of_loop change l)
  change_followed r n (OfParts change) l may =
      unbooked l (made_of_loop (OfParts change) l) refl refl (part_counted r change l.parts may) (part_keeps r me n change l.parts may)
  change_followed r n (AsksCancel by future) l may = record {
    profile = refl;
    more = (ask_cancel by future l.parts).entries;
    ledger = refl;
    counts = request_balances by future l.parts me;
    keeps = λ m. inl (request_keeps future l.parts me m);
  }
  change_followed r n (TakesBack by task) l may = taken_followed by task l
  change_followed r n (BeginsExit id) l may = record { profile = refl; more = Began id ∷ []; ledger = refl; counts = refl; keeps = λ m. inl m }
  change_followed r n (MakesTimeout task) l may = unbooked l _ refl refl refl (λ m. m)
  change_followed r n (ChangesTimeout id timeout) l may = unbooked l _ refl refl refl (λ m. m)
  change_followed r n (MakesGroup parent) l may = unbooked l _ refl refl refl (λ m. m)
  change_followed r n (ChangesGroup id group) l may = unbooked l _ refl refl refl (λ m. m)

  pub row_followed : {r : Option ℕ} {l q : Loop} → LoopReaches r l q → (r ≡ Some me → ⊥) → IsFollowed me l q
  row_followed {r} row n = fold (IsFollowed me) followed_refl followed_then (change_followed r n) row

idle : {l q : Loop} → LoopReaches None l q → KeepsOrTakesBack l q
idle row me m = (row_followed me row (nobody me)).keeps m

pub exit_keeps : (raised : Option Exc) (id : ℕ) (l : Loop) → KeepsOrTakesBack l (exit_timeout raised id l).loop
exit_keeps raised id l = idle (exit_timeout_row None raised id l)

pub exit_begin_keeps : (raised : Option Exc) (id : ℕ) (l : Loop) → KeepsOrTakesBack l (exit_begin raised id l).loop
exit_begin_keeps raised id l = idle (exit_begin_row None raised id l)

pub exit_woken_keeps : (input : Input) (id : ℕ) (l : Loop) → KeepsOrTakesBack l (exit_woken input id l).loop
exit_woken_keeps input id l = idle (exit_woken_row None input id l)
