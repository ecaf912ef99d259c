-- The states of cancel requests are sound.
use Rattle.std.proofs.Common.{◌≡◌, ◌≢◌, ℕ, zero, suc, ◌+◌, Bool, true, false, cond, List, [], ◌∷◌, Option, Some, None, refl, sym, ap, ◌∙◌, arith}
use Rattle.std.specs.List.{count_by}
use Rattle.std.specs.Option.{option_map_or}
use Rattle.std.proofs.lemmas.Bool.{ne_eqb}
use Rattle.std.proofs.lemmas.List.Sums.{sum_by-cons}
use Rattle.model_value.specs.Number.{most}
use Rattle.model_value.specs.Value.{Nothing}
use Rattle.model_value.specs.declared.outcome.Outcome.TheVariants.{Value as Returned, Cancelled}
use Rattle.model_loop.specs.Balance.{asked_before_exit, lowers, raises}
use Rattle.model_loop.specs.Groups.{group_of}
use Rattle.model_loop.specs.Ledger.{ByScript, LedgerEntry, Raised}
use Rattle.model_loop.specs.Parts.{OfTask, Task}
use Rattle.model_loop.specs.Parts.{One}
use Rattle.model_loop.specs.Sound.{IsSound}
use Rattle.model_loop.specs.Tasks.{cancelling, change_task, must_cancel_of}
use Rattle.model_loop.specs.Ways.{one_if}
use Rattle.law_cancel.proofs.Counting.{change_task-kept}
use Rattle.law_steps.proofs.Looks.{change_looks_same}
use Rattle.law_groups.proofs.Holding.{looks_holds}
use Rattle.law_sound.proofs.Beginning.{nobody, no_loop, no_loop_sound}
use Rattle.law_sound.proofs.Carrying.{change_carries}
use Rattle.law_sound.proofs.Steps as step
use Rattle.row_loop.specs.Cancels.{all_done, awaited_runs, chain, chain_cancelled, free_task, full_count, member_refused, member_runs, one_of_two}
use Rattle.row_loop.specs.Cancels.{one_of_two_cancelled, refused, twice_to_one, two_on_one, two_ways}
use Rattle.row_loop.specs.Made.{free, parts_of, waiting}
use Rattle.row_loop.specs.Standing.{PartsStand, bare}
use Rattle.row_loop.proofs.Building.{asks, begins, below, many, plain, settles, task, waits}

nothing : IsSound None nobody (no_loop One)
nothing = no_loop_sound One

-- task 0 awaits task 1, and that task 2, which waits
awaits_two : IsSound None nobody (bare chain [])
awaits_two =
    let zero_ = waits (task (begins (task nothing) 0 refl refl refl)) 1 refl in
    let one = waits (task (begins zero_ 1 refl refl refl)) 2 refl in
    waits (plain (begins one 2 refl refl refl)) 3 refl

pub chain_stands : PartsStand None chain
chain_stands = ([], (nobody, awaits_two))

pub chain_cancelled_stands : PartsStand None chain_cancelled
chain_cancelled_stands = (_, (nobody, asks awaits_two 0 0))

ends_one : IsSound None nobody (bare one_of_two [])
ends_one = settles (many (plain (plain nothing)) (0 ∷ 1 ∷ []) (below 2 (0 ∷ 1 ∷ []) refl)) 0 (Returned Nothing) refl

pub one_of_two_stands : PartsStand None one_of_two
one_of_two_stands = ([], (nobody, ends_one))

pub one_of_two_cancelled_stands : PartsStand None one_of_two_cancelled
one_of_two_cancelled_stands = (_, (nobody, asks ends_one 0 2))

pub all_done_stands : PartsStand None all_done
all_done_stands =
    let two = settles (settles (plain (plain nothing)) 0 (Returned Nothing) refl) 1 Cancelled refl in
    let three = many (many two (0 ∷ 1 ∷ []) (below 2 (0 ∷ 1 ∷ []) refl)) [] (below 3 [] refl) in
    ([], (nobody, many three (2 ∷ 3 ∷ []) (below 4 (2 ∷ 3 ∷ []) refl)))

pub two_on_one_stands : PartsStand None two_on_one
two_on_one_stands =
    let made = many (plain (task (task nothing))) (0 ∷ 1 ∷ []) (below 3 (0 ∷ 1 ∷ []) refl) in
    ([], (nobody, waits (begins (waits (begins made 0 refl refl refl) 2 refl) 1 refl refl refl) 2 refl))

pub twice_to_one_stands : PartsStand None twice_to_one
twice_to_one_stands =
    let one = many (plain (task nothing)) (0 ∷ []) (below 2 (0 ∷ []) refl) in
    let made = many one (2 ∷ 0 ∷ []) (below 3 (2 ∷ 0 ∷ []) refl) in
    ([], (nobody, waits (begins made 0 refl refl refl) 1 refl))

pub two_ways_stands : PartsStand None two_ways
two_ways_stands =
    let made = many (plain (task (task (task (task nothing))))) (1 ∷ 2 ∷ []) (below 5 (1 ∷ 2 ∷ []) refl) in
    let zero_ = waits (begins made 0 refl refl refl) 5 refl in
    let two = waits (begins (waits (begins zero_ 1 refl refl refl) 3 refl) 2 refl refl refl) 3 refl in
    ([], (nobody, waits (begins two 3 refl refl refl) 4 refl))

awaited_one : IsSound (Some 1) nobody (bare awaited_runs [])
awaited_one = begins (waits (begins (task (task nothing)) 0 refl refl refl) 1 refl) 1 refl refl refl

pub awaited_runs_stands : PartsStand (Some 1) awaited_runs
awaited_runs_stands = ([], (nobody, awaited_one))

pub refused_stands : PartsStand None (refused 0 0)
refused_stands = ([], (nobody, waits awaited_one 0 refl))

member_one : IsSound (Some 1) nobody (bare member_runs [])
member_one =
    let made = many (task (task nothing)) (1 ∷ []) (below 2 (1 ∷ []) refl) in
    begins (waits (begins made 0 refl refl refl) 2 refl) 1 refl refl refl

pub member_runs_stands : PartsStand (Some 1) member_runs
member_runs_stands = ([], (nobody, member_one))

pub member_refused_stands : PartsStand None member_refused
member_refused_stands = ([], (nobody, waits member_one 2 refl))

one_runs : IsSound (Some 0) nobody (bare free_task [])
one_runs = begins (task nothing) 0 refl refl refl

pub free_task_stands : PartsStand (Some 0) free_task
free_task_stands = ([], (nobody, one_runs))

-- ---- a count of any height, which as many requests raised
abbrev raised : ℕ → List LedgerEntry
raised zero = []
raised (suc n) = Raised 0 (ByScript 0) ∷ raised n

none_of : (test : LedgerEntry → Bool) → test (Raised 0 (ByScript 0)) ≡ false → (n : ℕ) → count_by test (raised n) ≡ 0
none_of test off zero = refl
none_of test off (suc n) =
    let a = sum_by-cons (λ e. cond (test e) 1 0) (Raised 0 (ByScript 0)) (raised n) in
    let b : ◌≡◌ {A = ℕ} (cond (test (Raised 0 (ByScript 0))) 1 0) 0 = ap (λ x. cond x 1 0) off in
    let c = none_of test off n in
    omega (arith, a, b, c)

all_of : (n : ℕ) → count_by (raises 0) (raised n) ≡ n
all_of zero = refl
all_of (suc n) =
    let a = sum_by-cons (λ e. cond (raises 0 e) 1 0) (Raised 0 (ByScript 0)) (raised n) in
    let c = all_of n in
    omega (arith, a, c)

never_asked : (id n : ℕ) → asked_before_exit id (raised n) ≡ false
never_asked id zero = refl
never_asked id (suc n) = never_asked id n

abbrev with_count : ℕ → Task → Task
with_count n it = record it { cancels = n }

counts : (n : ℕ) → PartsStand (Some 0) (parts_of (waiting (OfTask 0) [] ∷ []) (free 0 n ∷ []) [] 1)
counts n = (
  raised n,
  (
    nobody,
    step.build (Some 0) nobody (bare (change_task 0 (with_count n) free_task) (raised n))
        (step.rest_of (Some 0) nobody (bare free_task []) (bare (change_task 0 (with_count n) free_task) (raised n)) one_runs
        (record { parts = change_carries 0 (with_count n) free_task (λ t. refl) (λ t. refl); timeouts = refl }))
        (looks_holds (Some 0) (Some 0) nobody nobody (group_of (bare free_task [])) free_task _
        (change_looks_same 0 (with_count n) free_task (λ t. refl) (λ t. refl)) must_cancel
        (step.holds_of (Some 0) nobody (bare free_task []) one_runs))
        (λ id. (one_runs.groups id).orderly) balance
        (record {
          timeouts = λ id. record { asked = none_of _ refl n; took = none_of _ refl n };
          groups = λ id. record { asked = none_of _ refl n; began = none_of _ refl n; took = none_of _ refl n ∙ sym (ap one_if (never_asked id n)) };
        }),
  ),
)
  where
    must_cancel : (t : ℕ) → must_cancel_of (change_task 0 (with_count n) free_task) t ≡ true → must_cancel_of free_task t ≡ true
    must_cancel t m =
        sym (change_task-kept (λ (o : Option Task). option_map_or (λ (x : Task). x.must_cancel) o false) 0
        (with_count n) free_task (λ x. refl) t) ∙ m

    balance : (t : ℕ)
        → cancelling (change_task 0 (with_count n) free_task) t + count_by (lowers t) (raised n)
        ≡ count_by (raises t) (raised n)
    balance zero = let a = none_of (lowers 0) refl n in let b = all_of n in omega (arith, a, b)
    balance (suc t) =
        let a = none_of (lowers (suc t)) refl n in
        let apart : 0 ≢ suc t = omega arith in
        let b = none_of (raises (suc t)) (ne_eqb 0 (suc t) apart) n in
        omega (arith, a, b)

pub full_count_stands : PartsStand (Some 0) full_count
full_count_stands = counts most
