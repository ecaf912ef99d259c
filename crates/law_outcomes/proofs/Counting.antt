-- What a gather's future gets as it is asked, of members that are done already.
use Rattle.std.proofs.Common.{◌≡◌, ◌≤◌, ◌-◌, inl, inr, ℕ, false, List, [], ◌∷◌, Option, Some, None, length, refl, sym, subst, ◌∙◌, arith}
use Rattle.std.specs.List.{AllByRecursion as Each}
use Rattle.std.proofs.lemmas.Bool.{false≢true}
use Rattle.model_value.specs.Value.{Outcome}
use Rattle.model_loop.specs.Futures.{future_outcome}
use Rattle.model_loop.specs.Parts.{Parts}
use Rattle.model_gather.specs.Gathered.{Gathering}
use Rattle.model_gather.specs.Gather.{count, count_all, first_of, is_value, items_of, result_of}
use Rattle.law_runs.specs.Allowed.{IsAmong}
use Rattle.law_waiters.specs.Answers as gets
use Rattle.law_waiters.specs.Answers.{GatherGets}
use Rattle.law_waiters.proofs.Counting.{count_decides}
use Rattle.law_members.specs.Members.{IsDone}
use Rattle.law_members.proofs.Counted.{IsIn}
use Rattle.law_outcomes.specs.Came as came
use Rattle.law_outcomes.specs.Came.{GatherCame, HasGoneOn}

-- after these were counted
pub data AllCounted (p : Parts) (it : Gathering) (done : List ℕ) : Option Outcome → Type 0 where
  goes_on : Each (HasGoneOn p it) done → AllCounted p it done None
  raises : (m : ℕ) (outcome : Outcome) → IsIn m done → future_outcome p m ≡ Some outcome → it.as_items ≡ false → is_value outcome ≡ false
      → AllCounted p it done (Some outcome)
  all_over : Each (HasGoneOn p it) done → length done ≡ it.left → AllCounted p it done (Some (result_of (items_of p it.awaited)))

abbrev fewer : Gathering → Gathering
fewer it = record it { left = it.left - 1 }

next_counted : (p : Parts) (it : Gathering) (m : ℕ) (ms : List ℕ) (outcome : Outcome) → future_outcome p m ≡ Some outcome → length (m ∷ ms) ≤ it.left
    → (o : Option Outcome) → GatherGets p false outcome (fewer it) o → (others : Option Outcome) → AllCounted p (fewer it) ms others
    → AllCounted p it (m ∷ ms) (first_of o others)
next_counted p it m ms outcome is size _ (gets.raises raised no_value) others rest = raises m outcome (inl refl) is raised no_value
next_counted p it m ms outcome is size _ (gets.is_cancelled may none asked) others rest = absurd (false≢true asked)
next_counted p it m [] outcome is size _ (gets.answers may none asked) others rest = all_over ((outcome, (is, may)), tt) (omega (arith, size, none))
next_counted p it m (x ∷ xs) outcome is size _ (gets.answers may none asked) others rest = absurd (omega (arith, size, none))
next_counted p it m ms outcome is size _ (gets.waits may some) _ (goes_on all) = goes_on ((outcome, (is, may)), all)
next_counted p it m ms outcome is size _ (gets.waits may some) _ (raises x fault among found raised no_value) =
    raises x fault (inr among) found raised no_value
next_counted p it m ms outcome is size _ (gets.waits may some) _ (all_over all same) =
    all_over ((outcome, (is, may)), all) (omega (arith, same, size))

pub all_counted : (p : Parts) (it : Gathering) (done : List ℕ) → Each (IsDone p) done → length done ≤ it.left
    → AllCounted p it done (count_all p false done it).outcome
all_counted p it [] all size = goes_on tt
all_counted p it (m ∷ ms) all size =
    next_counted p it m ms all.0.0 all.0.1 size (count p false m it).outcome (count_decides p false m it all.0.0 all.0.1)
    (count_all p false ms (fewer it)).outcome (all_counted p (fewer it) ms all.1 (omega (arith, size)))

-- ---- the same gather, of which others are left
pub gather_same : (p : Parts) (it other : Gathering) → other.awaited ≡ it.awaited → other.as_items ≡ it.as_items → (o : Option Outcome)
    → GatherCame p it o → GatherCame p other o
gather_same p it other awaited as_items _ came.still_waits = came.still_waits
gather_same p it other awaited as_items _ (came.raises m outcome among is raised no_value) =
    came.raises m outcome (subst (λ ids. IsAmong ids m) (sym awaited) among) is (as_items ∙ raised) no_value
gather_same p it other awaited as_items _ (came.answers all) =
    subst (λ ids. GatherCame p other (Some (result_of (items_of p ids)))) awaited
    (came.answers (subst (Each (HasGoneOn p other)) (sym awaited) (each_same it.awaited all)))
  where
    one_same : (m : ℕ) → HasGoneOn p it m → HasGoneOn p other m
    one_same m (outcome, (is, inl items)) = (outcome, (is, inl (as_items ∙ items)))
    one_same m (outcome, (is, inr value)) = (outcome, (is, inr value))

    each_same : (ids : List ℕ) → Each (HasGoneOn p it) ids → Each (HasGoneOn p other) ids
    each_same [] all = tt
    each_same (id ∷ ids) all = (one_same id all.0, each_same ids all.1)
gather_same p it other awaited as_items _ came.is_cancelled = came.is_cancelled

pub gone_same : (p : Parts) (it other : Gathering) → other.as_items ≡ it.as_items → (m : ℕ) → HasGoneOn p it m → HasGoneOn p other m
gone_same p it other as_items m (outcome, (is, inl items)) = (outcome, (is, inl (as_items ∙ items)))
gone_same p it other as_items m (outcome, (is, inr value)) = (outcome, (is, inr value))
