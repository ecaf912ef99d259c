-- A loop's bound decides nothing: a loop is its first test, and behind its body the loop again.
use Rattle.std.proofs.Common.{◌≡◌, ℕ, zero, suc, ◌≤◌, true, Result, Ok, Err, refl, ◌∙◌, le_refl, le_trans, arith}
use Rattle.model_value.specs.Value.{Value, Truth, Exc}
use Rattle.model_tree.specs.Syntax.{Expr}
use Rattle.model_says.specs.Expressions.{value_of}
use Rattle.model_says.specs.Endings.{Runaway, Progress, Ending, Passes, Stopped, progress_of, Next, then_next, given, chosen, decided, begun, begun_with}
use Rattle.model_says.specs.Says.{to_come, turns, looped}

-- what begins behind the first statement
begun-same : (next next' : Next) (now : Progress) → ((left : ℕ) → now.left ≡ suc left → next (record now { left = left }) ≡ next' (record now { left = left }))
    → begun next now ≡ begun next' now
begun-same next next' now same = go now.left refl
  where
    go : (left : ℕ) → now.left ≡ left → begun_with left next now ≡ begun_with left next' now
    go zero e = refl
    go (suc left) e = same left e

-- what is decided by one test
decided-same : (test : Expr) (here here' other : Next) (now : Progress) → here now ≡ here' now → decided test here other now ≡ decided test here' other now
decided-same test here here' other now same = go (value_of test now.env)
  where
    go : (answer : Result Value Exc) → given (chosen here other) answer now ≡ given (chosen here' other) answer now
    go (Err fault) = refl
    go (Ok (Truth true)) = same
    go (Ok _) = refl

module _ (test : Expr) (body : Next) where
  -- the body, and then what comes next
  abbrev pub behind : Next → Next
  behind next now = then_next next (body now)

  -- the test, and where it is True the body and then what comes next
  abbrev pub tested : Next → Next
  tested next = decided test (behind next) Passes

module _ (limit : ℕ) where
  -- what comes behind an ending is met only where that passes
  then_next-same : (next next' : Next) (bound : ℕ) → ((now : Progress) → to_come limit now ≤ bound → next now ≡ next' now) → (ending : Ending)
      → to_come limit (progress_of ending) ≤ bound → then_next next ending ≡ then_next next' ending
  then_next-same next next' bound same (Passes now) below = same now below
  then_next-same next next' bound same _ below = refl

  -- a statement that began is one less to come
  pub one_less : (now : Progress) (left : ℕ) → now.left ≡ suc left → to_come limit now ≡ suc (to_come limit (record now { left = left }))
  one_less now left e = omega (arith, e)

  module _ (test : Expr) (body : Next) (spends : (now : Progress) → to_come limit (progress_of (body now)) ≤ to_come limit now) where
    tested-same : (next next' : Next) (bound : ℕ) → ((now : Progress) → to_come limit now ≤ bound → next now ≡ next' now) → (now : Progress)
        → to_come limit now ≤ bound → tested test body next now ≡ tested test body next' now
    tested-same next next' bound same now below =
        decided-same test (behind test body next) (behind test body next') Passes now
        (then_next-same next next' bound same (body now) (le_trans (spends now) below))

    turns-same : (n m : ℕ) (now : Progress) → to_come limit now ≤ n → to_come limit now ≤ m → turns limit n test body now ≡ turns limit m test body now
    turns-same zero zero now below below' = refl
    turns-same zero (suc m) now below below' = none now.left refl
      where
        none : (left : ℕ) → now.left ≡ left → Stopped Runaway now ≡ begun_with left (tested test body (turns limit m test body)) now
        none zero e = refl
        none (suc left) e = absurd (omega (arith, e, below))
    turns-same (suc n) zero now below below' = none now.left refl
      where
        none : (left : ℕ) → now.left ≡ left → begun_with left (tested test body (turns limit n test body)) now ≡ Stopped Runaway now
        none zero e = refl
        none (suc left) e = absurd (omega (arith, e, below'))
    turns-same (suc n) (suc m) now below below' =
        begun-same (tested test body (turns limit n test body)) (tested test body (turns limit m test body)) now (λ left e.
        let after : Progress = record now { left = left } in
        let less = one_less now left e in
        tested-same (turns limit n test body) (turns limit m test body) (to_come limit after)
        (λ at h. turns-same n m at (omega (arith, below, less, h)) (omega (arith, below', less, h)))
        after (le_refl (to_come limit after)))

    -- a loop is its test, and behind the body the loop again
    pub loop_again : (now : Progress) → looped limit test body now ≡ begun (tested test body (looped limit test body)) now
    loop_again now =
        turns-same (to_come limit now) (suc (to_come limit now)) now (le_refl (to_come limit now)) (omega arith)
        ∙ begun-same (tested test body (turns limit (to_come limit now) test body)) (tested test body (looped limit test body)) now (λ left e.
        let after : Progress = record now { left = left } in
        let less = one_less now left e in
        tested-same (turns limit (to_come limit now) test body) (looped limit test body) (to_come limit after)
        (λ at h. turns-same (to_come limit now) (to_come limit at) at (omega (arith, less, h)) (le_refl (to_come limit at)))
        after (le_refl (to_come limit after)))
