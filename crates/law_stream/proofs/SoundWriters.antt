-- What is left of a writer after each of its operations.
use Rattle.std.proofs.Common.{◌≡◌, ℕ, ◌≤◌, ℤ, Bool, true, false, cond, leb, ltb, ◌||◌, ◌&&◌, List, [], Option, Some, None, length, drop, refl}
use Rattle.std.proofs.Common.{ap, ◌∙◌, arith}
use Rattle.std.proofs.lemmas.Bool.Decides.{nat_tests}
use Rattle.std.specs.Option.{option_and_then}
use Rattle.model_stream.specs.Sending.{Writer, took, resume_mark, paused_over, with_marks, marks_of, checked_marks, natural, most_high}

-- a writer after an operation that leaves this unsent, and these marks
pub record LeavesWriter (w : Writer) (unsent : List ℕ) (high low : ℕ) (after : Writer) : Type 0 where
  pub unsent_is : after.unsent ≡ unsent
  pub ended_is : after.ended ≡ w.ended
  pub high_is : after.high ≡ high
  pub low_is : after.low ≡ low
  pub unpaused : after.paused ≡ false → length unsent ≤ high

neither : (a b : Bool) → (a || b) ≡ false → b ≡ false
neither true b is = absurd (let bad : ⊥ = cc in bad)
neither false b is = is

pub first_not : (a b : Bool) → (a || b) ≡ false → a ≡ false
first_not true b is = absurd (let bad : ⊥ = cc in bad)
first_not false b is = refl

not_over : (high many : ℕ) → ltb high many ≡ false → many ≤ high
not_over high many is = grind (arith, nat_tests)

pub paused_left : (w : Writer) → LeavesWriter w w.unsent w.high w.low (paused_over w)
paused_left w =
    record {
      unsent_is = refl;
      ended_is = refl;
      high_is = refl;
      low_is = refl;
      unpaused = λ is. not_over w.high (length w.unsent) (neither w.paused (ltb w.high (length w.unsent)) is);
    }

mark_within : (whole : Bool) (low high : ℕ) → low ≤ high → cond whole 0 low ≤ high
mark_within true low high within = omega arith
mark_within false low high within = within

within_mark : (many mark : ℕ) → leb many mark ≡ true → many ≤ mark
within_mark many mark is = grind (arith, nat_tests)

resumed_by :
    (resumes : Bool) (w : Writer) (high : ℕ) → leb (length w.unsent) (resume_mark w) ≡ resumes → w.high ≡ high → resume_mark w ≤ high
    → (w.paused ≡ false → length w.unsent ≤ high)
    → LeavesWriter w w.unsent high w.low (cond resumes (record w { paused = false }) w)
resumed_by true w high is same within unpaused =
    record {
      unsent_is = refl;
      ended_is = refl;
      high_is = same;
      low_is = refl;
      unpaused = λ _. let few : length w.unsent ≤ resume_mark w = within_mark (length w.unsent) (resume_mark w) is in omega (arith, few, within);
    }
resumed_by false w high is same within unpaused =
    record { unsent_is = refl; ended_is = refl; high_is = same; low_is = refl; unpaused = unpaused }

pub took_left : (count : ℕ) (w : Writer) → w.low ≤ w.high → LeavesWriter w (drop count w.unsent) w.high w.low (took count w)
took_left count w marks =
    let between = paused_over (record w { unsent = drop count w.unsent }) in
    let left =
    resumed_by (leb (length between.unsent) (resume_mark between)) between w.high refl refl (mark_within w.whole w.low w.high marks)
    (paused_left (record w { unsent = drop count w.unsent })).unpaused in
    record {
      unsent_is = left.unsent_is;
      ended_is = left.ended_is;
      high_is = left.high_is;
      low_is = left.low_is;
      unpaused = left.unpaused;
    }

-- where nothing is left, writing isn't paused
resumes_empty : (w : Writer) (resumes : Bool) → resumes ≡ true → (cond resumes (record w { paused = false }) w).paused ≡ false
resumes_empty w true is = refl
resumes_empty w false is = absurd (let bad : ⊥ = cc in bad)

pub took_resumes : (count : ℕ) (w : Writer) → drop count w.unsent ≡ [] → (took count w).paused ≡ false
took_resumes count w none =
    let between = paused_over (record w { unsent = drop count w.unsent }) in
    resumes_empty between (leb (length between.unsent) (resume_mark between))
    (ap (λ bytes. leb (length bytes) (resume_mark between)) none ∙ (let e : leb 0 (resume_mark between) ≡ true = grind (arith, nat_tests) in e))

-- ---- marks
both_hold : (a b : Bool) → (a && b) ≡ true → a ≡ true
both_hold true b is = refl
both_hold false b is = absurd (let bad : ⊥ = cc in bad)

IsOrdered : Option (ℕ × ℕ) → Type 0
IsOrdered None = Unit {0}
IsOrdered (Some marks) = marks.1 ≤ marks.0

checked_by : (high low : ℕ) (holds : Bool) → (holds ≡ true → low ≤ high) → IsOrdered (cond holds (Some (high, low)) None)
unfolding IsOrdered
checked_by high low true within = within refl
checked_by high low false within = tt

checked_ordered : (high low : ℕ) → IsOrdered (checked_marks high low)
checked_ordered high low =
    checked_by high low (leb low high && leb high most_high) (λ is. within_mark low high (both_hold (leb low high) (leb high most_high) is))

then_ordered : (number : Option ℕ) (next : ℕ → Option (ℕ × ℕ)) → ((n : ℕ) → IsOrdered (next n)) → IsOrdered (option_and_then next number)
unfolding IsOrdered
then_ordered None next each = tt
then_ordered (Some n) next each = each n

marks_ordered : (high low : Option ℤ) → IsOrdered (marks_of high low)
marks_ordered None None = checked_ordered 65536 16384
marks_ordered None (Some low) = then_ordered (natural low) _ (λ mark. checked_ordered _ mark)
marks_ordered (Some high) None = then_ordered (natural high) _ (λ mark. checked_ordered mark _)
marks_ordered (Some high) (Some low) =
    then_ordered (natural high) _ (λ above. then_ordered (natural low) _ (λ below. checked_ordered above below))

-- marks that were set are in order, and writing is tested against them
pub record Limits (w after : Writer) : Type 0 where
  pub unsent_is : after.unsent ≡ w.unsent
  pub ended_is : after.ended ≡ w.ended
  pub marks : w.low ≤ w.high → after.low ≤ after.high
  pub unpaused : (w.paused ≡ false → length w.unsent ≤ w.high) → after.paused ≡ false → length after.unsent ≤ after.high
  pub was_unpaused : after.paused ≡ false → w.paused ≡ false
  pub resumed : w.unsent ≡ [] → w.paused ≡ false → after.paused ≡ false

nothing_over : (high : ℕ) (unsent : List ℕ) → unsent ≡ [] → ltb high (length unsent) ≡ false
nothing_over high unsent none = ap (λ bytes. ltb high (length bytes)) none ∙ (let e : ltb high 0 ≡ false = grind (arith, nat_tests) in e)

either_of : (a b : Bool) → a ≡ false → b ≡ false → (a || b) ≡ false
either_of a b left right = rw (left, right) refl

limits_by : (marks : Option (ℕ × ℕ)) (w : Writer) → IsOrdered marks → Limits w (with_marks marks w)
unfolding IsOrdered
limits_by None w ordered =
    record {
      unsent_is = refl;
      ended_is = refl;
      marks = λ within. within;
      unpaused = λ before is. before is;
      was_unpaused = λ is. is;
      resumed = λ none is. is;
    }
limits_by (Some marks) w ordered =
    record {
      unsent_is = refl;
      ended_is = refl;
      marks = λ _. ordered;
      unpaused = λ _ is. not_over marks.0 (length w.unsent) (neither w.paused (ltb marks.0 (length w.unsent)) is);
      was_unpaused = λ is. first_not w.paused (ltb marks.0 (length w.unsent)) is;
      resumed = λ none is. either_of w.paused (ltb marks.0 (length w.unsent)) is (nothing_over marks.0 w.unsent none);
    }

pub limits_left : (high low : Option ℤ) (w : Writer) → Limits w (with_marks (marks_of high low) w)
limits_left high low w = limits_by (marks_of high low) w (marks_ordered high low)
