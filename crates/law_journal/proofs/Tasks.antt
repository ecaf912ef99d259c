-- The numbers of a seed's script are small.
use Rattle.std.proofs.Common.{◌≡◌, ℕ, zero, suc, ◌+◌, ◌<◌, ◌≤◌, length, refl, ap, arith}
use Rattle.std.specs.List.{AllByRecursion}
use Rattle.model_work.specs.Work.{group_size, delay, numbers_from}

pub delay-short : (seed task : ℕ) → delay seed task < 1000
delay-short seed task = omega arith

pub group-small : (seed : ℕ) → group_size seed < 200
group-small seed = omega arith

pub numbers-below : (bound first count : ℕ) → first + count ≤ bound → AllByRecursion (λ n. n < bound) (numbers_from first count)
unfolding numbers_from
numbers-below bound first zero h = tt
numbers-below bound first (suc count) h = (omega arith, numbers-below bound (first + 1) count (omega arith))

pub numbers-many : (first count : ℕ) → length (numbers_from first count) ≡ count
unfolding numbers_from
numbers-many first zero = refl
numbers-many first (suc count) = ap suc (numbers-many (first + 1) count)
