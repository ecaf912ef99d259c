-- All posts together: at most 2^51 on each of at most 1,024 seats.
use Rattle.std.proofs.Common.{◌≡◌, ◌≢◌, ℕ, zero, suc, ◌+◌, ◌*◌, ◌<◌, ◌≤◌, ◌^◌, List, [], ◌∷◌, ◌++◌, length, refl, sym, ap, ◌∙◌, ⊎_elim, arith}
use Rattle.std.proofs.lemmas.Bool.{cases_lt}
use mathlib.Core.Logic.{dite}
use native.Mathlib.Decide.{ℕ_discrete}
use Rattle.model_pump.specs.Posts.{Post, posts_of}
use Rattle.aio_inbox.specs.Delivers.{Past, IsOrderly}
use Rattle.aio_inbox.proofs.Posts.{posts_here, posts_else, more_than_before}

-- the posts on the first m seats, counted seat by seat
abbrev total : ℕ → List Post → ℕ
total zero all = 0
total (suc m) all = length (posts_of m all) + total m all

total_of_none : (m : ℕ) → total m [] ≡ 0
total_of_none zero = refl
total_of_none (suc m) = let none = total_of_none m in omega (arith, none)

-- a post is counted on its seat alone
counted_else : (m : ℕ) (x : Post) (xs : List Post) → m ≤ x.seat → total m (x ∷ xs) ≡ total m xs
counted_else zero x xs above = refl
counted_else (suc m) x xs above =
    let here = ap length (posts_else m x xs (λ e. absurd (omega arith))) in
    let below = counted_else m x xs (omega arith) in
    omega (arith, here, below)

counted_once : (m : ℕ) (x : Post) (xs : List Post) → x.seat < m → total m (x ∷ xs) ≡ total m xs + 1
counted_once zero x xs below = absurd (omega arith)
counted_once (suc m) x xs below =
    dite (ℕ_discrete x.seat m)
    (λ same. let here = ap length (posts_here m x xs same) in
    let others = counted_else m x xs (omega arith) in
    omega (arith, here, others))
    (λ other. let here = ap length (posts_else m x xs other) in
    let once = counted_once m x xs (let n : x.seat ≢ m = other in omega arith) in
    omega (arith, here, once))

-- a seat that has a post was made
pub made_of_post : (m : ℕ) (x : Post) (xs ys : List Post) → ((seat : ℕ) → m ≤ seat → posts_of seat (xs ++ x ∷ ys) ≡ []) → x.seat < m
made_of_post m x xs ys unmade =
    ⊎_elim
    (λ (low : x.seat < m). low)
    (λ (high : m ≤ x.seat). absurd (let none = ap length (unmade x.seat high) in let some = more_than_before x xs ys in omega (arith, none, some)))
    (cases_lt x.seat m)

all_counted : (m : ℕ) (all : List Post) → ((seat : ℕ) → m ≤ seat → posts_of seat all ≡ []) → length all ≡ total m all
all_counted m [] unmade = sym (total_of_none m)
all_counted m (x ∷ xs) unmade =
    let low = made_of_post m x [] xs unmade in
    let rest = all_counted m xs (λ seat out. sym (posts_else seat x xs (λ e. absurd (omega arith))) ∙ unmade seat out) in
    let once = counted_once m x xs low in
    omega (arith, rest, once)

total_bound : (m : ℕ) (all : List Post) → ((seat : ℕ) → length (posts_of seat all) ≤ 2 ^ 51) → total m all ≤ m * 2 ^ 51
total_bound zero all short = omega arith
total_bound (suc m) all short = let here = short m in let below = total_bound m all short in omega arith

-- all seats together stay below the queue's own bound
pub in_bound : (past : Past) → IsOrderly past → length past.all ≤ 2 ^ 61
in_bound past order =
    let counted = all_counted past.seats past.all order.unmade in
    let bound = total_bound past.seats past.all order.short in
    let few : past.seats ≤ 1024 = order.few in
    omega arith
