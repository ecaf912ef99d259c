-- Each post that is taken is counted at its seat.
use Rattle.std.proofs.Common.{◌≡◌, ℕ, zero, suc, ◌+◌, ◌≤◌, ◌^◌, ◌==◌, Bool, true, false, cond, List, [], ◌∷◌, ◌++◌}
use Rattle.std.proofs.Common.{Some, length, refl, sym, ap, ◌∙◌, eq-eqb, inl, inr, subst, replicate, arith, length-append}
use Rattle.std.specs.Prelude.{◌⊎◌, slice_get, slice_set}
use Rattle.std.proofs.lemmas.List.{length-set, length-replicate}
use Rattle.std.proofs.lemmas.List.Elements.{filter-append}
use Rattle.std.proofs.lemmas.Bool.Decides.{nat_tests}
use Rattle.model_pump.specs.Posts.{Post, posts_of}
use Rattle.aio_inbox.specs.declared.view.TakerView.{TakerView}
use Rattle.aio_inbox.specs.Views.{new_taker, with_taken}
use Rattle.aio_postbox.specs.Counts.{Counts}

some_is : (x y : ℕ) → Some x ≡ Some y → x ≡ y
some_is x y h = cc

get_set : (xs : List ℕ) (n m v x : ℕ) → slice_get (slice_set xs n v) m ≡ Some x → ((m ≡ n) × (x ≡ v)) ⊎ (((m ≡ n) → ⊥) × (slice_get xs m ≡ Some x))
get_set [] n m v x h = absurd (cc)
get_set (y ∷ ys) zero zero v x h = inl (refl, sym (some_is v x h))
get_set (y ∷ ys) zero (suc m) v x h = inr (λ same. absurd (omega arith), h)
get_set (y ∷ ys) (suc n) zero v x h = inr (λ same. absurd (omega arith), h)
get_set (y ∷ ys) (suc n) (suc m) v x h =
    elim (get_set ys n m v x h) [
      | inl same ↦ inl (ap suc same.0, same.1)
      | inr old ↦ inr (λ same. old.0 (omega arith), old.1)
    ]

module _ (counts : List ℕ) (taker : TakerView) (post : Post) (all : Counts counts taker)
    (number : post.number ≡ length (posts_of post.seat taker.taken)) (few : length (with_taken taker post).taken ≤ 2 ^ 61) where
  after : (seat : ℕ) → posts_of seat (taker.taken ++ post ∷ []) ≡ posts_of seat taker.taken ++ posts_of seat (post ∷ [])
  after seat = filter-append (λ (came : Post). came.seat == seat) taker.taken (post ∷ [])

  one_if : (seat : ℕ) (b : Bool) → (post.seat == seat) ≡ b → length (posts_of seat (post ∷ [])) ≡ cond b 1 0
  one_if seat b is = ap (λ x. length (cond x (post ∷ []) [])) is ∙ each b
    where
      each : (x : Bool) → length (cond x (post ∷ []) []) ≡ cond x 1 0
      each true = refl
      each false = refl

  differs : (seat : ℕ) → (seat ≡ post.seat → ⊥) → (post.seat == seat) ≡ false
  differs seat ne = grind (arith, nat_tests)

  counted_at : (seat count : ℕ)
      → ((seat ≡ post.seat) × (count ≡ post.number + 1)) ⊎ ((seat ≡ post.seat → ⊥) × (slice_get counts seat ≡ Some count))
      → count ≡ length (posts_of seat (taker.taken ++ post ∷ []))
  counted_at seat count (inl here) =
      omega (
        arith,
        here.1,
        number,
        ap (λ s. length (posts_of s taker.taken)) here.0,
        ap length (after seat),
        length-append (posts_of seat taker.taken) (posts_of seat (post ∷ [])),
        one_if seat true (eq-eqb post.seat seat (sym here.0)),
      )
  counted_at seat count (inr there) =
      omega (
        arith,
        all.each seat count there.1,
        ap length (after seat),
        length-append (posts_of seat taker.taken) (posts_of seat (post ∷ [])),
        one_if seat false (differs seat there.0),
      )

  pub one_counted : Counts (slice_set counts post.seat (post.number + 1)) (with_taken taker post)
  one_counted =
      record {
        sized = length-set counts post.seat (post.number + 1) ∙ all.sized;
        seats = all.seats;
        few = few;
        each = λ seat count h. counted_at seat count (get_set counts post.seat seat (post.number + 1) count h);
      }

-- ---- nothing was taken yet
zeros : (n m x : ℕ) → slice_get (replicate n 0) m ≡ Some x → x ≡ 0
zeros zero m x h = absurd (cc)
zeros (suc n) zero x h = sym (some_is 0 x h)
zeros (suc n) (suc m) x h = zeros n m x h

pub none_counted : (n : ℕ) (counts : List ℕ) (taker : TakerView) → n ≡ 1024 → counts ≡ replicate n 0 → taker ≡ new_taker n → Counts counts taker
none_counted n counts taker all is new =
    record {
      sized = ap length is ∙ length-replicate n 0 ∙ all;
      seats = ap (λ (t : TakerView). t.seats) new ∙ all;
      few = omega (arith, ap (λ (t : TakerView). length t.taken) new);
      each = λ seat count h.
          zeros n seat count (ap (λ l. slice_get l seat) (sym is) ∙ h)
          ∙ ap (λ (t : TakerView). length (posts_of seat t.taken)) (sym new);
    }

pub taken_counted : (counts : List ℕ) (taker now : TakerView) (post : Post) → Counts counts taker → now ≡ with_taken taker post
    → post.number ≡ length (posts_of post.seat taker.taken) → length now.taken ≤ 2 ^ 61
    → Counts (slice_set counts post.seat (post.number + 1)) now
taken_counted counts taker now post all is number few =
    subst (Counts (slice_set counts post.seat (post.number + 1))) (sym is)
    (one_counted counts taker post all number (omega (arith, few, ap (λ (t : TakerView). length t.taken) is)))
