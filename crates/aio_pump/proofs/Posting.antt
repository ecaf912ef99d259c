-- Posts one after another, and numbers of bytes as they are told.
use Rattle.std.proofs.Common.{◌≡◌, ℕ, ◌+◌, ◌-◌, ◌^◌, ◌<◌, ◌≤◌, ⊎_elim, List, [], ◌∷◌, ◌++◌, Option, min, refl, sym, ap, ◌∙◌, arith}
use Rattle.std.proofs.Math.Nat.{min-eq_left, min-eq_right}
use Rattle.std.proofs.lemmas.Bool.{cases_lt}
use Rattle.model_pump.specs.Posts.{PostKind}
use Rattle.aio_inbox.specs.declared.view.PosterView.{PosterView}
use Rattle.aio_inbox.specs.Views.{with_posted}
use Rattle.aio_pump.specs.Bells.{rung}
use Rattle.aio_pump.specs.Moments.{Moment, Posts, all_posted, rung_after, told}

pub all_posted-append : (poster : PosterView) (kinds : List PostKind) (kind : PostKind)
    → all_posted poster (kinds ++ kind ∷ []) ≡ with_posted (all_posted poster kinds) kind
all_posted-append poster [] kind = refl
all_posted-append poster (first ∷ kinds) kind = all_posted-append (with_posted poster first) kinds kind

rung_after-append : (rings : Option ℕ) (kinds : List PostKind) (kind : PostKind)
    → rung_after (kinds ++ kind ∷ []) rings ≡ rung (rung_after kinds rings)
rung_after-append rings [] kind = refl
rung_after-append rings (first ∷ kinds) kind = rung_after-append (rung rings) kinds kind

module _ {Served : Type 0} (before now after : Moment Served) where
  -- one post more
  pub posts_on : (kinds : List PostKind) (kind : PostKind) → Posts kinds before now → Posts (kind ∷ []) now after
      → Posts (kinds ++ kind ∷ []) before after
  posts_on kinds kind had one = (
    one.0 ∙ ap (λ (v : PosterView). with_posted v kind) had.0 ∙ sym (all_posted-append before.poster kinds kind),
    one.1 ∙ ap rung had.1 ∙ sym (rung_after-append before.rings kinds kind),
  )

  -- no post more
  pub posts_still : (kinds : List PostKind) → Posts kinds before now → Posts [] now after → Posts kinds before after
  posts_still kinds had none = (none.0 ∙ had.0, none.1 ∙ had.1)

-- what is added to a number that was told as the last value still is that value
min_add : (top a n : ℕ) → min (min a top + n) top ≡ min (a + n) top
min_add top a n = ⊎_elim
    (λ (low : a < top). ap (λ x. min (x + n) top) (min-eq_left (omega (arith, low))))
    (λ (high : top ≤ a). ap (λ x. min (x + n) top) (min-eq_right high)
    ∙ (min-eq_right (omega arith) ∙ sym (min-eq_right (omega (arith, high)))))
    (cases_lt a top)

pub told_add : (a n : ℕ) → told (told a + n) ≡ told (a + n)
told_add a n = min_add (2 ^ 64 - 1) a n
