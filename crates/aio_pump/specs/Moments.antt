-- A pump at one moment, and what its posts make of it.
use Rattle.std.specs.Prelude.{◌≡◌, ℕ, ◌-◌, ◌^◌, Bool, true, false, List, [], ◌∷◌, length, min, Option}
use Rattle.model_pump.specs.Posts.{PostKind}
use Rattle.aio_inbox.specs.declared.view.PosterView.{PosterView}
use Rattle.aio_inbox.specs.Views.{with_posted}
use Rattle.aio_pump.specs.Bells.{rung}

-- What is seen of a pump: the source, sink or exit that it serves, its poster, how often its bell was rung, and how many
-- bytes it moved.
pub record Moment (Served : Type 0) : Type 0 where
  pub served : Served
  pub poster : PosterView
  pub rings : Option ℕ
  pub moved : ℕ

abbrev pub moment : {Served : Type 0} → Served → PosterView → Option ℕ → ℕ → Moment Served
moment served poster rings moved = record { served = served; poster = poster; rings = rings; moved = moved }

-- a number of bytes as a program tells it
abbrev pub told : ℕ → ℕ
told count = min count (2 ^ 64 - 1)

-- the poster once it made these posts, in order
abbrev pub all_posted : PosterView → List PostKind → PosterView
all_posted poster [] = poster
all_posted poster (kind ∷ kinds) = all_posted (with_posted poster kind) kinds

-- the bell once it was rung after each of these posts
abbrev pub rung_after : List PostKind → Option ℕ → Option ℕ
rung_after [] rings = rings
rung_after (kind ∷ kinds) rings = rung_after kinds (rung rings)

-- between two moments these posts were made, in order, and no others, and one ring followed each
abbrev pub Posts : {Served : Type 0} → List PostKind → Moment Served → Moment Served → Type 0
Posts kinds before after =
    (after.poster ≡ all_posted before.poster kinds) × (after.rings ≡ rung_after kinds before.rings)

-- the poster made all the posts that it may make
abbrev pub IsSpent : PosterView → Type 0
IsSpent poster = length poster.posted ≡ 2 ^ 51

-- a post with its ring, or none where the poster is spent
abbrev pub Puts : Bool → PostKind → PosterView → PosterView → Option ℕ → Option ℕ → Type 0
Puts true kind old new before after = (new ≡ with_posted old kind) × (after ≡ rung before)
Puts false kind old new before after = (new ≡ old) × (after ≡ before) × IsSpent old
