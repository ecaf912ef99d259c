-- What each step tells the thread that makes it.
use Rattle.std.specs.Prelude.{◌≡◌, ◌≤◌, ◌<◌, ◌^◌, ⊤, List, [], ◌∷◌, ◌++◌, length, All}
use Rattle.model_pump.specs.Posts.{Post, posts_of}
use Rattle.aio_inbox.specs.declared.view.PosterView.{PosterView}
use Rattle.aio_inbox.specs.declared.view.TakerView.{TakerView}
use Rattle.aio_inbox.specs.declared.view.InboxView.{InboxView}
use Rattle.aio_inbox.specs.declared.view.InboxView.TheVariants.{Posts, Takes, Nobody}
use Rattle.aio_inbox.specs.Accounts.{Begins}
use Rattle.aio_inbox.specs.Views.{new_poster, with_post, with_taken, with_none, with_seat, with_settled, poster_of}

-- ---- a post. Only a poster's pass makes one
abbrev pub Adds : InboxView → Post → InboxView → Type 0
Adds (Posts v) post w = w ≡ Posts (with_post v post)
Adds (Takes v) post w = ⊥
Adds Nobody post w = ⊥

-- of all that was posted some was taken, and the rest is held. It has all of the poster's posts, and is below
-- the queue's own bound
pub record IsHeldOf (v : PosterView) (items : List Post) : Type 0 where
  pub taken : List Post
  pub posted : posts_of v.seat (taken ++ items) ≡ v.posted
  pub bound : length (taken ++ items) ≤ 2 ^ 61

abbrev pub HasRest : InboxView → List Post → Type 0
HasRest (Posts v) items = IsHeldOf v items
HasRest (Takes v) items = ⊤
HasRest Nobody items = ⊤

-- ---- a take. The post has the number of those of its seat that were taken
pub record IsNext (v : TakerView) (post : Post) : Type 0 where
  pub number : post.number ≡ length (posts_of post.seat v.taken)
  pub made : post.seat < v.seats
  pub short : post.number < 2 ^ 51
  pub bound : length (v.taken ++ post ∷ []) ≤ 2 ^ 61
  pub begins : All (Begins (with_taken v post)) v.settled

abbrev pub Gets : InboxView → Post → InboxView → Type 0
Gets (Takes v) post w = (w ≡ Takes (with_taken v post)) × IsNext v post
Gets (Posts v) post w = ⊥
Gets Nobody post w = ⊥

-- of each settled seat, what was taken and then what is held is what was posted
pub record IsLeftFor (v : TakerView) (items : List Post) : Type 0 where
  pub rest : All (λ s. posts_of s.seat (v.taken ++ items) ≡ s.posted) v.settled
  pub bound : length (v.taken ++ items) ≤ 2 ^ 61

abbrev pub Awaits : InboxView → List Post → Type 0
Awaits (Takes v) items = IsLeftFor v items
Awaits (Posts v) items = ⊤
Awaits Nobody items = ⊤

-- ---- a seat, a take that found nothing, and a poster that is settled: the taker's view after it
abbrev pub after_seat : InboxView → InboxView
after_seat (Takes v) = Takes (with_seat v)
after_seat (Posts v) = Posts v
after_seat Nobody = Nobody

-- the new pass
abbrev pub seat_made : InboxView → InboxView
seat_made (Takes v) = Posts (new_poster v.seats)
seat_made (Posts v) = Nobody
seat_made Nobody = Nobody

abbrev pub after_none : InboxView → InboxView
after_none (Takes v) = Takes (with_none v)
after_none (Posts v) = Posts v
after_none Nobody = Nobody

abbrev pub after_settling : InboxView → InboxView → InboxView
after_settling (Takes v) w = Takes (with_settled v (poster_of w))
after_settling (Posts v) w = Posts v
after_settling Nobody w = Nobody
