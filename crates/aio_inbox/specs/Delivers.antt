-- The rule of the queue.
use Rattle.std.specs.Prelude.{◌≡◌, ◌≤◌, ◌<◌, ◌^◌, ⊤, ℕ, List, [], ◌++◌, length, All}
use mathlib.Core.Option.{Option, some, none}
use lib.ListN.{get_elem?}
use Rattle.model_pump.specs.Posts.{Post, posts_of}
use Rattle.aio_inbox.specs.declared.view.PosterView.{PosterView}
use Rattle.aio_inbox.specs.declared.view.SettledSeat.{SettledSeat}
use Rattle.aio_inbox.specs.declared.view.TakerView.{TakerView}
use Rattle.aio_inbox.specs.declared.view.InboxView.{InboxView}
use Rattle.aio_inbox.specs.declared.view.InboxView.TheVariants.{Posts, Takes, Nobody}
use Rattle.aio_inbox.specs.Numbers.{IsNumbered}

-- what happened so far: all posts, how many seats were made, and the pass that posts on each of them
pub record Past : Type 0 where
  pub all : List Post
  pub seats : ℕ
  pub pass_of : ℕ → Option ℕ

-- there are at most 1,024 seats, and on each at most 2^51 posts, numbered from 0. On a seat that was not made
-- there is none
pub record IsOrderly (past : Past) : Type 0 where
  pub few : past.seats ≤ 1024
  pub short : (seat : ℕ) → length (posts_of seat past.all) ≤ 2 ^ 51
  pub numbered : (seat : ℕ) → IsNumbered seat (posts_of seat past.all)
  pub unmade : (seat : ℕ) → past.seats ≤ seat → posts_of seat past.all ≡ []

-- a poster knows all posts on its seat, and no other pass posts there
pub record FitsPoster (past : Past) (pass : ℕ) (v : PosterView) : Type 0 where
  pub alone : past.pass_of v.seat ≡ some pass
  pub made : v.seat < past.seats
  pub posted : posts_of v.seat past.all ≡ v.posted

-- of a settled seat all posts are known, and no pass posts there
pub record FitsSettled (past : Past) (s : SettledSeat) : Type 0 where
  pub idle : past.pass_of s.seat ≡ none
  pub made : s.seat < past.seats
  pub posted : posts_of s.seat past.all ≡ s.posted

-- the taker is one pass. It knows what was taken, how many seats were made, and what was posted on settled ones
pub record FitsTaker (past : Past) (taken : List Post) (reader pass : ℕ) (v : TakerView) : Type 0 where
  pub one : pass ≡ reader
  pub taken_is : v.taken ≡ taken
  pub seats_are : v.seats ≡ past.seats
  pub settled : All (FitsSettled past) v.settled

abbrev pub Fits : Past → List Post → ℕ → ℕ → InboxView → Type 0
Fits past taken reader pass (Posts v) = FitsPoster past pass v
Fits past taken reader pass (Takes v) = FitsTaker past taken reader pass v
Fits past taken reader pass Nobody = ⊤

-- the posts so far are those that were taken, and then those that the queue holds, at most 1,024. What each pass
-- knows fits them
pub record Delivers (items : List Post) (views : List InboxView) : Type 0 where
  pub past : Past
  pub taken : List Post
  pub reader : ℕ
  pub order : IsOrderly past
  pub cut : taken ++ items ≡ past.all
  pub few : length items ≤ 1024
  pub knows : (pass : ℕ) (v : InboxView) → get_elem? views pass ≡ some v → Fits past taken reader pass v
