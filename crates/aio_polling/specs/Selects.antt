-- What a select makes of a poll and of posts, before children are taken in.
use Rattle.std.specs.Prelude.{◌≡◌, ℕ, Bool, true, false, List, [], ◌∷◌, ◌++◌, Option}
use Rattle.std.specs.List.{filter}
use Rattle.model_wire.specs.Call.{Item}
use Rattle.model_wire.specs.declared.answer.Answer.TheVariants as answer
use Rattle.model_wire.specs.declared.call.Call.TheVariants as call
use Rattle.model_wire.specs.declared.watch.Watch.{Watch}
use Rattle.model_pump.specs.Posts.{Post}
use Rattle.model_hub.specs.declared.child.Child.{Child}
use Rattle.model_hub.specs.declared.halt.Halt.{Halt}
use Rattle.model_hub.specs.declared.halt.Halt.TheVariants.{Going, Faulted, Starving}
use Rattle.model_hub.specs.Hub.{Hub}
use Rattle.model_hub.specs.Others.{Polled, Ready, PollFailed, PollStarved, Said, Got, Failed, Memory}
use Rattle.model_hub.specs.Gathering.{Gathering, begin, gather, are_taken}
use Rattle.model_hub.specs.Select.{is_childs, kept_at_end, starves, polled_watch, polled_wait}
use Rattle.model_hub.specs.Asked.{TakesPolled, PollKeeps, answers_of_poll, nones_with}
use Rattle.model_hub.specs.Told.{PollerSeen, told_with}
use Rattle.aio_hub.specs.declared.poller.Polled.{Polled as Answered}
use Rattle.aio_hub.specs.declared.poller.Polled.TheVariants as polled
use Rattle.aio_hub.specs.Polls.{Polls}
use Rattle.aio_polling.specs.declared.ending.Selected.{Selected}
use Rattle.aio_polling.specs.declared.ending.Selected.TheVariants as selected

-- a hub with these children, kept items and posts taken, which has no seats in hand
abbrev pub hub_of : List Child → List Item → List Post → Hub
hub_of children kept taken = record { children = children; kept = kept; free = []; taken = taken; starved = false }

abbrev pub is_starved : Selected → Bool
is_starved (selected.Turn now items) = false
is_starved selected.Faulted = false
is_starved selected.Starved = true
is_starved selected.Unpolled = false

abbrev pub hub_after : List Child → List Item → List Post → Selected → Hub
hub_after children kept taken said = record { children = children; kept = kept; free = []; taken = taken; starved = is_starved said }

-- as the definitions say it
abbrev pub said_of : Selected → Said
said_of (selected.Turn now items) = Got (answer.Turn now items)
said_of selected.Faulted = Failed
said_of selected.Starved = Memory
said_of selected.Unpolled = Failed

abbrev pub selected_at : Halt → ℕ → List Item → Selected
selected_at Going now items = selected.Turn now items
selected_at Faulted now items = selected.Faulted
selected_at Starving now items = selected.Starved

abbrev pub kept_at : Halt → (items kept : List Item) → List Item
kept_at Going items kept = kept
kept_at Faulted items kept = filter is_childs items ++ kept
kept_at Starving items kept = filter is_childs items ++ kept

-- the poll of a select was answered
abbrev pub PollAnswers : Option ℕ → List Watch → List Child → List Item → PollerSeen → PollerSeen → Answered → Type 0
PollAnswers wait watched children kept old new said =
    Polls (polled_wait watched (hub_of children kept []) wait) (polled_watch watched) old new said

-- what is kept and answered once this was gathered
pub record EndsSo (now : ℕ) (all : Gathering) (old : Hub) (said : Selected) (new : Hub) : Type 0 where
  pub says : said ≡ selected_at all.halt now all.items
  pub keeps : new ≡ record old { children = all.children; kept = kept_at_end all; taken = all.taken; starved = starves all.halt }

-- the poller's answer was gathered with what was kept, and posts were taken: those that a select takes
pub record Gathers (watched : List Watch) (now : ℕ) (sockets : List Item) (old : Hub) (nones : ℕ) (said : Selected) (new : Hub) (nones_now : ℕ)
    : Type 0 where
  pub posts : List Post
  pub came : new.taken ≡ old.taken ++ posts
  pub found_none : Bool
  pub taken : are_taken watched (begin watched old sockets) posts found_none ≡ true
  pub none : nones_now ≡ nones_with found_none nones
  pub ends : EndsSo now (gather watched (begin watched old sockets) posts) old said new

-- what a select makes of what the poller answers; where that fails, nothing
abbrev pub SelectsPolled : List Watch → Polled → List Post → Hub → Selected → Hub → Type 0
SelectsPolled watched (Ready now sockets) posts old said new = EndsSo now (gather watched (begin watched old sockets) posts) old said new
SelectsPolled watched PollFailed posts old said new = (said ≡ selected.Unpolled) × (new ≡ old)
SelectsPolled watched PollStarved posts old said new = ⊥

-- A select, before children are taken in: there is what the poller answered, and which posts were taken.
pub record Selects (wait : Option ℕ) (watched : List Watch) (old : Hub) (nones : ℕ) (poller : PollerSeen) (said : Selected) (new : Hub)
    (nones_now : ℕ) (poller_now : PollerSeen) : Type 0 where
  pub polled : Polled
  pub posts : List Post
  pub came : new.taken ≡ old.taken ++ posts
  pub takes : TakesPolled watched old polled posts nones nones_now
  pub asked : poller_now.asked ≡ told_with (call.Select (polled_wait watched old wait) (polled_watch watched) ∷ []) poller.asked
  pub answers : poller_now.answers ≡ told_with (answers_of_poll polled) poller.answers
  pub keeps : PollKeeps watched polled poller.faults poller_now.faults
  pub ends : SelectsPolled watched polled posts old said new
