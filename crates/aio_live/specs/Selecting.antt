-- What the stages of a select leave of what a hub keeps.
use Rattle.std.specs.Prelude.{◌≡◌, ℕ, true, ◌||◌, List, [], ◌++◌, Option}
use Rattle.model_wire.specs.Call.{Item}
use Rattle.model_wire.specs.declared.call.Call.TheVariants as call
use Rattle.model_wire.specs.declared.watch.Watch.{Watch}
use Rattle.model_wire.specs.Fits.{turn_fits}
use Rattle.model_pump.specs.Posts.{Post}
use Rattle.model_hub.specs.declared.pump.Pump.{Pump}
use Rattle.model_hub.specs.Told.{PollerSeen, LauncherSeen}
use Rattle.model_hub.specs.Asked.{Asks}
use Rattle.law_hub.specs.Seats.{is_teller, items_of, told_all}
use Rattle.aio_select.specs.Answered.{Notes}
use Rattle.aio_roster.specs.Rosters.{Numbered}
use Rattle.aio_intake.specs.Taken.{TakesIn, KeepsLanes}
use Rattle.aio_polling.specs.declared.ending.Selected.{Selected}
use Rattle.aio_polling.specs.declared.ending.Selected.TheVariants as selected
use Rattle.aio_polling.specs.Selects.{hub_of, hub_after, is_starved, said_of, Selects}
use Rattle.aio_live.specs.States.{StateSeen}
use Rattle.aio_live.specs.Seen.{hub_seen}

-- posts were taken, and none was given back
abbrev pub TakesMore : List Post → List Post → Type 0
TakesMore before now = (posts : List Post) × (now ≡ before ++ posts)

-- the poller was asked and posts were taken: the seats in hand and the lanes stay
pub record SelectsItems {Run : Type 0} (wait : Option ℕ) (watched : List Watch) (poller poller_now : PollerSeen) (said : Selected)
    (old new : StateSeen Run) : Type 0 where
  pub selects :
      Selects wait watched (hub_of old.hub.children old.hub.kept old.hub.taken) old.nones poller said
      (hub_after new.hub.children new.hub.kept new.hub.taken said) new.nones poller_now
  pub notes : Notes old.hub.children old.hub.taken new.hub.children new.hub.taken
  pub free : new.hub.free ≡ old.hub.free
  pub starved : new.hub.starved ≡ (is_starved said || old.hub.starved)
  pub lanes : new.lanes ≡ old.lanes

-- children that are over were taken in: what is kept and what was taken stay
pub record TakesOver {Run : Type 0} (old new : StateSeen Run) : Type 0 where
  pub takes : TakesIn old.hub.taken old.hub.children new.hub.children old.hub.free new.hub.free
  pub keeps : KeepsLanes new.hub.children old.lanes new.lanes
  pub numbered : Numbered new.hub.children
  pub hub : new.hub ≡ record old.hub { children = new.hub.children; free = new.hub.free }
  pub nones : new.nones ≡ old.nones

-- where the poller failed nothing more is done
abbrev pub TakesAfter : {Run : Type 0} → Selected → (old new : StateSeen Run) → Type 0
TakesAfter (selected.Turn now items) old new = TakesOver old new
TakesAfter selected.Faulted old new = TakesOver old new
TakesAfter selected.Starved old new = TakesOver old new
TakesAfter selected.Unpolled old new = new ≡ old

-- ---- the whole
-- what a select was is the record of a hub's call, where memory wasn't refused before
abbrev pub SelectAsks : {Run : Type 0} → Option ℕ → List Watch → (poller poller_now : PollerSeen) → (launcher launcher_now : LauncherSeen)
    → (old new : StateSeen Run) → Selected → Type 0
SelectAsks wait watched poller poller_now launcher launcher_now old new said =
    Asks (call.Select wait watched) (hub_seen poller launcher old) (hub_seen poller_now launcher_now new) (said_of said)

-- an answer fits its call
abbrev pub AnswerFits : List Watch → Selected → Type 0
AnswerFits watched (selected.Turn now items) = turn_fits watched now items ≡ true
AnswerFits watched selected.Faulted = Unit {0}
AnswerFits watched selected.Starved = Unit {0}
AnswerFits watched selected.Unpolled = Unit {0}

abbrev pub told_in : Selected → List Item
told_in (selected.Turn now items) = items
told_in selected.Faulted = []
told_in selected.Starved = []
told_in selected.Unpolled = []

-- Of each seat of each child: what the answer tells and then what is kept is what was kept, and then what the posts of
-- this select told, in order. So each such post becomes one item, once.
abbrev pub NothingIsLost : {Run : Type 0} → (old new : StateSeen Run) → Selected → Type 0
NothingIsLost old new said =
    (posts : List Post) × (new.hub.taken ≡ old.hub.taken ++ posts)
    × ((from : Pump) (child : ℕ) → is_teller from ≡ true
    → items_of from child (told_in said) ++ items_of from child new.hub.kept
    ≡ items_of from child (old.hub.kept ++ told_all old.hub.children posts))
