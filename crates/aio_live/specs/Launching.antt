-- What a launch makes of what a hub keeps.
use Rattle.std.specs.Prelude.{◌≡◌, ℕ, true, false, List, [], length}
use Rattle.model_wire.specs.Call.{Call, Answer}
use Rattle.model_wire.specs.declared.call.Call.TheVariants as call
use Rattle.model_hub.specs.declared.pump.Pump.{Pump}
use Rattle.model_hub.specs.declared.child.Seats.{Seats}
use Rattle.model_hub.specs.Hub.{Hub}
use Rattle.model_hub.specs.Others.{Launching, Said, Got}
use Rattle.model_hub.specs.Calls.{launch_from}
use Rattle.model_hub.specs.Told.{PollerSeen, LauncherSeen}
use Rattle.model_hub.specs.Asked.{Asks, is_running, launches_after, Refuses}
use Rattle.aio_lane.specs.Ends.{HeadSeen}
use Rattle.aio_lanes.specs.declared.child_lanes.ChildLanes.{ChildLanes}
use Rattle.aio_lanes.specs.Given.{lanes_at}
use Rattle.aio_hub.specs.declared.kit.PumpKit.{PumpKit}
use Rattle.aio_inbox.specs.declared.view.PosterView.{PosterView}
use Rattle.aio_live.specs.declared.opening.Heads.{Heads}
use Rattle.aio_live.specs.declared.opening.Ends.{Ends}
use Rattle.aio_live.specs.States.{StateSeen, heads_of}
use Rattle.aio_live.specs.Seen.{hub_seen}

abbrev pub IsNewHead : HeadSeen → Type 0
IsNewHead head = (head.given ≡ []) × (head.fulls ≡ 0)

-- the seats on which the pumps of a kit post
abbrev pub kit_seats : {Inbox : Type 0} → PumpKit Inbox PosterView → Seats
kit_seats kit =
    record {
      stdin = kit.stdin_seat.seat;
      out = kit.out_seat.seat;
      errs = kit.errs_seat.seat;
      exit = kit.exit_seat.seat;
    }

-- each tail is that of its head's lane
abbrev pub AreTails : Ends → Type 0
AreTails ends =
    (ends.stdin.lane ≡ ends.heads.stdin.lane) × (ends.out.lane ≡ ends.heads.out.lane) × (ends.errs.lane ≡ ends.heads.errs.lane)

-- nothing was given to these lanes
pub record AreNew (heads : Heads) : Type 0 where
  pub stdin : IsNewHead heads.stdin
  pub out : IsNewHead heads.out
  pub errs : IsNewHead heads.errs

abbrev pub lanes_with : {Run : Type 0} → Heads → Run → ChildLanes Run
lanes_with heads run = record { stdin = heads.stdin; out = heads.out; errs = heads.errs; run = run }

-- A launch, after what goes before it: what is kept and said is the definition's, for what the launcher answered. Those that
-- run keep their lanes, and to those of a new child nothing was given.
pub record LaunchesNext {Run : Type 0} (old new : StateSeen Run) (said : Said) : Type 0 where
  pub launching : Launching
  pub is : launch_from launching old.hub ≡ (new.hub, said)
  pub nones : new.nones ≡ old.nones
  pub stay : (n : ℕ) → is_running n old.hub ≡ true → lanes_at new.lanes n ≡ lanes_at old.lanes n
  pub ran : (n : ℕ) → is_running n old.hub ≡ true → is_running n new.hub ≡ true
  pub begins : (n : ℕ) (at : Pump) → is_running n old.hub ≡ false → is_running n new.hub ≡ true
      → (heads_of new).given n at ≡ []

-- what it asked of the launcher, and that it is refused only for want of seats or numbers, or by that
pub record LaunchTold (words : List (List ℕ)) (hub : Hub) (said : Answer) (old new : LauncherSeen) : Type 0 where
  pub kills : new.kills ≡ old.kills
  pub launches : new.launches ≡ launches_after (call.Launch words) (Got said) (length hub.children) old.launches
  pub refused : Refuses (call.Launch words) (Got said) hub old.faults new.faults

-- A call that asks nothing of the poller: whatever is seen of that, and stays so, this is what the record of a call says,
-- where memory wasn't refused before.
abbrev pub AsksLauncher : {Run : Type 0} → Call → Said → (launcher launcher_now : LauncherSeen) → (old new : StateSeen Run) → Type 0
AsksLauncher asks said launcher launcher_now old new =
    (poller : PollerSeen) → old.hub.starved ≡ false
    → Asks asks (hub_seen poller launcher old) (hub_seen poller launcher_now new) said
