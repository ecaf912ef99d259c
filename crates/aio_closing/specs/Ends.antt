-- What the end of a hub tells of the pumps of its children.
use Rattle.std.specs.Prelude.{◌≡◌, ℕ, ◌+◌, ◌≤◌, length, true, false, List, [], ◌∷◌, ◌++◌, Option, Some, is_some, slice_get, Result, Ok, Err}
use Rattle.std.specs.declared.alloc.Global.{Global}
use Rattle.std.specs.declared.vec.Vec.{Vec}
use Rattle.model_hub.specs.declared.child.Child.{Child}
use Rattle.aio_inbox.specs.declared.view.PosterView.{PosterView}
use Rattle.aio_inbox.specs.declared.view.TakerView.{TakerView}
use Rattle.aio_pump.specs.declared.report.PumpReport.{PumpReport}
use Rattle.aio_hub.specs.declared.kit.PumpEnd.{PumpEnd}
use Rattle.aio_hub.specs.declared.kit.PumpReports.{PumpReports}
use Rattle.aio_lanes.specs.declared.child_lanes.ChildLanes.{ChildLanes}
use Rattle.aio_lanes.specs.Given.{lanes_at}
use Rattle.aio_roster.specs.Rosters.{RosterSeen, running_of}
use Rattle.aio_roster.specs.Changes.{IsKth}
use Rattle.aio_closing.specs.declared.telling.Telling.{Telling}

-- how a pump of a child ended, by its report
abbrev pub end_of : ℕ → PumpReport PosterView → PumpEnd
end_of child report = record { child = child; moved = report.moved; ending = report.ending }

-- how its four pumps ended: those of its stdin, out, errs and exit
abbrev pub ends_of : ℕ → PumpReports PosterView → List PumpEnd
ends_of child reports =
    end_of child reports.stdin ∷ end_of child reports.out ∷ end_of child reports.errs ∷ end_of child reports.exit ∷ []

-- these ends were added, unless memory was refused, now or before
abbrev pub Adds : List PumpEnd → (old new : Telling) → Type 0
Adds more old new = new.short ≡ false → (old.short ≡ false) × (new.ends.items ≡ old.ends.items ++ more)

-- The list has the ends of each of these children, in order: there are reports that tell them.
abbrev pub AreEnds : List Child → List PumpEnd → Type 0
AreEnds [] told = told ≡ []
AreEnds (child ∷ more) told =
    (reports : PumpReports PosterView) × (rest : List PumpEnd) × (told ≡ ends_of child.number reports ++ rest) × AreEnds more rest

-- so many posters were given back for good
abbrev pub SettlesMore : ℕ → (old new : TakerView) → Type 0
SettlesMore count old new = length new.settled ≡ length old.settled + count

-- the ends of the child with the k-th of the numbers of those that run were added
pub record TellsKth (k : ℕ) (roster : RosterSeen) (old new : Telling) : Type 0 where
  pub child : Child
  pub is : IsKth k roster child
  pub reports : PumpReports PosterView
  pub adds : Adds (ends_of child.number reports) old new

-- those that run, from the k-th on, have lanes
abbrev pub HaveRuns : {Run : Type 0} → ℕ → RosterSeen → List (Option (ChildLanes Run)) → Type 0
HaveRuns k roster lanes =
    (j n : ℕ) → k ≤ j → slice_get (running_of roster.children) j ≡ Some n → is_some (lanes_at lanes n) ≡ true

-- what was told is the list, unless memory was refused
abbrev pub IfTold : {E : Type 0} → Telling → Result (Vec PumpEnd Global) E → Type 0
IfTold telling (Ok told) = (telling.short ≡ false) × (told.items ≡ telling.ends.items)
IfTold telling (Err want) = telling.short ≡ true
