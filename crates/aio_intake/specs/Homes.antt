-- Whether the posters of a child come home.
use Rattle.std.specs.Prelude.{◌≡◌, Bool, ◌&&◌, List, [], ◌∷◌, length, if◌then◌else◌}
use Rattle.std.specs.List.{AllByRecursion as Each}
use Rattle.model_hub.specs.declared.child.Seats.{Seats}
use Rattle.model_hub.specs.Others.{Back}
use Rattle.aio_inbox.specs.declared.view.PosterView.{PosterView}
use Rattle.aio_inbox.specs.declared.view.TakerView.{TakerView}
use Rattle.aio_hub.specs.declared.kit.PumpReports.{PumpReports}
use Rattle.aio_postbox.specs.declared.four.Four.{Four}
use Rattle.aio_postbox.specs.Counts.{is_home}
use Rattle.aio_roster.specs.Changes.{AreApart}

-- the posters that the pumps of a child give back
abbrev pub four_of : {N : Type 0} → PumpReports PosterView → Four N
four_of reports =
    record { stdin = reports.stdin.poster; out = reports.out.poster; errs = reports.errs.poster; exit = reports.exit.poster }

-- each of them is home on the seat of its pump
abbrev pub are_all_home : {N : Type 0} → TakerView → Four N → Seats → Bool
are_all_home taker four seats =
    is_home taker four.stdin seats.stdin && (is_home taker four.out seats.out
    && (is_home taker four.errs seats.errs && is_home taker four.exit seats.exit))

-- what a pump reports as far as seats go
abbrev pub back_of : PosterView → Back
back_of poster = record { seat = poster.seat; count = length poster.posted }

-- what the four report, where each is home; else nothing that counts
abbrev pub backs_of : {N : Type 0} → TakerView → Four N → Seats → List Back
backs_of taker four seats =
    if are_all_home taker four seats then back_of four.stdin ∷ back_of four.out ∷ back_of four.errs ∷ back_of four.exit ∷ []
    else []

-- no post was taken, and no take found none
pub record KeepsPosts (old new : TakerView) : Type 0 where
  pub taken : new.taken ≡ old.taken
  pub nones : new.nones ≡ old.nones
  pub seats : new.seats ≡ old.seats

-- no two of these fours share a seat
abbrev pub Apart : List Seats → Type 0
Apart [] = Unit {0}
Apart (seats ∷ more) = Each (λ (other : Seats). AreApart other seats) more × Apart more
