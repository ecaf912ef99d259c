-- Hubs of the rows on the other calls, and what these look at.
use Rattle.std.specs.Prelude.{ℕ, ℤ, true, List, [], ◌∷◌, None, map}
use Rattle.model_wire.specs.Call.{Call}
use Rattle.model_wire.specs.declared.call.Call.TheVariants as call
use Rattle.model_wire.specs.declared.watch.Watch.{Watch}
use Rattle.model_pump.specs.Commands.{Command}
use Rattle.model_pump.specs.declared.post.PostKind.TheVariants as post
use Rattle.model_pump.specs.Posts.{Post}
use Rattle.model_hub.specs.declared.child.Child.{Child}
use Rattle.model_hub.specs.declared.child.Closing.{Closing}
use Rattle.model_hub.specs.declared.child.Closing.TheVariants.{Closed}
use Rattle.model_hub.specs.declared.child.Flow.{Flow}
use Rattle.model_hub.specs.declared.child.Seats.{Seats}
use Rattle.model_hub.specs.declared.child.Stay.{Stay}
use Rattle.model_hub.specs.declared.child.Stay.TheVariants.{Gone}
use Rattle.model_hub.specs.declared.pump.Pump.{Pump}
use Rattle.model_hub.specs.Hub.{Hub}
use Rattle.model_hub.specs.Others.{Lanes, Launching, Back, Said}
use Rattle.model_hub.specs.Calls.{ask, commands_to}
use Rattle.row_hub.specs.Made.{child, over_flow, hub_of, one, with_posts, with_lanes, all_given, out_end, errs_end, say, errs_exit}

abbrev pub select_of : List Watch → Call
select_of watched = call.Select None watched

-- ---- streams
abbrev pub out_of : Child → Flow
out_of of = of.out

abbrev pub errs_of : Child → Flow
errs_of of = of.errs

-- the standard output, and the standard error, of the one child after a call
abbrev pub out_after : Call → Lanes → Child → List Flow
out_after asks lanes of = map out_of (ask asks (with_lanes lanes) (hub_of (of ∷ []))).0.children

abbrev pub errs_after : Call → Lanes → Child → List Flow
errs_after asks lanes of = map errs_of (ask asks (with_lanes lanes) (hub_of (of ∷ []))).0.children

-- the standard output after a select that takes this post
abbrev pub out_with : Post → Child → List Flow
out_with came of = map out_of (ask (select_of errs_exit) (with_posts [] (came ∷ [])) (hub_of (of ∷ []))).0.children

-- ---- the standard input
abbrev pub closing_of : Child → Closing
closing_of of = of.closing

abbrev pub close_after : Call → Lanes → Child → List Closing
close_after asks lanes of = map closing_of (ask asks (with_lanes lanes) (hub_of (of ∷ []))).0.children

-- what the one child's lane is given in a call
abbrev pub to_lane : Call → Lanes → Child → Pump → List Command
to_lane asks lanes of pump = commands_to asks lanes of pump

abbrev pub writes_of : Child → ℕ
writes_of of = of.writes

-- what a feed of the child with the number 0 is answered
abbrev pub feed_said : Lanes → List ℕ → Child → Said
feed_said lanes bytes of = (ask (call.Feed 0 bytes) (with_lanes lanes) (hub_of (of ∷ []))).1

abbrev pub writes_after : Lanes → List ℕ → Child → List ℕ
writes_after lanes bytes of = map writes_of (ask (call.Feed 0 bytes) (with_lanes lanes) (hub_of (of ∷ []))).0.children

-- ---- added requests
-- what one of this code is answered, where the poller would answer this
abbrev pub extra_said : ℤ → Said → Said
extra_said code net = (ask (call.Extra code []) (record (with_lanes all_given) { net = net }) one).1

-- ---- seats
abbrev pub stay_of : Child → Stay
stay_of of = of.stay

-- who stays, and which seats may be lent
abbrev pub stays : Hub × Said → List Stay × List Seats
stays after = (map stay_of after.0.children, after.0.free)

-- a child whose exit post alone is still to come, and what was taken of it so far
abbrev pub near_end : Hub
near_end =
    record (hub_of (record (child 0) { out = over_flow 1 0; errs = over_flow 1 0; writes = 1; rooms = 1; closing = Closed } ∷ [])) {
      taken = say 0 post.Room ∷ out_end 0 ∷ errs_end 0 ∷ [];
    }

abbrev pub back : ℕ → ℕ → Back
back seat count = record { seat = seat; count = count }

-- after a select that takes these posts, where these posters come back
abbrev pub ends_so : List Post → List Back → List Stay × List Seats
ends_so posts backs = stays (ask (select_of errs_exit) (record (with_posts [] posts) { reports = λ n. backs }) near_end)

-- with these seats free
abbrev pub with_free : List Seats → Hub
with_free free = record (hub_of []) { free = free }

abbrev pub launch_from : Launching → List Seats → Hub × Said
launch_from launching free = ask (call.Launch []) (record (with_posts [] []) { launching = launching }) (with_free free)

-- ---- the close
-- one that runs; one that has ended and whose standard input was closed; one that was taken in
abbrev pub at_close : Hub
at_close =
    hub_of (child 0 ∷ record (child 1) { exited = true; closing = Closed } ∷ record (child 2) { stay = Gone } ∷ [])

-- its number stands for what it reports
abbrev pub twice : ℕ → List ℕ
twice n = n ∷ n ∷ []
