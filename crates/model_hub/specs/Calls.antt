-- The other calls on children.
use Rattle.std.specs.Prelude.{ℕ, ◌+◌, ◌-◌, ◌^◌, Bool, true, false, not, ◌&&◌, ◌==◌, List, [], ◌∷◌, ◌++◌, length, nat_lt, if◌then◌else◌}
use Rattle.model_wire.specs.Call.{Call}
use Rattle.model_wire.specs.declared.call.Call.TheVariants as call
use Rattle.model_wire.specs.declared.answer.Answer.TheVariants as answer
use Rattle.model_wire.specs.declared.watch.Watch.{Watch}
use Rattle.model_pump.specs.declared.command.Command.TheVariants as command
use Rattle.model_hub.specs.declared.pump.Pump.{Pump}
use Rattle.model_hub.specs.declared.pump.Pump.TheVariants as pump
use Rattle.model_pump.specs.declared.stream.Stream.TheVariants as stream
use Rattle.model_hub.specs.declared.child.Child.{Child}
use Rattle.model_hub.specs.declared.child.Seats.{Seats}
use Rattle.model_hub.specs.Children.{new_child, runs, waiting, is_unasked, is_owed}
use Rattle.model_hub.specs.Hub.{Hub, of_child, with_child}
use Rattle.model_pump.specs.Commands.{Command}
use Rattle.model_hub.specs.declared.giving.Giving.{Giving}
use Rattle.model_hub.specs.Others.{Lanes, OfClose, OfWrite, Launching, Started, NotStarted, NoMemory, Others, Said, Got, Failed, Memory, is_given}
use Rattle.model_hub.specs.Lanes.{serve, serve_child, after_close, if_given, gos_to, closes_to}
use Rattle.model_hub.specs.Gathering.{most_waiting}
use Rattle.model_hub.specs.Select.{select}
use Rattle.model_hub.specs.Told.{is_datagram}

abbrev pub is_empty : List ℕ → Bool
is_empty [] = true
is_empty (first ∷ more) = false

-- ---- feed
abbrev pub after_write : Child → Child
after_write child = record child { writes = child.writes + 1 }

-- A Write is offered: the child runs, no Close is owed that has to go before it, fewer than seven Writes wait, and there
-- are bytes.
abbrev pub offers_write : List ℕ → Child → Bool
offers_write bytes child =
    runs child.stay && not child.broken && not (is_owed child.closing) && nat_lt (waiting child) most_waiting
    && not (is_empty bytes)

abbrev pub feed_child : Lanes → ℕ → List ℕ → Child → Hub → Hub × Said
feed_child lanes number bytes child hub =
    if child.broken then (hub, Got answer.Broken)
    else if offers_write bytes child && is_given (lanes number OfWrite) then
    (with_child number (after_write child) hub, Got (answer.Took (length bytes)))
    else (hub, Got answer.Again)

abbrev pub feed_to : Lanes → ℕ → List ℕ → Hub → Hub × Said
feed_to lanes number bytes hub =
    of_child (hub, Got answer.Again) (λ (child : Child). feed_child lanes number bytes child hub) number hub.children

abbrev pub feed : Lanes → ℕ → List ℕ → Hub → Hub × Said
feed lanes number bytes hub = feed_to lanes number bytes (serve lanes [] hub)

-- ---- end
abbrev pub close_stdin : Giving → Child → Child
close_stdin giving child =
    if runs child.stay && is_unasked child.closing then record child { closing = after_close giving } else child

abbrev pub close_at : Lanes → ℕ → Hub → Hub
close_at lanes number hub =
    of_child hub (λ (child : Child). with_child number (close_stdin (lanes number OfClose) child) hub) number hub.children

abbrev pub end : Lanes → ℕ → Hub → Hub × Said
end lanes number hub = (close_at lanes number (serve lanes [] hub), Got answer.Done)

-- ---- kill, extra and calls on sockets change no more than what was owed
abbrev pub kill : Lanes → Hub → Hub × Said
kill lanes hub = (serve lanes [] hub, Got answer.Done)

abbrev pub extra : Lanes → Hub → Hub × Said
extra lanes hub = (serve lanes [] hub, Got answer.Refused)

-- what the poller answered, unchanged; where it was short of memory so is the hub
abbrev pub starved_by : Said → Bool
starved_by (Got any) = false
starved_by Failed = false
starved_by Memory = true

abbrev pub socket : Lanes → Said → Hub → Hub × Said
socket lanes said hub = (record (serve lanes [] hub) { starved = starved_by said }, said)

-- ---- launch
abbrev pub most_children : ℕ
most_children = 2 ^ 32 - 1

abbrev pub after_launching : Launching → Seats → List Seats → Hub → Hub × Said
after_launching Started seats free hub =
    (record hub { children = hub.children ++ new_child (length hub.children) seats ∷ []; free = free }, Got answer.Child)
after_launching NotStarted seats free hub = (record hub { free = free }, Got answer.Refused)
after_launching NoMemory seats free hub = (record hub { free = free; starved = true }, Memory)

-- The launcher is called once where four seats are free and a number is left.
abbrev pub launch_with : Launching → List Seats → Hub → Hub × Said
launch_with launching [] hub = (hub, Got answer.Refused)
launch_with launching (seats ∷ free) hub =
    if nat_lt (length hub.children) most_children then after_launching launching seats free hub else (hub, Got answer.Refused)

abbrev pub launch_from : Launching → Hub → Hub × Said
launch_from launching hub = launch_with launching hub.free hub

abbrev pub launch : Lanes → Launching → Hub → Hub × Said
launch lanes launching hub = launch_from launching (serve lanes [] hub)

-- ---- every call
abbrev pub answer_to : Call → Others → Hub → Hub × Said
answer_to (call.Select wait watched) others hub = select watched others hub
answer_to (call.Feed child bytes) others hub = feed others.lanes child bytes hub
answer_to (call.End child) others hub = end others.lanes child hub
answer_to (call.Kill child) others hub = kill others.lanes hub
answer_to (call.Launch words) others hub = launch others.lanes others.launching hub
answer_to (call.Extra code bytes) others hub =
    if is_datagram code then socket others.lanes others.net hub else extra others.lanes hub
answer_to _ others hub = socket others.lanes others.net hub

-- once memory was refused, it is refused for ever
abbrev pub ask : Call → Others → Hub → Hub × Said
ask call others hub = if hub.starved then (hub, Memory) else answer_to call others hub

-- ---- what a call gives to the lanes of a child
abbrev pub watch_of : Call → List Watch
watch_of (call.Select wait watched) = watched
watch_of _ = []

-- what is given to the lane of the standard input behind a Close that was owed
abbrev pub stdin_to : Call → Lanes → Child → List Command
stdin_to (call.Feed number bytes) lanes child =
    if_given (child.number == number && offers_write bytes child) (lanes number OfWrite) (command.Write bytes)
stdin_to (call.End number) lanes child =
    if_given (child.number == number && runs child.stay && is_unasked child.closing) (lanes number OfClose) command.Close
stdin_to _ lanes child = []

abbrev pub commands_to : Call → Lanes → Child → Pump → List Command
commands_to asks lanes child pump.Stdin = closes_to lanes child ++ stdin_to asks lanes (serve_child lanes [] child)
commands_to asks lanes child pump.Out = gos_to lanes (watch_of asks) stream.Out child
commands_to asks lanes child pump.Errs = gos_to lanes (watch_of asks) stream.Errs child
commands_to asks lanes child pump.Exit = []
