-- What a call gives to the lanes before anything else: a Go for each newly wanted stream, and what found its lane full.
use Rattle.std.specs.Prelude.{◌+◌, Bool, true, false, not, ◌&&◌, ◌==◌, List, [], ◌∷◌, map, if◌then◌else◌}
use Rattle.model_value.specs.declared.action.ChildItem.TheVariants as news
use Rattle.model_wire.specs.declared.watch.Watch.{Watch}
use Rattle.model_wire.specs.declared.item.Item.TheVariants as item
use Rattle.model_wire.specs.Fits.{is_watched}
use Rattle.model_pump.specs.declared.command.Command.TheVariants as command
use Rattle.model_pump.specs.declared.stream.Stream.{Stream}
use Rattle.model_pump.specs.declared.stream.Stream.TheVariants as stream
use Rattle.model_hub.specs.declared.child.Child.{Child}
use Rattle.model_hub.specs.declared.child.Flow.{Flow}
use Rattle.model_hub.specs.declared.child.Closing.{Closing}
use Rattle.model_hub.specs.declared.child.Closing.TheVariants.{Owed, Closed, Unclosable}
use Rattle.model_hub.specs.Children.{flow_of, with_flow, runs, is_owed}
use Rattle.model_pump.specs.Commands.{Command}
use Rattle.model_hub.specs.declared.giving.Giving.{Giving}
use Rattle.model_hub.specs.declared.giving.Giving.TheVariants.{Given, Full, Spent}
use Rattle.model_hub.specs.Others.{OfGo, OfClose, Lanes, is_given}
use Rattle.model_hub.specs.Hub.{Hub}

abbrev pub is_wanted : List Watch → Stream → Child → Bool
is_wanted watch stream.Out child = is_watched watch (item.Child child.number news.OutEnd)
is_wanted watch stream.Errs child = is_watched watch (item.Child child.number news.ErrsEnd)

-- as many pieces were taken as Gos were given, and more may come
abbrev pub is_idle : Flow → Bool
is_idle flow = not flow.ended && flow.pieces == flow.gos

-- a Go is offered for this stream: it is owed, or the stream is newly wanted
abbrev pub offers_go : List Watch → Stream → Child → Bool
offers_go watch of child =
    runs child.stay && (if (flow_of of child).owes then true else is_wanted watch of child && is_idle (flow_of of child))

abbrev pub after_go : Giving → Flow → Flow
after_go Given flow = record flow { gos = flow.gos + 1; owes = false }
after_go Full flow = record flow { owes = true }
after_go Spent flow = record flow { owes = false }

abbrev pub with_go : Lanes → List Watch → Stream → Child → Child
with_go lanes watch of child =
    if offers_go watch of child then with_flow of (after_go (lanes child.number (OfGo of)) (flow_of of child)) child
    else child

abbrev pub after_close : Giving → Closing
after_close Given = Closed
after_close Full = Owed
after_close Spent = Unclosable

-- its Close is offered once more, where it is owed
abbrev pub with_close : Lanes → Child → Child
with_close lanes child =
    if runs child.stay && is_owed child.closing then record child { closing = after_close (lanes child.number OfClose) }
    else child

abbrev pub serve_child : Lanes → List Watch → Child → Child
serve_child lanes watch child = with_close lanes (with_go lanes watch stream.Errs (with_go lanes watch stream.Out child))

-- Each call begins so; one that is no select watches nothing.
abbrev pub serve : Lanes → List Watch → Hub → Hub
serve lanes watch hub = record hub { children = map (serve_child lanes watch) hub.children }

-- ---- what was so given to the lanes of one child
abbrev pub if_given : Bool → Giving → Command → List Command
if_given offer giving command = if offer && is_given giving then command ∷ [] else []

abbrev pub gos_to : Lanes → List Watch → Stream → Child → List Command
gos_to lanes watch of child = if_given (offers_go watch of child) (lanes child.number (OfGo of)) command.Go

abbrev pub closes_to : Lanes → Child → List Command
closes_to lanes child =
    if_given (runs child.stay && is_owed child.closing) (lanes child.number OfClose) command.Close
