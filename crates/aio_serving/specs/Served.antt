-- What a call gives to the lanes of one child before anything else, over what is seen of them.
use Rattle.std.specs.Prelude.{◌≡◌, ℕ, ◌+◌, ◌≤◌, true, ◌==◌, List, [], if◌then◌else◌}
use Rattle.model_wire.specs.declared.watch.Watch.{Watch}
use Rattle.model_pump.specs.Commands.{Command}
use Rattle.model_pump.specs.declared.stream.Stream.{Stream}
use Rattle.model_pump.specs.declared.stream.Stream.TheVariants as stream
use Rattle.model_hub.specs.declared.child.Child.{Child}
use Rattle.model_hub.specs.declared.child.Flow.{Flow}
use Rattle.model_hub.specs.declared.giving.Giving.{Giving}
use Rattle.model_hub.specs.declared.giving.Giving.TheVariants.{Given}
use Rattle.model_hub.specs.declared.pump.Pump.{Pump}
use Rattle.model_hub.specs.declared.pump.Pump.TheVariants as pump
use Rattle.model_hub.specs.Others.{Offer, OfGo, OfClose, OfWrite, Lanes}
use Rattle.model_hub.specs.Lanes.{with_go, with_close, serve_child, gos_to, closes_to}
use Rattle.model_hub.specs.Asked.{lane_of}
use Rattle.aio_serving.specs.Heads.{HeadsSeen, at_lane, Grows, Answers}

-- at most one Go has no piece yet, and none while one is owed
abbrev pub IsModestFlow : Flow → Type 0
IsModestFlow flow = (flow.gos ≤ flow.pieces + 1) × (flow.owes ≡ true → flow.gos ≤ flow.pieces)

-- at most seven Writes have no Room post
pub record IsModest (child : Child) : Type 0 where
  pub out : IsModestFlow child.out
  pub errs : IsModestFlow child.errs
  pub writes : child.writes ≤ child.rooms + 7

-- every lane answers so
abbrev pub always : Giving → Lanes
always giving number offer = giving

-- a Go was offered for a stream, or not
pub record GivesGo (watched : List Watch) (of : Stream) (child result : Child) (old new : HeadsSeen) : Type 0 where
  pub giving : Giving
  pub is : result ≡ with_go (always giving) watched of child
  pub grows : Grows (at_lane child.number (lane_of (OfGo of)) (gos_to (always giving) watched of child)) old new
  pub answers : Answers child.number (lane_of (OfGo of)) giving old new

-- a Close that was owed was offered, or not
pub record GivesClose (child result : Child) (old new : HeadsSeen) : Type 0 where
  pub giving : Giving
  pub is : result ≡ with_close (always giving) child
  pub grows : Grows (at_lane child.number pump.Stdin (closes_to (always giving) child)) old new
  pub answers : Answers child.number pump.Stdin giving old new

-- what the lanes of one child answer
abbrev pub answering : (out errs close : Giving) → Offer → Giving
answering out errs close (OfGo stream.Out) = out
answering out errs close (OfGo stream.Errs) = errs
answering out errs close OfClose = close
answering out errs close OfWrite = Given

-- what is given to the lane of each pump of a child
abbrev pub served_to : Lanes → List Watch → Child → Pump → List Command
served_to lanes watched child pump.Stdin = closes_to lanes child
served_to lanes watched child pump.Out = gos_to lanes watched stream.Out child
served_to lanes watched child pump.Errs = gos_to lanes watched stream.Errs child
served_to lanes watched child pump.Exit = []

-- the same, and nothing for other children
abbrev pub served_alone : Lanes → List Watch → Child → ℕ → Pump → List Command
served_alone lanes watched child other at = if other == child.number then served_to lanes watched child at else []

-- A child was served: there is what its lanes answered.
pub record Serves (watched : List Watch) (child result : Child) (old new : HeadsSeen) : Type 0 where
  pub answers : Offer → Giving
  pub is : result ≡ serve_child (λ number. answers) watched child
  pub grows : Grows (served_alone (λ number. answers) watched child) old new
  pub each : (offer : Offer) → Answers child.number (lane_of offer) (answers offer) old new
