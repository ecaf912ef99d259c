-- What a feed, and the closing of a standard input, give to the lane of the child with a number.
use Rattle.std.specs.Prelude.{◌≡◌, ℕ, ◌&&◌, List, []}
use Rattle.model_wire.specs.Call.{Answer}
use Rattle.model_pump.specs.Commands.{Command}
use Rattle.model_pump.specs.declared.command.Command.TheVariants as command
use Rattle.model_hub.specs.declared.child.Child.{Child}
use Rattle.model_hub.specs.declared.giving.Giving.{Giving}
use Rattle.model_hub.specs.declared.pump.Pump.{Pump}
use Rattle.model_hub.specs.declared.pump.Pump.TheVariants as pump
use Rattle.model_hub.specs.Children.{runs, is_unasked}
use Rattle.model_hub.specs.Hub.{Hub, of_child}
use Rattle.model_hub.specs.Others.{Got}
use Rattle.model_hub.specs.Lanes.{if_given}
use Rattle.model_hub.specs.Calls.{offers_write, feed_to, close_at}
use Rattle.aio_serving.specs.Heads.{HeadsSeen, at_lane, Grows, Answers}
use Rattle.aio_serving.specs.Served.{always}

abbrev pub nothing_to : ℕ → Pump → List Command
nothing_to n at = []

-- what a feed gives to each lane
abbrev pub written_to : Giving → ℕ → List ℕ → List Child → ℕ → Pump → List Command
written_to giving number bytes children =
    of_child nothing_to
    (λ (child : Child). at_lane number pump.Stdin (if_given (offers_write bytes child) giving (command.Write bytes)))
    number children

-- A Write was offered to the child with this number, or none.
pub record FeedsAt (number : ℕ) (bytes : List ℕ) (children children_now : List Child) (said : Answer) (old new : HeadsSeen)
    : Type 0 where
  pub giving : Giving
  pub is : (hub : Hub)
      → feed_to (always giving) number bytes (record hub { children = children })
      ≡ (record hub { children = children_now }, Got said)
  pub grows : Grows (written_to giving number bytes children) old new
  pub answers : Answers number pump.Stdin giving old new

-- what the closing of a standard input gives to each lane
abbrev pub closed_to : Giving → ℕ → List Child → ℕ → Pump → List Command
closed_to giving number children =
    of_child nothing_to
    (λ (child : Child). at_lane number pump.Stdin (if_given (runs child.stay && is_unasked child.closing) giving command.Close))
    number children

-- A Close was offered to the child with this number, or none.
pub record EndsAt (number : ℕ) (children children_now : List Child) (old new : HeadsSeen) : Type 0 where
  pub giving : Giving
  pub is : (hub : Hub)
      → close_at (always giving) number (record hub { children = children }) ≡ record hub { children = children_now }
  pub grows : Grows (closed_to giving number children) old new
  pub answers : Answers number pump.Stdin giving old new
