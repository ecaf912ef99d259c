-- What feeding a child, and closing its standard input, gives to its lane.
use Rattle.std.specs.Prelude.{◌≡◌, ℕ, Bool, ◌&&◌, List, length, if◌then◌else◌}
use Rattle.model_wire.specs.Call.{Answer}
use Rattle.model_wire.specs.declared.answer.Answer.TheVariants as answer
use Rattle.model_pump.specs.declared.command.Command.TheVariants as command
use Rattle.model_hub.specs.declared.child.Child.{Child}
use Rattle.model_hub.specs.declared.giving.Giving.{Giving}
use Rattle.model_hub.specs.declared.pump.Pump.TheVariants as pump
use Rattle.model_hub.specs.Children.{runs, is_unasked}
use Rattle.model_hub.specs.Others.{is_given}
use Rattle.model_hub.specs.Lanes.{if_given}
use Rattle.model_hub.specs.Calls.{offers_write, after_write, close_stdin}
use Rattle.aio_serving.specs.Heads.{HeadsSeen, at_lane, Grows, Answers}

abbrev pub is_written : Giving → List ℕ → Child → Bool
is_written giving bytes child = offers_write bytes child && is_given giving

abbrev pub feed_answer : Giving → List ℕ → Child → Answer
feed_answer giving bytes child =
    if child.broken then answer.Broken
    else if is_written giving bytes child then answer.Took (length bytes)
    else answer.Again

-- a Write was offered, or not
pub record Feeds (bytes : List ℕ) (child result : Child) (said : Answer) (old new : HeadsSeen) : Type 0 where
  pub giving : Giving
  pub is : result ≡ (if is_written giving bytes child then after_write child else child)
  pub says : said ≡ feed_answer giving bytes child
  pub grows : Grows (at_lane child.number pump.Stdin (if_given (offers_write bytes child) giving (command.Write bytes))) old new
  pub answers : Answers child.number pump.Stdin giving old new

-- a Close was offered, or not
pub record Ends (child result : Child) (old new : HeadsSeen) : Type 0 where
  pub giving : Giving
  pub is : result ≡ close_stdin giving child
  pub grows :
      Grows (at_lane child.number pump.Stdin (if_given (runs child.stay && is_unasked child.closing) giving command.Close)) old new
  pub answers : Answers child.number pump.Stdin giving old new
