-- What a kernel keeps before there is a task.
use Rattle.std.specs.Prelude.{◌≡◌, false, []}
use Rattle.model_stream.specs.Streams.{no_streams}
use Rattle.model_tree.specs.Syntax.{Program}
use Rattle.model_machine.specs.Replies.{most_ids}
use Rattle.aio_flat.specs.Code.{IsCodeOf}
use Rattle.aio_task.specs.View.{empty}
use Rattle.aio_step.specs.Standing.{TransportsStandFor as AreTransports}
use Rattle.aio_body.specs.Stands.{profile_of}
use Rattle.aio_body.specs.declared.run_state.RunState.{RunState}

pub record IsEmpty {X : Type 0} (program : Program) (extra : X) (body : RunState X) : Type 0 where
  pub code : IsCodeOf program body.code
  pub parts : body.parts ≡ empty (profile_of program)
  pub slots : body.slots.items ≡ []
  pub timeouts : body.timeouts ≡ []
  pub groups : body.groups ≡ []
  pub transports : AreTransports body.transports (no_streams most_ids)
  pub futures : body.futures.items ≡ []
  pub added : body.extra ≡ extra
  pub main_done : body.main_done ≡ false
  pub events : body.events ≡ record { events = []; answers = 0 }
