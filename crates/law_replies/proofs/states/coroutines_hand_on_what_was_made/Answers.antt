use Rattle.std.specs.Prelude.{None}
use Rattle.law_replies.proofs.Given.{said_made}
use Rattle.law_replies.proofs.Keeping.{apart_of}
use Rattle.law_replies.proofs.states.coroutines_hand_on_what_was_made.Goals as goal

pub returns : goal.returns
returns g c = λ added s sound task. said_made added None None s (apart_of added None None s sound) task
