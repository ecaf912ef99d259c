use Rattle.aio_change.proofs.Owning.{are_own_along, idle_along, own_made}
use Rattle.aio_change.proofs.laws.changes_leave_futures_their_own.Goals as goal

pub returns : goal.returns
returns c = record { stay = are_own_along; made = λ v. (own_made v, tt); idle = idle_along }
