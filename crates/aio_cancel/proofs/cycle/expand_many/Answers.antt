use Rattle.std.proofs.Common.{false, []}
use Rattle.algorithm_parts.proofs.WeightLemmas.{weigh_answer, weigh_many}
use Rattle.algorithm_parts.proofs.RoomLemmas.{walk_opens}
use Rattle.algorithm_parts.proofs.SeekLemmas.{seek_opens}
use Rattle.aio_cancel.specs.Noted.{noted}
use Rattle.aio_cancel.proofs.cycle.expand_many.Goals as goal

pub returns-in-Some-clause-falls : goal.returns-in-Some-clause-falls
returns-in-Some-clause-falls c = λ p seen frames. weigh_answer c.args.id false frames seen p

pub returns-in-None-clause-seeks : goal.returns-in-None-clause-seeks
returns-in-None-clause-seeks c = λ p from to seen frames st can ne.
    seek_opens p from to c.args.id seen (noted c.args.notes.now) (noted c.put.new.self) false false frames can ne st c.put.ensures

pub returns-in-None-clause-walks : goal.returns-in-None-clause-walks
returns-in-None-clause-walks c = λ p room marks frames st can. walk_opens room marks c.args.id frames [] p false can st

pub returns-in-None-clause-falls : goal.returns-in-None-clause-falls
returns-in-None-clause-falls c = λ p seen frames. weigh_many c.args.id false frames seen p
