use Rattle.std.proofs.Common.{refl}
use Rattle.aio_memwire.proofs.answering.JournalWireAnswersWire.TheImpl.Goals as goal

pub ask-tells : goal.ask-tells
ask-tells g c = record {
  replied = c.ensures.replied;
  unreplied = c.ensures.unreplied;
  stays = (refl, rw c.ensures.name c.ensures.monotone);
  fails = λ fails. c.ensures.missing fails.0 fails.1;
  keeps = (c.ensures.shelf, c.ensures.name, c.ensures.files);
  quiet = c.ensures.quiet;
  err = c.ensures.err;
}
