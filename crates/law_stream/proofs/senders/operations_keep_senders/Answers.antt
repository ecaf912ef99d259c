use Rattle.law_stream.proofs.SoundSenders.{close_keeps, fail_keeps}
use Rattle.law_stream.proofs.SoundSends.{new_sound, write_keeps, send_keeps, lose_keeps, drain_keeps, limits_keeps, eof_keeps}
use Rattle.law_stream.proofs.senders.operations_keep_senders.Goals as goal

pub returns : goal.returns
returns c = record {
  begins = new_sound;
  writes = write_keeps;
  sends = send_keeps;
  closes = close_keeps;
  fails = fail_keeps;
  loses = lose_keeps;
  drains = drain_keeps;
  limits = limits_keeps;
  ends = eof_keeps;
}
