use Rattle.law_over.proofs.Growing.{grows_closing_one, grows_draining, grows_dropping, grows_ending, grows_giving_up, grows_killing, grows_limiting}
use Rattle.law_over.proofs.Growing.{grows_reading, grows_reading_all, grows_waiting, grows_writing}
use Rattle.law_over.proofs.streams.requests_keep_order.Goals as goal

pub returns : goal.returns
returns c = record {
  write = grows_writing;
  write_eof = grows_ending;
  drain = grows_draining;
  limits = grows_limiting;
  close = grows_closing_one;
  drop_connect = grows_dropping;
  read = grows_reading;
  read_all = grows_reading_all;
  give_up = grows_giving_up;
  wait = grows_waiting;
  kill = grows_killing;
}
