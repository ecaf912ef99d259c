use Rattle.law_over.proofs.Growing.{grows_acting, grows_closing, grows_connecting, grows_launching, grows_listening}
use Rattle.law_over.proofs.streams.callbacks_keep_order.Goals as goal

pub returns : goal.returns
returns c = record {
  acts = grows_acting;
  listens = grows_listening;
  closes = grows_closing;
  connects = grows_connecting;
  launches = grows_launching;
}
