use Rattle.law_over.proofs.Staying.{gone_closes, gone_drains, gone_drops_connect, gone_gives_up, gone_kills, gone_limits, gone_reads, gone_reads_all}
use Rattle.law_over.proofs.Staying.{gone_waits, gone_writes, gone_writes_eof}
use Rattle.law_over.proofs.streams.requests_leave_gone.Goals as goal

pub returns : goal.returns
returns c = record {
  write = gone_writes;
  write_eof = gone_writes_eof;
  drain = gone_drains;
  limits = gone_limits;
  close = gone_closes;
  drop_connect = gone_drops_connect;
  read = gone_reads;
  read_all = gone_reads_all;
  give_up = gone_gives_up;
  wait = gone_waits;
  kill = gone_kills;
}
