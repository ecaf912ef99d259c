use Rattle.law_received.proofs.Due.{change_follows, due_after, made_follows}
use Rattle.law_received.proofs.news.nothing_else_tells.Goals as goal

pub returns : goal.returns
returns c = record {
  loops = change_follows;
  moves = made_follows;
  stays = due_after;
}
