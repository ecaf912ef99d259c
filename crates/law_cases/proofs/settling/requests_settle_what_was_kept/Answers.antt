use Rattle.law_cases.proofs.Asking.{closes, drains, drops, ends, gives_up, gives_up_own, kills, limits_keep, reads, reads_all, waits, writes}
use Rattle.law_cases.proofs.Opening.{closes_server, connects, opens_child, opens_server}
use Rattle.law_cases.proofs.settling.requests_settle_what_was_kept.Goals as goal

pub returns-clause-listens : goal.returns-clause-listens
returns-clause-listens g = λ own next port handler s kept. opens_server own next port handler s kept

pub returns-clause-connects : goal.returns-clause-connects
returns-clause-connects g = λ own next port s kept. connects own next port s kept

pub returns-clause-launches : goal.returns-clause-launches
returns-clause-launches g = λ own next words s kept. opens_child own next words s kept

pub returns-clause-writes : goal.returns-clause-writes
returns-clause-writes g = λ own next whom piece s kept. writes own next whom piece s kept

pub returns-clause-drains : goal.returns-clause-drains
returns-clause-drains g = λ own next yielded whom s kept. drains own next yielded whom s kept

pub returns-clause-limits : goal.returns-clause-limits
returns-clause-limits g = λ own next high low whom s kept. limits_keep own next high low whom s kept

pub returns-clause-ends : goal.returns-clause-ends
returns-clause-ends g = λ own next id s kept. ends own next id s kept

pub returns-clause-closes : goal.returns-clause-closes
returns-clause-closes g = λ own next whom s kept. closes own next whom s kept

pub returns-clause-closes_server : goal.returns-clause-closes_server
returns-clause-closes_server g = λ own next id s kept. closes_server own next id s kept

pub returns-clause-drops : goal.returns-clause-drops
returns-clause-drops g = λ own next id s kept. drops own next id s kept

pub returns-clause-reads : goal.returns-clause-reads
returns-clause-reads g = λ own next op from s kept. reads own next op from s kept

pub returns-clause-reads_all : goal.returns-clause-reads_all
returns-clause-reads_all g = λ own next from s kept. reads_all own next from s kept

pub returns-clause-gives_up : goal.returns-clause-gives_up
returns-clause-gives_up g = λ own on from s kept. gives_up_own own on from s kept

pub returns-clause-gives_up_alone : goal.returns-clause-gives_up_alone
returns-clause-gives_up_alone g = λ own next on from s kept. gives_up own next on from s kept

pub returns-clause-waits : goal.returns-clause-waits
returns-clause-waits g = λ own next id s kept. waits own next id s kept

pub returns-clause-kills : goal.returns-clause-kills
returns-clause-kills g = λ own next id s kept. kills own next id s kept
