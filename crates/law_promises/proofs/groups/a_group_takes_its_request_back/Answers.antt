use Rattle.law_promises.proofs.Relied.{asks_once, takes_in_one, takes_in_two}
use Rattle.law_promises.proofs.groups.a_group_takes_its_request_back.Goals as goal

pub returns-clause-asks : goal.returns-clause-asks
returns-clause-asks c = asks_once

pub returns-clause-profile_one : goal.returns-clause-profile_one
returns-clause-profile_one c = takes_in_one

pub returns-clause-profile_two : goal.returns-clause-profile_two
returns-clause-profile_two c = takes_in_two
