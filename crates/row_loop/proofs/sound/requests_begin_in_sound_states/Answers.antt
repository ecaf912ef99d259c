use Rattle.row_loop.proofs.CancelStates.{all_done_stands, awaited_runs_stands, chain_cancelled_stands, chain_stands, free_task_stands, full_count_stands}
use Rattle.row_loop.proofs.CancelStates.{member_refused_stands, member_runs_stands, one_of_two_cancelled_stands, one_of_two_stands, refused_stands}
use Rattle.row_loop.proofs.CancelStates.{twice_to_one_stands, two_on_one_stands, two_ways_stands}
use Rattle.row_loop.proofs.sound.requests_begin_in_sound_states.Goals as goal

pub returns-clause-chain : goal.returns-clause-chain
returns-clause-chain c = chain_stands

pub returns-clause-chain_cancelled : goal.returns-clause-chain_cancelled
returns-clause-chain_cancelled c = chain_cancelled_stands

pub returns-clause-one_of_two : goal.returns-clause-one_of_two
returns-clause-one_of_two c = one_of_two_stands

pub returns-clause-one_of_two_cancelled : goal.returns-clause-one_of_two_cancelled
returns-clause-one_of_two_cancelled c = one_of_two_cancelled_stands

pub returns-clause-all_done : goal.returns-clause-all_done
returns-clause-all_done c = all_done_stands

pub returns-clause-two_on_one : goal.returns-clause-two_on_one
returns-clause-two_on_one c = two_on_one_stands

pub returns-clause-twice_to_one : goal.returns-clause-twice_to_one
returns-clause-twice_to_one c = twice_to_one_stands

pub returns-clause-two_ways : goal.returns-clause-two_ways
returns-clause-two_ways c = two_ways_stands

pub returns-clause-awaited_runs : goal.returns-clause-awaited_runs
returns-clause-awaited_runs c = awaited_runs_stands

pub returns-clause-refused : goal.returns-clause-refused
returns-clause-refused c = refused_stands

pub returns-clause-member_runs : goal.returns-clause-member_runs
returns-clause-member_runs c = member_runs_stands

pub returns-clause-member_refused : goal.returns-clause-member_refused
returns-clause-member_refused c = member_refused_stands

pub returns-clause-free_task : goal.returns-clause-free_task
returns-clause-free_task c = free_task_stands

pub returns-clause-full_count : goal.returns-clause-full_count
returns-clause-full_count c = full_count_stands
