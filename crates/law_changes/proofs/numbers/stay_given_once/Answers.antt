use Rattle.law_changes.proofs.CancelNumbers.{cancel_numbers}
use Rattle.law_changes.proofs.Falling.{due_numbers}
use Rattle.law_changes.proofs.Numbering.{soon_numbers, later_numbers, revoke_numbers, settle_numbers, register_numbers}
use Rattle.law_changes.proofs.numbers.stay_given_once.Goals as goal

pub returns-clause-soon : goal.returns-clause-soon
returns-clause-soon c = soon_numbers

pub returns-clause-later : goal.returns-clause-later
returns-clause-later c = later_numbers

pub returns-clause-revoke : goal.returns-clause-revoke
returns-clause-revoke c = revoke_numbers

pub returns-clause-due : goal.returns-clause-due
returns-clause-due c = due_numbers

pub returns-clause-settle : goal.returns-clause-settle
returns-clause-settle c = settle_numbers

pub returns-clause-register : goal.returns-clause-register
returns-clause-register c = register_numbers

pub returns-clause-cancel : goal.returns-clause-cancel
returns-clause-cancel c = cancel_numbers
