-- A cancel request keeps what is numbered.
use Rattle.std.proofs.Common.{ℕ}
use Rattle.model_value.specs.declared.outcome.Outcome.TheVariants.{Cancelled}
use Rattle.model_loop.specs.Parts.{Parts}
use Rattle.model_loop.specs.Numbered.{IsNumbered}
use Rattle.model_loop.specs.Cancel.{cancel}
use Rattle.law_changes.specs.Blocks.{OfRequest, cancels, keeps_asked, counts, sets_must_cancel}
use Rattle.law_changes.specs.Changes.{PartsChange, made_of_parts}
use Rattle.law_changes.proofs.Folds.{keep}
use Rattle.law_changes.proofs.PartsRows.{cancel_in}
use Rattle.law_changes.proofs.Numbering.{settle_numbers, mark_asked_numbers, change_task_numbers}

pub request_numbers : (change : PartsChange) (p : Parts) → OfRequest change p → IsNumbered p → IsNumbered (made_of_parts change p)
request_numbers _ p (cancels future) is = settle_numbers future Cancelled p is
request_numbers _ p (keeps_asked future) is = mark_asked_numbers future p is
request_numbers _ p (counts task) is = change_task_numbers task _ p is
request_numbers _ p (sets_must_cancel task) is = change_task_numbers task _ p is

pub cancel_numbers : (id : ℕ) (p : Parts) → IsNumbered p → IsNumbered (cancel id p).parts
cancel_numbers id p = keep IsNumbered request_numbers (cancel_in id p)
