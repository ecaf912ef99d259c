use Rattle.std.proofs.Common.{◌+◌, ◌*◌, take}
use Rattle.model_text.specs.Naming.{all_meant}
use Rattle.script_term.specs.TermSize.{term_size, term_list_size}
use Rattle.script_naming.specs.Gives.{Gives}
use Rattle.script_naming.proofs.meaning.+meaning.Given as goal

abbrev pub decreases-meaning_of : goal.decreases-meaning_of
decreases-meaning_of l = 5 * term_size l.term.now

abbrev pub decreases-two_meant : goal.decreases-two_meant
decreases-two_meant l = 5 * (term_size l.left.now + term_size l.right.now) + 1

abbrev pub decreases-all_meant : goal.decreases-all_meant
decreases-all_meant l = 5 * term_list_size l.items.now

abbrev pub decreases-one_argument : goal.decreases-one_argument
decreases-one_argument l = 5 * term_list_size l.arguments.now + 1

abbrev pub decreases-function_call : goal.decreases-function_call
decreases-function_call l = 5 * (term_list_size l.before.now + term_list_size l.after.now) + 4

abbrev pub decreases-error_call : goal.decreases-error_call
decreases-error_call l = 5 * term_list_size l.after.now + 3

abbrev pub decreases-error_of : goal.decreases-error_of
decreases-error_of l = 5 * term_list_size l.after.now + 2

abbrev pub invariant-all_meant-loop-item : goal.invariant-all_meant-loop-item
invariant-all_meant-loop-item l = Gives (λ all. all.items) (all_meant l.scope (take l.item-index l.items)) l.all
