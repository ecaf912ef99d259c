use Rattle.std.proofs.Common.{rules, ◌*◌, ◌<◌, take, Ok, option_map, subst, ap, sym, ◌∙◌, arith}
use Rattle.std.specs.Rc.{rc_str_bytes}
use Rattle.model_tree.specs.Syntax.{Or, And, Compare, Calculate, Index, ListOf, exprs}
use Rattle.model_tree.specs.Known.{kind_of_name, function_of}
use Rattle.model_text.specs.Naming.{all_meant, meaning_of, error_of, function_call}
use Rattle.script_term.specs.TermSize.{term_size, term_list_size}
use Rattle.script_naming.specs.Gives.{Gives, Fails}
use Rattle.script_naming.proofs.Meanings.{all_meant-more, term_size-item, gives-err, error-fails, gives-error_call, function-fails, list-fails, list-is}
use Rattle.script_naming.proofs.Meanings.{gives-call}
use Rattle.script_naming.proofs.meaning.+meaning.Goals as goal

pub all_meant-meaning_of-requires : goal.all_meant-meaning_of-requires
all_meant-meaning_of-requires t c =
    let smaller = term_size-item c.args.items.now c.loop-item.item-index c.item-item.result c.loop-item-test.true c.item-item.is in
    let falls : 5 * term_size c.item-item.result < 5 * term_list_size c.args.items.now = omega (arith, smaller) in
    search rules

pub all_meant-loop-item-preserved : goal.all_meant-loop-item-preserved
all_meant-loop-item-preserved t c =
    let items = c.args.items.now in
    let at = c.loop-item.item-index in
    let scope = c.args.scope.now in
    let item = c.item-item.result in
    subst (λ meant. Gives (λ all. all.items) meant c.pushed-all.result) (all_meant-more scope items at item c.loop-item-test.true c.item-item.is)
    (c.pushed-all.ensures (all_meant scope (take at items)) (meaning_of scope item) c.loop-item.invariant c.meaning_of.ensures)

pub error_of-returns-in_err-message-in-Some : goal.error_of-returns-in_err-message-in-Some
error_of-returns-in_err-message-in-Some t c =
    let found = kind_of_name c.args.kind.now in
    let meant = all_meant c.args.scope.now c.args.after.now in
    let fault = c.in_err-message-in-Some.field-0.0 in
    gives-err (λ meaning. meaning) (error_of found meant) c.from_residual.result fault c.from_residual.ensures.1
    (error-fails found c.in-Some.kind meant fault c.in-Some.ensures
    (sym c.is_made_by_error.ensures ∙ c.if-is_made_by_error.true) c.in_err-message-in-Some.ensures.fault)

pub meaning_of-returns-in_err-left-in-Or : goal.meaning_of-returns-in_err-left-in-Or
meaning_of-returns-in_err-left-in-Or t c =
    let scope = c.args.scope.now in
    let fault = c.in_err-left-in-Or.field-0.0 in
    gives-err (λ meaning. meaning) (meaning_of scope c.args.term.now) c.from_residual.result fault c.from_residual.ensures.1
    (subst (λ term. Fails (meaning_of scope term) fault) c.in-Or.ensures (c.in_err-left-in-Or.ensures.fault Or))

pub meaning_of-returns-in_err-left-in-And : goal.meaning_of-returns-in_err-left-in-And
meaning_of-returns-in_err-left-in-And t c =
    let scope = c.args.scope.now in
    let fault = c.in_err-left-in-And.field-0.0 in
    gives-err (λ meaning. meaning)
    (meaning_of scope c.args.term.now) c.from_residual-in_err-left-in-And.result fault c.from_residual-in_err-left-in-And.ensures.1
    (subst (λ term. Fails (meaning_of scope term) fault) c.in-And.ensures (c.in_err-left-in-And.ensures.fault And))

pub meaning_of-returns-in_err-left-in-Compare : goal.meaning_of-returns-in_err-left-in-Compare
meaning_of-returns-in_err-left-in-Compare t c =
    let scope = c.args.scope.now in
    let fault = c.in_err-left-in-Compare.field-0.0 in
    gives-err (λ meaning. meaning)
    (meaning_of scope c.args.term.now) c.from_residual-in_err-left-in-Compare.result fault c.from_residual-in_err-left-in-Compare.ensures.1
    (subst (λ term. Fails (meaning_of scope term) fault) c.in-Compare.ensures (c.in_err-left-in-Compare.ensures.fault (Compare c.in-Compare.comparison)))

pub meaning_of-returns-in_err-left-in-Calculate : goal.meaning_of-returns-in_err-left-in-Calculate
meaning_of-returns-in_err-left-in-Calculate t c =
    let scope = c.args.scope.now in
    let fault = c.in_err-left-in-Calculate.field-0.0 in
    gives-err (λ meaning. meaning)
    (meaning_of scope c.args.term.now) c.from_residual-in_err-left-in-Calculate.result fault c.from_residual-in_err-left-in-Calculate.ensures.1
    (subst (λ term. Fails (meaning_of scope term) fault) c.in-Calculate.ensures (c.in_err-left-in-Calculate.ensures.fault (Calculate c.in-Calculate.operator)))

pub meaning_of-returns-in_err-sequence-in-Index : goal.meaning_of-returns-in_err-sequence-in-Index
meaning_of-returns-in_err-sequence-in-Index t c =
    let scope = c.args.scope.now in
    let fault = c.in_err-sequence-in-Index.field-0.0 in
    gives-err (λ meaning. meaning)
    (meaning_of scope c.args.term.now) c.from_residual-in_err-sequence-in-Index.result fault c.from_residual-in_err-sequence-in-Index.ensures.1
    (subst (λ term. Fails (meaning_of scope term) fault) c.in-Index.ensures (c.in_err-sequence-in-Index.ensures.fault Index))

pub error_call-returns-in-Some : goal.error_call-returns-in-Some
error_call-returns-in-Some t c =
    gives-error_call c.args.bare.now c.in-Some.kind c.as_str.result.now
    (all_meant c.args.scope.now c.args.after.now) c.error_of.result c.in-Some.is c.as_str.ensures.value c.error_of.ensures

pub function_call-returns-in_err-argument-in-Some : goal.function_call-returns-in_err-argument-in-Some
function_call-returns-in_err-argument-in-Some t c =
    let scope = c.args.scope.now in
    let name = c.args.name.now in
    let before = all_meant scope c.args.before.now in
    let bare = option_map rc_str_bytes c.args.bare.now in
    let after = all_meant scope c.args.after.now in
    let fault = c.in_err-argument-in-Some.field-0.0 in
    gives-err (λ meaning. meaning) (function_call name (function_of name) before bare after) c.from_residual.result fault c.from_residual.ensures.1
    (function-fails name (function_of name) c.in-Some.function before bare after fault c.in-Some.ensures c.in_err-argument-in-Some.ensures.fault)

pub meaning_of-returns-in_err-items-in-List : goal.meaning_of-returns-in_err-items-in-List
meaning_of-returns-in_err-items-in-List t c =
    let scope = c.args.scope.now in
    let fault = c.in_err-items-in-List.field-0.0 in
    gives-err (λ meaning. meaning)
    (meaning_of scope c.args.term.now) c.from_residual-in_err-items-in-List.result fault c.from_residual-in_err-items-in-List.ensures.1
    (list-fails scope c.args.term.now c.in-List.items.now c.items.result.now fault c.in-List.ensures c.items.ensures c.in_err-items-in-List.ensures)

pub meaning_of-returns-in_ok-items-in-List : goal.meaning_of-returns-in_ok-items-in-List
meaning_of-returns-in_ok-items-in-List t c =
    list-is c.args.scope.now c.args.term.now c.in-List.items.now c.items.result.now c.in_ok-items-in-List.items.items
    c.in-List.ensures c.items.ensures c.in_ok-items-in-List.ensures
    ∙ ap (λ all. Ok (ListOf (exprs all))) (sym c.of.ensures)
    ∙ ap Ok (sym c.list.ensures)

pub meaning_of-returns-in-Called : goal.meaning_of-returns-in-Called
meaning_of-returns-in-Called t c =
    gives-call c.args.scope.now c.args.term.now (rc_str_bytes c.in-Called.name.now) c.as_str.result.now c.in-Called.before.now c.items-in-Called.result.now
    (option_map rc_str_bytes c.in-Called.bare.now) c.in-Called.after.now c.items-in-Called-2.result.now c.function_call.result
    c.in-Called.ensures c.as_str.ensures.value c.items-in-Called.ensures c.items-in-Called-2.ensures c.function_call.ensures
