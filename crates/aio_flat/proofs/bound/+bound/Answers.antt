-- Each statement is smaller than its list, and the names so far grow by the statement's; clauses likewise.
use Rattle.std.proofs.Common.{rules, ◌≡◌, ◌+◌, ◌*◌, ◌<◌, ◌++◌, [], ◌∷◌, take, ap, sym, ◌∙◌, append_assoc, arith, option_to_list}
use Rattle.std.proofs.lemmas.List.{take_more}
use Rattle.model_tree.specs.Syntax.{statements, handlers}
use Rattle.model_says.specs.Variables.{names_bound, names_of, names_of_handlers}
use Rattle.aio_program.specs.StatementSize.{statement_size, statement_list_size, handler_list_size, statements_size}
use Rattle.aio_flat.proofs.KnownLemmas.{statement_size-item, handler_size-item, names_of-push, names_of_handlers-push}
use Rattle.aio_flat.proofs.bound.+bound.Goals as goal

pub push_all-push_bound-requires : goal.push_all-push_bound-requires
push_all-push_bound-requires t c =
    let smaller = statement_size-item c.args.items.now c.loop-item.item-index c.item-item.result c.loop-item-test.true c.item-item.is in
    let falls : 2 * statement_size c.item-item.result < 2 * statement_list_size c.args.items.now = omega (arith, smaller) in
    search rules

pub push_all-loop-item-preserved : goal.push_all-loop-item-preserved
push_all-loop-item-preserved t c =
    let l = c.loop-item in
    let front = take l.item-index c.args.items.now in
    let item = c.item-item.result in
    let before = c.args.names.now.items in
    let more : take (l.item-index + 1) c.args.items.now ≡ front ++ item ∷ [] =
    take_more c.args.items.now l.item-index item c.loop-item-test.true ∙ ap (λ x. front ++ x ∷ []) (sym c.item-item.is) in
    c.in_ok-push_bound.ensures
    ∙ ap (λ names. names ++ names_bound item) l.invariant
    ∙ append_assoc before (names_of (statements front)) (names_bound item)
    ∙ ap (λ names. before ++ names) (sym (names_of-push front item))
    ∙ ap (λ items. before ++ names_of (statements items)) (sym more)

pub push_handlers-push_all-requires : goal.push_handlers-push_all-requires
push_handlers-push_all-requires t c =
    let clause = c.clause-item.result in
    let smaller = handler_size-item c.args.clauses.now c.loop-clause.clause-index clause c.loop-clause-test.true c.clause-item.is in
    let body = ap statements_size c.body.ensures in
    let items = ap statement_list_size c.items.ensures in
    let falls : 2 * statement_list_size c.items.result.now < 2 * handler_list_size c.args.clauses.now =
    omega (arith, smaller, body, items) in
    search rules

pub push_handlers-loop-clause-preserved : goal.push_handlers-loop-clause-preserved
push_handlers-loop-clause-preserved t c =
    let l = c.loop-clause in
    let front = take l.clause-index c.args.clauses.now in
    let clause = c.clause-item.result in
    let before = c.args.names.now.items in
    let more : take (l.clause-index + 1) c.args.clauses.now ≡ front ++ clause ∷ [] =
    take_more c.args.clauses.now l.clause-index clause c.loop-clause-test.true ∙ ap (λ x. front ++ x ∷ []) (sym c.clause-item.is) in
    let body = ap (λ items. names_of (statements items)) c.items.ensures ∙ ap names_of c.body.ensures in
    let so_far = names_of_handlers (handlers front) in
    c.in_ok-push_all.ensures
    ∙ ap (λ names. c.push_name.new.names.items ++ names) body
    ∙ ap (λ names. names ++ names_of clause.body) (c.in_ok-push_name.ensures ∙ ap (λ name. l.names.items ++ option_to_list name) c.name.ensures)
    ∙ ap (λ names. (names ++ option_to_list clause.name) ++ names_of clause.body) l.invariant
    ∙ append_assoc (before ++ so_far) (option_to_list clause.name) (names_of clause.body)
    ∙ append_assoc before so_far (option_to_list clause.name ++ names_of clause.body)
    ∙ ap (λ names. before ++ names) (sym (names_of_handlers-push front clause))
    ∙ ap (λ clauses. before ++ names_of_handlers (handlers clauses)) (sym more)
