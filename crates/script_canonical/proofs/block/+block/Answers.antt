-- Each statement is smaller than its list, and the text so far grows by the statement's; clauses likewise.
use Rattle.std.proofs.Common.{rules, ◌≡◌, ℕ, ◌+◌, ◌*◌, ◌<◌, ◌≤◌, ◌++◌, [], ◌∷◌, length, length-append, take, ap, sym, ◌∙◌, append_assoc, arith}
use Rattle.std.proofs.lemmas.List.{take_more}
use Rattle.model_tree.specs.Syntax.{statements, handlers}
use Rattle.model_text.specs.Canonical.{statement_text, statements_text, handlers_text}
use Rattle.aio_program.specs.StatementSize.{statement_size, statement_list_size, handler_size, handler_list_size}
use Rattle.script_canonical.proofs.Joined.{statement_size-item, handler_size-item, statements_text-push, handlers_text-push}
use Rattle.script_canonical.proofs.block.+block.Goals as goal

pub push_statements-push_statement-requires : goal.push_statements-push_statement-requires
push_statements-push_statement-requires t c =
    let smaller = statement_size-item c.args.items.now c.loop-item.item-index c.item-item.result c.loop-item-test.true c.item-item.is in
    let falls : 3 * statement_size c.item-item.result + 1 < 3 * statement_list_size c.args.items.now = omega (arith, smaller) in
    let room : c.args.blocks ≤ length c.loop-item.out.items = omega (arith, c.requires, ap length c.loop-item.invariant, length-append {A = ℕ}) in
    search rules

pub push_statements-loop-item-preserved : goal.push_statements-loop-item-preserved
push_statements-loop-item-preserved t c =
    let l = c.loop-item in
    let front = take l.item-index c.args.items.now in
    let item = c.item-item.result in
    let blocks = c.args.blocks in
    let before = c.args.out.now.items in
    let more : take (l.item-index + 1) c.args.items.now ≡ front ++ item ∷ [] =
    take_more c.args.items.now l.item-index item c.loop-item-test.true ∙ ap (λ x. front ++ x ∷ []) (sym c.item-item.is) in
    c.in_ok-push_statement.ensures
    ∙ ap (λ text. text ++ statement_text item blocks) l.invariant
    ∙ append_assoc before (statements_text (statements front) blocks) (statement_text item blocks)
    ∙ ap (λ text. before ++ text) (sym (statements_text-push front item blocks))
    ∙ ap (λ ss. before ++ statements_text (statements ss) blocks) (sym more)

pub push_handlers-push_handler-requires : goal.push_handlers-push_handler-requires
push_handlers-push_handler-requires t c =
    let smaller = handler_size-item c.args.clauses.now c.loop-clause.clause-index c.clause-item.result c.loop-clause-test.true c.clause-item.is in
    let falls : 3 * handler_size c.clause-item.result < 3 * handler_list_size c.args.clauses.now = omega (arith, smaller) in
    let room : c.args.blocks ≤ length c.loop-clause.out.items = omega (arith, c.requires, ap length c.loop-clause.invariant, length-append {A = ℕ}) in
    search rules

pub push_handlers-loop-clause-preserved : goal.push_handlers-loop-clause-preserved
push_handlers-loop-clause-preserved t c =
    let l = c.loop-clause in
    let front = take l.clause-index c.args.clauses.now in
    let clause = c.clause-item.result in
    let blocks = c.args.blocks in
    let before = c.args.out.now.items in
    let more : take (l.clause-index + 1) c.args.clauses.now ≡ front ++ clause ∷ [] =
    take_more c.args.clauses.now l.clause-index clause c.loop-clause-test.true ∙ ap (λ x. front ++ x ∷ []) (sym c.clause-item.is) in
    c.in_ok-push_handler.ensures
    ∙ ap (λ text. text ++ handlers_text (handlers (clause ∷ [])) blocks) l.invariant
    ∙ append_assoc before (handlers_text (handlers front) blocks) (handlers_text (handlers (clause ∷ [])) blocks)
    ∙ ap (λ text. before ++ text) (sym (handlers_text-push front clause blocks))
    ∙ ap (λ hs. before ++ handlers_text (handlers hs) blocks) (sym more)
