-- What was laid is the statement, and each statement is smaller than its list.
use Rattle.std.proofs.Common.{rules, ◌≡◌, ◌+◌, ◌*◌, ◌<◌, ◌++◌, [], ◌∷◌, take, ap, ap₂, subst, sym, ◌∙◌, arith}
use Rattle.std.specs.Option.{option_copied}
use Rattle.std.specs.Rc.{rc_str_bytes}
use Rattle.std.proofs.lemmas.List.{take_more}
use Rattle.std.proofs.lemmas.Result.{on_ok_weaker}
use Rattle.model_tree.specs.Syntax.{statements, handlers}
use Rattle.algorithm_locals.specs.Numbered.{numbered_name, numbered_expr, numbered_manager, numbered_statement, numbered_statements, numbered_branch}
use Rattle.algorithm_locals.specs.Numbered.{numbered_handlers}
use Rattle.algorithm_flat.specs.Laid.{LaidAll, LaidHandlers, enter_op}
use Rattle.aio_program.specs.StatementSize.{statement_size, statement_list_size, handler_size, handler_list_size}
use Rattle.aio_program.specs.Target.{plain_branch, plain_manager}
use Rattle.aio_flat.specs.Built.{built, Lays}
use Rattle.aio_flat.specs.Grows.{Grows}
use Rattle.aio_flat.proofs.KnownLemmas.{statement_size-item, handler_size-item}
use Rattle.aio_flat.proofs.Blocks.{single-lays, if-lays, while-lays, try-lays, with-lays, put-same, push-same, test-same, jump-same, guard-same, repeat-same}
use Rattle.aio_flat.proofs.Blocks.{range-same, exit-same, all-grows, handlers-grow}
use Rattle.aio_flat.proofs.laying.+lay.Goals as goal

pub lay-returns-in-Some : goal.lay-returns-in-Some
lay-returns-in-Some t c =
    on_ok_weaker c.push_op.result
    (λ pushed.
    single-lays c.args.places.now (built c.args.builder.now) (built c.push_op.new.self)
    (numbered_statement c.args.numbers.now c.args.statement.now) c.in-Some.op
    (rw c.in-Some.is at c.in_ok-op.ensures) pushed)
    c.push_op.ensures

-- ---- statements and clauses in order
pub lay_all-lay-requires : goal.lay_all-lay-requires
lay_all-lay-requires t c =
    let smaller = statement_size-item c.args.items.now c.loop-item.item-index c.item-item.result c.loop-item-test.true c.item-item.is in
    let falls : 4 * statement_size c.item-item.result + 2 < 4 * statement_list_size c.args.items.now = omega (arith, smaller) in
    search rules

pub lay_all-loop-item-preserved : goal.lay_all-loop-item-preserved
lay_all-loop-item-preserved t c =
    let l = c.loop-item in
    let front = take l.item-index c.args.items.now in
    let item = c.item-item.result in
    let more : take (l.item-index + 1) c.args.items.now ≡ front ++ item ∷ [] =
    take_more c.args.items.now l.item-index item c.loop-item-test.true ∙ ap (λ x. front ++ x ∷ []) (sym c.item-item.is) in
    subst
    (λ items.
    Lays c.args.builder.now c.lay.new.builder
    (λ code. LaidAll c.args.places.now code (numbered_statements c.args.numbers.now (statements items))))
    (sym more)
    (all-grows c.args.places.now c.args.numbers.now (built c.args.builder.now) (built l.builder) (built c.lay.new.builder) front item l.invariant
    c.in_ok-lay.ensures)

pub lay_handlers-lay_clause-requires : goal.lay_handlers-lay_clause-requires
lay_handlers-lay_clause-requires t c =
    let smaller =
    handler_size-item c.args.clauses.now c.loop-clause.clause-index c.clause-item.result c.loop-clause-test.true c.clause-item.is in
    let falls : 4 * handler_size c.clause-item.result < 4 * handler_list_size c.args.clauses.now = omega (arith, smaller) in
    search rules

pub lay_handlers-loop-clause-preserved : goal.lay_handlers-loop-clause-preserved
lay_handlers-loop-clause-preserved t c =
    let l = c.loop-clause in
    let front = take l.clause-index c.args.clauses.now in
    let handler = c.clause-item.result in
    let clause = c.in_ok-lay_clause.field-0 in
    let more : take (l.clause-index + 1) c.args.clauses.now ≡ front ++ handler ∷ [] =
    take_more c.args.clauses.now l.clause-index handler c.loop-clause-test.true ∙ ap (λ x. front ++ x ∷ []) (sym c.clause-item.is) in
    subst
    (λ list.
    Grows (built c.args.builder.now) (built c.lay_clause.new.builder)
    (λ code. LaidHandlers c.args.places.now code list (numbered_handlers c.args.numbers.now (handlers (take (l.clause-index + 1) c.args.clauses.now)))))
    (sym c.in_ok-push.ensures.items)
    (subst
    (λ clauses.
    Grows (built c.args.builder.now) (built c.lay_clause.new.builder)
    (λ code. LaidHandlers c.args.places.now code (l.list.items ++ clause ∷ []) (numbered_handlers c.args.numbers.now (handlers clauses)))) (sym more)
    (handlers-grow c.args.places.now c.args.numbers.now (built c.args.builder.now) (built l.builder) (built c.lay_clause.new.builder) l.list.items front
    clause handler l.invariant c.in_ok-lay_clause.ensures))

-- ---- blocks
pub lay_if-returns : goal.lay_if-returns
lay_if-returns t c =
    let held = built c.push_op.new.self in
    let middle = built c.lay_all.new.builder in
    let last = built c.lay_else.new.builder in
    let done = built c.put_op.new.self in
    if-lays c.args.places.now (built c.args.builder.now) held middle last done (numbered_expr c.args.numbers.now c.args.test.now)
    (numbered_statements c.args.numbers.now (statements c.args.body.now))
    (numbered_branch c.args.numbers.now (plain_branch (option_copied c.args.otherwise))) c.in_ok-push_op.ensures
    (subst
    (λ items.
    Lays c.push_op.new.self c.lay_all.new.builder
    (λ code. LaidAll c.args.places.now code (numbered_statements c.args.numbers.now (statements items))))
    c.items.ensures c.in_ok-lay_all.ensures)
    c.in_ok-lay_else.ensures
    (put-same done last _ _ _ _ c.next_place-from.ensures
    (test-same _ _ _ _ c.in_ok-test.ensures (ap (λ n. n + 1) c.next_place-place.ensures)) c.put_op.ensures)

pub lay_while-returns : goal.lay_while-returns
lay_while-returns t c =
    let held = built c.push_op.new.self in
    let middle = built c.lay_all.new.builder in
    let last = built c.push_op-2.new.self in
    let done = built c.put_op.new.self in
    while-lays c.args.places.now (built c.args.builder.now) held middle last done (numbered_expr c.args.numbers.now c.args.test.now)
    (numbered_statements c.args.numbers.now (statements c.args.body.now))
    c.in_ok-push_op.ensures
    (subst
    (λ items.
    Lays c.push_op.new.self c.lay_all.new.builder
    (λ code. LaidAll c.args.places.now code (numbered_statements c.args.numbers.now (statements items))))
    c.items.ensures c.in_ok-lay_all.ensures)
    (push-same last middle _ _ (repeat-same _ _ _ _ c.in_ok-test.ensures c.next_place-from.ensures) c.in_ok-push_op-2.ensures)
    (put-same done last _ _ _ _ c.next_place-from.ensures (jump-same _ _ c.next_place-last.ensures) c.put_op.ensures)

pub lay_try-returns : goal.lay_try-returns
lay_try-returns t c =
    let held = built c.push_op.new.self in
    let middle = built c.lay_all.new.builder in
    let left = built c.push_op-2.new.self in
    let handled = built c.lay_handlers.new.builder in
    let finished = built c.lay_branch.new.builder in
    let resumed = built c.push_op-3.new.self in
    let ranged = built c.push_range.new.self in
    let done = built c.put_op.new.self in
    try-lays c.args.places.now (built c.args.builder.now) held middle left
    (numbered_statements c.args.numbers.now (statements c.args.body.now)) c.in_ok-push_op.ensures
    (subst
    (λ items.
    Lays c.push_op.new.self c.lay_all.new.builder
    (λ code. LaidAll c.args.places.now code (numbered_statements c.args.numbers.now (statements items))))
    c.items.ensures c.in_ok-lay_all.ensures)
    c.in_ok-push_op-2.ensures handled finished resumed ranged done c.in_ok-list.list.items
    (numbered_handlers c.args.numbers.now (handlers c.args.clauses.now))
    (numbered_branch c.args.numbers.now (plain_branch (option_copied c.args.finally))) c.in_ok-list.ensures c.in_ok-lay_branch.ensures c.in_ok-push_op-3.ensures
    (range-same ranged resumed _ _ _ _ c.of.ensures c.next_place-place.ensures c.in_ok-number.ensures.range)
    (put-same done ranged _ _ _ _ c.next_place-from.ensures (guard-same _ _ c.in_ok-number.ensures.number) c.put_op.ensures)

pub lay_with-returns : goal.lay_with-returns
lay_with-returns t c =
    let held = built c.push_op.new.self in
    let middle = built c.lay_all.new.builder in
    let left = built c.push_op-2.new.self in
    let exited = built c.push_op-3.new.self in
    let resumed = built c.push_op-4.new.self in
    let ranged = built c.push_range.new.self in
    let done = built c.put_op.new.self in
    let manager = numbered_manager c.args.numbers.now (plain_manager c.args.manager.now) in
    let name : c.local_of-name.result ≡ numbered_name c.args.numbers.now (rc_str_bytes c.args.name.now) =
    c.local_of-name.ensures ∙ ap (numbered_name c.args.numbers.now) c.as_str.ensures.value in
    let enters = c.in_ok-enter.ensures ∙ ap₂ (enter_op manager) name c.in_ok-number.ensures.number in
    with-lays c.args.places.now (built c.args.builder.now) held middle left
    (numbered_statements c.args.numbers.now (statements c.args.body.now)) c.in_ok-push_op.ensures
    (subst
    (λ items.
    Lays c.push_op.new.self c.lay_all.new.builder
    (λ code. LaidAll c.args.places.now code (numbered_statements c.args.numbers.now (statements items))))
    c.items.ensures c.in_ok-lay_all.ensures)
    c.in_ok-push_op-2.ensures exited resumed ranged done [] manager
    (numbered_name c.args.numbers.now (rc_str_bytes c.args.name.now))
    (push-same exited left _ _ (c.exit_op.ensures ∙ exit-same c.args.numbers.now (plain_manager c.args.manager.now))
    c.in_ok-push_op-3.ensures) c.in_ok-push_op-4.ensures
    (range-same ranged resumed _ _ _ _ (c.of.ensures ∙ c.new.ensures.items) c.next_place-place.ensures c.in_ok-number.ensures.range)
    (put-same done ranged _ _ _ _ c.next_place-from.ensures enters c.put_op.ensures)
