-- What was laid step by step is a statement.
use Rattle.std.proofs.Common.{◌≡◌, ℕ, ◌+◌, ◌<◌, List, [], ◌∷◌, ◌++◌, length, Option, Some, None, refl, sym, ◌∙◌, ap, ap₂, subst, arith}
use Rattle.std.proofs.lemmas.List.{length-set}
use Rattle.model_tree.specs.Syntax.{Name, Expr, Target, Await, Call, Ask, SpawnTask, CreateTask, ListenAt, Manager, GroupBlock, TimeoutBlock, Statement, Assign}
use Rattle.model_tree.specs.Syntax.{Yield, YieldFrom, Print, Raise, Return, Pass, If, While, Try, With, Statements, Branch, Handlers, Handler, statements}
use Rattle.model_tree.specs.Syntax.{handlers, Program}
use Rattle.algorithm_flat.specs.declared.op.Op.TheVariants as op
use Rattle.algorithm_flat.specs.Ops.{Op, Clause, Range, CoroutineCode, Has, Covers}
use Rattle.algorithm_flat.specs.Laid.{target_op, enter_op, exit_op, LaidOne, Laid, LaidAll, LaidBranch, LaidHandlers}
use Rattle.algorithm_locals.specs.Numbered.{numbered_manager, numbered_statement, numbered_statements, numbered_handlers}
use Rattle.aio_flat.specs.Grows.{Grows, with_op, with_range, put_op, jump_of, GoesForward}
use Rattle.aio_flat.specs.Built.{single_op, LaidElse, LaidClause, numbered_handler}
use Rattle.aio_flat.proofs.Grows.{length-push, some-is, grows-op, grows-range, grows-so, grows-then, grows-put}

-- what stands at the place of an operation that was pushed first
pushed-length : (b c : CoroutineCode) (operation : Op) → c ≡ with_op operation b → length c.ops ≡ length b.ops + 1
pushed-length b c operation is = ap (λ (x : CoroutineCode). length x.ops) is ∙ length-push b.ops operation

put-length : (b c : CoroutineCode) (at : ℕ) (operation : Op) → c ≡ put_op at operation b → length c.ops ≡ length b.ops
put-length b c at operation is = ap (λ (x : CoroutineCode). length x.ops) is ∙ length-set b.ops at operation

no-jump : (at : ℕ) (operation : Op) → jump_of operation ≡ None → GoesForward at operation
no-jump at operation none to is = let never : None ≡ Some to = sym none ∙ is in cc

-- ---- single operations
target-none : (program : Program) (into : Option Name) (target : Target) → jump_of (target_op program into target) ≡ None
target-none program into (Await name) = refl
target-none program into (Call coroutine arguments) = refl
target-none program into (Ask request arguments) = refl
target-none program into (SpawnTask coroutine arguments) = refl
target-none program into (CreateTask group coroutine arguments) = refl
target-none program into (ListenAt port handler) = refl

pub single-lays : (program : Program) (b c : CoroutineCode) (statement : Statement) (operation : Op) →
    Some operation ≡ single_op program statement → c ≡ with_op operation b →
    Grows b c (λ code. Laid program code statement (length b.ops) (length c.ops))
single-lays program b c statement operation single is =
    subst (λ x. Grows b x (λ code. Laid program code statement (length b.ops) (length c.ops))) (sym is)
    (grows-so b (with_op operation b) _ _ (λ code has. by_statement statement code single (has, pushed-length b c operation is))
    (grows-op b operation (none statement single)))
  where
    is_one : (found : Op) (code : CoroutineCode) → Some operation ≡ Some found → LaidOne program code operation (length b.ops) (length c.ops) →
        LaidOne program code found (length b.ops) (length c.ops)
    is_one found code same laid = subst (λ o. LaidOne program code o (length b.ops) (length c.ops)) (some-is operation found same) laid

    by_statement : (s : Statement) (code : CoroutineCode) → Some operation ≡ single_op program s →
        LaidOne program code operation (length b.ops) (length c.ops) → Laid program code s (length b.ops) (length c.ops)
    by_statement (Assign name value) code single laid = is_one (op.Assign name value) code single laid
    by_statement Yield code single laid = is_one op.Pause code single laid
    by_statement (YieldFrom into target) code single laid = is_one (target_op program into target) code single laid
    by_statement (Print items) code single laid = is_one _ code single laid
    by_statement (Raise fault) code single laid = is_one (op.Raise fault) code single laid
    by_statement (Return value) code single laid = is_one (op.Return value) code single laid
    by_statement Pass code single laid = is_one op.Pass code single laid
    by_statement (If test body otherwise) code single laid = cc
    by_statement (While test body) code single laid = cc
    by_statement (Try body clauses finally) code single laid = cc
    by_statement (With manager name body) code single laid = cc

    is_none : (found : Op) → Some operation ≡ Some found → jump_of found ≡ None → jump_of operation ≡ None
    is_none found same none = ap jump_of (some-is operation found same) ∙ none

    none : (s : Statement) → Some operation ≡ single_op program s → jump_of operation ≡ None
    none (Assign name value) single = is_none (op.Assign name value) single refl
    none Yield single = is_none op.Pause single refl
    none (YieldFrom into target) single = is_none (target_op program into target) single (target-none program into target)
    none (Print items) single = is_none _ single refl
    none (Raise fault) single = is_none (op.Raise fault) single refl
    none (Return value) single = is_none (op.Return value) single refl
    none Pass single = is_none op.Pass single refl
    none (If test body otherwise) single = cc
    none (While test body) single = cc
    none (Try body clauses finally) single = cc
    none (With manager name body) single = cc

module _ (program : Program) where
  abbrev AllFrom : Statements → CoroutineCode → CoroutineCode → CoroutineCode → Type 0
  AllFrom body b c code = LaidAll program code body (length b.ops) (length c.ops)

  abbrev BranchFrom : Branch → CoroutineCode → CoroutineCode → CoroutineCode → Type 0
  BranchFrom statements b c code = LaidBranch program code statements (length b.ops) (length c.ops)

  -- ---- `if`
  -- a place is held, a branch is laid, and a jump past it is put
  pub else-lays : (b held last done : CoroutineCode) (otherwise : Branch) → held ≡ with_op op.Pass b →
      Grows held last (BranchFrom otherwise held last) → done ≡ put_op (length b.ops) (op.Jump (length last.ops)) last →
      Grows b done (λ code. LaidElse program code otherwise (length b.ops) (length done.ops))
  else-lays b held last done otherwise holds laid puts =
      let from = pushed-length b held op.Pass holds in
      let long = put-length last done (length b.ops) (op.Jump (length last.ops)) puts in
      let further : length b.ops < length last.ops = omega (arith, from, laid.more_ops) in
      subst (λ x. Grows b x (λ code. LaidElse program code otherwise (length b.ops) (length done.ops))) (sym puts)
      (grows-so b (put_op (length b.ops) (op.Jump (length last.ops)) last) _ _
      (λ code all. (
        subst (λ n. Has code (length b.ops) (op.Jump n)) (sym long) all.0,
        subst (λ n. LaidBranch program code otherwise n (length done.ops)) from
            (subst (λ n. LaidBranch program code otherwise (length held.ops) n) (sym long) all.1),
      ))
      (grows-put b last (op.Jump (length last.ops)) (BranchFrom otherwise held last)
      (λ to is. subst (λ n. length b.ops < n) (some-is (length last.ops) to is) further)
      (subst (λ x. Grows x last (BranchFrom otherwise held last)) holds laid)))

  pub if-lays : (b held middle last done : CoroutineCode) (test : Expr) (body : Statements) (otherwise : Branch) →
      held ≡ with_op op.Pass b → Grows held middle (AllFrom body held middle) →
      Grows middle last (λ code. LaidElse program code otherwise (length middle.ops) (length last.ops)) →
      done ≡ put_op (length b.ops) (op.Test test (length middle.ops + 1)) last →
      Grows b done (λ code. Laid program code (If test body otherwise) (length b.ops) (length done.ops))
  if-lays b held middle last done test body otherwise holds laid further puts =
      let from = pushed-length b held op.Pass holds in
      let operation : Op = op.Test test (length middle.ops + 1) in
      let long = put-length last done (length b.ops) operation puts in
      subst (λ x. Grows b x (λ code. Laid program code (If test body otherwise) (length b.ops) (length done.ops))) (sym puts)
      (grows-so b (put_op (length b.ops) operation last) _ _
      (λ code all. (
        length middle.ops,
        all.0,
        subst (λ n. LaidAll program code body n (length middle.ops)) from all.1.0,
        subst (λ n. Has code (length middle.ops) (op.Jump n)) (sym long) all.1.1.0,
        subst (λ n. LaidBranch program code otherwise (length middle.ops + 1) n) (sym long) all.1.1.1,
      ))
      (grows-put b last operation _ (no-jump (length b.ops) operation refl)
      (grows-then (with_op op.Pass b) middle last (AllFrom body held middle)
      (λ code. LaidElse program code otherwise (length middle.ops) (length last.ops))
      (subst (λ x. Grows x middle (AllFrom body held middle)) holds laid) further)))

  -- ---- `while`
  pub while-lays : (b held middle last done : CoroutineCode) (test : Expr) (body : Statements) →
      held ≡ with_op op.Pass b → Grows held middle (AllFrom body held middle) →
      last ≡ with_op (op.Repeat test (length b.ops + 1)) middle →
      done ≡ put_op (length b.ops) (op.Jump (length middle.ops)) last →
      Grows b done (λ code. Laid program code (While test body) (length b.ops) (length done.ops))
  while-lays b held middle last done test body holds laid tests puts =
      let from = pushed-length b held op.Pass holds in
      let repeat : Op = op.Repeat test (length b.ops + 1) in
      let long = put-length last done (length b.ops) (op.Jump (length middle.ops)) puts in
      let end = pushed-length middle last repeat tests in
      let further : length b.ops < length middle.ops = omega (arith, from, laid.more_ops) in
      subst (λ x. Grows b x (λ code. Laid program code (While test body) (length b.ops) (length done.ops))) (sym puts)
      (grows-so b (put_op (length b.ops) (op.Jump (length middle.ops)) last) _ _
      (λ code all. (
        length middle.ops,
        all.0,
        subst (λ n. LaidAll program code body n (length middle.ops)) from all.1.0,
        all.1.1,
        long ∙ end,
      ))
      (grows-put b last (op.Jump (length middle.ops)) _
      (λ to is. subst (λ n. length b.ops < n) (some-is (length middle.ops) to is) further)
      (grows-then (with_op op.Pass b) middle last (AllFrom body held middle) (λ code. Has code (length middle.ops) repeat)
      (subst (λ x. Grows x middle (AllFrom body held middle)) holds laid)
      (subst (λ x. Grows middle x (λ code. Has code (length middle.ops) repeat)) (sym tests) (grows-op middle repeat refl)))))

  -- ---- `try`
  module _ (b held middle left : CoroutineCode) (body : Statements) (holds : held ≡ with_op op.Pass b)
      (laid : Grows held middle (AllFrom body held middle)) (leaves : left ≡ with_op op.Leave middle) where
    -- the body of a block, and its end
    abbrev Covered : CoroutineCode → Type 0
    Covered code = AllFrom body held middle code × Has code (length middle.ops) op.Leave

    covered-grows : Grows (with_op op.Pass b) left Covered
    covered-grows =
        grows-then (with_op op.Pass b) middle left (AllFrom body held middle) (λ code. Has code (length middle.ops) op.Leave)
        (subst (λ x. Grows x middle (AllFrom body held middle)) holds laid)
        (subst (λ x. Grows middle x (λ code. Has code (length middle.ops) op.Leave)) (sym leaves) (grows-op middle op.Leave refl))

    pub try-lays : (handled finished resumed ranged done : CoroutineCode) (list : List Clause) (clauses : Handlers) (finally : Branch) →
        Grows left handled (λ code. LaidHandlers program code list clauses) →
        Grows handled finished (BranchFrom finally handled finished) → resumed ≡ with_op op.Resume finished →
        ranged ≡ with_range (record { clauses = list; finally = length handled.ops }) resumed →
        done ≡ put_op (length b.ops) (op.Guard (length resumed.ranges)) ranged →
        Grows b done (λ code. Laid program code (Try body clauses finally) (length b.ops) (length done.ops))
    try-lays handled finished resumed ranged done list clauses finally handles finishes resumes ranges puts =
        let range : Range = record { clauses = list; finally = length handled.ops } in
        let operation : Op = op.Guard (length resumed.ranges) in
        let from = pushed-length b held op.Pass holds in
        let long = put-length ranged done (length b.ops) operation puts in
        let same = ap (λ (x : CoroutineCode). length x.ops) ranges in
        let end = pushed-length finished resumed op.Resume resumes in
        subst (λ x. Grows b x (λ code. Laid program code (Try body clauses finally) (length b.ops) (length done.ops))) (sym puts)
        (grows-so b (put_op (length b.ops) operation ranged) _ _
        (λ code all. (
          length resumed.ranges,
          length middle.ops,
          range,
          all.0,
          subst (λ n. LaidAll program code body n (length middle.ops)) from all.1.0.0.0.0.0,
          all.1.0.0.0.0.1,
          (
            all.1.1,
            all.1.0.0.0.1,
            (length finished.ops, all.1.0.0.1, all.1.0.1, long ∙ same ∙ end),
          ),
        ))
        (grows-put b ranged operation _ (no-jump (length b.ops) operation refl)
        (grows-then (with_op op.Pass b) resumed ranged _ (λ code. Covers code (length resumed.ranges) range)
        (grows-then (with_op op.Pass b) finished resumed _ (λ code. Has code (length finished.ops) op.Resume)
        (grows-then (with_op op.Pass b) handled finished _ (BranchFrom finally handled finished)
        (grows-then (with_op op.Pass b) left handled Covered (λ code. LaidHandlers program code list clauses)
        covered-grows handles) finishes)
        (subst (λ x. Grows finished x (λ code. Has code (length finished.ops) op.Resume)) (sym resumes)
        (grows-op finished op.Resume refl)))
        (subst (λ x. Grows resumed x (λ code. Covers code (length resumed.ranges) range)) (sym ranges)
        (grows-range resumed range)))))

    -- ---- `with`
    exit-none : (manager : Manager) → jump_of (exit_op manager) ≡ None
    exit-none GroupBlock = refl
    exit-none (TimeoutBlock delay) = refl

    enter-none : (manager : Manager) (name : Name) (number : ℕ) → jump_of (enter_op manager name number) ≡ None
    enter-none GroupBlock name number = refl
    enter-none (TimeoutBlock delay) name number = refl

    pub with-lays : (exited resumed ranged done : CoroutineCode) (list : List Clause) (manager : Manager) (name : Name) →
        exited ≡ with_op (exit_op manager) left → resumed ≡ with_op op.Resume exited →
        ranged ≡ with_range (record { clauses = list; finally = length left.ops }) resumed →
        done ≡ put_op (length b.ops) (enter_op manager name (length resumed.ranges)) ranged →
        Grows b done (λ code. Laid program code (With manager name body) (length b.ops) (length done.ops))
    with-lays exited resumed ranged done list manager name exits resumes ranges puts =
        let range : Range = record { clauses = list; finally = length left.ops } in
        let operation : Op = enter_op manager name (length resumed.ranges) in
        let from = pushed-length b held op.Pass holds in
        let long = put-length ranged done (length b.ops) operation puts in
        let same = ap (λ (x : CoroutineCode). length x.ops) ranges in
        let next = pushed-length left exited (exit_op manager) exits in
        let end = pushed-length exited resumed op.Resume resumes in
        subst (λ x. Grows b x (λ code. Laid program code (With manager name body) (length b.ops) (length done.ops))) (sym puts)
        (grows-so b (put_op (length b.ops) operation ranged) _ _
        (λ code all. (
          length resumed.ranges,
          length middle.ops,
          range,
          all.0,
          subst (λ n. LaidAll program code body n (length middle.ops)) from all.1.0.0.0.0,
          all.1.0.0.0.1,
          (
            all.1.1,
            all.1.0.0.1,
            subst (λ n. Has code n op.Resume) next all.1.0.1,
            long ∙ same ∙ end ∙ ap (λ n. n + 1) next,
          ),
        ))
        (grows-put b ranged operation _ (no-jump (length b.ops) operation (enter-none manager name (length resumed.ranges)))
        (grows-then (with_op op.Pass b) resumed ranged _ (λ code. Covers code (length resumed.ranges) range)
        (grows-then (with_op op.Pass b) exited resumed _ (λ code. Has code (length exited.ops) op.Resume)
        (grows-then (with_op op.Pass b) left exited Covered (λ code. Has code (length left.ops) (exit_op manager))
        covered-grows
        (subst (λ x. Grows left x (λ code. Has code (length left.ops) (exit_op manager))) (sym exits)
        (grows-op left (exit_op manager) (exit-none manager))))
        (subst (λ x. Grows exited x (λ code. Has code (length exited.ops) op.Resume)) (sym resumes)
        (grows-op exited op.Resume refl)))
        (subst (λ x. Grows resumed x (λ code. Covers code (length resumed.ranges) range)) (sym ranges)
        (grows-range resumed range)))))

-- ---- the same operation at the same place, said in other words
pub put-same : (done last : CoroutineCode) (at from : ℕ) (operation other : Op) → at ≡ from → operation ≡ other →
    done ≡ put_op at operation last → done ≡ put_op from other last
put-same done last at from operation other places operations is =
    is ∙ ap₂ (λ n o. put_op n o last) places operations

pub push-same : (done last : CoroutineCode) (operation other : Op) → operation ≡ other → done ≡ with_op operation last →
    done ≡ with_op other last
push-same done last operation other operations is = is ∙ ap (λ o. with_op o last) operations

pub test-same : (test other : Expr) (at from : ℕ) → test ≡ other → at ≡ from → (let o : Op = op.Test test at in o) ≡ op.Test other from
test-same test other at from tests places = λ i. op.Test (tests i) (places i)

pub jump-same : (at from : ℕ) → at ≡ from → (let o : Op = op.Jump at in o) ≡ op.Jump from
jump-same at from places = λ i. op.Jump (places i)

pub guard-same : (number other : ℕ) → number ≡ other → (let o : Op = op.Guard number in o) ≡ op.Guard other
guard-same number other numbers = λ i. op.Guard (numbers i)

pub repeat-same : (test other : Expr) (at from : ℕ) → test ≡ other → at ≡ from →
    (let o : Op = op.Repeat test (at + 1) in o) ≡ op.Repeat other (from + 1)
repeat-same test other at from tests places = λ i. op.Repeat (tests i) (places i + 1)

pub range-same : (done last : CoroutineCode) (list other : List Clause) (at from : ℕ) → list ≡ other → at ≡ from →
    done ≡ with_range (record { clauses = list; finally = at }) last →
    done ≡ with_range (record { clauses = other; finally = from }) last
range-same done last list other at from lists places is =
    is ∙ ap₂ (λ l n. with_range (record { clauses = l; finally = n }) last) lists places

pub exit-same : (names : List Name) (manager : Manager) → exit_op manager ≡ exit_op (numbered_manager names manager)
exit-same names GroupBlock = refl
exit-same names (TimeoutBlock delay) = refl

-- ---- one more of a list
module _ (program : Program) (names : List Name) (code : CoroutineCode) where
  abbrev RowLaid : List Statement → ℕ → ℕ → Type 0
  RowLaid items from to = LaidAll program code (numbered_statements names (statements items)) from to

  abbrev ClausesLaid : List Clause → List Handler → Type 0
  ClausesLaid list clauses = LaidHandlers program code list (numbered_handlers names (handlers clauses))

  all-push : (items : List Statement) (item : Statement) (from middle to : ℕ) → RowLaid items from middle →
      Laid program code (numbered_statement names item) middle to → RowLaid (items ++ item ∷ []) from to
  all-push [] item from middle to laid next =
      (to, subst (λ n. Laid program code (numbered_statement names item) n to) laid next, refl)
  all-push (first ∷ items) item from middle to laid next =
      (laid.0, laid.1, all-push items item laid.0 middle to laid.2 next)

  handlers-push : (list : List Clause) (clauses : List Handler) (clause : Clause) (handler : Handler) →
      ClausesLaid list clauses → LaidClause program code clause (numbered_handler names handler) →
      ClausesLaid (list ++ clause ∷ []) (clauses ++ handler ∷ [])
  handlers-push list [] clause handler none laid = (
    clause.at,
    laid.0,
    [],
    ap (λ l. l ++ clause ∷ []) none
        ∙ ap₂ (λ kind name. record { kind = kind; name = name; at = clause.at } ∷ []) laid.1 laid.2,
    laid.3,
    laid.4,
    refl,
  )
  handlers-push list (first ∷ clauses) clause handler all laid = (
    all.0,
    all.1,
    all.2 ++ clause ∷ [],
    ap (λ l. l ++ clause ∷ []) all.3,
    all.4,
    all.5,
    handlers-push all.2 clauses clause handler all.6 laid,
  )

module _ (program : Program) (names : List Name) (b middle last : CoroutineCode) where
  pub all-grows : (items : List Statement) (item : Statement) →
      Grows b middle (λ code. RowLaid program names code items (length b.ops) (length middle.ops)) →
      Grows middle last (λ code. Laid program code (numbered_statement names item) (length middle.ops) (length last.ops)) →
      Grows b last (λ code. RowLaid program names code (items ++ item ∷ []) (length b.ops) (length last.ops))
  all-grows items item laid next =
      grows-so b last _ _
      (λ code both. all-push program names code items item (length b.ops) (length middle.ops) (length last.ops) both.0 both.1)
      (grows-then b middle last _ _ laid next)

  pub handlers-grow : (list : List Clause) (clauses : List Handler) (clause : Clause) (handler : Handler) →
      Grows b middle (λ code. ClausesLaid program names code list clauses) →
      Grows middle last (λ code. LaidClause program code clause (numbered_handler names handler)) →
      Grows b last (λ code. ClausesLaid program names code (list ++ clause ∷ []) (clauses ++ handler ∷ []))
  handlers-grow list clauses clause handler laid next =
      grows-so b last _ _ (λ code both. handlers-push program names code list clauses clause handler both.0 both.1)
      (grows-then b middle last _ _ laid next)
