use Rattle.std.proofs.Common.{List, Result, Ok, refl, subst, ap, sym, ◌∙◌}
use Rattle.std.specs.Rc.{rc_str_bytes}
use Rattle.model_tree.specs.Syntax.{Expr, Target, CreateTask, exprs}
use Rattle.model_text.specs.Naming.{Meant, all_meant, counted, callee_of, create_by}
use Rattle.aio_program.specs.Target.{plain_target}
use Rattle.script_fault.specs.declared.line_fault.LineFault.{LineFault}
use Rattle.script_naming.specs.Gives.{Gives, both_found}
use Rattle.script_naming.proofs.Meanings.{gives-err}
use Rattle.script_naming.proofs.Targets.{handed-gives}
use Rattle.script_naming.proofs.target.create_by.Goals as goal
use Rattle.script_naming.proofs.target.create_by.Goals.{After-both}

abbrev meant : (c : After-both) → Meant Target
meant c =
    let scope = c.args.scope.now in
    let name = rc_str_bytes c.args.name.now in
    create_by scope (callee_of scope name) name (all_meant scope c.args.before.now) (all_meant scope c.args.after.now)

abbrev IsFound : (c : After-both) → Result (Expr × List Expr) LineFault → Type 0
IsFound c found = Gives (λ (pair : Expr × List Expr). CreateTask pair.0 (rc_str_bytes c.args.name.now) (exprs pair.1)) (meant c) found

is_found : (c : After-both) → IsFound c (both_found c.one_argument-group.result c.counted-arguments.result)
is_found c =
    let scope = c.args.scope.now in
    let name = rc_str_bytes c.args.name.now in
    let before = all_meant scope c.args.before.now in
    let after = all_meant scope c.args.after.now in
    handed-gives (λ group arguments. CreateTask group name (exprs arguments)) (λ all. all) scope c.as_str.result.now name c.in-Some.parameters
    (λ callee. create_by scope callee name before after) before (counted c.in-Some.parameters (λ all. all) after)
    c.one_argument-group.result c.counted-arguments.result c.in-Some.ensures c.as_str.ensures.value refl
    c.one_argument-group.ensures.meaning c.one_argument-group.ensures.fault c.counted-arguments.ensures

-- each `before` goes back by one step
pub returns-in_err-group : goal.returns-in_err-group
returns-in_err-group c =
    let after_both = c.before.before.before.before in
    gives-err plain_target (meant after_both) c.from_residual-in_err-group.result c.in_err-group.field-0.0 c.from_residual-in_err-group.ensures.1
    (subst (IsFound after_both) (sym c.in_err-group.ensures) (is_found after_both))

pub returns : goal.returns
returns c =
    subst (IsFound c.before.before) (sym c.in_ok-group.ensures) (is_found c.before.before)
    ∙ ap (λ n. Ok (CreateTask c.in_ok-group.group n (exprs c.in_ok-group.arguments))) (sym c.in_ok-task.ensures.cases)
