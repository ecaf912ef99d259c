use Rattle.std.specs.Rc.{rc_str_bytes}
use Rattle.model_tree.specs.Syntax.{Exprs, Target}
use Rattle.model_text.specs.Naming.{all_meant, callee_of, passed}
use Rattle.script_naming.specs.Gives.{Fails}
use Rattle.script_naming.proofs.Meanings.{if-err}
use Rattle.script_naming.proofs.Targets.{callee-known, passed-fails}
use Rattle.script_naming.proofs.target.passed.Goals as goal

pub returns-in_err-arguments-clause-fault : goal.returns-in_err-arguments-clause-fault
returns-in_err-arguments-clause-fault c =
    let scope = c.args.scope.now in
    let name = rc_str_bytes c.args.name.now in
    let meant = all_meant scope c.args.arguments.now in
    let known = callee-known scope c.as_str.result.now name c.in-Some.parameters c.in-Some.ensures c.as_str.ensures.value in
    let fault = c.in_err-arguments.field-0.0 in
    if-err c.from_residual.result fault (λ f. (target : Exprs → Target) → Fails (passed scope (callee_of scope name) target meant) f) c.from_residual.ensures.1
    (λ target. passed-fails scope name c.in-Some.parameters meant fault target known c.in_err-arguments.ensures)
