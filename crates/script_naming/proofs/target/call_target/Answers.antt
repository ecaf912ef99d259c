use Rattle.std.proofs.Common.{Ok, ap, sym, ◌∙◌}
use Rattle.std.specs.Rc.{rc_str_bytes}
use Rattle.model_tree.specs.Syntax.{Call, exprs}
use Rattle.model_text.specs.Naming.{all_meant, callee_of, passed}
use Rattle.aio_program.specs.Target.{plain_target}
use Rattle.script_naming.proofs.Meanings.{gives-err}
use Rattle.script_naming.proofs.target.call_target.Goals as goal

pub returns-in_err-name : goal.returns-in_err-name
returns-in_err-name c =
    let scope = c.args.scope.now in
    let name = rc_str_bytes c.args.name.now in
    gives-err plain_target
    (passed scope (callee_of scope name) (Call name)
    (all_meant scope c.args.arguments.now)) c.from_residual.result c.in_err-name.field-0.0 c.from_residual.ensures.1
    (c.in_err-name.ensures.fault (Call name))

pub returns : goal.returns
returns c =
    c.in_ok-name.ensures.arguments (Call (rc_str_bytes c.args.name.now))
    ∙ ap (λ n. Ok (Call n (exprs c.in_ok-name.arguments))) (sym c.in_ok-name.ensures.name)
