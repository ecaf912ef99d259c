use Rattle.std.proofs.Common.{Ok, option_map, ap, sym, ◌∙◌, subst}
use Rattle.std.specs.Rc.{rc_str_bytes}
use Rattle.model_tree.specs.Syntax.{SpawnTask, exprs}
use Rattle.model_text.specs.Naming.{all_meant, spawn_target}
use Rattle.aio_program.specs.Target.{plain_target}
use Rattle.script_naming.specs.Gives.{Fails}
use Rattle.script_naming.proofs.Meanings.{gives-err}
use Rattle.script_naming.proofs.target.spawn_target.Goals as goal

pub returns-in_err-name : goal.returns-in_err-name
returns-in_err-name c =
    let scope = c.args.scope.now in
    let meant = all_meant scope c.args.arguments.now in
    let fault = c.in_err-name.field-0.0 in
    gives-err plain_target (spawn_target scope (option_map rc_str_bytes c.args.bare.now) meant) c.from_residual.result fault c.from_residual.ensures.1
    (subst (λ bare. Fails (spawn_target scope (option_map rc_str_bytes bare) meant) fault) (sym c.in-Some.is)
    (c.in_err-name.ensures.fault (SpawnTask (rc_str_bytes c.in-Some.name))))

pub returns : goal.returns
returns c =
    let scope = c.args.scope.now in
    let meant = all_meant scope c.args.arguments.now in
    ap (λ bare. spawn_target scope (option_map rc_str_bytes bare) meant) c.in-Some.is
    ∙ c.in_ok-name.ensures.arguments (SpawnTask (rc_str_bytes c.in-Some.name))
    ∙ ap (λ n. Ok (SpawnTask n (exprs c.in_ok-name.arguments))) (sym c.in_ok-name.ensures.name)
