use Rattle.std.proofs.Common.{Result, refl, subst, sym, nat_eq}
use Rattle.std.specs.declared.rc.RcStr.{RcStr}
use Rattle.std.specs.Rc.{rc_str_bytes}
use Rattle.std.proofs.Common.{Global}
use Rattle.model_tree.specs.Syntax.{Expr, Target, ListenAt}
use Rattle.model_text.specs.Naming.{Meant, all_meant, both, counted, if_arity, callee_of, listen_by}
use Rattle.aio_program.specs.Target.{plain_target}
use Rattle.script_fault.specs.declared.line_fault.LineFault.{LineFault}
use Rattle.script_naming.specs.Gives.{Gives, both_found}
use Rattle.script_naming.proofs.Meanings.{gives-err}
use Rattle.script_naming.proofs.Targets.{handed-gives}
use Rattle.script_naming.proofs.target.listen_by.Goals as goal
use Rattle.script_naming.proofs.target.listen_by.Goals.{After-both}

abbrev meant : (c : After-both) → Meant Target
meant c =
    let scope = c.args.scope.now in
    let name = rc_str_bytes c.args.name.now in
    listen_by scope (callee_of scope name) name (all_meant scope c.args.before.now) (all_meant scope c.args.after.now)

abbrev IsFound : (c : After-both) → Result (Expr × RcStr Global) LineFault → Type 0
IsFound c found = Gives (λ (pair : Expr × RcStr Global). ListenAt pair.0 (rc_str_bytes pair.1)) (meant c) found

is_found : (c : After-both) → IsFound c (both_found c.one_argument-port.result c.handler_of-handler.result)
is_found c =
    let scope = c.args.scope.now in
    let name = rc_str_bytes c.args.name.now in
    let before = all_meant scope c.args.before.now in
    let after = all_meant scope c.args.after.now in
    handed-gives ListenAt rc_str_bytes scope c.as_str.result.now name c.in-Some.parameters
    (λ callee. listen_by scope callee name before after) before
    (both (λ none handler. handler) (counted 0 (λ all. all) after) (if_arity (nat_eq c.in-Some.parameters 1) name))
    c.one_argument-port.result c.handler_of-handler.result c.in-Some.ensures c.as_str.ensures.value refl
    c.one_argument-port.ensures.meaning c.one_argument-port.ensures.fault c.handler_of-handler.ensures

-- each `before` goes back by one step
pub returns-in_err-port : goal.returns-in_err-port
returns-in_err-port c =
    let after_both = c.before.before.before in
    gives-err plain_target (meant after_both) c.from_residual.result c.in_err-port.field-0.0 c.from_residual.ensures.1
    (subst (IsFound after_both) (sym c.in_err-port.ensures) (is_found after_both))

pub returns : goal.returns
returns c = subst (IsFound c.before.before) (sym c.in_ok-port.ensures) (is_found c.before.before)
