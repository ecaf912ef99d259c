use Rattle.std.proofs.Common.{◌≡◌, false, option_map, ap, sym, ◌∙◌, subst}
use Rattle.std.specs.Str.{bytes_eq}
use Rattle.std.specs.Rc.{rc_str_bytes}
use Rattle.model_tree.specs.Syntax.{Call}
use Rattle.model_tree.specs.Known.{spawn_text, create_text, listen_text}
use Rattle.model_text.specs.Naming.{all_meant, callee_of, passed}
use Rattle.aio_program.specs.Target.{plain_target}
use Rattle.script_naming.specs.Gives.{Gives}
use Rattle.script_naming.proofs.Targets.{called-other}
use Rattle.script_naming.proofs.target.coroutine_target.Goals as goal

pub returns-else-eq-3 : goal.returns-else-eq-3
returns-else-eq-3 c =
    let scope = c.args.scope.now in
    let name = rc_str_bytes c.args.name.now in
    let before = c.args.arguments.now.before.items in
    let spelled = c.as_str-word.ensures.value in
    let spawn : bytes_eq name spawn_text ≡ false = ap (λ n. bytes_eq n spawn_text) (sym spelled) ∙ sym c.eq.ensures ∙ c.if-eq.false in
    let create : bytes_eq name create_text ≡ false = ap (λ n. bytes_eq n create_text) (sym spelled) ∙ sym c.eq-else-eq.ensures ∙ c.if-eq-2.false in
    let listen : bytes_eq name listen_text ≡ false = ap (λ n. bytes_eq n listen_text) (sym spelled) ∙ sym c.eq-else-eq-2.ensures ∙ c.if-eq-3.false in
    subst (λ meant. Gives plain_target meant c.call_target.result)
    (ap (λ l. passed scope (callee_of scope name) (Call name) (all_meant scope l)) c.as_slice-before.ensures.value
    ∙ sym (called-other scope name (all_meant scope before) (option_map rc_str_bytes c.args.arguments.now.bare)
    (all_meant scope c.args.arguments.now.after.items) spawn create listen))
    c.call_target.ensures
