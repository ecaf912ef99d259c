use Rattle.std.proofs.Common.{rules, ◌≡◌, false, ◌&&◌, not, ap, sym, ◌∙◌}
use Rattle.std.specs.List.{list_any}
use Rattle.std.specs.Rc.{rc_str_bytes}
use Rattle.std.specs.Str.{bytes_eq}
use Rattle.model_tree.specs.Known.{is_taken}
use Rattle.script_naming.proofs.head.is_free.Goals as goal

pub returns-then-not-is_taken : goal.returns-then-not-is_taken
returns-then-not-is_taken c = λ names holds.
    let name = rc_str_bytes c.args.name.now in
    let found : c.is_taken.result ≡ false = search rules in
    let taken : is_taken name ≡ false = ap is_taken (sym c.as_str-2.ensures.value) ∙ sym c.is_taken.ensures ∙ found in
    let earlier : c.contains-is_earlier.result ≡ list_any (bytes_eq name) names =
    c.contains-is_earlier.ensures ∙ holds c.as_str.result.now ∙ ap (λ n. list_any (bytes_eq n) names) c.as_str.ensures.value in
    ap not earlier ∙ ap (λ b. not b && not (list_any (bytes_eq name) names)) (sym taken)
