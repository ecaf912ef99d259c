use Rattle.std.proofs.Common.{find, option_map, ap, sym, ◌∙◌}
use Rattle.std.specs.Str.{bytes_eq}
use Rattle.script_naming.specs.Scope.{with_arity}
use Rattle.script_naming.proofs.callees.Callees.arity_of.Goals as goal

pub returns : goal.returns
returns c =
    ap (λ callees. find (λ callee. bytes_eq callee.name c.args.name.now) callees) (sym c.self.view_is)
    ∙ c.self.invariant c.args.name.now
    ∙ ap (λ found. option_map (with_arity c.args.name.now) found) (sym (c.copied.ensures ∙ c.get.ensures.value))
