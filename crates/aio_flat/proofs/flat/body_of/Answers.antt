use Rattle.std.proofs.Common.{rules, ◌≡◌, List, length, refl, ap, subst, ◌∙◌}
use Rattle.model_tree.specs.Syntax.{Name, Statement, Statements, statements}
use Rattle.model_says.specs.Variables.{variables_of}
use Rattle.algorithm_locals.specs.Numbered.{locals, numbered_statements}
use Rattle.algorithm_flat.specs.Ops.{CoroutineCode}
use Rattle.algorithm_flat.specs.Laid.{LaidAll}
use Rattle.aio_flat.specs.Built.{built}
use Rattle.aio_flat.proofs.flat.body_of.Goals as goal

pub returns : goal.returns
returns c =
    let laid = built c.lay_all.new.builder in
    let code : CoroutineCode = record laid { variables = locals 0 c.count.result } in
    let program = c.args.places.now in
    let grows = c.in_ok-lay_all.ensures in
    let start : length c.new-builder.result.ops.items ≡ 0 = ap (λ (body : CoroutineCode). length body.ops) c.new-builder.ensures in
    let body : statements c.items.result.now ≡ c.args.coroutine.now.body =
    ap (λ (items : List Statement). statements items) c.items.ensures ∙ c.body.ensures in
    let variables : c.in_ok-numbers.numbers ≡ variables_of c.args.coroutine.now =
    c.in_ok-numbers.ensures ∙ c.as_slice.ensures.value ∙ c.in_ok-names.ensures in
    record {
      laid =
          subst (λ (names : List Name). LaidAll program code (numbered_statements names c.args.coroutine.now.body) 0 (length code.ops)) variables
          (subst (λ (items : Statements). LaidAll program code (numbered_statements c.in_ok-numbers.numbers items) 0 (length code.ops)) body
          (subst (λ n. LaidAll program code (numbered_statements c.in_ok-numbers.numbers (statements c.items.result.now)) n (length code.ops)) start
          (grows.facts code (record { ops = λ place low high. refl; ranges = λ number low high. refl }))));
      variables = c.count.ensures ∙ ap (λ (l : List Name). length l) variables;
      name = search rules;
    }
