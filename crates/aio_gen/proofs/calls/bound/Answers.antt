use Rattle.std.proofs.Common.{◌≡◌, suc, ◌+◌, ◌++◌, [], ◌∷◌, length, length-append, sym, ap, ap₂, ◌∙◌, zero-add, arith}
use Rattle.model_value.specs.Value.{Value}
use Rattle.model_says.specs.Variables.{Env, bound}
use Rattle.algorithm_locals.specs.Numbered.{local, locals, holding}
use Rattle.algorithm_locals.proofs.Coroutines.{locals-more, length-locals}
use Rattle.aio_gen.specs.Plain.{value_at}
use Rattle.aio_gen.proofs.Values.{bound-push, holding-push}
use Rattle.aio_gen.proofs.calls.bound.Goals as goal

pub loop-number-preserved : goal.loop-number-preserved
loop-number-preserved c =
    let l = c.loop-number in
    let values = c.args.values.now in
    let number = l.number in
    let value = c.in_ok-value_at.field-0 in
    let items = c.in_ok-push.ensures.items in
    let next : suc number ≡ number + 1 = omega arith in
    let last : value ≡ value_at values (length (locals 0 number)) =
    c.in_ok-value_at.ensures ∙ ap (value_at values) (sym (length-locals 0 number)) in
    record {
      env =
          ap (holding 0) items
          ∙ holding-push 0 l.held.items value
          ∙ ap₂ (λ n (v : Value). holding 0 l.held.items ++ record { name = local n; value = v } ∷ [])
          (zero-add (length l.held.items) ∙ l.invariant.long ∙ sym (zero-add number)) last
          ∙ ap (λ (env : Env). env ++ record { name = local (0 + number); value = value_at values (length (locals 0 number)) } ∷ [])
          l.invariant.env
          ∙ sym (bound-push (locals 0 number) values (local (0 + number)))
          ∙ ap (λ names. bound names values) (sym (locals-more 0 number) ∙ ap (locals 0) next);
      in_range = omega (arith, c.loop-number-test.true);
      long =
          ap length items ∙ length-append l.held.items (value ∷ []) ∙ ap (λ n. n + 1) l.invariant.long;
    }
