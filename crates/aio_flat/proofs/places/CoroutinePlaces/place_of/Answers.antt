use Rattle.std.proofs.Common.{rules, ◌≡◌, sym, ap, ◌∙◌}
use Rattle.model_tree.specs.Syntax.{Program}
use Rattle.model_says.specs.Requests.{place_of}
use Rattle.algorithm_locals.proofs.Coroutines.{place-same}
use Rattle.aio_flat.proofs.places.CoroutinePlaces.place_of.Goals as goal

pub returns : goal.returns
returns c =
    let program = c.self.inside.program.now in
    let name = c.args.name.now in
    let by_names : c.unwrap_or.result ≡ place_of program name = search rules in
    by_names ∙ sym (place-same program name) ∙ ap (λ (p : Program). place_of p name) c.self.view_is
