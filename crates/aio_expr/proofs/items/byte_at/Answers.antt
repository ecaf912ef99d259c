use Rattle.std.proofs.Common.{Ok, Some, map, w64, to_z-of_z, sym, ◌∙◌, ap, FitsSigned}
use Rattle.std.proofs.lemmas.List.{length-map}
use Rattle.std.proofs.Math.ListN.{get_or-map}
use Rattle.model_value.specs.Value.{Int}
use Rattle.model_says.specs.Operations.{found, byte_value}
use Rattle.aio_expr.specs.Places.{place_of}
use Rattle.aio_expr.proofs.Places.{item_at-some, item_at-none}
use Rattle.aio_expr.proofs.items.byte_at.Goals as goal

pub returns-in-Some : goal.returns-in-Some
returns-in-Some c =
    let place = (simp (to_z-of_z c.ranges.index) at c.place_of.ensures) in
    let bytes = map byte_value c.args.bytes.now in
    let long = ap (λ n. place_of n c.args.index) (length-map c.args.bytes.now byte_value) in
    let item = item_at-some bytes c.args.index c.in-Some.place (byte_value 0) (long ∙ sym place ∙ c.in-Some.is) in
    let fits : FitsSigned w64 c.from.result = record { sfits = c.from.type_inv } in
    ap found (item ∙ ap Some (get_or-map byte_value c.args.bytes.now c.in-Some.place 0))
    ∙ ap (λ z. Ok (Int z)) (sym c.from.ensures ∙ sym (to_z-of_z fits))
    ∙ ap Ok (sym c.int.ensures)

pub returns-in-None : goal.returns-in-None
returns-in-None c =
    let place = (simp (to_z-of_z c.ranges.index) at c.place_of.ensures) in
    let long = ap (λ n. place_of n c.args.index) (length-map c.args.bytes.now byte_value) in
    ap found (item_at-none (map byte_value c.args.bytes.now) c.args.index (long ∙ sym place ∙ c.in-None.is))
