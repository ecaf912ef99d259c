use Rattle.std.proofs.Common.{◌≡◌, Some, None, w64, to_z, of_z, sym, ap, subst, ◌∙◌}
use Rattle.std.proofs.lemmas.Int.{to_z-of_z}
use Rattle.std.proofs.lemmas.Result.{IfOk-weaker}
use Rattle.std.specs.Option.{option_map}
use Rattle.model_says.specs.Requests.{bad_argument}
use Rattle.model_machine.specs.Extra.{unknown_code}
use Rattle.aio_task.specs.View.{parts}
use Rattle.aio_extra.specs.declared.asked.Asked.TheVariants.{Raise}
use Rattle.aio_sync.specs.Seen.{SaysSeen, kept_of}
use Rattle.aio_sync.specs.Wants.{shape_of, wanted_as}
use Rattle.aio_sync.proofs.Asking.{asked_badly, asked_rightly, asked_unknown, refused}
use Rattle.aio_sync.proofs.requests.Sync.ask_for.Goals as goal

pub returns-in_default : goal.returns-in_default
returns-in_default c =
    let a = c.args in
    let x = kept_of a.self.now in
    let heard = to_z-of_z w64 a.code c.ranges.code in
    IfOk-weaker c.unknown.result _ _
    (λ asked e. subst (SaysSeen x a.parts.now a.parts.now asked)
    (sym (asked_unknown a.code a.items.now (parts a.parts.now) x (sym (ap shape_of heard) ∙ sym c.in_default.ensures)))
    (refused x a.parts.now asked (unknown_code a.code) (e ∙ ap (λ n. Raise (unknown_code n)) heard)))
    c.unknown.ensures

pub returns-in-None : goal.returns-in-None
returns-in-None c =
    let a = c.args in
    let x = kept_of a.self.now in
    let heard = to_z-of_z w64 a.code c.ranges.code in
    IfOk-weaker c.bad_argument.result _ _
    (λ asked e. subst (SaysSeen x a.parts.now a.parts.now asked)
    (sym (asked_badly a.code a.items.now (parts a.parts.now) x c.in-Some.shape (sym (ap shape_of heard) ∙ sym c.in-Some.ensures)
    (sym c.in_ok-wanted.ensures ∙ ap (option_map wanted_as) c.in-None.is)))
    (refused x a.parts.now asked bad_argument e)) c.bad_argument.ensures
