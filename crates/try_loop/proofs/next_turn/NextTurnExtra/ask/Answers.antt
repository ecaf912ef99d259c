use Rattle.std.proofs.Common.{Some, Result, Ok, Err, sym, ap, subst, w64, ◌∙◌}
use Rattle.std.specs.Prelude.{IfOk, OnOk}
use Rattle.std.proofs.lemmas.Int.{to_z-of_z}
use Rattle.aio_extra.specs.Called.{SaysAs}
use Rattle.try_loop.specs.Wanted.{wanted_by}
use Rattle.try_loop.specs.NextTurn.{asked_for, next_turn}
use Rattle.try_loop.specs.declared.next_turn.Wanted.{Wanted}
use Rattle.try_loop.proofs.Served.{idle_asked, several_so, waits_so}
use Rattle.try_loop.proofs.next_turn.NextTurnExtra.ask.Goals as goal

-- four facts of what came
together : {A B : Type 0} (r : Result A B) (P Q : A → Type 0) (R S T : Type 0) → ((x : A) → P x → R → S → T → Q x) → IfOk r P → OnOk r R → OnOk r S
    → OnOk r T → IfOk r Q
together (Ok x) P Q R S T then p r s t = then x p r s t
together (Err e) P Q R S T then p r s t = tt

pub wait-requires : goal.wait-requires
wait-requires c = idle_asked c.args._task _ _ c.args.self.now c.args.parts.now c.requires

pub wait-requires-in-Waits : goal.wait-requires-in-Waits
wait-requires-in-Waits c = idle_asked c.args._task _ _ c.args.self.now c.args.parts.now c.requires

pub wait_for_several-requires : goal.wait_for_several-requires
wait_for_several-requires c = idle_asked c.args._task _ _ c.args.self.now c.args.parts.now c.requires

pub returns-in-Wait : goal.returns-in-Wait
returns-in-Wait c =
    let x = c.args.self.now in
    let v = c.args.parts.now in
    let code = c.args.code in
    together c.wait.result _ _ _ _ _ (λ asked e made left parts t s items h.
    subst (λ (it : Wanted). SaysAs next_turn t s v c.wait.new.parts c.wait.new.self asked (asked_for it code s))
    (sym c.in-Wait.is ∙ c.wanted_of.ensures ∙ ap wanted_by (to_z-of_z w64 code c.ranges.code))
    (waits_so (Some c.args._task) t s x v h.served 0 c.wait.new.parts c.wait.new.self asked e made left parts))
    c.wait.ensures.asked c.wait.ensures.made c.wait.ensures.left c.wait.ensures.parts

pub returns-in-Waits : goal.returns-in-Waits
returns-in-Waits c =
    let x = c.args.self.now in
    let v = c.args.parts.now in
    let code = c.args.code in
    let call = c.wait-in-Waits in
    together call.result _ _ _ _ _ (λ asked e made left parts t s items h.
    subst (λ (it : Wanted). SaysAs next_turn t s v call.new.parts call.new.self asked (asked_for it code s))
    (sym c.in-Waits.is ∙ c.wanted_of.ensures ∙ ap wanted_by (to_z-of_z w64 code c.ranges.code))
    (waits_so (Some c.args._task) t s x v h.served 499 call.new.parts call.new.self asked e made left parts))
    call.ensures.asked call.ensures.made call.ensures.left call.ensures.parts

pub returns-in-Several : goal.returns-in-Several
returns-in-Several c =
    let x = c.args.self.now in
    let v = c.args.parts.now in
    let code = c.args.code in
    let call = c.wait_for_several in
    together call.result _ _ _ _ _ (λ asked e made left parts t s items h.
    subst (λ (it : Wanted). SaysAs next_turn t s v call.new.parts call.new.self asked (asked_for it code s))
    (sym c.in-Several.is ∙ c.wanted_of.ensures ∙ ap wanted_by (to_z-of_z w64 code c.ranges.code))
    (several_so (Some c.args._task) t s x v h.served call.new.parts call.new.self asked e made left parts))
    call.ensures.asked call.ensures.made call.ensures.left call.ensures.parts
