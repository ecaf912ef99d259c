use Rattle.std.proofs.Common.{◌⊎◌, inl, inr, ◌∙◌, ap, sym, subst}
use Rattle.model_value.specs.Action.{Action}
use Rattle.law_cases.specs.Trees.{is_of_streams}
use Rattle.aio_wire.specs.Port.{ported}
use Rattle.aio_body.specs.Asking.{Comes}
use Rattle.aio_step.specs.Acting as streaming
use Rattle.aio_core.specs.Running.{acting, goes_as}
use Rattle.aio_core.proofs.Acting.{acts_alone, acts_made, acts_streaming}
use Rattle.aio_core.proofs.handles.call_back.Goals as goal

module _ {P : Type 0} (it : Action) where
  either : {A B : Type 0} → A ⊎ B → (A → P) → (B → P) → P
  either (inl a) f g = f a
  either (inr b) f g = g b

-- ---- listeners, connections and children
pub act-requires-clause-taken : goal.act-requires-clause-taken
act-requires-clause-taken g c = c.requires.taken

pub act-requires-clause-of_streams : goal.act-requires-clause-of_streams
act-requires-clause-of_streams g c =
    let it = c.args.action.now in
    either it c.in-StartRead.is (λ w. ap streaming.is_of_streams w.1) (λ v.
    either it v (λ w. ap streaming.is_of_streams w.2) (λ v.
    either it v (λ w. ap streaming.is_of_streams w.2) (λ v.
    either it v (λ w. ap streaming.is_of_streams w.1) (λ v.
    either it v (λ w. ap streaming.is_of_streams w.1) (λ v.
    either it v (λ w. ap streaming.is_of_streams w.1) (λ v.
    either it v (λ w. ap streaming.is_of_streams w.1) (λ v.
    either it v (λ w. ap streaming.is_of_streams w.1) (λ v.
    either it v (λ w. ap streaming.is_of_streams w.1) (λ v.
    either it v (λ w. ap streaming.is_of_streams w.2) (λ w.
    ap streaming.is_of_streams w.2))))))))))

pub returns-in-StartRead : goal.returns-in-StartRead
returns-in-StartRead g c =
    subst (Comes _ (acting g.X.Extra.added c.args.action.now c.args.body.now c.act.new.body)
    (ported c.args.wire.now c.args.body.now.events)
    (ported c.act.new.wire c.act.new.body.events)) (sym c.goes-in-StartRead.ensures)
    (acts_streaming g.X.Extra.added g.W.Wire.outside c.args.action.now c.args.body.now c.act.new.body c.args.wire.now c.act.new.wire
    c.act.result
    c.act.ensures.comes)

pub made-requires : goal.made-requires
made-requires g c = rw c.in-Made.is at c.requires.taken

pub returns-in-Made : goal.returns-in-Made
returns-in-Made g c =
    subst (Comes _ (acting g.X.Extra.added c.args.action.now c.args.body.now c.made.new.body)
    (ported c.args.wire.now c.args.body.now.events)
    (ported c.args.wire.now c.made.new.body.events)) (sym (c.goes.ensures ∙ ap goes_as c.or_stop.ensures))
    (rw c.in-Made.is
    (acts_made g.X.Extra.added g.W.Wire.outside _ c.args.body.now c.made.new.body c.args.wire.now c.made.result c.made.ensures))

-- ---- all others
pub call-requires-clause-of_loop : goal.call-requires-clause-of_loop
call-requires-clause-of_loop g c =
    let it = c.args.action.now in
    either it c.in-Step.is (λ w. ap is_of_streams w.1) (λ v.
    either it v (λ w. ap is_of_streams w.2) (λ v.
    either it v (λ w. ap is_of_streams w.1) (λ v.
    either it v (λ w. ap is_of_streams w.2) (λ v.
    either it v (λ w. ap is_of_streams w.2) (λ v.
    either it v (λ w. ap is_of_streams w.1) (λ v.
    either it v (λ e. ap is_of_streams e) (λ v.
    either it v (λ w. ap is_of_streams w.2) (λ w.
    ap is_of_streams w.1))))))))

pub returns-in-Step : goal.returns-in-Step
returns-in-Step g c =
    subst (Comes _ (acting g.X.Extra.added c.args.action.now c.args.body.now c.call.new.body)
    (ported c.args.wire.now c.args.body.now.events)
    (ported c.args.wire.now c.call.new.body.events)) (sym c.or_stop-in-Step.ensures)
    (acts_alone g.X.Extra.added g.W.Wire.outside c.args.action.now c.args.body.now c.call.new.body c.args.wire.now c.call.result
    c.call.ensures.acts
    c.call.ensures.goes)
