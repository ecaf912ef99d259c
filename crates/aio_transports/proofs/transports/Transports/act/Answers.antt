use Rattle.std.proofs.Common.{◌≡◌, false, Result, Ok, length, ◌∙◌, refl, sym, ap, subst}
use Rattle.std.proofs.lemmas.Result.{err_from_is_err_and}
use Rattle.model_value.specs.declared.action.Action.TheVariants as action
use Rattle.model_value.specs.Action.{Action}
use Rattle.model_stream.specs.Streams.{act}
use Rattle.aio_exchange.specs.Follows.{Reach, reach}
use Rattle.aio_task.specs.View.{View}
use Rattle.aio_listener.specs.Acts.{is_of_child}
use Rattle.aio_transports.specs.Kept.{Kept, kept_all}
use Rattle.aio_transports.specs.Owned.{OwnsTransports}
use Rattle.aio_transports.specs.Standing.{Comes}
use Rattle.aio_transports.proofs.Acts.{or_else, starved_comes, told_comes}
use Rattle.aio_transports.proofs.Lifting.{comes_on_children, comes_on_streams, own_on_children, own_on_streams}
use Rattle.aio_transports.proofs.Lifting.{own_told_children, told_on_children}
use Rattle.aio_transports.proofs.Lasting.{act_keeps}
use Rattle.aio_transports.proofs.transports.Transports.act.Goals as goal

pub writable-requires-clause-own : goal.writable-requires-clause-own
writable-requires-clause-own g c =
    (subst (OwnsTransports c.args.parts.now) (sym c.self.view_is) c.requires.own).1

pub returns-in-WritableChild-clause-comes : goal.returns-in-WritableChild-clause-comes
returns-in-WritableChild-clause-comes g c =
    let old : Reach View g.row.W.Denot = reach c.args.parts.now c.args.port.now.wire.now c.args.port.now.events.now in
    let new : Reach View g.row.W.Denot = reach c.writable.new.parts c.writable.new.port.wire.now c.writable.new.port.events.now in
    let i = c.self.inside in
    let next = length c.args.parts.now.futures in
    subst (λ (it : Action). Comes g.W.Wire.outside (act next c.args.returned it) c.args.self.now
    (kept_all i.streams c.writable.new.self i.remaining) old new c.writable.result) (sym c.in-WritableChild.is)
    (subst (λ (k : Kept). Comes g.W.Wire.outside (act next c.args.returned (action.WritableChild c.in-WritableChild.id)) k
    (kept_all i.streams c.writable.new.self i.remaining) old new c.writable.result) c.self.view_is
    (comes_on_children g.W.Wire.outside i.streams i.children i.remaining old new c.writable.result (act next c.args.returned
    (action.WritableChild c.in-WritableChild.id))
    (act_keeps next c.args.returned (action.WritableChild c.in-WritableChild.id)) c.writable.new.self c.writable.ensures.comes))

pub returns-in-WritableChild-clause-own : goal.returns-in-WritableChild-clause-own
returns-in-WritableChild-clause-own g c =
    let old : Reach View g.row.W.Denot = reach c.args.parts.now c.args.port.now.wire.now c.args.port.now.events.now in
    let new : Reach View g.row.W.Denot = reach c.writable.new.parts c.writable.new.port.wire.now c.writable.new.port.events.now in
    let i = c.self.inside in
    let next = length c.args.parts.now.futures in
    own_on_children g.W.Wire.outside i.streams i.children i.remaining old new c.writable.result (act next c.args.returned
    (action.WritableChild c.in-WritableChild.id))
    (act_keeps next c.args.returned
    (action.WritableChild c.in-WritableChild.id)) c.writable.new.self c.writable.ensures.comes c.writable.ensures.own
    (subst (OwnsTransports c.args.parts.now) (sym c.self.view_is) c.requires.own)

pub lose-requires-clause-own : goal.lose-requires-clause-own
lose-requires-clause-own g c =
    (subst (OwnsTransports c.args.parts.now) (sym c.self.view_is) c.requires.own).1

pub returns-in-LostChild-clause-comes : goal.returns-in-LostChild-clause-comes
returns-in-LostChild-clause-comes g c =
    let old : Reach View g.row.W.Denot = reach c.args.parts.now c.args.port.now.wire.now c.args.port.now.events.now in
    let new : Reach View g.row.W.Denot = reach c.lose.new.parts c.lose.new.port.wire.now c.lose.new.port.events.now in
    let i = c.self.inside in
    let next = length c.args.parts.now.futures in
    subst (λ (it : Action). Comes g.W.Wire.outside (act next c.args.returned it) c.args.self.now
    (kept_all i.streams c.lose.new.self i.remaining) old new c.lose.result)
    (sym c.in-LostChild.is)
    (subst (λ (k : Kept). Comes g.W.Wire.outside (act next c.args.returned
    (action.LostChild c.in-LostChild.child c.in-LostChild.broken)) k
    (kept_all i.streams c.lose.new.self i.remaining) old new c.lose.result) c.self.view_is
    (comes_on_children g.W.Wire.outside i.streams i.children i.remaining old new c.lose.result
    (act next c.args.returned (action.LostChild c.in-LostChild.child c.in-LostChild.broken))
    (act_keeps next c.args.returned
    (action.LostChild c.in-LostChild.child c.in-LostChild.broken)) c.lose.new.self c.lose.ensures.comes))

pub returns-in-LostChild-clause-own : goal.returns-in-LostChild-clause-own
returns-in-LostChild-clause-own g c =
    let old : Reach View g.row.W.Denot = reach c.args.parts.now c.args.port.now.wire.now c.args.port.now.events.now in
    let new : Reach View g.row.W.Denot = reach c.lose.new.parts c.lose.new.port.wire.now c.lose.new.port.events.now in
    let i = c.self.inside in
    let next = length c.args.parts.now.futures in
    own_on_children g.W.Wire.outside i.streams i.children i.remaining old new c.lose.result
    (act next c.args.returned (action.LostChild c.in-LostChild.child c.in-LostChild.broken))
    (act_keeps next c.args.returned
    (action.LostChild c.in-LostChild.child c.in-LostChild.broken)) c.lose.new.self c.lose.ensures.comes c.lose.ensures.own
    (subst (OwnsTransports c.args.parts.now) (sym c.self.view_is) c.requires.own)

pub tell-requires-clause-own : goal.tell-requires-clause-own
tell-requires-clause-own g c =
    (subst (OwnsTransports c.args.parts.now) (sym c.self.view_is) c.requires.own).1

pub returns-in_err-tell-in-ChildItem-clause-comes : goal.returns-in_err-tell-in-ChildItem-clause-comes
returns-in_err-tell-in-ChildItem-clause-comes g c =
    let p = err_from_is_err_and c.from_residual.result c.from_residual.ensures.1 in
    let old : Reach View g.row.W.Denot = reach c.args.parts.now c.args.port.now.wire.now c.args.port.now.events.now in
    let new : Reach View g.row.W.Denot = reach c.tell.new.parts c.args.port.now.wire.now c.args.port.now.events.now in
    let i = c.self.inside in
    let next = length c.args.parts.now.futures in
    rw (p.1, p.2)
    (starved_comes g.W.Wire.outside (act next c.args.returned c.args.action.now) c.args.self.now
    (kept_all i.streams c.tell.new.self i.remaining) old new refl)

pub returns-in_ok-tell-in-ChildItem-clause-comes : goal.returns-in_ok-tell-in-ChildItem-clause-comes
returns-in_ok-tell-in-ChildItem-clause-comes g c =
    let old : Reach View g.row.W.Denot = reach c.args.parts.now c.args.port.now.wire.now c.args.port.now.events.now in
    let new : Reach View g.row.W.Denot = reach c.tell.new.parts c.args.port.now.wire.now c.args.port.now.events.now in
    let i = c.self.inside in
    let next = length c.args.parts.now.futures in
    let fine : Result (Unit {0}) (Unit {0}) = Ok tt in
    subst (λ (it : Action). Comes {R = Unit {0}} g.W.Wire.outside (act next c.args.returned it) c.args.self.now
    (kept_all i.streams c.tell.new.self i.remaining) old new
    (Ok tt)) (sym c.in-ChildItem.is)
    (subst (λ (k : Kept). Comes {R = Unit {0}} g.W.Wire.outside (act next c.args.returned
    (action.ChildItem c.in-ChildItem.child c.in-ChildItem.item)) k
    (kept_all i.streams c.tell.new.self i.remaining) old new (Ok tt)) c.self.view_is
    (told_comes g.W.Wire.outside (act next c.args.returned (action.ChildItem c.in-ChildItem.child c.in-ChildItem.item))
    (kept_all i.streams i.children i.remaining) (kept_all i.streams c.tell.new.self i.remaining) old new refl
    (told_on_children i.streams i.children i.remaining c.args.parts.now c.tell.new.parts
    (act next c.args.returned (action.ChildItem c.in-ChildItem.child c.in-ChildItem.item))
    (act_keeps next c.args.returned (action.ChildItem c.in-ChildItem.child c.in-ChildItem.item)) fine c.tell.new.self
    c.in_ok-tell-in-ChildItem.ensures.told)))

pub returns-in_ok-tell-in-ChildItem-clause-own : goal.returns-in_ok-tell-in-ChildItem-clause-own
returns-in_ok-tell-in-ChildItem-clause-own g c =
    let old : Reach View g.row.W.Denot = reach c.args.parts.now c.args.port.now.wire.now c.args.port.now.events.now in
    let new : Reach View g.row.W.Denot = reach c.tell.new.parts c.args.port.now.wire.now c.args.port.now.events.now in
    let i = c.self.inside in
    let next = length c.args.parts.now.futures in
    let fine : Result (Unit {0}) (Unit {0}) = Ok tt in
    own_told_children i.streams i.children i.remaining c.args.parts.now c.tell.new.parts
    (act next c.args.returned (action.ChildItem c.in-ChildItem.child c.in-ChildItem.item))
    (act_keeps next c.args.returned (action.ChildItem c.in-ChildItem.child c.in-ChildItem.item)) fine c.tell.new.self
    c.in_ok-tell-in-ChildItem.ensures.told c.in_ok-tell-in-ChildItem.ensures.own
    (subst (OwnsTransports c.args.parts.now) (sym c.self.view_is) c.requires.own)

pub act-requires-clause-own : goal.act-requires-clause-own
act-requires-clause-own g c =
    (subst (OwnsTransports c.args.parts.now) (sym c.self.view_is) c.requires.own).0

pub act-requires-clause-no_child : goal.act-requires-clause-no_child
act-requires-clause-no_child g c =
    let no : (it : Action) → c.args.action.now ≡ it → is_of_child it ≡ false → is_of_child c.args.action.now ≡ false = λ it e h. ap is_of_child e ∙ h in
    or_else c.in-ReadableServer.is (λ w. no (action.ReadableServer w.0) w.1 refl) (λ r.
    or_else r (λ w. no (action.StartRead w.0) w.1 refl) (λ r.
    or_else r (λ w. no (action.Readable w.0) w.1 refl) (λ r.
    or_else r (λ w. no (action.Writable w.0) w.1 refl) (λ r.
    or_else r (λ w. no (action.Up w.0) w.1 refl) (λ r.
    or_else r (λ w. no (action.Down w.0) w.1 refl) (λ r.
    or_else r (λ w. no (action.Lost w.0 w.1) w.2 refl) (λ r.
    or_else r (λ w. no (action.HandlerDone w.0 w.1) w.2 refl) (λ r.
    or_else r (λ w. no (action.Made w.0) w.1 refl) (λ r.
    or_else r (λ w. no (action.Step w.0) w.1 refl) (λ r.
    or_else r (λ w. no (action.StepInCycle w.0 w.1) w.2 refl) (λ r.
    or_else r (λ w. no (action.Wakeup w.0) w.1 refl) (λ r.
    or_else r (λ w. no (action.SleepDone w.0 w.1) w.2 refl) (λ r.
    or_else r (λ w. no (action.GroupDone w.0 w.1) w.2 refl) (λ r.
    or_else r (λ w. no (action.Fires w.0) w.1 refl) (λ r.
    or_else r (λ w. no action.MainDone w refl) (λ r.
    or_else r (λ w. no (action.ExtraItem w.0 w.1) w.2 refl) (λ w. no (action.Extra w.0) w.1 refl)))))))))))))))))

pub returns-in-ReadableServer-clause-comes : goal.returns-in-ReadableServer-clause-comes
returns-in-ReadableServer-clause-comes g c =
    let old : Reach View g.row.W.Denot = reach c.args.parts.now c.args.port.now.wire.now c.args.port.now.events.now in
    let new : Reach View g.row.W.Denot = reach c.act.new.parts c.act.new.port.wire.now c.act.new.port.events.now in
    let i = c.self.inside in
    let next = length c.args.parts.now.futures in
    subst (λ (k : Kept). Comes g.W.Wire.outside (act next c.args.returned c.args.action.now) k
    (kept_all c.act.new.streams i.children i.remaining) old new c.act.result) c.self.view_is
    (comes_on_streams g.W.Wire.outside i.streams i.children i.remaining old new c.act.result
    (act next c.args.returned c.args.action.now)
    (act_keeps next c.args.returned c.args.action.now) c.act.new.streams c.act.ensures.comes)

pub returns-in-ReadableServer-clause-own : goal.returns-in-ReadableServer-clause-own
returns-in-ReadableServer-clause-own g c =
    let old : Reach View g.row.W.Denot = reach c.args.parts.now c.args.port.now.wire.now c.args.port.now.events.now in
    let new : Reach View g.row.W.Denot = reach c.act.new.parts c.act.new.port.wire.now c.act.new.port.events.now in
    let i = c.self.inside in
    let next = length c.args.parts.now.futures in
    own_on_streams g.W.Wire.outside i.streams i.children i.remaining old new c.act.result (act next c.args.returned c.args.action.now)
    (act_keeps next c.args.returned c.args.action.now) c.act.new.streams c.act.ensures.comes c.act.ensures.own
    (subst (OwnsTransports c.args.parts.now) (sym c.self.view_is) c.requires.own)
