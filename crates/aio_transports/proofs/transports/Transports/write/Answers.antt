use Rattle.std.proofs.Common.{sym, subst}
use Rattle.model_wire.specs.declared.event.Handed.{Handed}
use Rattle.model_wire.specs.declared.event.Handed.TheVariants as to
use Rattle.model_stream.specs.Requests.{write}
use Rattle.aio_exchange.specs.Follows.{Reach, reach}
use Rattle.aio_task.specs.View.{View}
use Rattle.aio_transports.specs.Kept.{Kept, kept_all}
use Rattle.aio_transports.specs.Owned.{OwnsTransports}
use Rattle.aio_transports.specs.Standing.{Answers}
use Rattle.aio_transports.proofs.Lifting.{answers_on_streams, answers_on_children, own_answers_streams, own_answers_children}
use Rattle.aio_transports.proofs.Lasting.{write_keeps}
use Rattle.aio_transports.proofs.transports.Transports.write.Goals as goal

pub write-requires-clause-own : goal.write-requires-clause-own
write-requires-clause-own g c =
    (subst (OwnsTransports c.args.parts.now) (sym c.self.view_is) c.requires.own).0

pub returns-in-Conn-clause-comes : goal.returns-in-Conn-clause-comes
returns-in-Conn-clause-comes g c =
    let old : Reach View g.row.W.Denot = reach c.args.parts.now c.args.port.now.wire.now c.args.port.now.events.now in
    let new : Reach View g.row.W.Denot = reach c.write.new.parts c.write.new.port.wire.now c.write.new.port.events.now in
    let i = c.self.inside in
    subst (λ (whom : Handed). Answers g.W.Wire.outside (write whom c.args.piece.now) c.args.self.now
    (kept_all c.write.new.self i.children i.remaining) old new c.write.result)
    (sym c.in-Conn.is)
    (subst (λ (k : Kept). Answers g.W.Wire.outside (write (to.Conn c.in-Conn.id) c.args.piece.now) k
    (kept_all c.write.new.self i.children i.remaining) old new c.write.result) c.self.view_is
    (answers_on_streams g.W.Wire.outside i.streams i.children i.remaining old new c.write.result (write
    (to.Conn c.in-Conn.id) c.args.piece.now)
    (write_keeps c.args.piece.now (to.Conn c.in-Conn.id)) c.write.new.self
    c.write.ensures.comes))

pub returns-in-Conn-clause-own : goal.returns-in-Conn-clause-own
returns-in-Conn-clause-own g c =
    let old : Reach View g.row.W.Denot = reach c.args.parts.now c.args.port.now.wire.now c.args.port.now.events.now in
    let new : Reach View g.row.W.Denot = reach c.write.new.parts c.write.new.port.wire.now c.write.new.port.events.now in
    let i = c.self.inside in
    own_answers_streams g.W.Wire.outside i.streams i.children i.remaining old new c.write.result (write
    (to.Conn c.in-Conn.id) c.args.piece.now)
    (write_keeps c.args.piece.now (to.Conn c.in-Conn.id)) c.write.new.self
    c.write.ensures.comes c.write.ensures.own (subst (OwnsTransports c.args.parts.now) (sym c.self.view_is) c.requires.own)

pub write-requires-in-Child-clause-own : goal.write-requires-in-Child-clause-own
write-requires-in-Child-clause-own g c =
    (subst (OwnsTransports c.args.parts.now) (sym c.self.view_is) c.requires.own).1

pub returns-in-Child-clause-comes : goal.returns-in-Child-clause-comes
returns-in-Child-clause-comes g c =
    let old : Reach View g.row.W.Denot = reach c.args.parts.now c.args.port.now.wire.now c.args.port.now.events.now in
    let new : Reach View g.row.W.Denot = reach c.write-in-Child.new.parts c.write-in-Child.new.port.wire.now c.write-in-Child.new.port.events.now in
    let i = c.self.inside in
    subst (λ (whom : Handed). Answers g.W.Wire.outside (write whom c.args.piece.now) c.args.self.now
    (kept_all i.streams c.write-in-Child.new.self i.remaining) old new c.write-in-Child.result)
    (sym c.in-Child.is)
    (subst (λ (k : Kept). Answers g.W.Wire.outside (write (to.Child c.in-Child.id) c.args.piece.now) k
    (kept_all i.streams c.write-in-Child.new.self i.remaining) old new c.write-in-Child.result) c.self.view_is
    (answers_on_children g.W.Wire.outside i.streams i.children i.remaining old new c.write-in-Child.result (write
    (to.Child c.in-Child.id) c.args.piece.now)
    (write_keeps c.args.piece.now (to.Child c.in-Child.id)) c.write-in-Child.new.self
    c.write-in-Child.ensures.comes))

pub returns-in-Child-clause-own : goal.returns-in-Child-clause-own
returns-in-Child-clause-own g c =
    let old : Reach View g.row.W.Denot = reach c.args.parts.now c.args.port.now.wire.now c.args.port.now.events.now in
    let new : Reach View g.row.W.Denot = reach c.write-in-Child.new.parts c.write-in-Child.new.port.wire.now c.write-in-Child.new.port.events.now in
    let i = c.self.inside in
    own_answers_children g.W.Wire.outside i.streams i.children i.remaining old new c.write-in-Child.result (write
    (to.Child c.in-Child.id) c.args.piece.now)
    (write_keeps c.args.piece.now (to.Child c.in-Child.id)) c.write-in-Child.new.self
    c.write-in-Child.ensures.comes c.write-in-Child.ensures.own (subst (OwnsTransports c.args.parts.now)
    (sym c.self.view_is) c.requires.own)
