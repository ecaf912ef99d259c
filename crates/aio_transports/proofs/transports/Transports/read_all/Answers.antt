use Rattle.std.proofs.Common.{IfOk, length, sym, subst}
use Rattle.aio_stream.specs.Gotten.{all_got}
use Rattle.model_stream.specs.Requests.{OfChild, OfConn}
use Rattle.model_stream.specs.Requests as requests
use Rattle.aio_transports.specs.declared.reader.StreamReader.{StreamReader}
use Rattle.aio_transports.specs.Readers.{reader_as}
use Rattle.aio_transports.specs.Kept.{Kept, kept_all}
use Rattle.aio_transports.specs.Owned.{OwnsTransports}
use Rattle.aio_transports.specs.Standing.{ToldWith}
use Rattle.aio_transports.proofs.Lifting.{said_on_streams, said_on_children, own_said_streams, own_said_children}
use Rattle.aio_transports.proofs.Lasting.{read_all_keeps}
use Rattle.aio_transports.proofs.transports.Transports.read_all.Goals as goal

pub read_all-requires-clause-own : goal.read_all-requires-clause-own
read_all-requires-clause-own c =
    (subst (OwnsTransports c.args.parts.now) (sym c.self.view_is) c.requires.own).0

pub returns-in-Conn-clause-told : goal.returns-in-Conn-clause-told
returns-in-Conn-clause-told c =
    let i = c.self.inside in
    let next = length c.args.parts.now.futures in
    subst (λ (from : StreamReader). IfOk c.read_all.result
    (λ said. ToldWith (requests.read_all next (reader_as from)) c.args.self.now
    (kept_all c.read_all.new.self i.children i.remaining) c.args.parts.now c.read_all.new.parts (all_got said)))
    (sym c.in-Conn.is)
    (subst (λ (k : Kept). IfOk c.read_all.result
    (λ said. ToldWith (requests.read_all next (OfConn c.in-Conn.id)) k
    (kept_all c.read_all.new.self i.children i.remaining) c.args.parts.now c.read_all.new.parts
    (all_got said))) c.self.view_is
    (said_on_streams i.streams i.children i.remaining c.args.parts.now c.read_all.new.parts (requests.read_all next
    (OfConn c.in-Conn.id))
    (read_all_keeps next (OfConn c.in-Conn.id)) all_got c.read_all.result c.read_all.new.self
    c.read_all.ensures.told))

pub returns-in-Conn-clause-own : goal.returns-in-Conn-clause-own
returns-in-Conn-clause-own c =
    let i = c.self.inside in
    let next = length c.args.parts.now.futures in
    own_said_streams i.streams i.children i.remaining c.args.parts.now c.read_all.new.parts (requests.read_all next
    (OfConn c.in-Conn.id))
    (read_all_keeps next (OfConn c.in-Conn.id)) all_got c.read_all.result c.read_all.new.self
    c.read_all.ensures.told c.read_all.ensures.own (subst (OwnsTransports c.args.parts.now) (sym c.self.view_is) c.requires.own)

pub read_all-requires-in-Child-clause-own : goal.read_all-requires-in-Child-clause-own
read_all-requires-in-Child-clause-own c =
    (subst (OwnsTransports c.args.parts.now) (sym c.self.view_is) c.requires.own).1

pub returns-in-Child-clause-told : goal.returns-in-Child-clause-told
returns-in-Child-clause-told c =
    let i = c.self.inside in
    let next = length c.args.parts.now.futures in
    subst (λ (from : StreamReader). IfOk c.read_all-in-Child.result
    (λ said. ToldWith (requests.read_all next (reader_as from)) c.args.self.now
    (kept_all i.streams c.read_all-in-Child.new.self i.remaining) c.args.parts.now c.read_all-in-Child.new.parts (all_got said)))
    (sym c.in-Child.is)
    (subst (λ (k : Kept). IfOk c.read_all-in-Child.result
    (λ said. ToldWith (requests.read_all next (OfChild c.in-Child.pipe c.in-Child.id)) k
    (kept_all i.streams c.read_all-in-Child.new.self i.remaining) c.args.parts.now c.read_all-in-Child.new.parts
    (all_got said))) c.self.view_is
    (said_on_children i.streams i.children i.remaining c.args.parts.now c.read_all-in-Child.new.parts (requests.read_all next
    (OfChild c.in-Child.pipe c.in-Child.id))
    (read_all_keeps next (OfChild c.in-Child.pipe c.in-Child.id)) all_got c.read_all-in-Child.result c.read_all-in-Child.new.self
    c.read_all-in-Child.ensures.told))

pub returns-in-Child-clause-own : goal.returns-in-Child-clause-own
returns-in-Child-clause-own c =
    let i = c.self.inside in
    let next = length c.args.parts.now.futures in
    own_said_children i.streams i.children i.remaining c.args.parts.now c.read_all-in-Child.new.parts (requests.read_all next
    (OfChild c.in-Child.pipe c.in-Child.id))
    (read_all_keeps next (OfChild c.in-Child.pipe c.in-Child.id)) all_got c.read_all-in-Child.result c.read_all-in-Child.new.self
    c.read_all-in-Child.ensures.told c.read_all-in-Child.ensures.own (subst (OwnsTransports c.args.parts.now)
    (sym c.self.view_is) c.requires.own)
