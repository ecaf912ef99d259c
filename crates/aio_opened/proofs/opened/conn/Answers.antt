use Rattle.std.proofs.Common.{Some, None, ap, sym, ◌∙◌, if◌then◌else◌}
use Rattle.aio_opened.proofs.opened.conn.Goals as goal

pub returns-then-has_conn : goal.returns-then-has_conn
returns-then-has_conn g c = λ s at. ap (λ b. if b then Some c.args.id else None) (sym c.if-has_conn.true ∙ c.has_conn.ensures s.streams at)

pub returns-else-has_conn : goal.returns-else-has_conn
returns-else-has_conn g c = λ s at. ap (λ b. if b then Some c.args.id else None) (sym c.if-has_conn.false ∙ c.has_conn.ensures s.streams at)
