use Rattle.std.proofs.Common.{sym, subst, ◌∙◌}
use Rattle.model_value.specs.declared.request.Request.TheVariants as request
use Rattle.model_says.specs.Requests.{bad_argument}
use Rattle.model_loop.specs.Futures.{next_future}
use Rattle.model_stream.specs.Requests.{write_eof}
use Rattle.aio_wire.specs.Port.{ported}
use Rattle.law_cases.specs.TreeEnd.{owned_in as plain_in}
use Rattle.law_cases.proofs.Asking.{ends}
use Rattle.aio_body.specs.Asking.{Comes, serving}
use Rattle.aio_body.proofs.Alone.{refused_alone}
use Rattle.refine_streams.proofs.Forgetting.{write_eof_forgets}
use Rattle.refine_streams.proofs.Meaning.{eof_means, eof_refused}
use Rattle.refine_streams.proofs.Served.{asking_idle, asking_owned}
use Rattle.aio_streaming.proofs.Ending.{done_so}
use Rattle.aio_streaming.proofs.writing.write_eof.Goals as goal

pub returns-in_default : goal.returns-in_default
returns-in_default g c =
    let asked = request.WriteEof c.args.stream.now in
    record {
      comes =
          subst (Comes _ (serving g.X.Extra.added c.args.task asked c.args.body.now c.args.body.now) (ported c.args.wire.now c.args.body.now.events)
          (ported c.args.wire.now c.args.body.now.events)) (sym c.or_stop.ensures)
          (refused_alone g.X.Extra.added g.W.Wire.outside c.args.task asked c.args.body.now c.args.wire.now bad_argument
          (λ at s h.
          eof_refused g.X.Extra.added.meaning c.args.task s c.args.stream.now
          (sym (c.as_conn.ensures s h.going.in_step.stands.transports) ∙ c.in_default.is))
          c.bad_argument.result c.bad_argument.ensures);
    }

pub write_end-requires-clause-idle : goal.write_end-requires-clause-idle
write_end-requires-clause-idle g c = asking_idle c.args.task (request.WriteEof c.args.stream.now) c.args.body.now c.requires

pub write_end-requires-clause-own : goal.write_end-requires-clause-own
write_end-requires-clause-own g c = asking_owned c.args.task (request.WriteEof c.args.stream.now) c.args.body.now c.requires

pub returns : goal.returns
returns g c =
    let asked = request.WriteEof c.args.stream.now in
    record {
      comes =
          subst (Comes _ (serving g.X.Extra.added c.args.task asked c.args.body.now c.write_end.new.body) (ported c.args.wire.now c.args.body.now.events)
          (ported c.write_end.new.wire c.write_end.new.body.events)) (sym c.done.ensures)
          (done_so c.args.task asked c.args.body.now g.W.Wire.outside c.requires c.write_end.new.body c.args.wire.now c.write_end.new.wire
          (λ n. write_eof c.in-Some.conn)
          (λ at s h.
          eof_means g.X.Extra.added.meaning c.args.task s c.args.stream.now c.in-Some.conn
          (sym (c.as_conn.ensures s h.going.in_step.stands.transports) ∙ c.in-Some.is))
          (write_eof_forgets c.in-Some.conn)
          (λ s kept. ends (plain_in s) (next_future s.loop.parts) c.in-Some.conn s.streams kept)
          c.write_end.ensures.frame c.write_end.result c.write_end.ensures.comes);
    }
