use Rattle.std.proofs.Common.{◌≡◌, Some, sym, refl, ap, subst, ◌∙◌}
use Rattle.std.specs.Option.{option_map}
use Rattle.model_value.specs.declared.request.Request.TheVariants as request
use Rattle.model_says.specs.Requests.{bad_argument}
use Rattle.model_loop.specs.Futures.{next_future}
use Rattle.model_stream.specs.declared.answers.Wrote.{Wrote}
use Rattle.model_stream.specs.declared.answers.Wrote.TheVariants as wrote
use Rattle.model_stream.specs.Requests.{write}
use Rattle.model_machine.specs.Replies.{writes_as}
use Rattle.model_machine.specs.State.{State}
use Rattle.aio_wire.specs.Port.{ported}
use Rattle.law_cases.specs.TreeEnd.{owned_in as plain_in}
use Rattle.law_cases.specs.Trees.{WaitsNever}
use Rattle.law_cases.proofs.Asking.{writes}
use Rattle.aio_body.specs.Asking.{Comes, serving}
use Rattle.aio_body.proofs.Alone.{refused_alone}
use Rattle.refine_streams.proofs.Forgetting.{write_forgets}
use Rattle.refine_streams.proofs.Meaning.{write_means, write_of_none, write_to_none}
use Rattle.refine_streams.proofs.Nexts.{writes_add}
use Rattle.refine_streams.proofs.Served.{asking_idle, asking_owned}
use Rattle.aio_streaming.specs.Answered.{answered_by, wrote_as}
use Rattle.aio_streaming.proofs.Answered.{answered_so}
use Rattle.aio_streaming.proofs.writing.write.Goals as goal

said_so : {S : Type 0} (it : Wrote) (t : State S) → writes_as it t ≡ answered_by (wrote_as it) t
said_so wrote.Done t = refl
said_so wrote.AfterEof t = refl

pub returns-in_default : goal.returns-in_default
returns-in_default g c =
    let asked = request.Write c.args.stream.now c.args.bytes.now in
    record {
      comes =
          subst (Comes _ (serving g.X.Extra.added c.args.task asked c.args.body.now c.args.body.now)
          (ported c.args.wire.now c.args.body.now.events)
          (ported c.args.wire.now c.args.body.now.events)) (sym c.or_stop.ensures)
          (refused_alone g.X.Extra.added g.W.Wire.outside c.args.task asked c.args.body.now c.args.wire.now bad_argument
          (λ at s h.
          write_to_none g.X.Extra.added.meaning c.args.task s c.args.stream.now c.args.bytes.now
          (sym (c.as_writer.ensures s h.going.in_step.stands.transports) ∙ c.in_default.is))
          c.bad_argument.result c.bad_argument.ensures);
    }

pub returns-in_default-as_bytes : goal.returns-in_default-as_bytes
returns-in_default-as_bytes g c =
    let asked = request.Write c.args.stream.now c.args.bytes.now in
    record {
      comes =
          subst (Comes _ (serving g.X.Extra.added c.args.task asked c.args.body.now c.args.body.now)
          (ported c.args.wire.now c.args.body.now.events)
          (ported c.args.wire.now c.args.body.now.events)) (sym c.or_stop-in_default-as_bytes.ensures)
          (refused_alone g.X.Extra.added g.W.Wire.outside c.args.task asked c.args.body.now c.args.wire.now bad_argument
          (λ at s h.
          write_of_none g.X.Extra.added.meaning c.args.task s c.args.stream.now c.args.bytes.now c.in-Some.whom
          (sym (c.as_writer.ensures s h.going.in_step.stands.transports) ∙ c.in-Some.is)
          (sym c.as_bytes.ensures ∙ ap (option_map _) c.in_default-as_bytes.is))
          c.bad_argument-in_default-as_bytes.result c.bad_argument-in_default-as_bytes.ensures);
    }

pub write_piece-requires-clause-idle : goal.write_piece-requires-clause-idle
write_piece-requires-clause-idle g c =
    asking_idle c.args.task (request.Write c.args.stream.now c.args.bytes.now) c.args.body.now c.requires

pub write_piece-requires-clause-own : goal.write_piece-requires-clause-own
write_piece-requires-clause-own g c =
    asking_owned c.args.task (request.Write c.args.stream.now c.args.bytes.now) c.args.body.now c.requires

pub returns : goal.returns
returns g c =
    let asked = request.Write c.args.stream.now c.args.bytes.now in
    let piece = c.as_slice.result.now in
    record {
      comes =
          answered_so c.args.task asked c.args.body.now g.W.Wire.outside c.requires c.write_piece.new.body c.args.wire.now c.write_piece.new.wire
          (λ n. write c.in-Some.whom piece) wrote_as writes_as said_so writes_add
          (λ at s h.
          write_means g.X.Extra.added.meaning c.args.task s c.args.stream.now c.args.bytes.now c.in-Some.whom piece
          (sym (c.as_writer.ensures s h.going.in_step.stands.transports) ∙ c.in-Some.is)
          (sym c.as_bytes.ensures ∙ ap (option_map _) c.in-Some-as_bytes.is ∙ ap Some (sym c.as_slice.ensures.value)))
          (write_forgets c.in-Some.whom piece) WaitsNever
          (λ s kept. writes (plain_in s) (next_future s.loop.parts) c.in-Some.whom piece s.streams kept)
          c.write_piece.ensures.frame c.write_piece.result c.wrote.result c.write_piece.ensures.comes c.wrote.ensures;
    }
