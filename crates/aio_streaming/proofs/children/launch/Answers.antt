use Rattle.std.proofs.Common.{◌≡◌, Option, Some, None, ℕ, sym, refl, subst, ◌∙◌}
use Rattle.std.proofs.lemmas.Result.{err_from_is_err_and}
use Rattle.model_value.specs.declared.request.Request.TheVariants as request
use Rattle.model_says.specs.Operations.{out_of_range}
use Rattle.model_says.specs.Requests.{bad_argument}
use Rattle.model_loop.specs.Futures.{next_future}
use Rattle.model_stream.specs.Streams.{launch}
use Rattle.model_machine.specs.Replies.{launches_as}
use Rattle.model_machine.specs.State.{State}
use Rattle.aio_wire.specs.Port.{ported}
use Rattle.law_cases.specs.TreeEnd.{owned_in as plain_in}
use Rattle.law_cases.specs.Trees.{WaitsNever}
use Rattle.law_cases.proofs.Opening.{launches}
use Rattle.aio_body.specs.Asking.{Comes, serving}
use Rattle.aio_body.proofs.Alone.{refused_alone, serves_without}
use Rattle.refine_streams.proofs.Forgetting.{launch_forgets}
use Rattle.refine_streams.proofs.Meaning.{launch_means, launch_past, launch_refused}
use Rattle.refine_streams.proofs.Nexts.{launches_add}
use Rattle.refine_streams.proofs.Served.{asking_idle, asking_owned}
use Rattle.aio_streaming.specs.Answered.{answered_by, launched_as}
use Rattle.aio_streaming.proofs.Answered.{answered_so}
use Rattle.aio_streaming.proofs.children.launch.Goals as goal

pub launch_child-requires-clause-idle : goal.launch_child-requires-clause-idle
launch_child-requires-clause-idle g c = asking_idle c.args.task (request.Launch c.args.words.now) c.args.body.now c.requires

pub launch_child-requires-clause-own : goal.launch_child-requires-clause-own
launch_child-requires-clause-own g c = asking_owned c.args.task (request.Launch c.args.words.now) c.args.body.now c.requires

said_so : {S : Type 0} (it : Option ℕ) (t : State S) → launches_as it t ≡ answered_by (launched_as it) t
said_so None t = refl
said_so (Some id) t = refl

pub returns-in_err-words : goal.returns-in_err-words
returns-in_err-words g c =
    let p = err_from_is_err_and c.from_residual.result c.from_residual.ensures.1 in
    rw (p.1, p.2) (record {
      comes = serves_without g.X.Extra.added g.W.Wire.outside c.args.task (request.Launch c.args.words.now) c.args.body.now c.args.wire.now c.args.body.now;
    })

pub returns-in_default : goal.returns-in_default
returns-in_default g c =
    let asked = request.Launch c.args.words.now in
    record {
      comes =
          subst (Comes _ (serving g.X.Extra.added c.args.task asked c.args.body.now c.args.body.now) (ported c.args.wire.now c.args.body.now.events)
          (ported c.args.wire.now c.args.body.now.events)) (sym c.or_stop.ensures)
          (refused_alone g.X.Extra.added g.W.Wire.outside c.args.task asked c.args.body.now c.args.wire.now bad_argument
          (λ at s h. launch_refused g.X.Extra.added.meaning c.args.task s c.args.words.now (sym c.in_ok-words.ensures ∙ c.in_default.is))
          c.bad_argument.result c.bad_argument.ensures);
    }

pub returns-then-not-may_launch : goal.returns-then-not-may_launch
returns-then-not-may_launch g c =
    let asked = request.Launch c.args.words.now in
    record {
      comes =
          subst (Comes _ (serving g.X.Extra.added c.args.task asked c.args.body.now c.args.body.now) (ported c.args.wire.now c.args.body.now.events)
          (ported c.args.wire.now c.args.body.now.events)) (sym c.or_stop-then-not-may_launch.ensures)
          (refused_alone g.X.Extra.added g.W.Wire.outside c.args.task asked c.args.body.now c.args.wire.now out_of_range
          (λ at s h.
          launch_past g.X.Extra.added.meaning c.args.task s c.args.words.now c.in-Some.words (sym c.in_ok-words.ensures ∙ c.in-Some.is)
          (sym (c.may_launch.ensures.is s.streams h.going.in_step.stands.transports) ∙ c.if-not-may_launch.true))
          c.out_of_range.result c.out_of_range.ensures);
    }

pub returns : goal.returns
returns g c =
    let asked = request.Launch c.args.words.now in
    record {
      comes =
          answered_so c.args.task asked c.args.body.now g.W.Wire.outside c.requires c.launch_child.new.body c.args.wire.now c.launch_child.new.wire
          (λ n. launch c.in-Some.words n) launched_as launches_as said_so launches_add
          (λ at s h.
          launch_means g.X.Extra.added.meaning c.args.task s c.args.words.now c.in-Some.words (sym c.in_ok-words.ensures ∙ c.in-Some.is)
          (sym (c.may_launch.ensures.is s.streams h.going.in_step.stands.transports) ∙ c.if-not-may_launch.false))
          (launch_forgets c.in-Some.words _) WaitsNever
          (λ s kept. launches (plain_in s) (next_future s.loop.parts) c.in-Some.words s.streams kept)
          c.launch_child.ensures.frame c.launch_child.result c.launched.result c.launch_child.ensures.comes c.launched.ensures;
    }
