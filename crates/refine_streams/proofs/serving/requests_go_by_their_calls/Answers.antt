use Rattle.std.proofs.Common.{Some, refl}
use Rattle.law_cases.specs.Trees.{WaitsNever}
use Rattle.aio_body.specs.Asking.{before, serving}
use Rattle.aio_body.specs.declared.reply.RequestReply.TheVariants as said
use Rattle.refine_streams.proofs.Answering.{answers_so, gone_ends}
use Rattle.refine_streams.proofs.May.{may_asking}
use Rattle.refine_streams.proofs.Nexts.{reply_leaves}
use Rattle.refine_streams.proofs.Requests.{do_fails, do_goes}
use Rattle.refine_streams.proofs.serving.requests_go_by_their_calls.Goals as goal

pub returns-clause-stops : goal.returns-clause-stops
returns-clause-stops g c = λ task request old new wire after tree next why means has adds forgets call.
    do_fails _ (serving g.X.Extra.added task request old new) (Some task) old new wire after (λ d s from. may_asking d old s task request from) has tree next
    means (reply_leaves _ _ _) adds forgets why call

pub returns-clause-answers : goal.returns-clause-answers
returns-clause-answers g c = λ task request old new wire after tree next it value means has call keeping frame is.
    let p = serving g.X.Extra.added task request old new in
    let come =
    do_goes _ p (Some task) old new wire after (λ d s from. may_asking d old s task request from) has tree next means WaitsNever it call keeping frame in
    gone_ends g.W.Wire.outside p (Some task) old new wire after _ (next it) come new (said.Answers value) refl
    (λ d s from gone. answers_so task (before come.0 d) old new s from.going.in_step _ _ (next it) d gone value is)
