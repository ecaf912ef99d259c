use Rattle.std.proofs.Common.{rules, ◌≡◌, pos, nat_abs, true, false, FitsSigned, w64, to_z-of_z, ap, subst, sym, ◌∙◌}
use Rattle.std.proofs.lemmas.Result.{IfOk-weaker}
use lib.Signed.{lt_z}
use Rattle.model_says.specs.Requests.{bad_argument}
use Rattle.model_machine.specs.Replies.{sleeps_for}
use Rattle.aio_body.specs.Asked.{Says}
use Rattle.aio_serve.proofs.Suspending.{sleep_means, sleep_refused, sleeps_none, sleeps_on}
use Rattle.aio_serve.proofs.Saying.{raises_so}
use Rattle.aio_serve.proofs.waiting.sleep.Goals as goal

pub returns-in-Some : goal.returns-in-Some
returns-in-Some g c =
    let task = c.args.task in
    let d = c.in-Some.delay in
    let fits : FitsSigned w64 d = search rules in
    let positive : lt_z (pos 0) d ≡ true = subst (λ z. lt_z (pos 0) z ≡ true) (to_z-of_z fits) c.if-delay-gt0.true in
    IfOk-weaker c.sleep_for.result _ _ (λ said e at s h.
    subst (Says task at c.sleep_for.new.body said)
    (sym (sleep_means g.X.Extra.added.meaning task s c.args.delay.now d (sym c.as_int.ensures ∙ c.in-Some.is)
    ∙ sleeps_on g.X.Extra.added.meaning task s d positive
    ∙ ap (λ z. sleeps_for task (pos (nat_abs z)) s) (sym (to_z-of_z fits))))
    (e at s h.going))
    c.sleep_for.ensures

pub returns-in-Some-2 : goal.returns-in-Some-2
returns-in-Some-2 g c at s h =
    let task = c.args.task in
    let d = c.in-Some.delay in
    let fits : FitsSigned w64 d = search rules in
    let over : lt_z (pos 0) d ≡ false = subst (λ z. lt_z (pos 0) z ≡ false) (to_z-of_z fits) c.if-delay-gt0.false in
    subst (Says task at c.pause.new.body c.pause.result)
    (sym (sleep_means g.X.Extra.added.meaning task s c.args.delay.now d (sym c.as_int.ensures ∙ c.in-Some.is)
    ∙ sleeps_none g.X.Extra.added.meaning task s d over))
    (c.pause.ensures at s h.going)

pub returns-in-None : goal.returns-in-None
returns-in-None g c =
    let body = c.args.body.now in
    let task = c.args.task in
    IfOk-weaker c.bad_argument.result _ _ (λ said e at s h.
    raises_so task at body s said _ bad_argument e
    (sleep_refused g.X.Extra.added.meaning task s c.args.delay.now (sym c.as_int.ensures ∙ c.in-None.is)) h.going.in_step)
    c.bad_argument.ensures
