use Rattle.std.proofs.Common.{◌≡◌, Some, length, refl, sym, ap, slice_get, subst, ◌∙◌}
use Rattle.std.proofs.lemmas.Option.{slice_get_read}
use Rattle.model_loop.specs.Cancel.{cancel}
use Rattle.model_gather.specs.Serving.{rung}
use Rattle.aio_task.specs.View.{View, parts}
use Rattle.aio_gather.specs.Kept.{kept_of}
use Rattle.aio_gather.specs.Seen.{CallsSeen}
use Rattle.aio_gather.specs.declared.drawn.Drawn.TheVariants as drawn
use Rattle.aio_gather.proofs.Acted.{rings_seen, there_as}
use Rattle.aio_gather.proofs.gather.Gather.rung.Goals as goal

pub returns-in-Some-WaitsFor : goal.returns-in-Some-WaitsFor
returns-in-Some-WaitsFor c = λ tags.
    let a = c.args in
    let it = c.in-Some-WaitsFor.it in
    let w = c.cancel-reached.new.self in
    let r = c.cancel-reached.ensures in
    let there =
    ap (λ ds. slice_get ds a.place) (sym c.deref.ensures.value)
    ∙ slice_get_read c.deref.result.now (length c.deref.result.now) a.place c.in-Some-WaitsFor.field-0.now refl c.in-Some-WaitsFor.ensures.lookup.3.0
    c.in-Some-WaitsFor.ensures.lookup.1
    ∙ ap Some c.in-Some-WaitsFor.field-0-is in
    subst (λ o. CallsSeen tags a.self.now c.set_state.new.self a.parts.now w (rung o a.place (parts a.parts.now) (kept_of tags a.self.now)))
    (sym (there_as tags a.self.now a.place (drawn.WaitsFor it) there))
    (rings_seen tags a.self.now c.set_state.new.self a.parts.now w a.place it there c.set_state.ensures (record {
      parts = subst (λ id. parts w ≡ (cancel id (parts a.parts.now)).parts) c.future_of-target.ensures r.after;
      queue = r.queue;
      time = ap (λ (x : View). x.time) r.frame;
      schedule = ap (λ (x : View). x.schedule) r.frame;
    }) r.frame)
