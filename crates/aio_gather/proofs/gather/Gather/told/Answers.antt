use Rattle.std.proofs.Common.{◌≡◌, Some, length, refl, sym, ap, slice_get, subst, ◌∙◌}
use Rattle.std.proofs.lemmas.Option.{slice_get_read}
use Rattle.model_loop.specs.Futures.{future_outcome}
use Rattle.model_gather.specs.Gather.{count}
use Rattle.model_gather.specs.Gathered.{settled_as}
use Rattle.model_gather.specs.Serving.{told}
use Rattle.aio_task.specs.View.{parts}
use Rattle.refine_added.specs.Seen.{SeesAll}
use Rattle.aio_gather.specs.Counted.{gathering}
use Rattle.aio_gather.specs.Kept.{kept_of}
use Rattle.aio_gather.specs.Seen.{CallsSeen}
use Rattle.aio_gather.specs.declared.drawn.Drawn.TheVariants as drawn
use Rattle.aio_gather.proofs.Acted.{gathers_told, same_seen, there_as, waits_told}
use Rattle.aio_gather.proofs.gather.Gather.told.Goals as goal

pub returns-in_ok-outcome-in-Some-Gathers : goal.returns-in_ok-outcome-in-Some-Gathers
returns-in_ok-outcome-in-Some-Gathers c = λ tags.
    let a = c.args in
    let it = c.in-Some-Gathers.it in
    let outcome = c.in_ok-outcome-in-Some-Gathers.outcome in
    let there =
    ap (λ ds. slice_get ds a.place) (sym c.deref.ensures.value)
    ∙ slice_get_read c.deref.result.now (length c.deref.result.now) a.place c.in-Some-Gathers.field-0.now refl c.in-Some-Gathers.ensures.lookup.3.0
    c.in-Some-Gathers.ensures.lookup.1
    ∙ ap Some c.in-Some-Gathers.field-0-is in
    subst (λ o. CallsSeen tags a.self.now c.count_down.new.self a.parts.now c.settle.new.parts
    (told o a.place a.member (parts a.parts.now) (kept_of tags a.self.now))) (sym (there_as tags a.self.now a.place (drawn.Gathers it) there))
    (gathers_told tags a.self.now c.count_down.new.self a.parts.now c.settle.new.parts a.place a.member it outcome c.asked.result there
    c.count_down.ensures c.asked.ensures
    (λ outer. subst (λ ids. outcome ≡ (count (parts a.parts.now) c.asked.result a.member (gathering outer ids it.as_items it.left)).outcome)
    c.as_slice.ensures.value (c.in_ok-outcome-in-Some-Gathers.ensures outer))
    c.settle.ensures)

pub returns-in-Some-Waits : goal.returns-in-Some-Waits
returns-in-Some-Waits c = λ tags.
    let a = c.args in
    let it = c.in-Some-Waits.it in
    let w = c.settle-in-Some-Waits.new.parts in
    let there =
    ap (λ ds. slice_get ds a.place) (sym c.deref.ensures.value)
    ∙ slice_get_read c.deref.result.now (length c.deref.result.now) a.place c.in-Some-Waits.field-0.now refl c.in-Some-Waits.ensures.lookup.3.0
    c.in-Some-Waits.ensures.lookup.1
    ∙ ap Some c.in-Some-Waits.field-0-is in
    subst (λ o. CallsSeen tags a.self.now c.count_down-in-Some-Waits.new.self a.parts.now w
    (told o a.place a.member (parts a.parts.now) (kept_of tags a.self.now))) (sym (there_as tags a.self.now a.place (drawn.Waits it) there))
    (waits_told tags a.self.now c.count_down-in-Some-Waits.new.self a.parts.now w a.place a.member it c.is_over-over.result there
    c.count_down-in-Some-Waits.ensures c.is_over-over.ensures
    (λ known. subst (λ o. SeesAll known (settled_as o it.on) a.parts.now w) c.resolved_if.ensures (c.settle-in-Some-Waits.ensures known)))

pub returns-in_ok-outcome-in-Some-Shields : goal.returns-in_ok-outcome-in-Some-Shields
returns-in_ok-outcome-in-Some-Shields c = λ tags.
    let a = c.args in
    let on = c.in-Some-Shields.on in
    let w = c.settle-in-Some-Shields.new.parts in
    let there =
    ap (λ ds. slice_get ds a.place) (sym c.deref.ensures.value)
    ∙ slice_get_read c.deref.result.now (length c.deref.result.now) a.place c.in-Some-Shields.field-0.now refl c.in-Some-Shields.ensures.lookup.3.0
    c.in-Some-Shields.ensures.lookup.1
    ∙ ap Some c.in-Some-Shields.field-0-is in
    subst (λ o. CallsSeen tags a.self.now a.self.now a.parts.now w (told o a.place a.member (parts a.parts.now) (kept_of tags a.self.now)))
    (sym (there_as tags a.self.now a.place (drawn.Shields on) there))
    (same_seen tags a.self.now a.parts.now w (settled_as (future_outcome (parts a.parts.now) a.member) on)
    (λ known. subst (λ o. SeesAll known (settled_as o on) a.parts.now w) c.in_ok-outcome-in-Some-Shields.ensures (c.settle-in-Some-Shields.ensures known)))
