-- Of a timer that lives the list has the slot, and the slot has the timer.
use Rattle.std.proofs.Common.{is_some, sym, ap, ◌∙◌}
use Rattle.std.proofs.lemmas.Option.{same_Some}
use Rattle.slab.specs.Slab.{get}
use Rattle.aio_timer.specs.declared.live.TimerId.{TimerId}
use Rattle.aio_timer.specs.Schedule.{lives, without}
use Rattle.aio_timer.specs.Kept.{Entry, timers_of}
use Rattle.aio_timer.proofs.Keeping.{absent_lives, absent_number, absent_slot, absent_without, found, lives_there, same_id}
use Rattle.aio_timer.proofs.live.Live.take.Goals as goal

pub returns-in_default-clause-answer : goal.returns-in_default-clause-answer
returns-in_default-clause-answer c =
    let live = c.args.self.now in
    let none = rw c.deref.ensures.value at c.in_default.ensures.none in
    sym (absent_lives live c.requires c.args.id (absent_number live c.requires c.args.id (none c.requires.rising)))

pub returns-in_default-clause-after : goal.returns-in_default-clause-after
returns-in_default-clause-after c =
    let live = c.args.self.now in
    let none = rw c.deref.ensures.value at c.in_default.ensures.none in
    sym (absent_without live c.requires c.args.id (absent_number live c.requires c.args.id (none c.requires.rising)))

pub returns-then-not-is_at-clause-answer : goal.returns-then-not-is_at-clause-answer
returns-then-not-is_at-clause-answer c =
    let live = c.args.self.now in
    let among = rw c.deref.ensures.value at c.in-Some.ensures.found in
    sym (absent_lives live c.requires c.args.id (absent_slot live c.requires c.args.id c.in-Some.slot among (sym c.is_at.ensures ∙ c.if-not-is_at.true)))

pub returns-then-not-is_at-clause-after : goal.returns-then-not-is_at-clause-after
returns-then-not-is_at-clause-after c =
    let live = c.args.self.now in
    let among = rw c.deref.ensures.value at c.in-Some.ensures.found in
    sym (absent_without live c.requires c.args.id (absent_slot live c.requires c.args.id c.in-Some.slot among (sym c.is_at.ensures ∙ c.if-not-is_at.true)))

pub lift-requires-clause-there : goal.lift-requires-clause-there
lift-requires-clause-there c =
    let f = found c.args.id (get c.args.self.now.entries c.in-Some.slot) (sym c.is_at.ensures ∙ c.if-not-is_at.false) in
    ap is_some f.there

pub returns-clause-answer : goal.returns-clause-answer
returns-clause-answer c =
    let live = c.args.self.now in
    let f = found c.args.id (get live.entries c.in-Some.slot) (sym c.is_at.ensures ∙ c.if-not-is_at.false) in
    sym (ap (λ (id : TimerId). lives id (timers_of live)) (sym (same_id f.entry.0 c.args.id f.number f.when))
    ∙ lives_there live c.requires c.in-Some.slot f.entry f.there)

pub returns-clause-after : goal.returns-clause-after
returns-clause-after c =
    let live = c.args.self.now in
    let f = found c.args.id (get live.entries c.in-Some.slot) (sym c.is_at.ensures ∙ c.if-not-is_at.false) in
    c.lift.ensures.after
    ∙ ap (λ (e : Entry). without e.0 (timers_of live)) (same_Some c.lift.result f.entry (sym c.lift.ensures.was ∙ f.there))
    ∙ ap (λ (id : TimerId). without id (timers_of live)) (same_id f.entry.0 c.args.id f.number f.when)
