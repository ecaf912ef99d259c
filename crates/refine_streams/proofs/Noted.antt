-- What code's list of events says of a run, as more is noted.
use Rattle.std.proofs.Common.{◌≡◌, ◌-◌, ◌^◌, min, List, [], ◌∷◌, ◌++◌, ◌∙◌, sym, ap, append_assoc, append-nil}
use Rattle.model_wire.specs.declared.event.Event.TheVariants as event
use Rattle.model_wire.specs.Event.{Event}
use Rattle.model_machine.specs.Went.{answers_in}
use Rattle.aio_wire.specs.EventList.{EventList}
use Rattle.aio_wire.specs.Events.{pushed}
use Rattle.aio_wire.specs.Port.{events_after}
use Rattle.aio_wire.specs.declared.wire.Reply.TheVariants as reply
use Rattle.aio_exchange.specs.Among.{told_by}
use Rattle.aio_exchange.specs.Exchanged.{Exchange, noted_by}
use Rattle.aio_body.proofs.Noting.{counted}
use Rattle.refine_streams.specs.Passed.{IsNoted}

pub noted_one : (past : List Event) (list : EventList) (events : List Event) (it : Event) → IsNoted past list events
    → IsNoted past (pushed list it) (events ++ it ∷ [])
noted_one past list events it h = record {
  told = ap (λ (es : List Event). es ++ it ∷ []) h.told ∙ append_assoc past list.events (it ∷ []);
  count = counted list.answers events it h.count;
}

-- along calls that had their answers
pub noted_had : (had : List Exchange) (past : List Event) (list : EventList) (events : List Event) → IsNoted past list events
    → IsNoted past (noted_by had list) (events ++ told_by had)
noted_had [] past list events h = record {
  told = append-nil events ∙ h.told;
  count = h.count ∙ ap (λ (es : List Event). min (answers_in es) (2 ^ 64 - 1)) (sym (append-nil events));
}
noted_had (x ∷ had) past list events h =
    let first = noted_one past list events (event.Called x.call) h in
    let second = noted_one past (pushed list (event.Called x.call)) (events ++ event.Called x.call ∷ []) (event.Got x.answer) first in
    let others =
    noted_had had past (events_after list x.call (reply.Got x.answer)) ((events ++ event.Called x.call ∷ []) ++ event.Got x.answer ∷ []) second in
    let same : ((events ++ event.Called x.call ∷ []) ++ event.Got x.answer ∷ []) ++ told_by had ≡ events ++ told_by (x ∷ had) =
    append_assoc (events ++ event.Called x.call ∷ []) (event.Got x.answer ∷ []) (told_by had)
    ∙ append_assoc events (event.Called x.call ∷ []) (event.Got x.answer ∷ told_by had) in
    record {
      told = sym same ∙ others.told;
      count = others.count ∙ ap (λ (es : List Event). min (answers_in es) (2 ^ 64 - 1)) same;
    }
