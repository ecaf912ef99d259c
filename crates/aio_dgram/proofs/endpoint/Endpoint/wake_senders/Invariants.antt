use Rattle.std.proofs.Common.{◌≡◌, ℕ, None, true}
use Rattle.std.specs.List.{flat_map}
use Rattle.model_dgram.specs.Endpoints.{wakes_at}
use Rattle.aio_task.specs.Keeps.{Known}
use Rattle.aio_task.specs.View.{View}
use Rattle.refine_added.specs.Seen.{SeesAll}
use Rattle.aio_sync.specs.Woken.{are_free}
use Rattle.aio_dgram.specs.Keeps.{own_in, waits}
use Rattle.aio_dgram.proofs.endpoint.Endpoint.wake_senders.Given as goal

abbrev pub invariant-loop-place : goal.invariant-loop-place
invariant-loop-place l = record {
  idle : l.parts.called ≡ None;
  free : are_free l.parts.futures (own_in l.waiting.entries) ≡ true;
  rest : (known : ℕ → Known) (w : View) → SeesAll known (flat_map (wakes_at (waits l.waiting.entries)) l.place-iterator) l.parts w
      → SeesAll known (flat_map (wakes_at (waits l.waiting.entries)) l.self.senders) l.initial.parts w;
}
