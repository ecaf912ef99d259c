use Rattle.std.proofs.Common.{◌≡◌, ◌+◌, ℕ, None, slice_get, take}
use Rattle.model_loop.specs.Owning.{owner_at}
use Rattle.model_gather.specs.Gathered.{gather_part, registered_from}
use Rattle.aio_task.specs.Keeps.{Known}
use Rattle.refine_added.specs.Seen.{SeesAll}
use Rattle.aio_gather.proofs.handles.register_all.Given as goal

abbrev pub invariant-loop-id : goal.invariant-loop-id
invariant-loop-id l = record {
  next : l.next ≡ l.place + l.id-index;
  parts : (known : ℕ → Known) → SeesAll known (registered_from gather_part l.place (take l.id-index l.ids)) l.initial.parts l.parts;
  idle : l.parts.called ≡ None;
  owners : (id : ℕ) → owner_at (slice_get l.initial.parts.futures id) ≡ None → owner_at (slice_get l.parts.futures id) ≡ None;
  schedule : l.parts.schedule ≡ l.initial.parts.schedule;
  time : l.parts.time ≡ l.initial.parts.time;
}
