-- The parts as a queue sees them that keeps an order and no numbers: handles are stamped and named by their places. Timers
-- and the time are left out.
use Rattle.std.specs.Prelude.{ℕ, suc, List, [], ◌∷◌, length}
use Rattle.model_loop.specs.Parts.{Handle, Parts}
use Rattle.model_loop.specs.Cancel.{CancelRequest}

abbrev pub placed_from : ℕ → List Handle → List Handle
placed_from place [] = []
placed_from place (handle ∷ handles) = record handle { stamp = place; tag = place } ∷ placed_from (suc place) handles

abbrev pub placed : Parts → Parts
placed p = record {
  time = 0;
  next_stamp = length p.pending;
  next_tag = length p.pending;
  pending = placed_from 0 p.pending;
  timers = [];
  futures = p.futures;
  tasks = p.tasks;
}

abbrev pub placed_of : CancelRequest → CancelRequest
placed_of r = record r { parts = placed r.parts }
