-- Requests one after the other.
use Rattle.std.specs.Prelude.{ℕ, ◌++◌}
use Rattle.model_loop.specs.Ledger.{Origin, Booked, request_where}
use Rattle.model_loop.specs.Tasks.{future_of, lives}

-- after some requests one more, of a task that lives
abbrev pub each_more : Origin → ℕ → Booked → Booked
each_more by task first =
    let last = request_where (lives first.parts task) by (future_of first.parts task) first.parts in
    record { parts = last.parts; entries = first.entries ++ last.entries }
