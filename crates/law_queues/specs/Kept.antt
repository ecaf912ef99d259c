-- What queues keep.
use Rattle.std.specs.Prelude.{◌≡◌, ℕ, zero, suc, pos, negsuc, Bool, true, length, nat_le}
use Rattle.std.specs.List.{AllByRecursion as Each}
use Rattle.model_sync.specs.Synced.{Queue, Synced}

-- it holds at most as many values as its size, if that is positive
abbrev pub is_within : Queue → Bool
is_within queue =
    elim queue.size [
      | pos zero ↦ true
      | pos (suc most) ↦ nat_le (length queue.values) (suc most)
      | negsuc before ↦ true
    ]

abbrev pub KeepsToSizes : Synced → Type 0
KeepsToSizes kept = Each (λ queue. is_within queue ≡ true) kept.queues
