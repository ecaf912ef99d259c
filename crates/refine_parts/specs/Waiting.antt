-- How long a turn waits, by what the code sees: whether nothing is pending, the first deadline, and the time.
use Rattle.std.specs.Prelude.{ℕ, ◌-◌, Bool, true, false, ◌&&◌, List, [], ◌∷◌, Option, Some, is_none, min, option_map}
use Rattle.model_wire.specs.declared.watch.Watch.{Watch}
use Rattle.model_machine.specs.Turn.{longest_wait}

abbrev pub wait_by : (idle : Bool) → Option ℕ → ℕ → Option ℕ
wait_by true first time = option_map (λ when. min (when - time) longest_wait) first
wait_by false first time = Some 0

abbrev pub is_none_watched : List Watch → Bool
is_none_watched [] = true
is_none_watched (entry ∷ entries) = false

-- whether nothing can come
abbrev pub stalls_by : (idle : Bool) → Option ℕ → List Watch → Bool
stalls_by idle first watched = idle && (is_none first && is_none_watched watched)
