-- Which calls of a wrapper fail, and what each call leaves of its own.
use Rattle.std.specs.Prelude.{◌≡◌, ◌==◌, Bool, if◌then◌else◌}
use Rattle.std.specs.List.{list_any}
use Rattle.aio_memwire.specs.Counts.{one_more}
use Rattle.aio_memwire.specs.declared.fail_at.FailAt.{FailAt}

-- whether the list holds the number of the next call: that of the calls that were made, and one more
abbrev pub fails_next : {I : Type 0} → FailAt I → Bool
fails_next wrapper = list_any (λ call. call == one_more wrapper.made) wrapper.calls.items

-- A call was counted, and so was its failure where it is a listed one; the list stays.
pub record Counted {I : Type 0} (old new : FailAt I) : Type 0 where
  pub list : new.calls ≡ old.calls
  pub made : new.made ≡ one_more old.made
  pub failures : new.faults ≡ (if fails_next old then one_more old.faults else old.faults)
