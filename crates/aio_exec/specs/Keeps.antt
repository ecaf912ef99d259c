-- Requests that stand, in code and in the definitions.
use Rattle.std.specs.Prelude.{ℕ, List, Option, Some, None}
use Rattle.std.specs.Map.{set_value}
use Rattle.std.specs.Option.{option_map}
use Rattle.std.specs.Rc.{rc_slice_items}
use Rattle.std.specs.declared.alloc.Global.{Global}
use Rattle.std.specs.declared.rc.RcSlice.{RcSlice}
use Rattle.model_exec.specs.Execed as plain
use Rattle.aio_exec.specs.declared.requests.Standing as coded
use Rattle.aio_exec.specs.declared.requests.Standing.TheVariants.{Asking, Waiting}
use Rattle.aio_exec.specs.declared.requests.Found.{Found}
use Rattle.aio_exec.specs.declared.requests.Found.TheVariants as found

abbrev pub standing_as : coded.Standing → plain.Standing
standing_as Asking = plain.Asking
standing_as (Waiting on came) = plain.Waiting on (option_map rc_slice_items came)

abbrev pub entry_as : ℕ × coded.Standing → ℕ × plain.Standing
entry_as entry = (entry.0, standing_as entry.1)

abbrev pub found_of : Option plain.Standing → Found
found_of None = found.Nothing
found_of (Some plain.Asking) = found.Asking
found_of (Some (plain.Waiting on came)) = found.Waiting

-- what came to a request
abbrev pub came_of : Option coded.Standing → Option (List ℕ)
came_of None = None
came_of (Some Asking) = None
came_of (Some (Waiting on came)) = option_map rc_slice_items came

abbrev pub came_in : Option plain.Standing → Option (List ℕ)
came_in None = None
came_in (Some plain.Asking) = None
came_in (Some (plain.Waiting on came)) = came

-- the future on which it waits
abbrev pub on_of : coded.Standing → Option ℕ
on_of Asking = None
on_of (Waiting on came) = Some on

abbrev pub waits_on : Option plain.Standing → Option ℕ
waits_on None = None
waits_on (Some plain.Asking) = None
waits_on (Some (plain.Waiting on came)) = Some on

-- it is given what its job came to
abbrev pub given : RcSlice ℕ Global → coded.Standing → coded.Standing
given came Asking = Asking
given came (Waiting on held) = Waiting on (Some came)

-- one of them is, if it waits
abbrev pub given_in : (place : ℕ) → List ℕ → Option plain.Standing → List (ℕ × plain.Standing) → List (ℕ × plain.Standing)
given_in place result None those = those
given_in place result (Some plain.Asking) those = those
given_in place result (Some (plain.Waiting on came)) those = set_value (plain.is_number place) those (plain.Waiting on (Some result))
