-- What an exception of the code holds, as plain data: what it lacks is empty.
use Rattle.std.specs.Prelude.{ℕ, List, [], Option, Some, None}
use Rattle.std.specs.declared.rc.Rc.{Rc}
use Rattle.std.specs.declared.rc.RcSlice.{RcSlice}
use Rattle.std.specs.declared.alloc.Global.{Global}
use Rattle.std.specs.Rc.{rc_slice_items}
use Rattle.model_value.specs.Value.{Exc, Excs, no_excs, excs}

abbrev pub bytes_held : Option (RcSlice ℕ Global) → List ℕ
bytes_held None = []
bytes_held (Some bytes) = rc_slice_items bytes

abbrev pub members_held : Option (Rc (List Exc) Global) → Excs
members_held None = no_excs
members_held (Some members) = excs members.value
