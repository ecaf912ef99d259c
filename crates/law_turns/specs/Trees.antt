-- What a tree of streams and children needs so that it keeps the loop sound: the handles that it appends step no task, tell no
-- group and wait for no time, and the futures that it settles are plain, whatever is answered.
use Rattle.std.specs.Prelude.{◌≡◌, true, false}
use Rattle.model_wire.specs.Call.{Answer}
use Rattle.model_wire.specs.Fits.{fits}
use Rattle.model_loop.specs.Loop.{Loop, in_parts}
use Rattle.model_loop.specs.Owning.{is_plain}
use Rattle.model_stream.specs.Doing as doing
use Rattle.model_stream.specs.Doing.{Doing, Ends, Changes, Asks}
use Rattle.model_machine.specs.Does.{changed}
use Rattle.law_steps.specs.Frames.{is_followed}
use Rattle.law_groups.specs.Tags.{is_deadline}

abbrev pub FitsChange : doing.Change → Loop → Type 0
FitsChange doing.MakeFuture l = Unit {0}
FitsChange (doing.CallSoon action) l = (is_followed action ≡ false) × (is_deadline action ≡ false)
FitsChange (doing.Settle future outcome) l = is_plain l.parts future ≡ true

-- each of its changes, in the loop that it changes
abbrev pub FitsTree : {A : Type 0} → Doing A → Loop → Type 0
FitsTree (Ends result) l = Unit {0}
FitsTree (Changes change rest) l = FitsChange change l × FitsTree rest (in_parts (changed change) l)
FitsTree (Asks call rest) l = (answer : Answer) → fits call answer ≡ true → FitsTree (rest answer) l
