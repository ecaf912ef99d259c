-- What a callback or a request of connections and children does in the machine: its changes in order, and its asks.
-- Source: `events.py`, `call_soon`; `futures.py`, `set_result` and `set_exception`, unless the future is done.
use Rattle.model_wire.specs.Trace.{End}
use Rattle.model_loop.specs.Futures.{new_plain, settle}
use Rattle.model_loop.specs.Handles.{soon}
use Rattle.model_loop.specs.Parts.{Parts}
use Rattle.model_stream.specs.Doing.{Change, MakeFuture, CallSoon, Settle, Doing, Ends, Changes, Asks}
use Rattle.model_machine.specs.State.{State, unbooked_in}
use Rattle.model_machine.specs.Went.{ask_so}

abbrev pub changed : Change → Parts → Parts
changed MakeFuture p = new_plain p
changed (CallSoon action) p = soon action p
changed (Settle future outcome) p = settle future outcome p

-- Then comes what its result says. The run may end in the middle of it, as an ask ends it.
abbrev pub does : {S R A : Type 0} → (halts : End → State S → R) → Doing A → (A → State S → R) → State S → R
does halts (Ends result) next s = next result s
does halts (Changes change rest) next s = does halts rest next (unbooked_in (changed change) s)
does halts (Asks call rest) next s = ask_so halts call (λ answer. does halts (rest answer) next) s
