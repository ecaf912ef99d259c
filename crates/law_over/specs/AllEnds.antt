-- However a tree of what is done ends, whatever answers come.
use Rattle.model_wire.specs.Call.{Answer}
use Rattle.model_stream.specs.Doing.{Doing, Ends, Changes, Asks}

abbrev pub AllEnds : {A : Type 0} → (A → Type 0) → Doing A → Type 0
AllEnds Holds (Ends result) = Holds result
AllEnds Holds (Changes change rest) = AllEnds Holds rest
AllEnds Holds (Asks call rest) = (answer : Answer) → AllEnds Holds (rest answer)
