-- What the journal says, the same for every seed.
use Rattle.std.specs.Prelude.{ℕ, ◌%◌, List, [], ◌∷◌, ◌++◌, flat_map, replicate}
use Rattle.model_wire.specs.declared.item.Item.TheVariants.{Ready, Up}
use Rattle.model_wire.specs.declared.item.Readiness.TheVariants.{Read}
use Rattle.model_wire.specs.declared.answer.Answer.TheVariants.{Turn, Conn, Data}
use Rattle.model_wire.specs.Call.{Answer}
use Rattle.model_work.specs.Work.{numbers_from}

-- at this time a line comes
abbrev pub arrival : ℕ → List Answer
arrival time = Turn time (Ready 0 Read ∷ []) ∷ Data (replicate (time % 61) 120 ++ 10 ∷ []) ∷ []

-- at this time nothing comes
abbrev pub quiet : ℕ → List Answer
quiet time = Turn time [] ∷ []

abbrev pub connecting : List Answer
connecting = Turn 0 [] ∷ Conn ∷ Turn 0 (Up 0 ∷ []) ∷ Turn 0 [] ∷ []

abbrev pub answers : List Answer
answers = connecting ++ (flat_map arrival (numbers_from 1 300) ++ flat_map quiet (numbers_from 301 1200))
