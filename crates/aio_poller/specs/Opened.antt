-- What the opening of an endpoint of datagrams answers.
use Rattle.std.specs.Prelude.{◌≡◌, ℕ, ◌+◌}
use Rattle.std.specs.Fmt.{decimal}
use Rattle.model_wire.specs.Call.{Answer}
use Rattle.model_wire.specs.declared.answer.Answer.TheVariants as answer

-- It has the next number, which is so given once; or none was opened.
abbrev pub Opens : (made made_now : ℕ) → Answer → Type 0
Opens made made_now (answer.Extra text) = (text ≡ decimal made) × (made_now ≡ made + 1)
Opens made made_now answer.Refused = made_now ≡ made
Opens made made_now _ = ⊥
