-- Requests by the number of their arguments.
use Rattle.std.proofs.Common.{◌≡◌, List, ◌∷◌, Result, Err, refl}
use Rattle.model_value.specs.Value.{Value, Exc}
use Rattle.model_value.specs.Request.{Request}
use Rattle.model_tree.specs.declared.request_name.RequestName.{RequestName}
use Rattle.model_tree.specs.declared.request_name.RequestName.TheVariants as named
use Rattle.model_says.specs.Requests.{requested, bad_argument}

-- none takes four
pub many : (name : RequestName) (a b c d : Value) (rest : List Value) →
    (let bad : Result Request Exc = Err bad_argument in bad) ≡ requested name (a ∷ b ∷ c ∷ d ∷ rest)
many named.MakeFuture a b c d rest = refl
many _ a b c d rest = refl
